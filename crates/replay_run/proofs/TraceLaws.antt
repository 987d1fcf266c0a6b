-- The trace as it arises: the facts of the first orders, and their lines.
use Rattle.std.proofs.Common.{◌≡◌, refl, sym, ap, ◌∙◌, subst, ℕ, ◌+◌, ◌<◌, length, get_or, Bool, true, false, List, [], ◌∷◌, ◌++◌, take, drop, append_assoc, take-append-drop}
use Rattle.std.specs.Prelude.{map, fold, slice_get, Some}
use Rattle.std.specs.List.{flat_map}
use Rattle.std.proofs.lemmas.List.{append-nil, map-append}
use Rattle.std.proofs.lemmas.Option.{slice_get_read}
use Rattle.std.proofs.lemmas.List.Concat.{flat_map-append}
use Rattle.std.proofs.lemmas.List.Sums.{fold-append}
use Rattle.yard_model.specs.declared.charter.Line.{Line}
use Rattle.yard_model.specs.declared.fact.Fact.{Fact}
use Rattle.yard_model.specs.Script.{Script}
use Rattle.yard_model.specs.Text.{fact_line}
use Rattle.yard_model.specs.World.{World, Made, Step, in_order, play_line, new_world, wire_limit, trace_of}
use Rattle.world_sim.specs.Played.{Played, made_of, next_of, MadeNext}
use Rattle.run_parts.specs.declared.course.Course.{Course}
use Rattle.run_parts.specs.declared.writing.WriteError.{WriteError}
use Rattle.replay_run.specs.Replays.{IsOn, IsThrough, IsNext, trace_text}
use Rattle.run_parts.specs.Stops.{course, course_step, start}
use Rattle.run_parts.specs.Writing.{Sunk, Took, TookFront}
use Rattle.run_parts.proofs.WritingLaws.{took_both, front_both, front_more}

abbrev then_if : Made → Bool → Step → Made
then_if m b q = elim b as (λ b. Made) [
  | true ↦ m
  | false ↦ let n : Made = q m.world in record { facts = m.facts ++ n.facts; world = n.world }
]

-- these facts begin with those
abbrev Begins : List Fact → List Fact → Type 0
Begins xs ys = (zs : List Fact) × (ys ≡ xs ++ zs)

begins_by : (m : Made) (b : Bool) (ps qs : List Step) → Begins (in_order ps m.world).facts (in_order (ps ++ qs) m.world).facts → Begins (then_if m b (in_order ps)).facts (then_if m b (in_order (ps ++ qs))).facts
begins_by m true ps qs h = ([], sym (append-nil m.facts))
begins_by m false ps qs h = (h.0, ap (λ zs. m.facts ++ zs) h.1 ∙ sym (append_assoc m.facts (in_order ps m.world).facts h.0))

order_begins : (ps qs : List Step) (w : World) → Begins (in_order ps w).facts (in_order (ps ++ qs) w).facts
order_begins [] qs w = ((in_order qs w).facts, refl)
order_begins (p ∷ ps) qs w = begins_by (p w) (p w).world.full ps qs (order_begins ps qs (p w).world)

pub made_begins : (c : Script) (n : ℕ) → Begins (made_of c n).facts (trace_of c)
made_begins c n =
    let cut : map play_line c.orders ≡ map play_line (take n c.orders) ++ map play_line (drop n c.orders) = ap (map play_line) (sym (take-append-drop n c.orders)) ∙ map-append play_line (take n c.orders) (drop n c.orders) in
    let h : Begins (made_of c n).facts (in_order (map play_line (take n c.orders) ++ map play_line (drop n c.orders)) (new_world c wire_limit)).facts = order_begins (map play_line (take n c.orders)) (map play_line (drop n c.orders)) (new_world c wire_limit) in
    (h.0, ap (λ qs. (in_order qs (new_world c wire_limit)).facts) cut ∙ h.1)

-- the line at a place of the orders
pub line_there : (items orders : List Line) (i : ℕ) (l : Line) → items ≡ orders → i < length items → l ≡ get_or items i l → slice_get orders i ≡ Some l
line_there items orders i l is inside it = subst (λ ls. slice_get ls i ≡ Some l) is (slice_get_read items (length items) i l refl inside it)

-- the orders that a world lends are the script's
pub same_orders : (c : Script) (n : ℕ) (world : Played) (items : List Line) → IsOn c n world → items ≡ world.script.orders → items ≡ c.orders
same_orders c n world items on is = is ∙ ap (λ (w : Played). w.script.orders) on.world_is

-- the next one is among them
pub order_inside : (c : Script) (n : ℕ) (world : Played) (items all : List Line) → IsOn c n world → items ≡ world.script.orders → all ≡ c.orders → n < length all → n < length items
order_inside c n world items all on is are inside = subst (λ ls. n < length ls) (are ∙ sym (same_orders c n world items on is)) inside

pub order_there : (c : Script) (n : ℕ) (world : Played) (items all : List Line) (l : Line) → IsOn c n world → items ≡ world.script.orders → all ≡ c.orders → n < length all → l ≡ get_or items n l → slice_get c.orders n ≡ Some l
order_there c n world items all l on is are inside it = line_there items c.orders n l (same_orders c n world items on is) (order_inside c n world items all on is are inside) it

-- One order more.

-- its facts follow those before
pub facts_next : MadeNext → (c : Script) (n : ℕ) (world : Played) (l : Line) → IsOn c n world → slice_get c.orders n ≡ Some l → (made_of c (n + 1)).facts ≡ (made_of c n).facts ++ (next_of world.script world.count l).facts
facts_next law c n world l on it =
    ap (λ (m : Made). m.facts) (law c n l it on.going_is) ∙ ap (λ (w : Played). (made_of c n).facts ++ (next_of w.script w.count l).facts) (sym on.world_is)

lines_next : MadeNext → (c : Script) (n : ℕ) (world : Played) (l : Line) → IsOn c n world → slice_get c.orders n ≡ Some l
    → flat_map fact_line (made_of c (n + 1)).facts ≡ flat_map fact_line (made_of c n).facts ++ flat_map fact_line (next_of world.script world.count l).facts
lines_next law c n world l on it = ap (flat_map fact_line) (facts_next law c n world l on it) ∙ flat_map-append fact_line (made_of c n).facts (next_of world.script world.count l).facts

course_next : MadeNext → (c : Script) (n : ℕ) (world : Played) (l : Line) → IsOn c n world → slice_get c.orders n ≡ Some l
    → course (made_of c (n + 1)).facts ≡ fold course_step (course (made_of c n).facts) (next_of world.script world.count l).facts
course_next law c n world l on it = ap course (facts_next law c n world l on it) ∙ fold-append course_step start (made_of c n).facts (next_of world.script world.count l).facts

pub course_here : MadeNext → (c : Script) (n : ℕ) (world : Played) (l : Line) (old new : Course) → IsOn c n world → slice_get c.orders n ≡ Some l → old ≡ course (made_of c n).facts
    → new ≡ fold course_step old (next_of world.script world.count l).facts → new ≡ course (made_of c (n + 1)).facts
course_here law c n world l old new on it before after = after ∙ (ap (λ k. fold course_step k (next_of world.script world.count l).facts) before ∙ sym (course_next law c n world l on it))

-- and it was the last
pub course_all : MadeNext → (c : Script) (n : ℕ) (world late : Played) (l : Line) (old new : Course) → IsOn c n world → slice_get c.orders n ≡ Some l → IsThrough c (n + 1) late → old ≡ course (made_of c n).facts
    → new ≡ fold course_step old (next_of world.script world.count l).facts → new ≡ course (trace_of c)
course_all law c n world late l old new on it through before after = course_here law c n world l old new on it before after ∙ ap (λ (m : Made). course m.facts) through.made_is

next_here : (c : Script) (n : ℕ) (world new : Played) (goes_on : Bool) → IsOn c n world → IsNext world.script (world.count + 1) goes_on new → IsNext c (n + 1) goes_on new
next_here c n world new goes_on on next = subst (λ (w : Played). IsNext w.script (w.count + 1) goes_on new) on.world_is next

pub through_here : (c : Script) (n : ℕ) (world new : Played) (goes_on : Bool) → IsOn c n world → goes_on ≡ false → IsNext world.script (world.count + 1) goes_on new → IsThrough c (n + 1) new
through_here c n world new goes_on on stop next = subst (λ b. IsNext c (n + 1) b new) stop (next_here c n world new goes_on on next)

pub on_here : (c : Script) (n : ℕ) (world new : Played) (goes_on : Bool) → IsOn c n world → goes_on ≡ true → IsNext world.script (world.count + 1) goes_on new → IsOn c (n + 1) new
on_here c n world new goes_on on going next = subst (λ b. IsNext c (n + 1) b new) going (next_here c n world new goes_on on next)

-- its lines were taken
pub took_next : MadeNext → (c : Script) (n : ℕ) (world : Played) (l : Line) (s t u : Sunk) → IsOn c n world → slice_get c.orders n ≡ Some l
    → Took (flat_map fact_line (made_of c n).facts) s t → Took (flat_map fact_line (next_of world.script world.count l).facts) t u → Took (flat_map fact_line (made_of c (n + 1)).facts) s u
took_next law c n world l s t u on it one two = subst (λ b. Took b s u) (sym (lines_next law c n world l on it)) (took_both _ _ s t u one two)

-- and it was the last
pub took_all : MadeNext → (c : Script) (n : ℕ) (world late : Played) (l : Line) (s t u : Sunk) → IsOn c n world → slice_get c.orders n ≡ Some l → IsThrough c (n + 1) late
    → Took (flat_map fact_line (made_of c n).facts) s t → Took (flat_map fact_line (next_of world.script world.count l).facts) t u → Took (trace_text c) s u
took_all law c n world late l s t u on it through one two = subst (λ (m : Made). Took (flat_map fact_line m.facts) s u) through.made_is (took_next law c n world l s t u on it one two)

-- a front of them was, which is a front of the trace
pub front_next : MadeNext → (c : Script) (n : ℕ) (world : Played) (l : Line) (e : WriteError) (s t u : Sunk) → IsOn c n world → slice_get c.orders n ≡ Some l
    → Took (flat_map fact_line (made_of c n).facts) s t → TookFront (flat_map fact_line (next_of world.script world.count l).facts) e t u → TookFront (trace_text c) e s u
front_next law c n world l e s t u on it one two =
    let here : TookFront (flat_map fact_line (made_of c (n + 1)).facts) e s u = subst (λ b. TookFront b e s u) (sym (lines_next law c n world l on it)) (front_both _ _ e s t u one two) in
    let more : Begins (made_of c (n + 1)).facts (trace_of c) = made_begins c (n + 1) in
    subst (λ fs. TookFront (flat_map fact_line fs) e s u) (sym more.1)
    (subst (λ b. TookFront b e s u) (sym (flat_map-append fact_line (made_of c (n + 1)).facts more.0)) (front_more _ (flat_map fact_line more.0) e s u here))

-- What was told so far, and one order more.
pub facts_here : MadeNext → (c : Script) (n : ℕ) (world : Played) (l : Line) (old new : List Fact) → IsOn c n world → slice_get c.orders n ≡ Some l → old ≡ (made_of c n).facts
    → new ≡ old ++ (next_of world.script world.count l).facts → new ≡ (made_of c (n + 1)).facts
facts_here law c n world l old new on it before after = after ∙ (ap (λ fs. fs ++ (next_of world.script world.count l).facts) before ∙ sym (facts_next law c n world l on it))

-- and it was the last
pub facts_all : MadeNext → (c : Script) (n : ℕ) (world late : Played) (l : Line) (old new : List Fact) → IsOn c n world → slice_get c.orders n ≡ Some l → IsThrough c (n + 1) late → old ≡ (made_of c n).facts
    → new ≡ old ++ (next_of world.script world.count l).facts → new ≡ trace_of c
facts_all law c n world late l old new on it through before after = facts_here law c n world l old new on it before after ∙ ap (λ (m : Made). m.facts) through.made_is
