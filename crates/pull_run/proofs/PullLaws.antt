-- The trace of jobs as it arises: the facts of the first lines, and how they are spelled.
use Rattle.std.proofs.Common.{◌≡◌, ◌≤◌, ℕ, suc, ◌+◌, refl, sym, ap, ◌∙◌, subst, arith, length}
use Rattle.std.specs.Prelude.{Bool, true, false, List, ◌++◌, fold, drop, slice_get, Option, Some, None}
use Rattle.std.specs.List.{flat_map, list_all}
use Rattle.std.proofs.Math.Seq.{drop-append_seam}
use Rattle.std.proofs.lemmas.List.{take_all}
use Rattle.std.proofs.lemmas.List.Concat.{flat_map-append}
use Rattle.std.proofs.lemmas.List.Sums.{fold-append}
use Rattle.yard_model.specs.declared.charter.Line.{Line}
use Rattle.yard_model.specs.declared.fact.Fact.{Fact}
use Rattle.yard_model.specs.Script.{Script, IsScript}
use Rattle.yard_model.specs.Text.{fact_line}
use Rattle.yard_model.specs.World.{wire_limit}
use Rattle.pull_laws.specs.Pulling.{Pulling, play_lines, nothing_told, pulled, pull_trace}
use Rattle.pull_laws.specs.PullSafe as safe
use Rattle.script_text.specs.Fit as fit
use Rattle.run_parts.specs.declared.course.Course.{Course}
use Rattle.run_parts.specs.declared.writing.WriteError.{WriteError}
use Rattle.run_parts.specs.Stops.{course, course_step, start}
use Rattle.run_parts.specs.Writing.{Sunk, Took, TookFront}
use Rattle.run_parts.proofs.WritingLaws.{took_both, front_both, front_more}
use Rattle.work_pulling.specs.declared.fault.PullFault.{PullFault}
use Rattle.work_pulling.specs.declared.fault.PullFault.TheVariants as fault
use Rattle.work_pulling.specs.Played.{Played, Went, NotCut, told_by}
use Rattle.pull_run.specs.Pulls.{told_to, line_facts, trace_text, IsOn, IsStopped, IsNext, IsDone}
use Rattle.pull_run.proofs.GrowLaws.{Begins, front_begins, one_begins, stops}

-- A script that is fit for `pull`.

orders_too : (ls : List Line) → list_all (λ (l : Line). fit.is_pulled l.order) ls ≡ true → list_all (λ (l : Line). safe.is_pulled l.order) ls ≡ true
orders_too ls all = all

pub pulled_of : (c : Script) → IsScript c → fit.IsPulled c → safe.IsPulled c
pulled_of c ok is = record { script = ok; orders = orders_too c.orders is.orders; once = is.once }

-- One line more.

begins_drop : (xs ys : List Fact) → Begins xs ys → ys ≡ xs ++ drop (length xs) ys
begins_drop xs ys b = b.1 ∙ ap (λ l. xs ++ l) (sym (drop-append_seam xs b.0) ∙ ap (drop (length xs)) (sym b.1))

pub told_next : (c : Script) (n : ℕ) → told_to c (n + 1) ≡ told_to c n ++ line_facts c n
told_next c n =
    let one : suc n ≡ n + 1 = omega arith in
    let next : told_to c (suc n) ≡ told_to c (n + 1) = ap (told_to c) one in
    begins_drop (told_to c n) (told_to c (n + 1)) (subst (Begins (told_to c n)) next (one_begins c.orders n (nothing_told c wire_limit)))

-- what a step told is what the line tells
told_is_line : (c : Script) (n : ℕ) (fs : List Fact) → told_to c (n + 1) ≡ told_to c n ++ fs → fs ≡ line_facts c n
told_is_line c n fs is = sym (drop-append_seam (told_to c n) fs) ∙ ap (drop (length (told_to c n))) (sym is)

played_is : (w : Played) (c : Script) (n : ℕ) (f : Option PullFault) → w.script ≡ c → w.count ≡ n → w.fault ≡ f → w ≡ record { script = c; count = n; fault = f }
played_is w c n f a b d =
    let with_script : Script → Played = λ x. record { script = x; count = w.count; fault = w.fault } in
    let with_count : ℕ → Played = λ x. record { script = c; count = x; fault = w.fault } in
    let with_fault : Option PullFault → Played = λ x. record { script = c; count = n; fault = x } in
    ap with_script a ∙ (ap with_count b ∙ ap with_fault d)

at_count : (old new : Played) (before after : List Fact) (b : Bool) → Went old new before after b → told_by new ≡ pulled old.script wire_limit (old.count + 1)
at_count old new before after b w = ap (λ c. pulled c wire_limit new.count) w.script_is ∙ ap (pulled old.script wire_limit) w.count_is

pub went_on : (old new : Played) (before after : List Fact) → Went old new before after false → new.fault ≡ None → IsOn old.script (old.count + 1) new
went_on old new before after w f = record {
  world_is = played_is new old.script (old.count + 1) None w.script_is w.count_is f;
  going_is = ap (λ (p : Pulling). p.full) (sym (at_count old new before after false w)) ∙ w.full_is;
}

pub stopped_there : (old new : Played) (before after : List Fact) → Went old new before after true → new.fault ≡ Some fault.WireFull → IsStopped old.script (old.count + 1) new
stopped_there old new before after w f = record {
  world_is = played_is new old.script (old.count + 1) (Some fault.WireFull) w.script_is w.count_is f;
  full_is = ap (λ (p : Pulling). p.full) (sym (at_count old new before after true w)) ∙ w.full_is;
}

pub went_told : (old new : Played) (before after : List Fact) (b : Bool) → Went old new before after b → after ≡ before ++ line_facts old.script old.count
went_told old new before after b w =
    let told : told_to old.script (old.count + 1) ≡ told_to old.script old.count ++ w.facts = ap (λ (p : Pulling). p.told) (sym (at_count old new before after b w)) ∙ w.told_is in
    w.out_is ∙ ap (λ l. before ++ l) (told_is_line old.script old.count w.facts told)

-- The whole trace.

going_first : (c : Script) → (nothing_told c wire_limit).full ≡ false
going_first c = refl

-- where it stopped, it is whole
pub whole_stopped : (c : Script) (n : ℕ) → (pulled c wire_limit n).full ≡ true → told_to c n ≡ pull_trace c
whole_stopped c n full = ap (λ (p : Pulling). p.told) (stops c.orders n (nothing_told c wire_limit) refl full)

pub whole_all : (c : Script) (n : ℕ) → length c.orders ≤ n → told_to c n ≡ pull_trace c
whole_all c n h = ap (λ ls. (play_lines ls (nothing_told c wire_limit)).told) (take_all n c.orders h)

pub all_begin : (c : Script) (n : ℕ) → Begins (told_to c n) (pull_trace c)
all_begin c n = front_begins c.orders n (nothing_told c wire_limit)

-- What was written.

lines_next : (c : Script) (n : ℕ) → flat_map fact_line (told_to c (n + 1)) ≡ flat_map fact_line (told_to c n) ++ flat_map fact_line (line_facts c n)
lines_next c n = ap (flat_map fact_line) (told_next c n) ∙ flat_map-append fact_line (told_to c n) (line_facts c n)

pub took_next : (c : Script) (n : ℕ) (s t u : Sunk) → Took (flat_map fact_line (told_to c n)) s t → Took (flat_map fact_line (line_facts c n)) t u → Took (flat_map fact_line (told_to c (n + 1))) s u
took_next c n s t u one two = subst (λ b. Took b s u) (sym (lines_next c n)) (took_both _ _ s t u one two)

-- a front of what a line tells, which is a front of the trace
pub front_next : (c : Script) (n : ℕ) (e : WriteError) (s t u : Sunk) → Took (flat_map fact_line (told_to c n)) s t → TookFront (flat_map fact_line (line_facts c n)) e t u → TookFront (trace_text c) e s u
front_next c n e s t u one two =
    let here : TookFront (flat_map fact_line (told_to c (n + 1))) e s u = subst (λ b. TookFront b e s u) (sym (lines_next c n)) (front_both _ _ e s t u one two) in
    let more : Begins (told_to c (n + 1)) (pull_trace c) = all_begin c (n + 1) in
    subst (λ fs. TookFront (flat_map fact_line fs) e s u) (sym more.1)
    (subst (λ b. TookFront b e s u) (sym (flat_map-append fact_line (told_to c (n + 1)) more.0)) (front_more _ (flat_map fact_line more.0) e s u here))

pub course_next : (c : Script) (n : ℕ) (old new : Course) → old ≡ course (told_to c n) → new ≡ fold course_step old (line_facts c n) → new ≡ course (told_to c (n + 1))
course_next c n old new before after =
    after ∙ (ap (λ k. fold course_step k (line_facts c n)) before ∙ (sym (fold-append course_step start (told_to c n) (line_facts c n)) ∙ ap course (sym (told_next c n))))

-- What a world is that is on its way.

-- of a world after n lines: what is said of its own script and count
pub next_here : (c : Script) (n : ℕ) (world new : Played) (goes_on : Bool) → IsOn c n world → IsNext world.script (world.count + 1) goes_on new → IsNext c (n + 1) goes_on new
next_here c n world new goes_on on next = subst (λ (w : Played). IsNext w.script (w.count + 1) goes_on new) on.world_is next

pub line_here : (c : Script) (n : ℕ) (world : Played) → IsOn c n world → line_facts world.script world.count ≡ line_facts c n
line_here c n world on = ap (λ (w : Played). line_facts w.script w.count) on.world_is

pub on_itself : (c : Script) (n : ℕ) (world : Played) → IsOn c n world → IsOn world.script world.count world
on_itself c n world on = subst (λ (w : Played). IsOn w.script w.count world) (sym on.world_is) on

pub order_here : (c : Script) (n : ℕ) (world : Played) (l : Line) → IsOn c n world → slice_get c.orders n ≡ Some l → slice_get world.script.orders world.count ≡ Some l
order_here c n world l on it = subst (λ (w : Played). slice_get w.script.orders w.count ≡ Some l) (sym on.world_is) it

done_of : (c : Script) (n : ℕ) (world : Played) (f : Option PullFault) → world ≡ record { script = c; count = n; fault = f } → NotCut f → told_to c n ≡ pull_trace c → IsDone c world
done_of c n world f is memory told = subst (IsDone c) (sym is) (record { memory_is = memory; told_is = told })

pub done_stopped : (c : Script) (n : ℕ) (world : Played) → IsStopped c n world → IsDone c world
done_stopped c n world stop = done_of c n world (Some fault.WireFull) stop.world_is tt (whole_stopped c n stop.full_is)

pub done_all : (c : Script) (n : ℕ) (world : Played) → IsOn c n world → length c.orders ≤ n → IsDone c world
done_all c n world on h = done_of c n world None on.world_is tt (whole_all c n h)

pub begun : (c : Script) (world : Played) → world ≡ record { script = c; count = 0; fault = None } → IsOn c 0 world
begun c world is = record { world_is = is; going_is = refl }

-- Of a world on its way: one line more.

pub took_here : (c : Script) (n : ℕ) (world : Played) (s t u : Sunk) → IsOn c n world → Took (flat_map fact_line (told_to c n)) s t → Took (flat_map fact_line (line_facts world.script world.count)) t u
    → Took (flat_map fact_line (told_to c (n + 1))) s u
took_here c n world s t u on one two = took_next c n s t u one (subst (λ fs. Took (flat_map fact_line fs) t u) (line_here c n world on) two)

-- and it was the last
pub took_whole : (c : Script) (n : ℕ) (world late : Played) (s t u : Sunk) → IsOn c n world → IsStopped c (n + 1) late → Took (flat_map fact_line (told_to c n)) s t
    → Took (flat_map fact_line (line_facts world.script world.count)) t u → Took (trace_text c) s u
took_whole c n world late s t u on stop one two = subst (λ fs. Took (flat_map fact_line fs) s u) (whole_stopped c (n + 1) stop.full_is) (took_here c n world s t u on one two)

pub front_here : (c : Script) (n : ℕ) (world : Played) (e : WriteError) (s t u : Sunk) → IsOn c n world → Took (flat_map fact_line (told_to c n)) s t
    → TookFront (flat_map fact_line (line_facts world.script world.count)) e t u → TookFront (trace_text c) e s u
front_here c n world e s t u on one two = front_next c n e s t u one (subst (λ fs. TookFront (flat_map fact_line fs) e t u) (line_here c n world on) two)

pub course_here : (c : Script) (n : ℕ) (world : Played) (old new : Course) → IsOn c n world → old ≡ course (told_to c n) → new ≡ fold course_step old (line_facts world.script world.count)
    → new ≡ course (told_to c (n + 1))
course_here c n world old new on before after = course_next c n old new before (after ∙ ap (fold course_step old) (line_here c n world on))

pub course_whole : (c : Script) (n : ℕ) (world late : Played) (old new : Course) → IsOn c n world → IsStopped c (n + 1) late → old ≡ course (told_to c n)
    → new ≡ fold course_step old (line_facts world.script world.count) → new ≡ course (pull_trace c)
course_whole c n world late old new on stop before after = course_here c n world old new on before after ∙ ap course (whole_stopped c (n + 1) stop.full_is)

pub stopped_here : (c : Script) (n : ℕ) (world new : Played) (goes_on : Bool) → IsOn c n world → goes_on ≡ false → IsNext world.script (world.count + 1) goes_on new → IsStopped c (n + 1) new
stopped_here c n world new goes_on on stop next = subst (λ b. IsNext c (n + 1) b new) stop (next_here c n world new goes_on on next)

pub on_here : (c : Script) (n : ℕ) (world new : Played) (goes_on : Bool) → IsOn c n world → goes_on ≡ true → IsNext world.script (world.count + 1) goes_on new → IsOn c (n + 1) new
on_here c n world new goes_on on going next = subst (λ b. IsNext c (n + 1) b new) going (next_here c n world new goes_on on next)
