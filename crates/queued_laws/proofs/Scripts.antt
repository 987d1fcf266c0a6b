-- Scripts, from era to era.
use Rattle.std.proofs.Common.{◌≡◌, ℕ, List, [], ◌∷◌, ◌++◌, map, sym, subst, refl, true, false, true≢false}
use Rattle.std.specs.Prelude.{Bool, ◌==◌, ◌&&◌, ◌||◌, fold, if◌then◌else◌}
use Rattle.std.specs.List.{list_all}
use Rattle.yard_model.specs.declared.charter.Line.{Line}
use Rattle.yard_model.specs.declared.charter.Order.{Order}
use Rattle.yard_model.specs.declared.charter.Order.TheVariants as order
use Rattle.yard_model.specs.declared.fact.Fact.{Fact}
use Rattle.yard_model.specs.declared.fact.Fact.TheVariants as fact
use Rattle.yard_model.specs.declared.packet.Record.{Record}
use Rattle.yard_model.specs.Era.{Era, era_of, era_step, first_era, lists_in}
use Rattle.yard_model.specs.Script.{setting}
use Rattle.yard_model.specs.SlotLists.{SlotLists, queue_list}
use Rattle.yard_model.specs.SlotReads.{queued}
use Rattle.yard_model.specs.Trace.{lists_step}
use Rattle.yard_model.specs.World as world
use Rattle.yard_model.specs.World.{World, Made, Step, greatest_epoch, in_order, is_any_up, new_world, play_line, played, tell, then_step, with_order}
use Rattle.plain_laws.proofs.Booleans.{and_both, at_most, both}
use Rattle.yard_laws.proofs.Owns.{lists_more}
use Rattle.node_laws.specs.Carried.{is_carried_fact}
use Rattle.play_laws.specs.Played.{PlayedIsSound, is_played}
use Rattle.play_laws.specs.Sound.{LeadsOn, Sound}
use Rattle.play_laws.proofs.Handled.{Laws}
use Rattle.play_laws.proofs.Lines.{line_on, lines_still, orders_played}
use Rattle.queued_laws.specs.Queued.{RecordedIsQueued}
use Rattle.queued_laws.proofs.Orders.{line_keeps}
use Rattle.queued_laws.proofs.Quiet.{are_queued, is_shown}

-- the command of each record is queued where it is written, by the lists of the era that the facts before it lead to
abbrev are_queued_in : Era → List Fact → Bool
are_queued_in era [] = true
are_queued_in era (f ∷ fs) = is_carried_fact (lists_in era) f && are_queued_in (era_step era f) fs

join_in : (era : Era) (fs gs : List Fact) → are_queued_in era fs ≡ true → are_queued_in (fold era_step era fs) gs ≡ true → are_queued_in era (fs ++ gs) ≡ true
join_in era [] gs h k = k
join_in era (f ∷ fs) gs h k =
    let m : (is_carried_fact (lists_in era) f ≡ true) × (are_queued_in (era_step era f) fs ≡ true) = and_both (is_carried_fact (lists_in era) f) (are_queued_in (era_step era f) fs) h in
    both (is_carried_fact (lists_in era) f) (are_queued_in (era_step era f) (fs ++ gs)) m.0 (join_in (era_step era f) fs gs m.1 k)

-- Within an era.

same_era : (era : Era) (f : Fact) → is_shown (lists_in era) f ≡ true → era_step era f ≡ record { script = era.script; trace = era.trace ++ f ∷ [] }
same_era era (fact.Reshard n k) h = absurd (true≢false (sym h))
same_era era f h = refl

carried_of : (lists : SlotLists) (f : Fact) → is_shown lists f ≡ true → is_carried_fact lists f ≡ true
carried_of lists (fact.Wrote e r) h = h
carried_of lists f h = refl

within_era : (era : Era) (fs : List Fact) → are_queued era.script (lists_in era) fs ≡ true → are_queued_in era fs ≡ true
within_era era [] h = refl
within_era era (f ∷ fs) h =
    let m : (is_shown (lists_in era) f ≡ true) × (are_queued era.script (lists_step (setting era.script) (lists_in era) f) fs ≡ true) = and_both (is_shown (lists_in era) f) (are_queued era.script (lists_step (setting era.script) (lists_in era) f) fs) h in
    let next : Era = record { script = era.script; trace = era.trace ++ f ∷ [] } in
    both (is_carried_fact (lists_in era) f) (are_queued_in (era_step era f) fs) (carried_of (lists_in era) f m.0)
    (subst (λ x. are_queued_in x fs ≡ true) (sym (same_era era f m.0)) (within_era next fs (subst (λ l. are_queued era.script l fs ≡ true) (sym (lists_more era.script era.trace f)) m.1)))

-- Facts of which none is a record.

abbrev is_silent : Fact → Bool
is_silent (fact.Wrote e r) = false
is_silent f = true

silent_carried : (lists : SlotLists) (f : Fact) → is_silent f ≡ true → is_carried_fact lists f ≡ true
silent_carried lists (fact.Wrote e r) h = absurd (true≢false (sym h))
silent_carried lists f h = refl

silent_in : (era : Era) (fs : List Fact) → list_all is_silent fs ≡ true → are_queued_in era fs ≡ true
silent_in era [] h = refl
silent_in era (f ∷ fs) h =
    let m : (is_silent f ≡ true) × (list_all is_silent fs ≡ true) = and_both (is_silent f) (list_all is_silent fs) h in
    both (is_carried_fact (lists_in era) f) (are_queued_in (era_step era f) fs) (silent_carried (lists_in era) f m.0) (silent_in (era_step era f) fs m.1)

-- `at LINE` and a step that tells one such fact
line_silent : (n : ℕ) (v : World) (q : Step) → ((w : World) → list_all is_silent (q w).facts ≡ true) → list_all is_silent (then_step (tell (fact.At n ∷ []) v) q).facts ≡ true
line_silent n v q h = at (tell (fact.At n ∷ []) v).world.full
  where
    m : Made
    m = tell (fact.At n ∷ []) v

    at : (b : Bool) → list_all is_silent (elim b as (λ b. Made) [ true ↦ m | false ↦ let n : Made = q m.world in record { facts = m.facts ++ n.facts; world = n.world } ]).facts ≡ true
    at true = refl
    at false = h m.world

reshard_silent : (n : ℕ) (w : World) → list_all is_silent (world.reshard n w).facts ≡ true
reshard_silent n w = by (is_any_up w || (n == w.set.config.shards))
  where
    by : (b : Bool) → list_all is_silent (if b then world.nothing w else tell (fact.Reshard n (greatest_epoch w.lists) ∷ []) w).facts ≡ true
    by true = refl
    by false = refl

upgrade_silent : (w : World) → list_all is_silent (world.upgrade w).facts ≡ true
upgrade_silent w = by (is_any_up w || (w.behaviour == 2))
  where
    by : (b : Bool) → list_all is_silent (if b then world.nothing w else tell (fact.Upgrade 2 ∷ []) w).facts ≡ true
    by true = refl
    by false = refl

-- Lines.

line_in : Laws → (number : ℕ) (o : Order) (w : World) (era : Era) → is_played era.script o ≡ true → Sound era.script era.trace w → are_queued_in era (play_line (record { number = number; order = o }) w).facts ≡ true
line_in laws number (order.Reshard n) w era h s = silent_in era (play_line (record { number = number; order = order.Reshard n }) w).facts (line_silent number w (world.reshard n) (reshard_silent n))
line_in laws number order.Upgrade w era h s = silent_in era (play_line (record { number = number; order = order.Upgrade }) w).facts (line_silent number w world.upgrade upgrade_silent)
line_in laws number o w era h s =
    let l : Line = record { number = number; order = o } in
    within_era era (play_line l w).facts (line_keeps laws era.script l w refl h era.trace s).1

lines_in_era : Laws → (ls : List Line) (w : World) (era : Era) → list_all (λ (l : Line). is_played era.script l.order) ls ≡ true → Sound era.script era.trace w → are_queued_in era (in_order (map play_line ls) w).facts ≡ true
lines_in_era laws [] w era h s = refl
lines_in_era laws (l ∷ ls) w era h s = by m.world.full (λ k t. lines_in_era laws ls m.world (fold era_step era m.facts) k t)
  where
    m : Made
    m = play_line l w

    q : Step
    q = in_order (map play_line ls)

    p : (is_played era.script l.order ≡ true) × (list_all (λ (l : Line). is_played era.script l.order) ls ≡ true)
    p = and_both (is_played era.script l.order) (list_all (λ (l : Line). is_played era.script l.order) ls) h

    one : LeadsOn era m
    one = line_on laws l w era p.0 s

    first : are_queued_in era m.facts ≡ true
    first = line_in laws l.number l.order w era p.0 s

    mid : Era
    mid = fold era_step era m.facts

    by : (b : Bool) → (list_all (λ (l : Line). is_played mid.script l.order) ls ≡ true → Sound mid.script mid.trace m.world → are_queued_in mid (q m.world).facts ≡ true)
        → are_queued_in era (elim b as (λ b. Made) [ true ↦ m | false ↦ let n : Made = q m.world in record { facts = m.facts ++ n.facts; world = n.world } ]).facts ≡ true
    by true rest = first
    by false rest = join_in era m.facts (q m.world).facts first (rest (lines_still ls m.facts era p.1) one.sound)

-- A record that stands in such facts.

record_queued : (era : Era) (front back : List Fact) (e : List ℕ) (r : Record) → are_queued_in era (front ++ fact.Wrote e r ∷ back) ≡ true → is_carried_fact (lists_in (fold era_step era front)) (fact.Wrote e r) ≡ true
record_queued era [] back e r h = (and_both (is_carried_fact (lists_in era) (fact.Wrote e r)) (are_queued_in (era_step era (fact.Wrote e r)) back) h).0
record_queued era (f ∷ fs) back e r h = record_queued (era_step era f) fs back e r (and_both (is_carried_fact (lists_in era) f) (are_queued_in (era_step era f) (fs ++ fact.Wrote e r ∷ back)) h).1

pub recorded_is_queued : PlayedIsSound → Laws → RecordedIsQueued
recorded_is_queued sound laws c limit front back e r script is =
    let start : Sound c [] (new_world c limit) = (sound c limit 0 script).sound in
    let all : are_queued_in (first_era c) (played c limit).facts ≡ true = lines_in_era laws c.orders (new_world c limit) (first_era c) (orders_played c script) start in
    at_most r.place (queued e (queue_list (lists_in (era_of c front)) r.producer)) (record_queued (first_era c) front back e r (subst (λ fs. are_queued_in (first_era c) fs ≡ true) is all))
