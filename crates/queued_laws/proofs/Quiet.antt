-- Facts that record nothing.
use Rattle.std.proofs.Common.{◌≡◌, ℕ, ◌+◌, ◌-◌, List, [], ◌∷◌, ◌++◌, refl, true, false, true≢false, sym}
use Rattle.std.specs.Prelude.{Bool, ◌&&◌, nat_lt, map, fold, length, Option, Some, None, is_none, slice_index_or, if◌then◌else◌}
use Rattle.std.specs.List.{list_all}
use Rattle.yard_model.specs.declared.fact.Fact.{Fact}
use Rattle.yard_model.specs.declared.fact.Fact.TheVariants as fact
use Rattle.yard_model.specs.declared.out.Item.{Item}
use Rattle.yard_model.specs.declared.out.Item.TheVariants as item
use Rattle.yard_model.specs.declared.packet.Body.TheVariants as body
use Rattle.yard_model.specs.declared.packet.Packet.{Packet}
use Rattle.yard_model.specs.declared.incarnation.Incarnation.{Incarnation}
use Rattle.yard_model.specs.Node.{Node, crash}
use Rattle.yard_model.specs.Script.{Script, setting}
use Rattle.yard_model.specs.SlotLists.{SlotLists}
use Rattle.yard_model.specs.Trace.{lists_step}
use Rattle.yard_model.specs.World as world
use Rattle.yard_model.specs.World.{World, Made, Step, numbered, count_posts}
use Rattle.plain_laws.proofs.Booleans.{and_both, both, all_map}
use Rattle.plain_laws.proofs.Lists.{all_join}
use Rattle.node_laws.specs.Carried.{is_carried_fact}
use Rattle.play_laws.proofs.Steps.{is_freed, crash_frees}

-- a fact that leaves the number of shards, and where it is a record, its command is queued by these lists
abbrev pub is_shown : SlotLists → Fact → Bool
is_shown lists (fact.Reshard n k) = false
is_shown lists (fact.Wrote e r) = is_carried_fact lists (fact.Wrote e r)
is_shown lists f = true

-- so are all, each by the lists before it
abbrev pub are_queued : Script → SlotLists → List Fact → Bool
are_queued c lists [] = true
are_queued c lists (f ∷ fs) = is_shown lists f && are_queued c (lists_step (setting c) lists f) fs

abbrev pub is_quiet : Fact → Bool
is_quiet (fact.Wrote e r) = false
is_quiet (fact.Reshard n k) = false
is_quiet f = true

abbrev pub AreQuiet : List Fact → Type 0
AreQuiet fs = list_all is_quiet fs ≡ true

quiet_fact : (lists : SlotLists) (f : Fact) → is_quiet f ≡ true → is_shown lists f ≡ true
quiet_fact lists (fact.Wrote e r) h = absurd (true≢false (sym h))
quiet_fact lists (fact.Reshard n k) h = h
quiet_fact lists f h = refl

pub quiet_queued : (c : Script) (lists : SlotLists) (fs : List Fact) → AreQuiet fs → are_queued c lists fs ≡ true
quiet_queued c lists [] h = refl
quiet_queued c lists (f ∷ fs) h =
    let m : (is_quiet f ≡ true) × (list_all is_quiet fs ≡ true) = and_both (is_quiet f) (list_all is_quiet fs) h in
    both (is_shown lists f) (are_queued c (lists_step (setting c) lists f) fs) (quiet_fact lists f m.0) (quiet_queued c (lists_step (setting c) lists f) fs m.1)

-- Steps.

abbrev pub IsQuiet : Step → Type 0
IsQuiet q = (w : World) → AreQuiet (q w).facts

then_quiet : (m : Made) (q : Step) → AreQuiet m.facts → IsQuiet q → AreQuiet (world.then_step m q).facts
then_quiet m q t h = at m.world.full
  where
    at : (b : Bool) → AreQuiet (elim b as (λ b. Made) [ true ↦ m | false ↦ let n : Made = q m.world in record { facts = m.facts ++ n.facts; world = n.world } ]).facts
    at true = t
    at false = all_join is_quiet m.facts (q m.world).facts t (h m.world)

if_quiet : (b : Bool) (m n : Made) → AreQuiet m.facts → AreQuiet n.facts → AreQuiet (if b then m else n).facts
if_quiet true m n t u = t
if_quiet false m n t u = u

posts_quiet : (limit k : ℕ) (make : Incarnation → Packet) (xs : List Incarnation) → AreQuiet (numbered limit k (map (λ x. item.Post (make x)) xs))
posts_quiet limit k make [] = refl
posts_quiet limit k make (x ∷ xs) = by (nat_lt k limit) (posts_quiet limit (k + 1) make xs)
  where
    by : (b : Bool) → AreQuiet (numbered limit (k + 1) (map (λ x. item.Post (make x)) xs)) → AreQuiet ((if b then fact.Sent (k + 1) (make x) ∷ [] else []) ++ numbered limit (k + 1) (map (λ x. item.Post (make x)) xs))
    by true h = h
    by false h = h

full_quiet : (b : Bool) → AreQuiet (if b then fact.WireFull ∷ [] else [])
full_quiet true = refl
full_quiet false = refl

pub views_quiet : IsQuiet world.views
views_quiet w =
    let make : Incarnation → Packet = λ x. record { from = x; to = x; body = body.View w.version w.members } in
    let items : List Item = map (λ x. item.Post (make x)) w.members in
    all_join is_quiet (numbered w.limit (length w.wire) items) (if nat_lt w.limit (fold count_posts (length w.wire) items) then fact.WireFull ∷ [] else []) (posts_quiet w.limit (length w.wire) make w.members)
    (full_quiet (nat_lt w.limit (fold count_posts (length w.wire) items)))

freed_quiet : (f : Fact) → is_freed f ≡ true → is_quiet f ≡ true
freed_quiet (fact.Wrote e r) h = h
freed_quiet (fact.Reshard n k) h = h
freed_quiet f h = refl

down_by_quiet : (o : Option Node) → IsQuiet (world.go_down_by o)
down_by_quiet None w = refl
down_by_quiet (Some st) w = all_map is_freed is_quiet freed_quiet (crash st) (crash_frees st)

pub down_quiet : (n : ℕ) → IsQuiet (world.go_down n)
down_quiet n w = down_by_quiet (world.node_at w n) w

pub come_up_quiet : (n : ℕ) → IsQuiet (world.come_up n)
come_up_quiet n w = then_quiet (world.tell (fact.Up (record { node = n; number = slice_index_or w.ups (n - 1) 0 + 1 }) ∷ []) w) world.views refl views_quiet

pub up_quiet : (n : ℕ) → IsQuiet (world.up n)
up_quiet n w = if_quiet (is_none (world.node_at w n)) (world.come_up n w) (world.nothing w) (come_up_quiet n w) refl

pub crash_quiet : (n : ℕ) → IsQuiet (world.crash_node n)
crash_quiet n w = if_quiet (is_none (world.node_at w n)) (world.nothing w) (world.then_step (world.go_down n w) world.views) refl (then_quiet (world.go_down n w) world.views (down_quiet n w) views_quiet)
