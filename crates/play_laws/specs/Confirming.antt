-- What a settling needs of what is queued: that what a packet confirms is queued when it is handed over. Where more may be recorded than is queued, as in given lists, no packet that confirms is handed over until every queue is taken.
use Rattle.std.specs.Prelude.{◌≡◌, ◌<◌, ℕ, zero, suc, nat_lt, Bool, true, false, List, [], ◌∷◌, map, filter, Some}
use Rattle.std.specs.List.{slice_get}
use Rattle.yard_model.specs.declared.packet.Body.{Body}
use Rattle.yard_model.specs.declared.packet.Body.TheVariants as body
use Rattle.yard_model.specs.declared.packet.Packet.{Packet}
use Rattle.yard_model.specs.Script.{Script, setting}
use Rattle.yard_model.specs.Setting.{producers}
use Rattle.yard_model.specs.SlotLists.{SlotLists}
use Rattle.yard_model.specs.Words.{numbers}
use Rattle.yard_model.specs.World.{World, in_order, deliver, drain, produce, go_down, come_up}
use Rattle.play_laws.specs.Sound.{AreQueued}

-- it says that commands are recorded
abbrev pub is_confirming : Body → Bool
is_confirming (body.Request p e n u) = true
is_confirming (body.Ack p e n) = true
is_confirming b = false

-- the packet confirms nothing, or all that is recorded is queued
abbrev pub MayHand : Script → SlotLists → Packet → Type 0
MayHand c lists p = is_confirming p.body ≡ true → AreQueued c lists

-- so is packet k, if it was posted since the number of shards last changed
abbrev pub MayDeliver : Script → World → ℕ → Type 0
MayDeliver c w zero = Unit {0}
MayDeliver c w (suc i) = (p : Packet) → slice_get w.wire i ≡ Some p → w.past < suc i → MayHand c w.lists p

abbrev pub MayNext : Script → World → (World → Type 0) → List ℕ → Type 0
MayNext c w P [] = Unit {0}
MayNext c w P (k ∷ ks) = MayDeliver c w k × ((deliver k w).world.full ≡ false → P (deliver k w).world)

-- and each that a drain delivers
abbrev pub MayDrain : Script → ℕ → ℕ → World → Type 0
MayDrain c from zero w = Unit {0}
MayDrain c from (suc n) w = MayNext c w (MayDrain c from n) (filter (nat_lt from) w.fresh)

-- once node 1 has taken every queue, all that is recorded is queued
abbrev pub MayTakeAll : Script → World → Type 0
MayTakeAll c w = let v : World = (in_order (map (λ p. produce p 1) (producers (setting c))) w).world in v.full ≡ false → AreQueued c v.lists

-- A settle, from its first drain on.
abbrev pub MayBegin : Script → ℕ → ℕ → World → Type 0
MayBegin c from bound w = let v : World = (drain from bound w).world in MayDrain c from bound w × (v.full ≡ false → MayTakeAll c v)

-- from where node 1 comes up
abbrev pub MayComeUp : Script → ℕ → ℕ → World → Type 0
MayComeUp c from bound w = let v : World = (come_up 1 w).world in v.full ≡ false → MayBegin c from bound v

-- and whole
abbrev pub MaySettle : Script → ℕ → ℕ → World → Type 0
MaySettle c from bound w = MayComeUp c from bound (in_order (map go_down (numbers 1 c.config.nodes)) w).world
