-- What the orders of a script lead to.
use Rattle.std.specs.Prelude.{◌≡◌, ℕ, Bool, true, ◌&&◌, ◌||◌, not, List, ◌++◌, length, map, take, None}
use Rattle.yard_model.specs.declared.fact.Fact.{Fact}
use Rattle.std.specs.Option.{option_map_or}
use Rattle.yard_model.specs.declared.charter.Line.{Line}
use Rattle.yard_model.specs.declared.charter.Order.{Order}
use Rattle.yard_model.specs.declared.incarnation.Slot.{Slot}
use Rattle.yard_model.specs.Era.{Era, first_era, era_of, lists_in, opening_of}
use Rattle.yard_model.specs.Genuine.{is_brought, is_slot_of}
use Rattle.yard_model.specs.Lawful.{lawful}
use Rattle.yard_model.specs.Safe.{safe}
use Rattle.yard_model.specs.Script.{Script, IsScript, brought, is_order, is_upgrade, is_version, setting}
use Rattle.yard_model.specs.SlotLists.{SlotLists}
use Rattle.yard_model.specs.SlotReads.{holder}
use Rattle.yard_model.specs.Trace.{list_at}
use Rattle.yard_model.specs.World.{World, new_world, given_world, settle, settle_bound, play_line, in_order, played, trace_of}
use Rattle.play_laws.specs.Confirming.{MaySettle}
use Rattle.play_laws.specs.Sound.{SoundIf, Sound, AreQueued, LeadsOn}

-- the name that an order brings is the script's
abbrev pub is_named : Script → Order → Bool
is_named c o = option_map_or (is_brought c) (brought o) true

-- an order of the script
abbrev pub is_played : Script → Order → Bool
is_played c o = is_order c.config o && is_named c o && (not (is_upgrade o) || is_version c 2)

-- a line with such an order, from any sound world
abbrev pub LineLeadsOn : Type 0
LineLeadsOn = (l : Line) (w : World) (era : Era) → is_played era.script l.order ≡ true → Sound era.script era.trace w → LeadsOn era (play_line l w)

-- after any number of the orders, with any limit of packets, the world is sound in the era where they end
abbrev pub PlayedIsSound : Type 0
PlayedIsSound = (c : Script) (limit n : ℕ) → IsScript c → LeadsOn (first_era c) (in_order (map play_line (take n c.orders)) (new_world c limit))

-- a world that begins with given lists is sound: they are lawful, no slot is held, and no more is recorded than is queued
abbrev pub GivenIsSound : Type 0
GivenIsSound = (c : Script) (version : ℕ) (lists : SlotLists) → IsScript c → is_version c version ≡ true → lawful c lists ≡ true → ((s : Slot) → is_slot_of c s ≡ true → holder (list_at lists s) ≡ None) → AreQueued c lists
    → Sound c (opening_of version lists) (given_world c version lists)

-- so much of it stands, too, where more may be recorded than is queued
abbrev pub GivenStands : Type 0
GivenStands = (c : Script) (version : ℕ) (lists : SlotLists) → IsScript c → is_version c version ≡ true → lawful c lists ≡ true → ((s : Slot) → is_slot_of c s ≡ true → holder (list_at lists s) ≡ None)
    → SoundIf ⊥ c (opening_of version lists) (given_world c version lists)

-- a settling of a sound world hands over nothing that confirms what isn't queued
abbrev pub SoundMaySettle : Type 0
SoundMaySettle = (c : Script) (from bound : ℕ) (trace : List Fact) (w : World) → Sound c trace w → MaySettle c from bound w

-- and of which that is so leads to a world that stands
abbrev pub SettleStands : Type 0
SettleStands = (c : Script) (trace : List Fact) (w : World) → MaySettle c (length w.wire) (settle_bound w) w → SoundIf ⊥ c trace w → SoundIf ⊥ c (trace ++ (settle w).facts) (settle w).world

-- so the trace of every script is safe at each prefix, also one that stops at the limit
abbrev pub PlayedIsSafe : Type 0
PlayedIsSafe = (c : Script) (limit : ℕ) → IsScript c → safe c (played c limit).facts ≡ true

abbrev pub TraceIsSafe : Type 0
TraceIsSafe = (c : Script) → IsScript c → safe c (trace_of c) ≡ true

-- the lists of the world at the end are those of its trace, and they are lawful for the number of shards in force
abbrev pub PlayedLists : Type 0
PlayedLists = (c : Script) (limit : ℕ) → IsScript c → let era : Era = era_of c (played c limit).facts in let w : World = (played c limit).world in (lists_in era ≡ w.lists) × (setting era.script ≡ w.set) × (lawful era.script w.lists ≡ true)
