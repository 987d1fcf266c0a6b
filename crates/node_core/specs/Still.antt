-- Acts by which no slot changes hands: what they write of a slot they write where the node holds it.
use Rattle.std.specs.Prelude.{Bool, true, false, ◌&&◌, Option, Some, None, is_some}
use Rattle.yard_model.specs.declared.fact.Fact.{Fact}
use Rattle.yard_model.specs.declared.fact.Fact.TheVariants as fact
use Rattle.yard_model.specs.declared.incarnation.Slot.{Slot}
use Rattle.yard_model.specs.declared.incarnation.Slot.TheVariants as slot
use Rattle.yard_model.specs.declared.out.Item.TheVariants as item
use Rattle.yard_model.specs.Genuine.{is_slot_of}
use Rattle.yard_model.specs.Move.{Move, made, took}
use Rattle.yard_model.specs.Node.{Node, Act, by_region, by_entities, by_producer, by_coordinator}
use Rattle.yard_model.specs.Script.{Script, setting}
use Rattle.yard_model.specs.Trace.{slot_of}
use Rattle.actor_laws.specs.Hands.{held_list}
use Rattle.shard_lease.specs.Meaning.{Meaning}
use Rattle.node_core.specs.Found.{asks}

-- it frees and grants nothing; its incarnations have numbers within the limit, and what it confirms is vouched for
abbrev pub is_kept_fact : Meaning → Fact → Bool
is_kept_fact m (fact.Granted s n x) = false
is_kept_fact m (fact.Freed s n why) = false
is_kept_fact m (fact.Reshard n k) = false
is_kept_fact m (fact.Resharded s n k) = false
is_kept_fact m (fact.Registered r) = m.within r.number
is_kept_fact m (fact.Terminated r) = m.within r.number
is_kept_fact m (fact.Allocated s r) = m.within r.number
is_kept_fact m (fact.Confirmed p e n) = m.vouches e p n
is_kept_fact m f = true

abbrev pub may_enter : (Slot → Bool) → Option Slot → Bool
may_enter may None = true
may_enter may (Some s) = may s

-- its entry, if it is one, is of a slot of this kind
abbrev pub is_still_move : Meaning → Script → (Slot → Bool) → Move → Bool
is_still_move m c may (made (item.Fact f)) = is_kept_fact m f && may_enter may (slot_of (setting c) f)
is_still_move m c may (took s list) = false
is_still_move m c may x = true

abbrev pub is_of_shards : Slot → Bool
is_of_shards (slot.Shard s) = true
is_of_shards s = false

-- the slot is the script's, the node holds it, and it is one of these
abbrev pub is_held_of : Script → Node → (Slot → Bool) → Slot → Bool
is_held_of c st of s = of s && is_slot_of c s && is_some (held_list s st)

abbrev pub no_slot : Slot → Bool
no_slot s = false

-- the region takes no store, whatever move it makes
abbrev pub is_still_region : Meaning → Script → Move → Bool
is_still_region m c (took s list) = true
is_still_region m c x = is_still_move m c no_slot x

abbrev pub is_still : Script → Meaning → Node → Act → Bool
is_still c m st (by_region x) = is_still_region m c x
is_still c m st (by_entities x) = is_still_move m c (is_held_of c st is_of_shards) x
is_still c m st (by_producer p x) = is_still_move m c (is_held_of c st (asks (slot.Queue p))) x
is_still c m st (by_coordinator x) = is_still_move m c (is_held_of c st (asks slot.Coordinator)) x
