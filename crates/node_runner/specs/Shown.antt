-- What a packet needs before its node takes it.
use Rattle.std.specs.Prelude.{◌≡◌, ℕ, Bool, true, false, List, Option, Some, None, IsSomeAnd}
use Rattle.yard_model.specs.declared.incarnation.Slot.TheVariants as slot
use Rattle.yard_model.specs.declared.packet.Body.{Body}
use Rattle.yard_model.specs.declared.packet.Body.TheVariants as body
use Rattle.yard_model.specs.declared.packet.Packet.{Packet}
use Rattle.yard_model.specs.Members.{are_of_different_nodes}
use Rattle.yard_model.specs.Node.{Node}
use Rattle.yard_model.specs.Script.{Script}
use Rattle.actor_laws.specs.Hands.{held_list}
use Rattle.lease_table.specs.Fits.{recorded, home_of}
use Rattle.lease_table.specs.Leasing.{Pass}
use Rattle.node_core.specs.Leased.{IsFor}
use Rattle.node_core.specs.Standing.{Standing}
use Rattle.node_laws.specs.NodeTurns.{IsPromised}
use Rattle.node_runner.specs.declared.offer.Confirmed.{Confirmed}
use Rattle.node_runner.specs.Rested.{means}

-- the record that a packet confirms, if it does
abbrev pub confirmed_of : Body → Option Confirmed
confirmed_of (body.Ack p e n) = Some (record { producer = p; entity = e; number = n })
confirmed_of (body.Request p e n u) = Some (record { producer = p; entity = e; number = n })
confirmed_of b = None

-- a view is of different nodes
abbrev pub AreApart : Body → Type 0
AreApart (body.View v xs) = are_of_different_nodes xs ≡ true
AreApart b = Unit {0}

-- the node may take the packet, with the leases of this pass
pub record IsHanded (c : Script) (me : ℕ) (p : Pass) (v : Standing) (packet : Packet) : Type 0 where
  pub addressed : IsFor (means me p) v.state.who packet
  pub promised : IsPromised c (means me p).vouches v.state packet.from packet.body

-- the node has this shard in hand, and the record stands in its list
abbrev pub IsRecordedIn : ℕ → Confirmed → Node → Type 0
IsRecordedIn s r st = IsSomeAnd (held_list (slot.Shard s) st) (λ list. recorded r.entity r.producer r.number list ≡ true)
