-- A move: one step of an actor. It is an item of the node's turn, or a silent step that no item tells.
use Rattle.std.specs.Prelude.{ℕ, List, [], ◌∷◌}
use Rattle.yard_model.specs.declared.out.Item.{Item}
use Rattle.yard_model.specs.declared.out.Item.TheVariants as item
use Rattle.yard_model.specs.declared.fact.Fact.{Fact}
use Rattle.yard_model.specs.declared.packet.Body.{Body}
use Rattle.yard_model.specs.declared.incarnation.Incarnation.{Incarnation}
use Rattle.yard_model.specs.declared.incarnation.Slot.{Slot}
use Rattle.yard_model.specs.declared.incarnation.Stamp.{Stamp}

pub data Move : Type 0 where
  made : Item → Move  -- an item
  took : Slot → List Fact → Move  -- the store of a slot is taken, with its list
  viewed : List Incarnation → Move  -- the view has these members
  registered_with : Incarnation → Move  -- the region is registered there
  leaves : Move  -- the region leaves
  marked : ℕ → Stamp → Move  -- the mark of a shard is this, and asked is no
  released : ℕ → Move  -- the oldest kept message of a shard is taken out
  handed_off : ℕ → Stamp → Incarnation → Move  -- a shard is Stopping, with stamp and addressee
  passivates : List ℕ → Move  -- an entity passivates
  demanded : List ℕ → ℕ → Move  -- demand of an entity is at least this
  pushed : List ℕ → ℕ → Move  -- what was sent to an entity is at least this
  quits : Incarnation → Move  -- a registered region leaves
  started : ℕ → Move  -- a shard is started
  acknowledged : ℕ → Incarnation → Move  -- a region is no longer awaited for a shard

-- a fact
abbrev pub told : Fact → Move
told f = made (item.Fact f)

-- a packet from one to another
abbrev pub post : Incarnation → Incarnation → Body → Move
post from to body = made (item.Post (record { from = from; to = to; body = body }))

-- the item of a move, if it is one
abbrev pub item_of : Move → List Item
item_of (made i) = i ∷ []
item_of m = []
