-- What a shard's store stands for: the list of the shard's slot.
use Rattle.std.specs.Prelude.{ℕ, ◌-◌, Bool, List, [], ◌∷◌, ◌++◌}
use Rattle.yard_model.specs.declared.fact.Fact.{Fact}
use Rattle.yard_model.specs.declared.incarnation.Slot.{Slot}
use Rattle.yard_model.specs.declared.incarnation.Slot.TheVariants as slot
use Rattle.yard_model.specs.Script.{Script}
use Rattle.yard_model.specs.Lawful.{may_follow}

pub record Shelf : Type 0 where
  pub script : Script  -- that it was made for
  pub shard : ℕ
  pub entries : List Fact  -- the list, as the facts that its entries are
  pub spare : ℕ  -- so many entries more take no memory

-- the slot whose list it is
abbrev pub slot_of : Shelf → Slot
slot_of s = slot.Shard s.shard

-- this entry may come next
abbrev pub may : Shelf → Fact → Bool
may s f = may_follow s.script (slot_of s) s.entries f

-- with one entry more, which takes one of the spare
abbrev pub with_entry : Shelf → Fact → Shelf
with_entry s f = record { script = s.script; shard = s.shard; entries = s.entries ++ f ∷ []; spare = s.spare - 1 }
