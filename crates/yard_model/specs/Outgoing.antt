-- Items that are pushed at the end of a list and taken at its front, whose memory is kept.
use Rattle.std.specs.Prelude.{◌+◌, ◌≤◌, ℕ, drop, length, Vec}
use Rattle.std.specs.declared.alloc.Global.{Global}
use Rattle.std.specs.Vec.{vec_len, vec_capacity}
use Rattle.yard_model.specs.declared.out.Item.{Item}
use Rattle.yard_model.specs.Spared.{Spared}

-- those from the place `taken` on, with room for so many more
abbrev pub outgoing : Vec Item Global → ℕ → ℕ → Spared Item
outgoing list taken free = record { items = drop taken list.items; spare = free }

pub record IsOutgoing (list : Vec Item Global) (taken free : ℕ) : Type 0 where
  pub within : taken ≤ length list.items
  pub fits : vec_len list + free ≤ vec_capacity list
