-- What stands for a shard in a round.
use Rattle.std.specs.Prelude.{ℕ, true, false, List, [], Option, Some, None, slice_index_or}
use Rattle.yard_model.specs.declared.incarnation.Incarnation.{Incarnation}
use Rattle.yard_model.specs.Members.{no_member}
use Rattle.handoff_steps.specs.declared.cell.Cell.{Cell}
use Rattle.handoff_steps.specs.declared.cell.Cell.TheVariants as cell
use Rattle.handoff_steps.specs.Awaited.{awaited_of}
use Rattle.handoff_steps.specs.Places.{Handoff}

-- the region at this place
abbrev pub owner_at : List Incarnation → ℕ → Incarnation
owner_at rs place = slice_index_or rs place no_member

-- the shard that it stands for, with these regions
abbrev pub seen : List Incarnation → Cell → Option Handoff
seen rs cell.Out = None
seen rs (cell.Moves owner awaited) = Some (record { owner = owner_at rs owner; awaited = awaited_of rs awaited; done = false })
seen rs (cell.Done owner) = Some (record { owner = owner_at rs owner; awaited = []; done = true })
