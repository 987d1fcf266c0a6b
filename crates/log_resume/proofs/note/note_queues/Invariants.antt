use Rattle.std.proofs.Common.{◌≡◌, ◌++◌, map}
use Rattle.std.specs.List.{flat_map}
use Rattle.yard_model.specs.declared.incarnation.Slot.TheVariants as slot
use Rattle.yard_model.specs.Words.{numbers}
use Rattle.log_resume.specs.Left.{free_if}
use Rattle.log_resume.proofs.note.note_queues.Given as goal

-- those before are noted
abbrev pub invariant-loop-k : goal.invariant-loop-k
invariant-loop-k l = l.freed ≡ l.fn.freed ++ flat_map (free_if l.store.lists) (map slot.Queue (numbers 1 l.k))
