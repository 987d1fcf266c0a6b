use Rattle.std.proofs.Common.{◌≡◌, take}
use Rattle.log_resume.specs.Restored.{entries}
use Rattle.log_resume.specs.Taken.{Stands}
use Rattle.log_resume.proofs.stores.slots_of.Given as goal

-- the entries of the batches so far stand
abbrev pub invariant-loop-k : goal.invariant-loop-k
invariant-loop-k l = record {
  script : l.slots.script ≡ l.charter;
  stands : Stands l.charter (entries (take l.k l.batches)) l.slots.lists;
}
