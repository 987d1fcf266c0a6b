use Rattle.std.proofs.Common.{◌≡◌, map}
use Rattle.std.specs.Prelude.{true, fold}
use Rattle.yard_model.specs.declared.incarnation.Slot.TheVariants as slot
use Rattle.yard_model.specs.Lawful.{lawful}
use Rattle.yard_model.specs.Words.{numbers}
use Rattle.log_resume.specs.Restored.{freed}
use Rattle.log_resume.proofs.free.free_queues.Given as goal

-- those before are freed
abbrev pub invariant-loop-k : goal.invariant-loop-k
invariant-loop-k l = record {
  script : l.store.script ≡ l.fn.store.script;
  freed_are : l.store.lists ≡ fold freed l.fn.store.lists (map slot.Queue (numbers 1 l.k));
  law : lawful l.fn.store.script l.store.lists ≡ true;
}
