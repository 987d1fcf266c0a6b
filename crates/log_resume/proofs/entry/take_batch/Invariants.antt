use Rattle.std.proofs.Common.{◌≡◌, ◌++◌, List, take}
use Rattle.yard_model.specs.declared.fact.Fact.{Fact}
use Rattle.log_resume.specs.Taken.{Stands}
use Rattle.log_resume.proofs.entry.take_batch.Given as goal

-- the entries so far stand behind those before
abbrev pub invariant-loop-fact : goal.invariant-loop-fact
invariant-loop-fact l = record {
  script : l.slots.script ≡ l.fn.slots.script;
  stands : (before : List Fact) → Stands l.fn.slots.script before l.fn.slots.lists → Stands l.fn.slots.script (before ++ take l.fact-index l.facts) l.slots.lists;
}
