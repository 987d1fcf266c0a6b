use Rattle.std.proofs.Common.{◌≡◌, drop}
use Rattle.std.specs.Prelude.{◌==◌}
use Rattle.std.specs.List.{list_all}
use Rattle.yard_model.specs.Script.{names_in}
use Rattle.yard_model.specs.SlotReads.{confirmed, queued}
use Rattle.log_resume.proofs.done.is_caught_up.Given as goal

-- what is left tells
abbrev pub invariant-loop-k : goal.invariant-loop-k
invariant-loop-k l = list_all (λ e. confirmed e l.queue.entries == queued e l.queue.entries) (drop l.k (names_in l.queue.script.orders))
    ≡ list_all (λ e. confirmed e l.queue.entries == queued e l.queue.entries) (names_in l.queue.script.orders)
