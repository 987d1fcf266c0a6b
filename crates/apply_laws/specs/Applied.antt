-- What a run of `apply` puts behind a log.
use Rattle.std.specs.Prelude.{Bool, List, [], ◌++◌, if◌then◌else◌}
use Rattle.yard_model.specs.declared.fact.Fact.{Fact}
use Rattle.yard_model.specs.Script.{Script}
use Rattle.yard_model.specs.Settled.{settled}
use Rattle.yard_model.specs.World.{all_sends, settled_from}
use Rattle.log_resume.specs.Restored.{restored}
use Rattle.log_orders.specs.Orders.{if_any, listed}
pub use Rattle.log_resume.specs.Left.{free_if, frees, is_confirmed_all, lists_in}

-- all sends of the script are queued, recorded and confirmed
abbrev pub is_done : Script → List (List Fact) → Bool
is_done c log = settled c (all_sends c) (lists_in c log)

-- nothing where that is so; else what was held is freed, all starts anew on node 1, and settles
abbrev pub carried_out : Script → List (List Fact) → List Fact
carried_out c log = if is_done c log then [] else frees c (lists_in c log) ++ listed (settled_from c 1 (restored c log)).facts

-- as one batch, if there is anything
abbrev pub applied : Script → List (List Fact) → List (List Fact)
applied c log = if_any (carried_out c log)

-- the log behind a run
abbrev pub log_after : Script → List (List Fact) → List (List Fact)
log_after c log = log ++ applied c log
