use Rattle.std.proofs.Common.{sym, ap, ◌∙◌}
use Rattle.std.specs.Prelude.{Some}
use Rattle.node_runner.proofs.Confirming.{recorded_in}
use Rattle.node_runner.proofs.record.is_recorded.Goals as goal

pub returns-in-Some : goal.returns-in-Some
returns-in-Some g c = λ e. recorded_in c.args.shard c.args.confirmed.now c.args.node.now.state c.shard_ref.result.now.entries (c.in-Some.ensures.store ∙ ap Some (sym c.shard_ref.ensures.entries)) (sym c.is_in_journal.ensures ∙ e)
