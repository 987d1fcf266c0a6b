use Rattle.std.proofs.Common.{sym, ◌∙◌}
use Rattle.daemon_process.proofs.WatchLaws.{not_of_life}
use Rattle.daemon_process.proofs.watch.Watch.look.Goals as goal

pub returns-then-not-is_of_life : goal.returns-then-not-is_of_life
returns-then-not-is_of_life c = not_of_life c.args.self.now c.args.fact.now (sym c.is_of_life.ensures ∙ c.if-not-is_of_life.true)
