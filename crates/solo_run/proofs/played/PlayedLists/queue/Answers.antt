use Rattle.std.proofs.Common.{◌-◌, sym}
use Rattle.yard_model.specs.Words.{numbers}
use Rattle.solo_run.proofs.FactsLaws.{nothing_at}
use Rattle.solo_run.proofs.played.PlayedLists.queue.Goals as goal

pub returns : goal.returns
returns c = sym (nothing_at (numbers 1 c.args.self.now.charter.now.config.producers) (c.args._p - 1))
