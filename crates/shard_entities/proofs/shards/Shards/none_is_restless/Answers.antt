use Rattle.std.proofs.lemmas.Bool.{leb-true}
use Rattle.shard_entities.proofs.RestlessLaws.{tick_silent}
use Rattle.shard_entities.proofs.shards.Shards.none_is_restless.Goals as goal

pub returns : goal.returns
returns c = λ none. tick_silent c.self.invariant.kept.lodged c.self.invariant.restless c.self.view_is c.total.ensures c.next.ensures.between (leb-true c.total.result c.next.result none)
