use Rattle.std.proofs.Common.{◌≡◌, ◌≤◌, length, arith}
use Rattle.yard_model.specs.Entities.{cell}
use Rattle.shard_entities.proofs.LoopLaws.{idle_settled}
use Rattle.shard_entities.proofs.WalkLaws.{on_of, stay, starts_settled}
use Rattle.shard_entities.proofs.shards.Shards.start_where_stashed.Goals as goal

pub returns-then-stashed-gt0-clause-settled : goal.returns-then-stashed-gt0-clause-settled
returns-then-stashed-gt0-clause-settled c = starts_settled (on_of c.knows.ensures c.requires.place) c.requires.settled c.requires.there c.start_entity.ensures.state

pub returns-else-stashed-gt0-clause-settled : goal.returns-else-stashed-gt0-clause-settled
returns-else-stashed-gt0-clause-settled c = idle_settled c.requires.settled (stay (on_of c.knows.ensures c.requires.place)) c.requires.gone (let none : c.stashed.result ≤ 0 = c.if-stashed-gt0.false in let count : c.stashed.result ≡ length (cell c.args.self.now.state c.args.place.now.entity).stash = c.stashed.ensures.count in omega (arith, none, count))
