use Rattle.std.proofs.Common.{◌∙◌}
use Rattle.shard_entities.proofs.LoopLaws.{runs_at_place}
use Rattle.shard_entities.proofs.shards.Shards.is_running.Goals as goal

pub returns : goal.returns
returns c = c.has.ensures ∙ runs_at_place c.self.invariant.kept.lodged c.self.view_is c.requires.place
