use Rattle.std.proofs.Common.{ap, sym, ◌∙◌}
use Rattle.yard_model.specs.Entities.{Cell}
use Rattle.shard_entities.proofs.LodgedLaws.{cell_at, cell_read}
use Rattle.shard_entities.proofs.shards.Shards.is_passivating.Goals as goal

pub returns : goal.returns
returns c = c.is_passivating.ensures ∙ sym (ap (λ (x : Cell). x.passivating) (cell_at c.self.invariant.kept.lodged c.self.view_is c.requires.place (cell_read c.self.invariant.kept.lodged c.self.view_is c.requires.place)))
