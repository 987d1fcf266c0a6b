use Rattle.std.proofs.Common.{ap, sym, ◌∙◌}
use Rattle.yard_model.specs.Entities.{Cell}
use Rattle.shard_entities.proofs.LodgedLaws.{cell_at, cell_read}
use Rattle.shard_entities.proofs.shards.Shards.phase.Goals as goal

pub returns : goal.returns
returns c = c.phase.ensures ∙ sym (ap (λ (x : Cell). x.phase) (cell_at c.self.invariant.kept.lodged c.self.view_is c.requires.place (cell_read c.self.invariant.kept.lodged c.self.view_is c.requires.place)))
