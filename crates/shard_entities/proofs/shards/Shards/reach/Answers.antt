use Rattle.std.proofs.Common.{◌-◌, ap, sym, ◌∙◌}
use Rattle.std.specs.Prelude.{slice_index_or}
use Rattle.yard_model.specs.Entities.{Cell}
use Rattle.shard_entities.proofs.LodgedLaws.{cell_at, cell_read, reach_inside}
use Rattle.shard_entities.proofs.shards.Shards.reach.Goals as goal

pub reach-requires-clause-producer : goal.reach-requires-clause-producer
reach-requires-clause-producer c = reach_inside c.args.p c.self.invariant.kept.lodged c.self.view_is c.requires.place c.requires.producer

pub returns : goal.returns
returns c = c.reach.ensures ∙ sym (ap (λ (x : Cell). slice_index_or x.reach (c.args.p - 1) 0) (cell_at c.self.invariant.kept.lodged c.self.view_is c.requires.place (cell_read c.self.invariant.kept.lodged c.self.view_is c.requires.place)))
