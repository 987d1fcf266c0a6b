use Rattle.std.proofs.Common.{ap, sym, ◌∙◌}
use Rattle.yard_model.specs.Script.{setting}
use Rattle.yard_model.specs.Setting.{names_of}
use Rattle.live_run.proofs.PuttingLaws.{puts_same}
use Rattle.live_run.proofs.ReportLaws.{own_at, shard_folds, shard_is}
use Rattle.live_run.proofs.reporting.write_shard_entities.Goals as goal

pub write_each_entity-requires-clause-own : goal.write_each_entity-requires-clause-own
write_each_entity-requires-clause-own g c = λ k h. own_at c.args.charter.now c.in-Some.s c.args.names.now k (c.requires.names ∙ ap (names_of (setting c.args.charter.now)) (sym c.in-Some.ensures.value)) h

pub write_each_entity-requires-clause-foldable : goal.write_each_entity-requires-clause-foldable
write_each_entity-requires-clause-foldable g c =
    shard_folds c.args.charter.now c.args.places.now c.args.i c.in-Some.s c.shard_at.result.now c.args.names.now c.in-Some.ensures.value c.requires.shard c.requires.names c.shard_at.ensures c.requires.foldable

pub returns : goal.returns
returns g c =
    puts_same c.write_each_entity.result _ _ _ _
    (shard_is c.args.charter.now c.args.places.now c.args.i c.in-Some.s c.shard_at.result.now c.args.names.now c.in-Some.ensures.value c.requires.shard c.requires.names c.shard_at.ensures) c.write_each_entity.ensures
