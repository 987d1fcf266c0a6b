use Rattle.std.proofs.Common.{ap, ◌∙◌, arith, map, refl, Vec, Global}
use Rattle.std.specs.Prelude.{◌==◌, filter}
use Rattle.std.proofs.lemmas.List.{take_all, length-map}
use Rattle.yard_model.specs.declared.name.EntityName.{EntityName}
use Rattle.yard_model.specs.Shard.{shard}
use Rattle.trace_text.proofs.ShardLaws.{parted_more}
use Rattle.trace_text.proofs.shards.parted.Goals as goal

pub loop-name-preserved : goal.loop-name-preserved
loop-name-preserved c = record {
  names = λ s h. parted_more (shard c.args.shards) c.args.names.now c.loop-name.name-index (shard c.args.shards c.name-item.result) s c.args.shards c.name-item.result
      (map (λ (v : Vec EntityName Global). v.items) c.loop-name.all.items) (map (λ (v : Vec EntityName Global). v.items) c.add_name.new.all.items) (omega arith) c.name-item.is refl
      (length-map c.loop-name.all.items (λ (v : Vec EntityName Global). v.items) ∙ c.loop-name.invariant.length) c.add_name.ensures.within c.in_ok-add_name.ensures.names c.loop-name.invariant.names h;
  length = c.in_ok-add_name.ensures.length;
}

pub returns-clause-names : goal.returns-clause-names
returns-clause-names c = λ s h. c.loop-name.invariant.names s h ∙ ap (filter (λ e. shard c.args.shards e == s)) (take_all c.loop-name.name-index c.args.names.now (omega arith))
