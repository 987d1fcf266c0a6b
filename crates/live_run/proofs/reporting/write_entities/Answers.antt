use Rattle.std.proofs.Common.{◌≡◌, ◌<◌, ◌∙◌, [], ap, length, sym, arith}
use Rattle.std.specs.Prelude.{map}
use Rattle.std.proofs.lemmas.List.{get_or-map, length-map}
use Rattle.yard_model.specs.declared.charter.Config.{Config}
use Rattle.yard_model.specs.Script.{setting}
use Rattle.shard_store.specs.Stores.{lists_at}
use Rattle.trace_text.specs.Foldable.{is_foldable_shard}
use Rattle.trace_text.specs.Parts.{shard_part}
use Rattle.trace_text.proofs.RowLaws.{all_below}
use Rattle.live_run.proofs.PuttingLaws.{numbers_all, numbers_began, numbers_next, puts_err}
use Rattle.live_run.proofs.reporting.write_entities.Goals as goal

pub write_shard_entities-requires-clause-names : goal.write_shard_entities-requires-clause-names
write_shard_entities-requires-clause-names g c =
    let same : c.config.result.now.shards ≡ c.args.charter.now.config.shards = ap (λ (k : Config). k.shards) c.config.ensures.value in
    let count : length (map (λ v. v.items) c.args.names.now) ≡ c.args.charter.now.config.shards = c.requires.names.count in
    let long : length (map (λ v. v.items) c.args.names.now) ≡ length c.args.names.now = length-map c.args.names.now (λ v. v.items) in
    let within : c.loop-i.i < c.args.charter.now.config.shards = omega arith in
    let inside : c.loop-i.i < length c.args.names.now = omega (arith, count, long, within) in
    c.as_slice.ensures.value
    ∙ (ap (λ v. v.items) c.index-names-i.is
    ∙ (sym (get_or-map (λ v. v.items) c.args.names.now c.loop-i.i c.index-names-i.result [] inside) ∙ c.requires.names.own c.loop-i.i within))

pub write_shard_entities-requires-clause-foldable : goal.write_shard_entities-requires-clause-foldable
write_shard_entities-requires-clause-foldable g c =
    let same : c.config.result.now.shards ≡ c.args.charter.now.config.shards = ap (λ (k : Config). k.shards) c.config.ensures.value in
    all_below (is_foldable_shard (setting c.args.charter.now) (lists_at c.args.charter.now.config c.args.places.now)) c.args.charter.now.config.shards c.loop-i.i c.requires.foldable (omega arith)

pub loop-i-preserved : goal.loop-i-preserved
loop-i-preserved g c =
    let same : c.config.result.now.shards ≡ c.args.charter.now.config.shards = ap (λ (k : Config). k.shards) c.config.ensures.value in
    record {
      took = numbers_next (shard_part (setting c.args.charter.now) (lists_at c.args.charter.now.config c.args.places.now)) 0 c.loop-i.i c.loop-i.i _ _ _ (omega arith) c.loop-i.invariant.took c.in_ok-write_shard_entities.ensures;
      within = omega arith;
    }

pub returns : goal.returns
returns g c =
    let same : c.config.result.now.shards ≡ c.args.charter.now.config.shards = ap (λ (k : Config). k.shards) c.config.ensures.value in
    numbers_all (shard_part (setting c.args.charter.now) (lists_at c.args.charter.now.config c.args.places.now)) 0 c.loop-i.i c.args.charter.now.config.shards _ _ (omega (arith, c.loop-i.invariant.within)) c.loop-i.invariant.took

pub returns-in_err-write_shard_entities : goal.returns-in_err-write_shard_entities
returns-in_err-write_shard_entities g c =
    let same : c.config.result.now.shards ≡ c.args.charter.now.config.shards = ap (λ (k : Config). k.shards) c.config.ensures.value in
    puts_err c.from_residual.result _ _ _ c.from_residual.ensures.0
    (numbers_began (shard_part (setting c.args.charter.now) (lists_at c.args.charter.now.config c.args.places.now)) 0 c.loop-i.i c.args.charter.now.config.shards c.loop-i.i _ _ _ (omega arith) (omega arith) c.loop-i.invariant.took c.in_err-write_shard_entities.ensures)
