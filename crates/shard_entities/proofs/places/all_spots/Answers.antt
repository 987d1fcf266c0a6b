use Rattle.std.proofs.Common.{◌≤◌, ◌<◌, length, subst, sym, arith, refl, slice_index_or, ◌≡◌, ap, ◌∙◌}
use Rattle.std.proofs.lemmas.Result.{IfOk-from_err}
use Rattle.yard_model.specs.declared.charter.Config.{Config}
use Rattle.yard_model.specs.Script.{names_in}
use Rattle.yard_model.specs.Shard.{shard}
use Rattle.shard_entities.specs.Placed.{AreFirst, AreCounts}
use Rattle.shard_entities.proofs.PlacesLaws.{next, count_fits, all_passed, first_of, counts_of, shards_most, shards_some}
use Rattle.shard_entities.proofs.places.all_spots.Goals as goal

pub loop-at-init : goal.loop-at-init
loop-at-init c = (first_of c.args.charter.now c.in_ok-spots.spots.items c.in_ok-spots.ensures.items, counts_of c.args.charter.now c.args.counts.now c.requires.none)

pub overflow_add-counts : goal.overflow_add-counts
overflow_add-counts c =
    let few : slice_index_or c.loop-at.counts c.get.result 0 ≤ c.loop-at.at = count_fits c.args.charter.now c.loop-at.at c.loop-at.counts c.get.result (slice_index_or c.loop-at.counts c.get.result 0) c.loop-at.invariant.1 (subst (λ n. n < 128) (sym c.get.ensures.value) c.get.ensures.range) refl in
    let below : c.loop-at.at < length c.names-names.result.now = c.loop-at-test.true in
    let all : length c.names-names.result.now ≡ length (names_in c.args.charter.now.orders) = ap length c.names-names.ensures.value in
    let most : length (names_in c.args.charter.now.orders) ≤ 1000 = c.config.ensures.script.names in
    omega (arith, few, below, all, most)

pub loop-at-preserved : goal.loop-at-preserved
loop-at-preserved c = next c.args.charter.now c.loop-at.at c.names-names.result.now c.loop-at.spots.items c.push.new.self.items c.loop-at.counts c.index-names-at.result c.shard_of-shard.result c.get.result c.get-in-loop-at.result c.config.ensures.script c.loop-at.invariant c.names-names.ensures.value c.names-names.ensures.sorted c.loop-at-test.true c.index-names-at.is (c.shard_of-shard.ensures ∙ ap (λ (k : Config). shard k.shards c.index-names-at.result) c.config.ensures.value) c.get.ensures.value c.get-in-loop-at.ensures.value c.get.ensures.range c.in_ok-push.ensures.items

pub shard_of-shard-requires-clause-some : goal.shard_of-shard-requires-clause-some
shard_of-shard-requires-clause-some c = subst (λ (k : Config). 1 ≤ k.shards) (sym c.config.ensures.value) ((let some : 0 < c.args.charter.now.config.shards = shards_some c.args.charter.now c.config.ensures.script in omega (arith, some)))

pub shard_of-shard-requires-clause-most : goal.shard_of-shard-requires-clause-most
shard_of-shard-requires-clause-most c = subst (λ (k : Config). k.shards ≤ 128) (sym c.config.ensures.value) (shards_most c.args.charter.now c.config.ensures.script)

pub bounds-names-at : goal.bounds-names-at
bounds-names-at c = c.loop-at-test.true

pub bounds-counts-get : goal.bounds-counts-get
bounds-counts-get c = subst (λ n. n < 128) (sym c.get.ensures.value) c.get.ensures.range

pub bounds-counts-get-in-loop-at : goal.bounds-counts-get-in-loop-at
bounds-counts-get-in-loop-at c = subst (λ n. n < 128) (sym c.get-in-loop-at.ensures.value) c.get-in-loop-at.ensures.range

pub returns-in_err-spots-clause-spots : goal.returns-in_err-spots-clause-spots
returns-in_err-spots-clause-spots c = IfOk-from_err c.from_residual.result _ c.from_residual.ensures.0

pub returns-in_err-spots-clause-counts : goal.returns-in_err-spots-clause-counts
returns-in_err-spots-clause-counts c = IfOk-from_err c.from_residual.result _ c.from_residual.ensures.0

pub returns-in_err-push-clause-spots : goal.returns-in_err-push-clause-spots
returns-in_err-push-clause-spots c = IfOk-from_err c.from_residual-in_err-push.result _ c.from_residual-in_err-push.ensures.0

pub returns-in_err-push-clause-counts : goal.returns-in_err-push-clause-counts
returns-in_err-push-clause-counts c = IfOk-from_err c.from_residual-in_err-push.result _ c.from_residual-in_err-push.ensures.0

pub returns-clause-spots : goal.returns-clause-spots
returns-clause-spots c = subst (λ n. AreFirst c.args.charter.now n c.loop-at.spots.items) (all_passed c.args.charter.now c.loop-at.at c.names-names.result.now c.names-names.ensures.value c.loop-at-test.false c.loop-at.auto.at-end) c.loop-at.invariant.0

pub returns-clause-counts : goal.returns-clause-counts
returns-clause-counts c = subst (λ n. AreCounts c.args.charter.now n c.loop-at.counts) (all_passed c.args.charter.now c.loop-at.at c.names-names.result.now c.names-names.ensures.value c.loop-at-test.false c.loop-at.auto.at-end) c.loop-at.invariant.1
