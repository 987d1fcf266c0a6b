use Rattle.std.proofs.Common.{◌≡◌, ◌*◌, ◌≤◌, ◌<◌, ◌∙◌, length, arith, subst, refl}
use Rattle.yard_model.specs.declared.charter.Config.{Config}
use Rattle.yard_model.specs.Script.{setting}
use Rattle.yard_model.specs.Setting.{names_of}
use Rattle.shard_entities.specs.Placed.{start_of}
use Rattle.shard_entities.proofs.OrderLaws.{counted_whole, shard_few, starts_none, starts_more, start_more, start_few}
use Rattle.shard_entities.proofs.PlacesLaws.{shards_most}
use Rattle.shard_entities.proofs.places.all_starts.Goals as goal

pub loop-s-init : goal.loop-s-init
loop-s-init c = (starts_none (setting c.args.charter.now) c.in_ok-starts.starts.items c.in_ok-starts.ensures.items, refl)

pub overflow_add-start : goal.overflow_add-start
overflow_add-start c =
    let most : c.args.charter.now.config.shards ≤ 128 = shards_most c.args.charter.now c.config.ensures.script in
    let last : c.loop-s.s < c.args.charter.now.config.shards = subst (λ (k : Config). c.loop-s.s < k.shards) c.config.ensures.value c.loop-s-test.true in
    let fits : c.loop-s.s < 128 = omega (arith, most, last) in
    let count : c.from-start.result ≡ length (names_of (setting c.args.charter.now) c.loop-s.s) = c.from-start.ensures ∙ counted_whole c.args.charter.now c.args.counts.now c.loop-s.s c.requires fits in
    let few : length (names_of (setting c.args.charter.now) c.loop-s.s) ≤ 1000 = shard_few c.args.charter.now c.loop-s.s c.config.ensures.script in
    let start : start_of (setting c.args.charter.now) c.loop-s.s ≤ 1000 * c.loop-s.s = start_few c.args.charter.now c.loop-s.s c.config.ensures.script in
    let is : c.loop-s.start ≡ start_of (setting c.args.charter.now) c.loop-s.s = c.loop-s.invariant.1 in
    omega (arith, fits, count, few, start, is)

pub loop-s-preserved : goal.loop-s-preserved
loop-s-preserved c =
    let most : c.args.charter.now.config.shards ≤ 128 = shards_most c.args.charter.now c.config.ensures.script in
    let last : c.loop-s.s < c.args.charter.now.config.shards = subst (λ (k : Config). c.loop-s.s < k.shards) c.config.ensures.value c.loop-s-test.true in (
      starts_more (setting c.args.charter.now) c.loop-s.s c.loop-s.start c.loop-s.starts.items c.push.new.self.items c.loop-s.invariant.0 c.loop-s.invariant.1 c.in_ok-push.ensures.items,
      start_more c.args.charter.now c.args.counts.now c.loop-s.s c.loop-s.start c.requires (omega (arith, most, last)) c.from-start.ensures c.loop-s.invariant.1,
    )
