use Rattle.std.proofs.Common.{◌≡◌, ◌<◌, length, ap, ◌∙◌, refl, arith}
use Rattle.std.specs.Prelude.{[], fold, slice_index_or}
use Rattle.yard_model.specs.World.{number_step}
use Rattle.world_sim.proofs.NumberLaws.{number_more, number_done}
use Rattle.world_sim.proofs.numbers.in_shards.Goals as goal

pub loop-i-init : goal.loop-i-init
loop-i-init g c = refl

pub loop-i-preserved : goal.loop-i-preserved
loop-i-preserved g c =
    let ls = (g.L.Lists.lists c.args.lists.now).shards in
    let all : length ls ≡ c.args.shards = c.requires.shards in
    let less : c.loop-i.i < length ls = omega (arith, all, c.loop-i-test.true) in
    number_more ls 0 c.loop-i.greatest c.loop-i.i _ _ less refl
    (c.in_shard-greatest.ensures ∙ (ap (fold number_step c.loop-i.greatest) c.shard.ensures ∙ ap (λ i. fold number_step c.loop-i.greatest (slice_index_or ls i [])) c.in-Some.ensures.value)) c.loop-i.invariant

pub returns : goal.returns
returns g c =
    let ls = (g.L.Lists.lists c.args.lists.now).shards in
    let all : length ls ≡ c.args.shards = c.requires.shards in
    number_done ls 0 c.loop-i.greatest c.loop-i.i (omega (arith, all, c.loop-i-test.false)) c.loop-i.invariant
