use Rattle.std.proofs.Common.{◌≡◌, ◌<◌, ◌+◌, ◌-◌, length, ap, ◌∙◌, refl, arith}
use Rattle.std.specs.Prelude.{[], fold, slice_index_or}
use Rattle.yard_model.specs.World.{number_step}
use Rattle.world_sim.proofs.NumberLaws.{number_more, number_done}
use Rattle.world_sim.proofs.numbers.in_queues.Goals as goal

pub loop-i-init : goal.loop-i-init
loop-i-init g c = refl

pub loop-i-preserved : goal.loop-i-preserved
loop-i-preserved g c =
    let ls = (g.L.Lists.lists c.args.lists.now).queues in
    let all : length ls ≡ c.args.producers = c.requires.producers in
    let less : c.loop-i.i < length ls = omega (arith, all, c.loop-i-test.true) in
    let value : c.in-Some.p ≡ c.loop-i.i + 1 = c.in-Some.ensures.value in
    let place : c.in-Some.p - 1 ≡ c.loop-i.i = omega (arith, value) in
    number_more ls c.args.greatest c.loop-i.greatest c.loop-i.i _ _ less refl
    (c.in_queue-greatest.ensures ∙ (ap (fold number_step c.loop-i.greatest) c.queue.ensures ∙ ap (λ i. fold number_step c.loop-i.greatest (slice_index_or ls i [])) place)) c.loop-i.invariant

pub returns : goal.returns
returns g c =
    let ls = (g.L.Lists.lists c.args.lists.now).queues in
    let all : length ls ≡ c.args.producers = c.requires.producers in
    number_done ls c.args.greatest c.loop-i.greatest c.loop-i.i (omega (arith, all, c.loop-i-test.false)) c.loop-i.invariant
