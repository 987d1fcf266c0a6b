use Rattle.std.proofs.Common.{◌≡◌, ap, refl, arith}
use Rattle.yard_model.specs.declared.charter.Config.{Config}
use Rattle.world_sim.proofs.SentLaws.{sent_more, sent_all}
use Rattle.world_sim.proofs.sent.all_sent.Goals as goal

pub loop-i-init : goal.loop-i-init
loop-i-init c = c.new-counts.ensures.items

pub loop-i-preserved : goal.loop-i-preserved
loop-i-preserved c = sent_more c.args.charter.now _ _ c.loop-i.i _ c.in-Some.p _ c.loop-i.invariant c.in_ok-push.ensures.items c.in-Some.ensures.value c.sent.ensures refl

pub returns : goal.returns
returns c =
    let count : c.config.result.now.producers ≡ c.args.charter.now.config.producers = ap (λ (x : Config). x.producers) c.config.ensures.value in
    let most = c.loop-i.auto.i-end in
    sent_all c.args.charter.now c.loop-i.counts.items c.loop-i.i (omega (arith, count, most, c.loop-i-test.false)) c.loop-i.invariant
