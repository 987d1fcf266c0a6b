use Rattle.disk_log.proofs.ReplayLaws.{shows_all, shows_more}
use Rattle.disk_log.proofs.replay.Replay.of.Goals as goal

pub loop-call-preserved : goal.loop-call-preserved
loop-call-preserved c =
    shows_more c.loop-call.replay c.take.new.self c.args.first.now c.args.calls.now c.loop-call.call-index c.call-item.result c.loop-call-test.true c.call-item.is c.loop-call.invariant c.in_ok-take.ensures

pub returns : goal.returns
returns c = shows_all c.loop-call.replay c.args.first.now c.args.calls.now c.loop-call.call-index c.loop-call-test.false c.loop-call.invariant
