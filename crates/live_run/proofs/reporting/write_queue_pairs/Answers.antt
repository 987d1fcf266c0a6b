use Rattle.std.proofs.Common.{ap}
use Rattle.yard_model.specs.declared.charter.Config.{Config}
use Rattle.live_run.proofs.PuttingLaws.{puts_same}
use Rattle.live_run.proofs.ReportLaws.{queue_is}
use Rattle.live_run.proofs.reporting.write_queue_pairs.Goals as goal

pub returns : goal.returns
returns g c =
    puts_same c.write_each_pair.result _ _ _ _
    (queue_is c.args.charter.now c.args.places.now c.args.i c.in-Some.p c.config.result.now.shards c.queue_at.result.now c.names.result.now c.in-Some.ensures.value c.requires.low c.requires.high (ap (λ (k : Config). k.shards) c.config.ensures.value) c.queue_at.ensures c.names.ensures.value)
    c.write_each_pair.ensures
