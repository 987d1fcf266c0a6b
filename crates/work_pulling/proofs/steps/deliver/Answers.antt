use Rattle.std.proofs.Common.{ap, ◌∙◌}
use Rattle.std.specs.Option.{option_map}
use Rattle.pull_cluster.specs.Cluster.{parcel_fact}
use Rattle.work_pulling.proofs.TellLaws.{delivered}
use Rattle.work_pulling.proofs.steps.deliver.Goals as goal

pub returns-in_ok-tell_got-in-Some : goal.returns-in_ok-tell_got-in-Some
returns-in_ok-tell_got-in-Some c =
    delivered c.take.result c.args.number c.in-Some.parcel c.args.cluster.now c.tell_got.new.self c.take.new.cluster c.args.out.now c.tell_got.new.out c.take.new.out
    (c.packet.ensures.value ∙ ap (option_map (parcel_fact c.args.cluster.now.script c.args.number)) c.in-Some.is) c.in_ok-tell_got-in-Some.ensures (c.take.ensures c.args.number)
