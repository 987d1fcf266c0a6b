use Rattle.work_pulling.proofs.TellLaws.{came_up}
use Rattle.work_pulling.proofs.steps.up.Goals as goal

pub post-requires : goal.post-requires
post-requires c = came_up c.next_incarnation-who.result c.args.cluster.now c.tell_up.new.self c.args.out.now c.tell_up.new.out c.in_ok-tell_up.ensures
