use Rattle.lease_table.specs.Belongs.{id_of, charter_of}
use Rattle.node_runner.specs.Mailed.{IsSameHolder}
use Rattle.node_runner.specs.OnWay.{OnWay}
use Rattle.node_runner.specs.Posts.{IsGenuineTray}
use Rattle.node_runner.proofs.worker.run_turns.Given as goal

abbrev pub invariant-loop-turn : goal.invariant-loop-turn
invariant-loop-turn g l = record {
  on_way : OnWay (id_of l.table) (charter_of l.table) l.fn.me l.turn l.place.pass l.place.node l.course.next l.course.orders l.course.idle;
  kept : IsSameHolder l.fn.mail.pass l.mail.pass;
  genuine : IsGenuineTray (charter_of l.table) l.tray;
}
