use Rattle.lease_table.specs.Belongs.{id_of}
use Rattle.lease_table.proofs.Dealt.{Dealing}
use Rattle.lease_table.proofs.table.LeaseTable.deal.Given as goal

abbrev pub invariant-loop-left : goal.invariant-loop-left
invariant-loop-left l = Dealing (id_of l.self) l.charter l.fn.seat.me.0.seen l.left l.seat.table_id l.seat.me l.passes.items

abbrev pub decreases-loop-left : goal.decreases-loop-left
decreases-loop-left l = l.left
