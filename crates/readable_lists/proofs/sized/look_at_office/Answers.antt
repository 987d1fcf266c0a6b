use Rattle.std.proofs.Common.{arith}
use Rattle.yard_model.specs.declared.entry.CoordEntry.TheVariants as coord
use Rattle.yard_model.specs.declared.incarnation.Slot.TheVariants as slot
use Rattle.yard_model.specs.Entry.{coord_fact}
use Rattle.readable_lists.proofs.SizedLaws.{list_of}
use Rattle.readable_lists.proofs.sized.look_at_office.Goals as goal

pub returns : goal.returns
returns c = list_of slot.Coordinator coord_fact c.args.list.now (coord.Deallocated 0) (omega arith) (λ k l. c.loop-i.invariant k (omega (arith, l)))
