use Rattle.lease_table.specs.Belongs.{id_of}
use Rattle.lease_tests.proofs.HoldLaws.{wrote_holds}
use Rattle.yard_model.specs.declared.incarnation.Slot.TheVariants as slot
use Rattle.lease_tests.proofs.rounds.round.Goals as goal

pub give_back-requires-clause-holding : goal.give_back-requires-clause-holding
give_back-requires-clause-holding c = wrote_holds (id_of c.args.table.now) c.args.who.node slot.Coordinator c.in-Granted.store c.in_ok-store-in-Granted.store c.ask.new.pass c.in-Granted.ensures c.in_ok-store-in-Granted.ensures
