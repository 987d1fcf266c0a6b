use Rattle.lease_table.specs.Belongs.{id_of}
use Rattle.lease_tests.proofs.HoldLaws.{same_holds}
use Rattle.lease_tests.proofs.passes.give.Goals as goal

pub give_back-requires-clause-holding : goal.give_back-requires-clause-holding
give_back-requires-clause-holding c = same_holds (id_of c.args.table.now) c.args.who.node c.args.slot c.args.store c.reserve.new.self c.args.pass c.requires.holding c.reserve.ensures.script c.reserve.ensures.slot c.reserve.ensures.entries
