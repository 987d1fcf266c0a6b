use Rattle.lease_table.specs.Belongs.{id_of}
use Rattle.embedding.proofs.HoldLaws.{same_holds}
use Rattle.embedding.proofs.turns.turn.Goals as goal

pub announce-requires-clause-holding : goal.announce-requires-clause-holding
announce-requires-clause-holding c =
    let same = c.in_ok-store-in-Granted.ensures.same in
    same_holds (id_of c.args.table.now) c.args.who.node c.in-Granted.store c.in_ok-store-in-Granted.store c.ask.new.pass c.in-Granted.ensures same.0 same.1 same.2
