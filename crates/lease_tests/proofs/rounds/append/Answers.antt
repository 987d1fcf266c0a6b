use Rattle.std.proofs.Common.{rules}
use Rattle.lease_tests.proofs.RoundLaws.{came}
use Rattle.lease_tests.proofs.rounds.append.Goals as goal

pub returns : goal.returns
returns c = came c.args.store c.in-Coordinator.store c.reserve.new.self c.registered.new.self c.terminated.new.self c.args.who c.in-Coordinator.is c.requires.limit c.reserve.ensures.script c.reserve.ensures.entries (search rules)
    c.registered.ensures.script c.registered.ensures.entries c.registered.ensures.spare c.terminated.ensures.script c.terminated.ensures.entries c.terminated.ensures.spare
