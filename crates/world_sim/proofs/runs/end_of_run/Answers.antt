use Rattle.std.proofs.Common.{subst}
use Rattle.world_sim.proofs.RunLaws.{EndsAt, run_ends}
use Rattle.world_sim.proofs.runs.end_of_run.Goals as goal

pub returns-in-Some-clause-within : goal.returns-in-Some-clause-within
returns-in-Some-clause-within c = (subst (EndsAt c.args.wire.now.marked c.args.from c.args.count) c.in-Some.is (run_ends c.args.wire.now.marked c.args.from c.args.count c.next_fresh.result c.requires.within c.requires.same c.next_fresh.ensures)).1.within

pub returns-in-Some-clause-marked : goal.returns-in-Some-clause-marked
returns-in-Some-clause-marked c = (subst (EndsAt c.args.wire.now.marked c.args.from c.args.count) c.in-Some.is (run_ends c.args.wire.now.marked c.args.from c.args.count c.next_fresh.result c.requires.within c.requires.same c.next_fresh.ensures)).1.marked_are

pub returns-in-None-clause-marked : goal.returns-in-None-clause-marked
returns-in-None-clause-marked c = (subst (EndsAt c.args.wire.now.marked c.args.from c.args.count) c.in-None.is (run_ends c.args.wire.now.marked c.args.from c.args.count c.next_fresh.result c.requires.within c.requires.same c.next_fresh.ensures)).marked_are
