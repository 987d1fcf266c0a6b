use Rattle.std.proofs.Common.{refl}
use Rattle.log_orders.specs.Orders.{batch_of}
use Rattle.log_orders.proofs.GatherLaws.{leaves_none}
use Rattle.logged_lines.proofs.TellLaws.{order_unlogged, rests_prefix}
use Rattle.world_sim.specs.Played.{next_of}
use Rattle.replay_run.proofs.log.log_next.Goals as goal

pub returns-in_err-goes_on-clause-any_moment : goal.returns-in_err-goes_on-clause-any_moment
returns-in_err-goes_on-clause-any_moment g c done rests told =
    leaves_none (g.D.Disk.images c.args.disk.now) (g.met.D.Disk.timed c.args.disk.now)
    (rests_prefix g.D.Disk.tells c.args.log (g.D.Disk.content c.args.disk.now) (g.D.Disk.images c.args.disk.now) done
    (batch_of (next_of c.args.world.now.script c.args.world.now.count c.args.line.now).facts) rests told)

pub returns-in_err-goes_on-clause-at_exit : goal.returns-in_err-goes_on-clause-at_exit
returns-in_err-goes_on-clause-at_exit g c done rests told =
    order_unlogged (next_of c.args.world.now.script c.args.world.now.count c.args.line.now).facts done _ _ (g.D.Disk.images c.args.disk.now) refl
    (rests_prefix g.D.Disk.tells c.args.log (g.D.Disk.content c.args.disk.now) (g.D.Disk.images c.args.disk.now) done
    (batch_of (next_of c.args.world.now.script c.args.world.now.count c.args.line.now).facts) rests told)
