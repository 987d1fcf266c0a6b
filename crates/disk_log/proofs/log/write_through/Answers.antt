use Rattle.std.proofs.Common.{length}
use Rattle.disk_log.proofs.WriteLaws.{synced_too, torn_leaves}
use Rattle.disk_log.proofs.log.write_through.Goals as goal

pub returns-in_err-write_at-clause-any_moment : goal.returns-in_err-write_at-clause-any_moment
returns-in_err-write_at-clause-any_moment g c xs only =
    torn_leaves c.args.at (length c.args.piece.now) xs (g.D.Disk.images c.args.disk.now) (g.D.Disk.images c.write_at.new.self) (g.met.D.Disk.timed c.args.disk.now) c.write_at.ensures.crash c.write_at.ensures.time only

pub returns-in_err-sync-clause-any_moment : goal.returns-in_err-sync-clause-any_moment
returns-in_err-sync-clause-any_moment g c xs only =
    synced_too _ _ (g.D.Disk.images c.sync.new.self) (g.met.D.Disk.timed c.write_at.new.self)
    (torn_leaves c.args.at (length c.args.piece.now) xs (g.D.Disk.images c.args.disk.now) (g.D.Disk.images c.write_at.new.self) (g.met.D.Disk.timed c.args.disk.now) c.write_at.ensures.crash c.write_at.ensures.time only)
    c.sync.ensures.crash c.sync.ensures.time

pub returns-clause-any_moment : goal.returns-clause-any_moment
returns-clause-any_moment g c xs only =
    synced_too _ _ (g.D.Disk.images c.sync.new.self) (g.met.D.Disk.timed c.write_at.new.self)
    (torn_leaves c.args.at (length c.args.piece.now) xs (g.D.Disk.images c.args.disk.now) (g.D.Disk.images c.write_at.new.self) (g.met.D.Disk.timed c.args.disk.now) c.write_at.ensures.crash c.write_at.ensures.time only)
    c.sync.ensures.crash c.sync.ensures.time
