use Rattle.std.proofs.Common.{◌≤◌}
use Rattle.disk_log.specs.Window.{IsUntouched}
use Rattle.disk_log.proofs.ReadLaws.{Filling}
use Rattle.disk_log.proofs.window.Window.fill.Given as goal

-- each read so far gave a byte at least, where the disk tells its bytes
abbrev pub invariant-loop : goal.invariant-loop
invariant-loop g l = record {
  filling : Filling g.D.Disk.tells (g.D.Disk.content l.fn.disk) l.counter l.fn.self l.self;
  untouched : IsUntouched (g.D.Disk.content l.fn.disk) (g.D.Disk.content l.disk) (g.D.Disk.images l.fn.disk) (g.D.Disk.images l.disk);
  faults : g.D.Disk.faults l.fn.disk ≤ g.D.Disk.faults l.disk;
}
