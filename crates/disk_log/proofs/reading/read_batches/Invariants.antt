use Rattle.std.proofs.Common.{◌≤◌, ◌-◌, ◌+◌}
use Rattle.std.specs.Prelude.{if◌then◌else◌}
use Rattle.disk_log.specs.Kept.{AreKept, cut}
use Rattle.disk_log.specs.Window.{IsUntouched}
use Rattle.disk_log.proofs.GoingLaws.{Going}
use Rattle.disk_log.proofs.reading.read_batches.Given as goal

-- the batches so far, and whether a gate is to be read
abbrev pub invariant-loop-more : goal.invariant-loop-more
invariant-loop-more g l = record {
  going : Going g.D.Disk.tells (g.D.Disk.content l.fn.disk) l.fn.window.place l.window (cut 0 l.ends.items l.facts) l.more;
  kept : AreKept l.ends.items l.facts;
  untouched : IsUntouched (g.D.Disk.content l.fn.disk) (g.D.Disk.content l.disk) (g.D.Disk.images l.fn.disk) (g.D.Disk.images l.disk);
  faults : g.D.Disk.faults l.fn.disk ≤ g.D.Disk.faults l.disk;
}

abbrev pub decreases-loop-more : goal.decreases-loop-more
decreases-loop-more g l = if l.more then l.window.size - l.window.place + 1 else 0
