use Rattle.std.proofs.Common.{◌≡◌, ◌≤◌, ◌++◌}
use Rattle.disk_log.specs.Window.{IsUntouched}
use Rattle.disk_log.proofs.KeptLaws.{read_of}
use Rattle.disk_log.proofs.ReadLaws.{SoFar}
use Rattle.disk_log.proofs.reading.read_facts.Given as goal

-- these entries were read behind those before, and so many bytes are left of the text
abbrev pub invariant-loop-left : goal.invariant-loop-left
invariant-loop-left g l = record {
  are : l.facts ≡ l.fn.facts ++ read_of l.fn.facts l.facts;
  so_far : SoFar g.D.Disk.tells (g.D.Disk.content l.fn.disk) l.size l.left l.fn.window l.window (read_of l.fn.facts l.facts);
  untouched : IsUntouched (g.D.Disk.content l.fn.disk) (g.D.Disk.content l.disk) (g.D.Disk.images l.fn.disk) (g.D.Disk.images l.disk);
  faults : g.D.Disk.faults l.fn.disk ≤ g.D.Disk.faults l.disk;
}

abbrev pub decreases-loop-left : goal.decreases-loop-left
decreases-loop-left g l = l.left
