use Rattle.std.proofs.Common.{◌≡◌, [], map, sym, ◌∙◌, ap, subst}
use Rattle.disk_log.specs.Rest.{Rests}
use Rattle.disk_log.specs.Spelled.{lines}
use Rattle.disk_log.specs.Window.{IsAhead}
use Rattle.disk_log.proofs.GoingLaws.{ahead_new}
use Rattle.disk_log.proofs.HeadLaws.{if_none, none_rests}
use Rattle.disk_log.proofs.headed.open_written.Goals as goal

pub read_head-requires-clause-ahead : goal.read_head-requires-clause-ahead
read_head-requires-clause-ahead g c = ahead_new g.D.Disk.tells (g.D.Disk.content c.args.disk.now) c.in_ok-window.window c.args.size c.in_ok-window.ensures c.requires.size

pub returns-clause-rests : goal.returns-clause-rests
returns-clause-rests g c =
    let after = g.D.Disk.content c.read_head.new.disk in
    let images = g.D.Disk.images c.read_head.new.disk in
    subst (λ n. Rests g.D.Disk.tells n after images (map lines c.new-in-None.result)) (sym c.at.ensures)
    (subst (λ bs. Rests g.D.Disk.tells 0 after images (map lines bs)) (sym c.new-in-None.ensures)
    (none_rests g.D.Disk.tells (g.D.Disk.content c.args.disk.now) after images (if_none _ _ c.in-None.is c.in_ok-head.ensures.none) c.read_head.ensures.untouched.bytes
    (λ told d now. c.requires.durable told d ((c.read_head.ensures.untouched.now d).0 now))))
