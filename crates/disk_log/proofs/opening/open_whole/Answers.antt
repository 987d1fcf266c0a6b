use Rattle.std.proofs.Common.{◌≡◌, ◌∙◌, ap, arith, map, subst, sym}
use Rattle.std.proofs.lemmas.Result.{err_from_is_err_and}
use Rattle.disk_log.specs.Window.{Ahead}
use Rattle.disk_log.specs.Rest.{Rests}
use Rattle.disk_log.specs.Spelled.{lines}
use Rattle.disk_log.proofs.GoingLaws.{ahead_new, damaged_front, ended_rests, ended_spells}
use Rattle.disk_log.proofs.opening.open_whole.Goals as goal

pub returns-clause-spelled : goal.returns-clause-spelled
returns-clause-spelled g c told = ended_spells g.D.Disk.tells (g.D.Disk.content c.args.disk.now) _ c.read_batches.new.window.place c.in_ok-batches.batches (ap (λ (w : Ahead). w.place) c.in_ok-window.ensures) c.in_ok-batches.ensures.ends told

pub returns-clause-rests : goal.returns-clause-rests
returns-clause-rests g c =
    let after = g.D.Disk.content c.read_batches.new.disk in
    let images = g.D.Disk.images c.read_batches.new.disk in
    let batches = c.in_ok-batches.batches in
    subst (λ n. Rests g.D.Disk.tells n after images (map lines batches)) (sym (c.at.ensures ∙ c.place-end.ensures))
    (ended_rests g.D.Disk.tells (g.D.Disk.content c.args.disk.now) after images _ c.read_batches.new.window.place batches (ap (λ (w : Ahead). w.place) c.in_ok-window.ensures) c.in_ok-batches.ensures.ends c.read_batches.ensures.untouched.bytes
    (λ told d now. c.requires.durable told d ((c.read_batches.ensures.untouched.now d).0 now)))

pub read_batches-requires-clause-ahead : goal.read_batches-requires-clause-ahead
read_batches-requires-clause-ahead g c = ahead_new g.D.Disk.tells (g.D.Disk.content c.args.disk.now) c.in_ok-window.window c.args.size c.in_ok-window.ensures c.requires.size

pub returns-in_err-batches-clause-damaged : goal.returns-in_err-batches-clause-damaged
returns-in_err-batches-clause-damaged g c at is told =
    let p = err_from_is_err_and c.from_residual-in_err-batches.result c.from_residual-in_err-batches.ensures.1 in
    let one = p.1 in
    let two = p.2 in
    let w : Ahead = c.in_ok-window.window in
    damaged_front (g.D.Disk.content c.args.disk.now) w.place at (ap (λ (v : Ahead). v.place) c.in_ok-window.ensures) (omega (arith, c.requires.long, c.requires.size told)) (c.in_err-batches.ensures.damaged at (cc) told)
