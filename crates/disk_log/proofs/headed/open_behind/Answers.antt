use Rattle.std.proofs.Common.{◌≡◌, ◌∷◌, inr, map, sym, ◌∙◌, subst}
use Rattle.std.specs.Prelude.{Some}
use Rattle.std.proofs.lemmas.Result.{err_from_is_err_and}
use Rattle.disk_log.specs.declared.headed.HeadedFault.TheVariants as headed
use Rattle.disk_log.specs.Headed.{headed_texts}
use Rattle.disk_log.specs.Rest.{Rests}
use Rattle.disk_log.proofs.HeadLaws.{damaged_behind, head_holds, head_rests, was_damaged}
use Rattle.disk_log.proofs.headed.open_behind.Goals as goal

pub returns-in_err-batches-clause-damaged : goal.returns-in_err-batches-clause-damaged
returns-in_err-batches-clause-damaged g c at is told =
    let p = err_from_is_err_and c.from_residual.result c.from_residual.ensures.1 in
    let one = p.1 in
    let same : p.0 ≡ headed.Damaged at = cc in
    let which = was_damaged _ at (sym p.2 ∙ same) in
    inr (damaged_behind g.D.Disk.tells (g.D.Disk.content c.args.disk.now) c.args.window.now c.args.head c.requires.read at told (c.in_err-batches.ensures.damaged at (cc) told))

pub returns-clause-spelled : goal.returns-clause-spelled
returns-clause-spelled g c told =
    head_holds g.D.Disk.tells (g.D.Disk.content c.args.disk.now) c.args.window.now c.args.head c.requires.read c.read_batches.new.window.place c.in_ok-batches.batches c.in_ok-batches.ensures.ends told

pub returns-clause-rests : goal.returns-clause-rests
returns-clause-rests g c =
    let after = g.D.Disk.content c.read_batches.new.disk in
    let images = g.D.Disk.images c.read_batches.new.disk in
    let batches = c.in_ok-batches.batches in
    subst (λ n. Rests g.D.Disk.tells n after images (headed_texts (Some c.args.head) batches)) (sym (c.at.ensures ∙ c.place-end.ensures))
    (head_rests g.D.Disk.tells (g.D.Disk.content c.args.disk.now) c.args.window.now c.args.head c.requires.read c.read_batches.new.window.place batches c.in_ok-batches.ensures.ends after images c.read_batches.ensures.untouched.bytes
    (λ told d now. c.requires.durable told d ((c.read_batches.ensures.untouched.now d).0 now)))
