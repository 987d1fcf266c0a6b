use Rattle.std.proofs.Common.{◌≡◌, ap, inr, subst, sym, ◌∙◌}
use Rattle.std.specs.Prelude.{Err, IsTrue}
use Rattle.std.proofs.lemmas.Result.{err_from_is_err_and}
use Rattle.disk_log.specs.Rest.{Rests}
use Rattle.serve_service.specs.Openings.{LeftOff, texts_of}
use Rattle.serve_service.specs.declared.fault.OpenFault.TheVariants as fault
use Rattle.serve_service.proofs.FaultLaws.{commit_damaged, commit_failed, commit_foreign}
use Rattle.serve_service.proofs.OpenLaws.{frames_said, leaves_said, on_err}
use Rattle.serve_service.proofs.service.go_on.Goals as goal

pub returns-in_err-log-clause-left : goal.returns-in_err-log-clause-left
returns-in_err-log-clause-left g c =
    on_err c.from_residual-in_err-log.result (IsTrue g.D.Disk.tells → LeftOff c.args.head.now c.args.batches (g.D.Disk.images c.args.disk.now) (g.D.Disk.images c.commit.new.disk))
    (λ told. inr (
      c.in_ok-books.books,
      c.in_ok-books.ensures.said,
      leaves_said c.args.head.now c.args.batches c.in_ok-books.books c.in_ok-books.ensures.said (g.D.Disk.images c.args.disk.now) (g.D.Disk.images c.commit.new.disk) c.in_ok-books.batch c.in_ok-books.ensures.adds
          (c.commit.ensures.any_moment (texts_of c.args.head.now c.args.batches) c.requires.rests told),
    ))

pub returns-clause-rests : goal.returns-clause-rests
returns-clause-rests g c =
    subst (Rests g.D.Disk.tells c.in_ok-log.log (g.D.Disk.content c.commit.new.disk) (g.D.Disk.images c.commit.new.disk))
    (frames_said c.args.head.now c.args.batches c.in_ok-books.books c.in_ok-books.ensures.said c.in_ok-books.batch c.in_ok-books.ensures.adds) (c.in_ok-log.ensures.ok (texts_of c.args.head.now c.args.batches) c.requires.rests)

pub returns-clause-leaves : goal.returns-clause-leaves
returns-clause-leaves g c told =
    leaves_said c.args.head.now c.args.batches c.in_ok-books.books c.in_ok-books.ensures.said (g.D.Disk.images c.args.disk.now) (g.D.Disk.images c.commit.new.disk) c.in_ok-books.batch c.in_ok-books.ensures.adds
    (c.commit.ensures.any_moment (texts_of c.args.head.now c.args.batches) c.requires.rests told)

pub returns-in_err-log-clause-foreign : goal.returns-in_err-log-clause-foreign
returns-in_err-log-clause-foreign g c frame is =
    let p = err_from_is_err_and c.from_residual-in_err-log.result c.from_residual-in_err-log.ensures.1 in
    let one = p.1 in
    let same : p.0 ≡ fault.Foreign frame = cc in
    absurd (commit_foreign _ frame (sym p.2 ∙ same))

pub returns-in_err-log-clause-whole : goal.returns-in_err-log-clause-whole
returns-in_err-log-clause-whole g c at is =
    let p = err_from_is_err_and c.from_residual-in_err-log.result c.from_residual-in_err-log.ensures.1 in
    let one = p.1 in
    let same : p.0 ≡ fault.Damaged at = cc in
    commit_damaged _ at (sym p.2 ∙ same)

pub returns-in_err-log-clause-cause : goal.returns-in_err-log-clause-cause
returns-in_err-log-clause-cause g c is =
    let p = err_from_is_err_and c.from_residual-in_err-log.result c.from_residual-in_err-log.ensures.1 in
    let one = p.1 in
    let same : p.0 ≡ fault.Failed = cc in
    c.in_err-log.ensures.cause (ap Err (commit_failed _ (sym p.2 ∙ same)))
