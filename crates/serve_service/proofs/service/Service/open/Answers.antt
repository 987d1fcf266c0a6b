use Rattle.std.proofs.Common.{◌≡◌, inl, inr, [], map, sym, subst}
use Rattle.std.proofs.lemmas.Result.{on_err_weaker}
use Rattle.disk_log.specs.Frames.{Holds}
use Rattle.disk_log.specs.Headed.{IsHead, headed_texts}
use Rattle.disk_log.specs.Spelled.{lines}
use Rattle.serve_service.specs.Openings.{texts_of}
use Rattle.serve_service.proofs.OpenLaws.{begins_none, begins_said, if_none, if_ok_both, left_off, on_err, stays}
use Rattle.serve_service.proofs.service.Service.open.Goals as goal

pub returns-in_err-log-clause-left : goal.returns-in_err-log-clause-left
returns-in_err-log-clause-left g c =
    on_err c.from_residual.result _ (λ told. inl (stays (g.D.Disk.content c.args.disk.now) (g.D.Disk.images c.args.disk.now) (g.D.Disk.images c.open_headed.new.disk) (c.open_headed.ensures.any_moment told)))

pub returns-in-None-clause-begins : goal.returns-in-None-clause-begins
returns-in-None-clause-begins g c =
    let content = g.D.Disk.content c.args.disk.now in
    let batches = c.in_ok-log.field-0.batches in
    let none : batches ≡ [] = if_none _ _ c.in-None.is c.in_ok-log.ensures.none in
    begins_none g.D.Disk.tells content (g.D.Disk.images c.args.disk.now) (g.D.Disk.images c.open_headed.new.disk)
    (λ told. subst (λ b. Holds (map lines b) content) none (subst (λ h. Holds (headed_texts h batches) content) c.in-None.is (c.in_ok-log.ensures.spelled told))) c.open_headed.ensures.any_moment

pub returns-in-Some-clause-begins : goal.returns-in-Some-clause-begins
returns-in-Some-clause-begins g c =
    let content = g.D.Disk.content c.args.disk.now in
    let batches = c.in_ok-log.field-0.batches in
    if_ok_both c.go_on.result
    (λ s said leaves.
    begins_said c.bytes.result.now batches s.desk said g.D.Disk.tells content (g.D.Disk.images c.args.disk.now) (g.D.Disk.images c.open_headed.new.disk) (g.D.Disk.images c.go_on.new.disk)
    c.grouped_is_desk.ensures c.log_stays.ensures c.in_ok-log.ensures.are
    (λ told. subst (λ h. Holds (texts_of h batches) content) (sym c.bytes.ensures.bytes) (subst (λ h. Holds (headed_texts h batches) content) c.in-Some.is (c.in_ok-log.ensures.spelled told)))
    c.open_headed.ensures.any_moment leaves)
    c.go_on.ensures.said c.go_on.ensures.leaves

pub returns-in-Some-clause-left : goal.returns-in-Some-clause-left
returns-in-Some-clause-left g c =
    let content = g.D.Disk.content c.args.disk.now in
    let batches = c.in_ok-log.field-0.batches in
    on_err_weaker c.go_on.result
    (λ left told.
    left_off g.D.Disk.tells c.bytes.result.now batches content (g.D.Disk.images c.args.disk.now) (g.D.Disk.images c.open_headed.new.disk) (g.D.Disk.images c.go_on.new.disk)
    (g.met.D.Disk.timed c.open_headed.new.disk) c.grouped_is_desk.ensures c.log_stays.ensures c.in_ok-log.ensures.are told
    (subst (λ h. Holds (texts_of h batches) content) (sym c.bytes.ensures.bytes) (subst (λ h. Holds (headed_texts h batches) content) c.in-Some.is (c.in_ok-log.ensures.spelled told)))
    (c.open_headed.ensures.any_moment told) (left told))
    c.go_on.ensures.left

pub returns-in-Some-clause-foreign : goal.returns-in-Some-clause-foreign
returns-in-Some-clause-foreign g c frame is =
    let content = g.D.Disk.content c.args.disk.now in
    let batches = c.in_ok-log.field-0.batches in
    inr (
      c.bytes.result.now,
      batches,
      λ told. subst (λ h. Holds (texts_of h batches) content) (sym c.bytes.ensures.bytes) (subst (λ h. Holds (headed_texts h batches) content) c.in-Some.is (c.in_ok-log.ensures.spelled told)),
      (subst IsHead (sym c.bytes.ensures.bytes) c.bytes.ensures.head, c.in_ok-log.ensures.are),
      c.go_on.ensures.foreign frame is,
    )
