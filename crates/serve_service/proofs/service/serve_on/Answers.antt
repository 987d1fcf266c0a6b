use Rattle.std.proofs.Common.{length, sym, ◌∙◌, ap, subst}
use Rattle.std.specs.Str.Lines.{lines}
use Rattle.disk_log.specs.Images.{LeavesOnly}
use Rattle.disk_log.specs.Rest.{HoldsPrefix, Rests}
use Rattle.log_orders.proofs.GatherLaws.{leaves_none}
use Rattle.serve_laws.specs.Served.{frames}
use Rattle.serve_service.proofs.FrameLaws.{frames_after, frames_longer}
use Rattle.serve_service.proofs.TextLaws.{rest_holds}
use Rattle.serve_service.proofs.service.serve_on.Goals as goal

pub returns-in_err-books-clause-any_moment : goal.returns-in_err-books-clause-any_moment
returns-in_err-books-clause-any_moment g c told =
    let some = c.has_settings.ensures.some in
    let more = frames_longer c.all_go_on.ensures c.log_stays.ensures c.args.books some.0 (lines c.args.group.now) some.1 in
    leaves_none _ (g.met.D.Disk.timed c.args.disk.now)
    (λ d now. subst (λ l. HoldsPrefix l (length (frames c.args.books)) d) (sym more.1) (rest_holds _ _ _ _ (frames c.args.books) more.0 c.requires.rests told d now))

pub returns-in_err-log-clause-any_moment : goal.returns-in_err-log-clause-any_moment
returns-in_err-log-clause-any_moment g c told =
    let some = c.has_settings.ensures.some in
    let it = c.in_ok-books in
    subst (λ l. LeavesOnly (g.D.Disk.images c.args.disk.now) (g.D.Disk.images c.commit.new.disk) (HoldsPrefix l (length (frames c.args.books))))
    (frames_after c.all_go_on.ensures c.args.books it.field-0.books some.0 (lines c.args.group.now) it.field-0.batch some.1 it.ensures.books it.ensures.adds ∙ ap frames it.ensures.books)
    (c.commit.ensures.any_moment (frames c.args.books) c.requires.rests told)

pub returns-clause-any_moment : goal.returns-clause-any_moment
returns-clause-any_moment g c told =
    let some = c.has_settings.ensures.some in
    let it = c.in_ok-books in
    subst (λ l. LeavesOnly (g.D.Disk.images c.args.disk.now) (g.D.Disk.images c.commit.new.disk) (HoldsPrefix l (length (frames c.args.books))))
    (frames_after c.all_go_on.ensures c.args.books it.field-0.books some.0 (lines c.args.group.now) it.field-0.batch some.1 it.ensures.books it.ensures.adds ∙ ap frames it.ensures.books)
    (c.commit.ensures.any_moment (frames c.args.books) c.requires.rests told)

pub returns-clause-rests : goal.returns-clause-rests
returns-clause-rests g c =
    let some = c.has_settings.ensures.some in
    let it = c.in_ok-books in
    subst (Rests g.D.Disk.tells c.in_ok-log.log (g.D.Disk.content c.commit.new.disk) (g.D.Disk.images c.commit.new.disk))
    (frames_after c.all_go_on.ensures c.args.books it.field-0.books some.0 (lines c.args.group.now) it.field-0.batch some.1 it.ensures.books it.ensures.adds) (c.in_ok-log.ensures.ok (frames c.args.books) c.requires.rests)
