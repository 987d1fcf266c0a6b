use Rattle.std.proofs.Common.{◌≡◌, [], ◌∷◌, ◌∙◌, refl, subst}
use Rattle.disk_log.specs.Rest.{Rests}
use Rattle.disk_log.proofs.CommitLaws.{rests_hold}
use Rattle.log_orders.proofs.GatherLaws.{leaves_none}
use Rattle.serve_answers.specs.Told.{begun}
use Rattle.serve_laws.specs.Served.{frames}
use Rattle.serve_service.specs.Openings.{head_line}
use Rattle.serve_service.proofs.BeginLaws.{begun_frames, leaves_both, leaves_first, with_head}
use Rattle.serve_service.proofs.TextLaws.{none_held}
use Rattle.serve_service.proofs.service.begin.Goals as goal

pub returns-in_err-log-clause-any_moment : goal.returns-in_err-log-clause-any_moment
returns-in_err-log-clause-any_moment g c told =
    let line : c.in_ok-head.head ≡ head_line c.args.config = c.in_ok-head.ensures ∙ (c.deref.ensures.value ∙ c.in_ok-text.ensures) in
    leaves_first c.args.config c.in_ok-books.books c.in_ok-books.batch c.in_ok-books.ensures.books c.in_ok-books.ensures.adds (g.D.Disk.images c.args.disk.now) (g.D.Disk.images c.commit.new.disk) c.in_ok-head.head line
    (c.commit.ensures.any_moment [] c.requires.rests told)

pub commit-requires-2 : goal.commit-requires-2
commit-requires-2 g c =
    let line : c.in_ok-head.head ≡ head_line c.args.config = c.in_ok-head.ensures ∙ (c.deref.ensures.value ∙ c.in_ok-text.ensures) in
    record {
      rests = (
        head_line c.args.config ∷ [],
        subst (Rests g.D.Disk.tells c.in_ok-log.log (g.D.Disk.content c.commit.new.disk) (g.D.Disk.images c.commit.new.disk)) (with_head c.args.config c.in_ok-head.head line) (c.in_ok-log.ensures.ok [] c.requires.rests),
      );
    }

pub returns-in_err-log-2-clause-any_moment : goal.returns-in_err-log-2-clause-any_moment
returns-in_err-log-2-clause-any_moment g c told =
    let line : c.in_ok-head.head ≡ head_line c.args.config = c.in_ok-head.ensures ∙ (c.deref.ensures.value ∙ c.in_ok-text.ensures) in
    let rests = subst (Rests g.D.Disk.tells c.in_ok-log.log (g.D.Disk.content c.commit.new.disk) (g.D.Disk.images c.commit.new.disk)) (with_head c.args.config c.in_ok-head.head line) (c.in_ok-log.ensures.ok [] c.requires.rests) in
    leaves_both c.args.config c.in_ok-books.books c.in_ok-books.batch c.in_ok-books.ensures.books c.in_ok-books.ensures.adds (g.D.Disk.images c.args.disk.now) (g.D.Disk.images c.commit.new.disk) (g.D.Disk.images c.commit-2.new.disk)
    c.in_ok-head.head line (c.commit.ensures.any_moment [] c.requires.rests told) (c.commit-2.ensures.any_moment (head_line c.args.config ∷ []) rests told)

pub returns-clause-rests : goal.returns-clause-rests
returns-clause-rests g c =
    let line : c.in_ok-head.head ≡ head_line c.args.config = c.in_ok-head.ensures ∙ (c.deref.ensures.value ∙ c.in_ok-text.ensures) in
    let rests = subst (Rests g.D.Disk.tells c.in_ok-log.log (g.D.Disk.content c.commit.new.disk) (g.D.Disk.images c.commit.new.disk)) (with_head c.args.config c.in_ok-head.head line) (c.in_ok-log.ensures.ok [] c.requires.rests) in
    subst (Rests g.D.Disk.tells c.in_ok-log-2.log (g.D.Disk.content c.commit-2.new.disk) (g.D.Disk.images c.commit-2.new.disk))
    (begun_frames c.args.config c.in_ok-books.books c.in_ok-books.batch c.in_ok-books.ensures.books c.in_ok-books.ensures.adds) (c.in_ok-log-2.ensures.ok (head_line c.args.config ∷ []) rests)

pub returns-clause-any_moment : goal.returns-clause-any_moment
returns-clause-any_moment g c told =
    let line : c.in_ok-head.head ≡ head_line c.args.config = c.in_ok-head.ensures ∙ (c.deref.ensures.value ∙ c.in_ok-text.ensures) in
    let rests = subst (Rests g.D.Disk.tells c.in_ok-log.log (g.D.Disk.content c.commit.new.disk) (g.D.Disk.images c.commit.new.disk)) (with_head c.args.config c.in_ok-head.head line) (c.in_ok-log.ensures.ok [] c.requires.rests) in
    leaves_both c.args.config c.in_ok-books.books c.in_ok-books.batch c.in_ok-books.ensures.books c.in_ok-books.ensures.adds (g.D.Disk.images c.args.disk.now) (g.D.Disk.images c.commit.new.disk) (g.D.Disk.images c.commit-2.new.disk)
    c.in_ok-head.head line (c.commit.ensures.any_moment [] c.requires.rests told) (c.commit-2.ensures.any_moment (head_line c.args.config ∷ []) rests told)

pub returns-in_err-text-clause-any_moment : goal.returns-in_err-text-clause-any_moment
returns-in_err-text-clause-any_moment g c told =
    leaves_none _ (g.met.D.Disk.timed c.args.disk.now) (λ d now. none_held [] (frames (begun c.args.config)) d refl (rests_hold _ _ _ _ [] c.requires.rests told d now))

pub returns-in_err-head-clause-any_moment : goal.returns-in_err-head-clause-any_moment
returns-in_err-head-clause-any_moment g c told =
    leaves_none _ (g.met.D.Disk.timed c.args.disk.now) (λ d now. none_held [] (frames (begun c.args.config)) d refl (rests_hold _ _ _ _ [] c.requires.rests told d now))

pub returns-in_err-books-clause-any_moment : goal.returns-in_err-books-clause-any_moment
returns-in_err-books-clause-any_moment g c told =
    leaves_none _ (g.met.D.Disk.timed c.args.disk.now) (λ d now. none_held [] (frames (begun c.args.config)) d refl (rests_hold _ _ _ _ [] c.requires.rests told d now))
