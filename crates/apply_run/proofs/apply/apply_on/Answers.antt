use Rattle.std.proofs.Common.{◌≡◌, length, subst, sym, ◌∙◌, ap}
use Rattle.std.proofs.lemmas.Result.{err_from_is_err_and}
use Rattle.disk_log.specs.Images.{LeavesOnly}
use Rattle.disk_log.specs.Spelled.{SpellsPrefix}
use Rattle.apply_laws.specs.Applied.{applied}
use Rattle.apply_run.proofs.ApplyLaws.{going_leaves, no_failure, opening_leaves, opening_stays, refused_long, refused_opening}
use Rattle.apply_run.proofs.apply.apply_on.Goals as goal

pub returns-in_err-opened-clause-any_moment : goal.returns-in_err-opened-clause-any_moment
returns-in_err-opened-clause-any_moment g c told log n had =
    opening_leaves c.requires.one (g.D.Disk.content c.args.disk.now) (g.D.Disk.images c.args.disk.now) log n had (g.D.Disk.images c.open_log.new.disk) (applied c.args.charter.now log) (c.open_log.ensures.any_moment told)

pub returns-in_err-opened-clause-content : goal.returns-in_err-opened-clause-content
returns-in_err-opened-clause-content g c e is refusal told =
    let p = err_from_is_err_and c.from_residual.result c.from_residual.ensures.1 in
    let one = p.1 in
    let same : e ≡ p.0 = cc in
    refused_opening g.D.Disk.tells (g.D.Disk.content c.args.disk.now) (g.D.Disk.content c.open_log.new.disk) _ e (same ∙ p.2) refusal (λ at found t. c.in_err-opened.ensures.damaged at (cc) t) c.open_log.ensures.stays told

pub returns-clause-any_moment : goal.returns-clause-any_moment
returns-clause-any_moment g c told log n had =
    going_leaves c.requires.one (g.D.Disk.content c.args.disk.now) (g.D.Disk.images c.args.disk.now) log n had (g.D.Disk.images c.open_log.new.disk) (g.D.Disk.images c.apply_behind.new.disk) c.in_ok-opened.opened.batches c.args.charter.now
    (c.in_ok-opened.ensures.spelled told) (c.open_log.ensures.any_moment told) (c.apply_behind.ensures.any_moment told)

pub returns-clause-stays : goal.returns-clause-stays
returns-clause-stays g c e is other told log n had =
    subst (λ d. LeavesOnly (g.D.Disk.images c.args.disk.now) (g.D.Disk.images d) (SpellsPrefix log n)) (sym (c.apply_behind.ensures.untouched e is other))
    (opening_stays c.requires.one (g.D.Disk.content c.args.disk.now) (g.D.Disk.images c.args.disk.now) log n had (g.D.Disk.images c.open_log.new.disk) (c.open_log.ensures.any_moment told))

pub returns-clause-content : goal.returns-clause-content
returns-clause-content g c e is refusal told =
    ap g.D.Disk.content (c.apply_behind.ensures.untouched e is (no_failure e refusal))
    ∙ c.open_log.ensures.stays told (refused_long (g.D.Disk.content c.args.disk.now) c.args.charter.now c.in_ok-opened.opened.batches e c.requires.one (c.in_ok-opened.ensures.spelled told) refusal
    (λ at e. c.apply_behind.ensures.whole at (cc)) (λ k e. c.apply_behind.ensures.foreign k (cc)))

pub returns-clause-foreign : goal.returns-clause-foreign
returns-clause-foreign g c k is = record { log = c.in_ok-opened.opened.batches; spells = c.in_ok-opened.ensures.spelled; foreign = c.apply_behind.ensures.foreign k is }
