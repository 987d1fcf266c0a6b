use Rattle.std.proofs.Common.{◌≡◌, ◌++◌, length, subst, sym, ◌∙◌, ap}
use Rattle.std.proofs.lemmas.Result.{err_from_is_err_and}
use Rattle.disk_log.specs.Images.{LeavesOnly}
use Rattle.disk_log.specs.Spelled.{SpellsPrefix}
use Rattle.log_orders.specs.Gathered.{Gathers}
use Rattle.log_orders.proofs.GatherLaws.{leaves_none, rest_prefix}
use Rattle.resume_run.specs.declared.fault.ResumeError.TheVariants as error
use Rattle.resume_run.proofs.ResumeLaws.{log_foreign}
use Rattle.apply_laws.specs.Applied.{applied}
use Rattle.apply_run.specs.Applying.{told_behind}
use Rattle.apply_run.proofs.ApplyLaws.{holds}
use Rattle.apply_run.proofs.apply.apply_behind.Goals as goal

pub returns-in_err-new-clause-any_moment : goal.returns-in_err-new-clause-any_moment
returns-in_err-new-clause-any_moment g c told =
    leaves_none _ (g.met.D.Disk.timed c.args.disk.now)
    (λ d now. rest_prefix _ _ _ _ c.args.opened.batches (applied c.args.charter.now c.args.opened.batches) c.requires.are c.requires.rests told d now)

pub returns-in_err-text-clause-any_moment : goal.returns-in_err-text-clause-any_moment
returns-in_err-text-clause-any_moment g c told =
    leaves_none _ (g.met.D.Disk.timed c.args.disk.now)
    (λ d now. rest_prefix _ _ _ _ c.args.opened.batches (applied c.args.charter.now c.args.opened.batches) c.requires.are c.requires.rests told d now)

pub returns-in_err-text-clause-foreign : goal.returns-in_err-text-clause-foreign
returns-in_err-text-clause-foreign g c k is =
    let p = err_from_is_err_and c.from_residual-in_err-text.result c.from_residual-in_err-text.ensures.1 in
    let one = p.1 in
    let same : p.0 ≡ error.Foreign k = cc in
    let which = log_foreign _ k (sym p.2 ∙ same) in
    c.in_err-text.ensures.foreign k (cc)

pub returns-in_err-commit_batch-clause-any_moment : goal.returns-in_err-commit_batch-clause-any_moment
returns-in_err-commit_batch-clause-any_moment g c tells =
    let told : Gathers (told_behind c.args.charter.now c.args.opened.batches) c.batch.result.now =
    subst (Gathers (told_behind c.args.charter.now c.args.opened.batches)) (sym c.batch.ensures) (subst (λ f. Gathers f c.notes.result.now.batch) c.in_ok-text.ensures.told c.notes.ensures) in
    subst (λ l. LeavesOnly (g.D.Disk.images c.args.disk.now) (g.D.Disk.images c.commit_batch.new.disk) (SpellsPrefix (c.args.opened.batches ++ l) (length c.args.opened.batches)))
    (sym (c.applied_is_batch.ensures c.args.charter.now c.args.opened.batches))
    (c.commit_batch.ensures.any_moment (told_behind c.args.charter.now c.args.opened.batches) told c.args.opened.batches c.requires.are c.requires.rests tells)

pub returns-clause-any_moment : goal.returns-clause-any_moment
returns-clause-any_moment g c tells =
    let told : Gathers (told_behind c.args.charter.now c.args.opened.batches) c.batch.result.now =
    subst (Gathers (told_behind c.args.charter.now c.args.opened.batches)) (sym c.batch.ensures) (subst (λ f. Gathers f c.notes.result.now.batch) c.in_ok-text.ensures.told c.notes.ensures) in
    subst (λ l. LeavesOnly (g.D.Disk.images c.args.disk.now) (g.D.Disk.images c.commit_batch.new.disk) (SpellsPrefix (c.args.opened.batches ++ l) (length c.args.opened.batches)))
    (sym (c.applied_is_batch.ensures c.args.charter.now c.args.opened.batches))
    (c.commit_batch.ensures.any_moment (told_behind c.args.charter.now c.args.opened.batches) told c.args.opened.batches c.requires.are c.requires.rests tells)

pub returns-clause-holds : goal.returns-clause-holds
returns-clause-holds g c =
    let told : Gathers (told_behind c.args.charter.now c.args.opened.batches) c.batch.result.now =
    subst (Gathers (told_behind c.args.charter.now c.args.opened.batches)) (sym c.batch.ensures) (subst (λ f. Gathers f c.notes.result.now.batch) c.in_ok-text.ensures.told c.notes.ensures) in
    holds c.applied_is_taken.ensures c.applied_settles.ensures c.applied_once.ensures c.applied_is_batch.ensures c.args.charter.now c.args.opened.batches c.config.ensures.script c.requires.few c.in_ok-text.ensures.taken
    g.D.Disk.tells _ (g.D.Disk.content c.commit_batch.new.disk) (g.D.Disk.images c.commit_batch.new.disk) c.in_ok-text.text.items
    (c.in_ok-commit_batch.ensures.ok (told_behind c.args.charter.now c.args.opened.batches) told c.args.opened.batches c.requires.are c.requires.rests) c.in_ok-text.ensures.text
