use Rattle.std.proofs.Common.{◌≡◌, sym, ◌∙◌}
use Rattle.std.proofs.lemmas.Result.{err_from_is_err_and}
use Rattle.resume_run.specs.declared.fault.ResumeError.TheVariants as error
use Rattle.resume_run.proofs.ResumeLaws.{log_foreign}
use Rattle.resume_run.proofs.resume.text_on.Goals as goal

pub returns-in_err-text-clause-foreign : goal.returns-in_err-text-clause-foreign
returns-in_err-text-clause-foreign g c k is =
    let p = err_from_is_err_and c.from_residual-in_err-text.result c.from_residual-in_err-text.ensures.1 in
    let one = p.1 in
    let same : p.0 ≡ error.Foreign k = cc in
    let which = log_foreign _ k (sym p.2 ∙ same) in
    record { log = c.in_ok-batches.batches; spells = c.in_ok-batches.ensures.spelled; foreign = c.in_err-text.ensures.foreign k (cc) }
