use Rattle.std.proofs.lemmas.Result.{err_from_is_err_and}
use Rattle.resume_run.proofs.ResumeLaws.{text_of}
use Rattle.resume_run.proofs.resume.text_of_log.Goals as goal

pub returns-in_err-stores-clause-foreign : goal.returns-in_err-stores-clause-foreign
returns-in_err-stores-clause-foreign c k is =
    let p = err_from_is_err_and c.from_residual.result c.from_residual.ensures.1 in
    let one = p.1 in
    let two = p.2 in
    c.in_err-stores.ensures.foreign k (cc)

pub returns-clause-text : goal.returns-clause-text
returns-clause-text c = text_of c.args.charter.now c.args.batches.now _ _ c.in_ok-stores.ensures.taken c.in_ok-stores.ensures.restored c.in_ok-text.ensures
