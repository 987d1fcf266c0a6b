use Rattle.std.proofs.lemmas.Result.{err_from_is_err_and}
use Rattle.log_resume.proofs.stores.restore.Goals as goal

pub returns-in_err-store-clause-foreign : goal.returns-in_err-store-clause-foreign
returns-in_err-store-clause-foreign c k is =
    let p = err_from_is_err_and c.from_residual.result c.from_residual.ensures.1 in
    let one = p.1 in
    let two = p.2 in
    c.in_err-store.ensures.foreign k (cc)
