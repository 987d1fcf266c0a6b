use Rattle.std.proofs.Common.{◌≡◌, sym, ◌∙◌, ap, arith}
use Rattle.std.specs.Prelude.{Err}
use Rattle.std.proofs.lemmas.Result.{err_from_is_err_and}
use Rattle.serve_service.specs.declared.fault.OpenFault.TheVariants as fault
use Rattle.serve_service.proofs.SaidLaws.{foreign_behind, said_of, was_foreign}
use Rattle.serve_service.proofs.opening.books_of.Goals as goal

pub returns-in_err-carry-in-All-clause-foreign : goal.returns-in_err-carry-in-All-clause-foreign
returns-in_err-carry-in-All-clause-foreign c frame is =
    let p = err_from_is_err_and c.from_residual-in_err-carry-in-All.result c.from_residual-in_err-carry-in-All.ensures.1 in
    let one = p.1 in
    let same : p.0 ≡ fault.Foreign frame = cc in
    let which = was_foreign _ frame (sym p.2 ∙ same) in
    foreign_behind c.args.head.now c.in_ok-config.field-0 c.in-Some.config c.args.batches c.in_ok-desk.field-0 c.in-All.desk c.in_ok-config.ensures c.in-Some.is c.in_ok-desk.ensures c.in-All.is
    frame which.0 which.2 (omega (arith, c.len.ensures, c.if-len.false, c.len.type_inv)) (c.in_err-carry-in-All.ensures.foreign which.0 (ap Err which.1))

pub returns-in_ok-carry-in-All-clause-said : goal.returns-in_ok-carry-in-All-clause-said
returns-in_ok-carry-in-All-clause-said c =
    said_of c.args.head.now c.in_ok-config.field-0 c.in-Some.config c.args.batches c.in_ok-desk.field-0 c.in-All.desk c.in_ok-config.ensures c.in-Some.is c.in_ok-desk.ensures c.in-All.is
    c.in_ok-carry-in-All.field-0.0 c.config.ensures.heard c.in_ok-carry-in-All.ensures.taken c.in_ok-carry-in-All.ensures.books
