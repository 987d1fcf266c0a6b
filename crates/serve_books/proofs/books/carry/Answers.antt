use Rattle.std.proofs.Common.{◌≡◌, ◌++◌, ◌∙◌, ap, subst}
use Rattle.std.proofs.lemmas.Result.{err_from_is_err_and}
use Rattle.yard_model.specs.Script.{Script}
use Rattle.log_resume.specs.Restored.{IsForeign}
use Rattle.apply_run.specs.Applying.{told_behind}
use Rattle.serve_books.proofs.BookLaws.{carried_desk, kept, more_are}
use Rattle.serve_books.proofs.books.carry.Goals as goal

pub returns-in_err-stores-clause-foreign : goal.returns-in_err-stores-clause-foreign
returns-in_err-stores-clause-foreign c k is =
    let p = err_from_is_err_and c.from_residual-in_err-stores.result c.from_residual-in_err-stores.ensures.1 in
    let one = p.1 in
    let two = p.2 in
    subst (λ (d : Script). IsForeign d c.args.batches k) c.in_ok-charter.ensures (c.in_err-stores.ensures.foreign k (cc))

pub invariant_of-result : goal.invariant_of-result
invariant_of-result c =
    let told : c.as_slice.result.now ≡ told_behind c.in_ok-charter.charter c.args.batches =
    c.as_slice.ensures ∙ (c.in_ok-stores.ensures.told ∙ ap (λ l. l ++ told_behind c.in_ok-charter.charter c.args.batches) c.new-told.ensures) in
    kept c.applied_is_taken.ensures c.applied_settles.ensures c.applied_lists.ensures c.applied_is_batch.ensures c.args.desk c.in_ok-charter.charter c.args.batches c.in_ok-batches.batches
    c.in_ok-stores.stores c.as_slice.result.now c.config.ensures.heard c.in_ok-charter.ensures c.in_ok-stores.ensures.taken c.in_ok-stores.ensures.script c.in_ok-stores.ensures.lists
    c.in_ok-stores.ensures.lawful told c.in_ok-batches.ensures.more
    (more_are c.args.batches c.in_ok-batches.batches c.in_ok-batches.batch c.requires.are c.in_ok-batches.ensures.adds)

pub returns-clause-books : goal.returns-clause-books
returns-clause-books c =
    let told : c.as_slice.result.now ≡ told_behind c.in_ok-charter.charter c.args.batches =
    c.as_slice.ensures ∙ (c.in_ok-stores.ensures.told ∙ ap (λ l. l ++ told_behind c.in_ok-charter.charter c.args.batches) c.new-told.ensures) in
    carried_desk c.applied_is_batch.ensures c.args.desk c.args.batches c.in_ok-batches.batches c.as_slice.result.now
    (subst (λ (d : Script). c.as_slice.result.now ≡ told_behind d c.args.batches) c.in_ok-charter.ensures told) c.in_ok-batches.ensures.more
