use Rattle.std.proofs.Common.{[], ◌∙◌, ap, arith, length, List}
use Rattle.yard_model.specs.declared.fact.Fact.{Fact}
use Rattle.yard_model.specs.Script.{Script}
use Rattle.serve_laws.specs.Served.{grouped}
use Rattle.serve_answers.specs.Told.{desk_at}
use Rattle.serve_books.proofs.books.new_books.Goals as goal

pub unreachable-requires : goal.unreachable-requires
unreachable-requires c =
    let f = c.in-Err-Foreign.ensures.foreign c.in-Err-Foreign.field-0-0 (cc) in
    omega (arith, f.first, f.there, ap length c.new-2.ensures)

pub returns-in-Ok-clause-books : goal.returns-in-Ok-clause-books
returns-in-Ok-clause-books c =
    c.in-Ok.ensures.books
    ∙ (ap (λ (d : Script). grouped (desk_at d c.new-2.result) []) c.in_ok-desk.ensures
    ∙ ap (λ (l : List (List Fact)). grouped (desk_at (record { config = c.args.config; orders = [] }) l) []) c.new-2.ensures)
