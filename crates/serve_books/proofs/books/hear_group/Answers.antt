use Rattle.std.proofs.Common.{◌≡◌, ◌∙◌, ap}
use Rattle.std.specs.Prelude.{Some}
use Rattle.std.specs.Str.Lines.{lines}
use Rattle.yard_model.specs.Script.{Script}
use Rattle.serve_laws.specs.Served.{Desk, grouped}
use Rattle.serve_answers.specs.Told.{desk_at}
use Rattle.serve_books.proofs.BookLaws.{grouped_more, grouped_same, none_foreign, still_taken}
use Rattle.serve_books.proofs.books.hear_group.Goals as goal

pub returns-then-not-branch-clause-books : goal.returns-then-not-branch-clause-books
returns-then-not-branch-clause-books c =
    let same : c.hear_all.new.desk ≡ c.books.inside.desk = c.in_ok-hear_all.ensures.same c.if-not-branch.true in
    ap (λ (d : Script). desk_at d c.books.inside.batches) same
    ∙ (grouped_same c.done_adds_nothing.ensures c.books.inside.desk c.books.inside.batches (lines c.args.group.now) c.books.invariant.done (c.in_ok-hear_all.ensures.so_far ∙ ap Some same)
    ∙ ap (λ (d : Desk). grouped d (lines c.args.group.now)) c.books.view_is)

pub returns-in-Ok-clause-books : goal.returns-in-Ok-clause-books
returns-in-Ok-clause-books c =
    c.in-Ok.ensures.books
    ∙ (grouped_more c.books.inside.desk c.hear_all.new.desk c.books.inside.batches (lines c.args.group.now) c.in_ok-hear_all.ensures.so_far
    ∙ ap (λ (d : Desk). grouped d (lines c.args.group.now)) c.books.view_is)

pub unreachable-requires : goal.unreachable-requires
unreachable-requires c =
    none_foreign c.front_is_taken.ensures c.hear_all.new.desk c.books.inside.batches c.in-Err-Foreign.field-0-0
    (still_taken c.all_go_on.ensures c.grown_is_taken.ensures c.books.inside.desk c.hear_all.new.desk c.books.inside.batches (lines c.args.group.now) c.in_ok-hear_all.ensures.so_far
    c.books.invariant.taken) (c.in-Err-Foreign.ensures.foreign c.in-Err-Foreign.field-0-0 (cc))
