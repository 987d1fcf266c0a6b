use Rattle.std.proofs.Common.{List, ap, sym, refl, subst, length, ◌<◌, ◌∙◌}
use Rattle.std.specs.Prelude.{false, slice_set, slice_index_or}
use Rattle.std.proofs.lemmas.List.{length-map}
use Rattle.job_board.specs.Boards.{Board, Seat, seat_of, not_asking}
use Rattle.job_board.specs.declared.worker.Worker.{Worker}
use Rattle.job_board.proofs.BoardLaws.{board_asked, forgot_one}
use Rattle.job_board.proofs.board.Board.forget_ask_of.Goals as goal

pub invariant_of-self : goal.invariant_of-self
invariant_of-self c =
    let ws = c.self.inside.workers.items in
    let w : Worker = c.index_mut.result.now in
    let new : Worker = record { who = w.who; asked = false; given = w.given; load = w.load } in
    let lt : c.args.place < length ws = subst (λ n. c.args.place < n) (length-map ws seat_of) (subst (λ (b : Board). c.args.place < length b.seats) (sym c.self.view_is) c.requires) in
    board_asked c.self.inside.states.items c.self.inside.free ws c.args.place w new c.self.invariant lt c.index_mut.ensures.value refl refl refl

pub returns : goal.returns
returns c =
    λ s.
    let ws = c.self.inside.workers.items in
    let w : Worker = c.index_mut.result.now in
    let new : Worker = record { who = w.who; asked = false; given = w.given; load = w.load } in
    let lt : c.args.place < length ws = subst (λ n. c.args.place < n) (length-map ws seat_of) (subst (λ (b : Board). c.args.place < length b.seats) (sym c.self.view_is) c.requires) in
    let with_seats : List Seat → Board = λ l. record { states = c.self.inside.states.items; seats = l } in
    ap with_seats (forgot_one ws c.args.place new w s lt c.index_mut.ensures.value refl refl)
    ∙ ap (λ (b : Board). record { states = b.states; seats = slice_set b.seats c.args.place (not_asking (slice_index_or b.seats c.args.place s)) }) c.self.view_is
