use Rattle.std.proofs.Common.{ap, sym, subst, length, ◌<◌, ◌≡◌, ◌∙◌}
use Rattle.std.proofs.lemmas.List.{length-map}
use Rattle.job_board.specs.Boards.{Board, seat_of}
use Rattle.job_board.proofs.BoardLaws.{forgetting_next}
use Rattle.job_board.proofs.board.Board.forget_asks.Goals as goal

pub loop-place-preserved : goal.loop-place-preserved
loop-place-preserved c =
    let ws = c.self.inside.workers.items in
    let long : c.len-place-end.result ≡ length c.args.self.now.seats = c.len-place-end.ensures ∙ (c.self.inside.workers.ok.0 ∙ (sym (length-map ws seat_of) ∙ ap (λ (b : Board). length b.seats) c.self.view_is)) in
    forgetting_next c.args.self.now c.loop-place.self c.forget_ask_of.new.self c.loop-place.place c.loop-place.invariant (subst (λ n. c.loop-place.place < n) long c.loop-place-test.true) c.forget_ask_of.ensures
