use Rattle.std.proofs.Common.{List, ◌≡◌, ◌++◌, ◌∷◌, [], ap, sym, ◌∙◌, subst, length, false, map}
use Rattle.yard_model.specs.Words.{is_among}
use Rattle.job_board.specs.Boards.{Board, Seat, IsBoard, whos, seat_of}
use Rattle.job_board.specs.declared.worker.Worker.{Worker}
use Rattle.job_board.proofs.BoardLaws.{board_added, seats_whos, seats_push, all_who}
use Rattle.job_board.proofs.board.Board.add.Goals as goal

pub invariant_of-self-2 : goal.invariant_of-self-2
invariant_of-self-2 c =
    let ws = c.self.inside.workers.items in
    let w : Worker = c.in_ok-worker.worker in
    let new : is_among c.args.who.now (all_who ws) ≡ false = ap (is_among c.args.who.now) (sym (seats_whos ws)) ∙ subst (λ (b : Board). is_among c.args.who.now (whos b.seats) ≡ false) (sym c.self.view_is) c.requires in
    let bound : w.given.bound ≡ length c.self.inside.states.items = c.in_ok-worker.ensures.bound ∙ (c.len.ensures ∙ c.self.inside.states.ok.0) in
    subst (λ l. IsBoard c.self.inside.states.items c.self.inside.free l) (sym c.in_ok-push.ensures.items)
    (board_added c.self.inside.states.items c.self.inside.free ws w c.args.who.now c.self.invariant new c.in_ok-worker.ensures.who bound c.in_ok-worker.ensures.none c.in_ok-worker.ensures.load)

pub returns-clause-ok : goal.returns-clause-ok
returns-clause-ok c =
    let w : Worker = c.in_ok-worker.worker in
    let with_seats : List Seat → Board = λ l. record { states = c.self.inside.states.items; seats = l } in
    ap with_seats (ap (map seat_of) c.in_ok-push.ensures.items ∙ seats_push c.self.inside.workers.items w c.args.who.now c.in_ok-worker.ensures.who c.in_ok-worker.ensures.asked)
    ∙ ap (λ (b : Board). record { states = b.states; seats = b.seats ++ (record { who = c.args.who.now; asked = false }) ∷ [] }) c.self.view_is
