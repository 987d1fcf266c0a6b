use Rattle.std.proofs.Common.{List, ℕ, ap, sym, subst, length, map, ◌<◌, ◌≡◌, ◌∙◌, get_or}
use Rattle.std.specs.Prelude.{false, filter, not}
use Rattle.std.proofs.lemmas.List.{length-map}
use Rattle.yard_model.specs.Words.{is_same}
use Rattle.job_board.specs.Boards.{Board, Seat, IsBoard, seat_of, is_given_to, state_at}
use Rattle.job_board.specs.declared.worker.Worker.{Worker}
use Rattle.job_board.proofs.BoardLaws.{board_left, seats_left, who_at}
use Rattle.job_board.proofs.board.Board.drop_worker.Goals as goal

pub invariant_of-self : goal.invariant_of-self
invariant_of-self c =
    let ws = c.self.inside.workers.items in
    let k : ℕ = c.args.place in
    let w : Worker = c.remove.result in
    let lt : k < length ws = subst (λ n. k < n) (length-map ws seat_of) (subst (λ (b : Board). k < length b.seats) (sym c.self.view_is) c.requires.within) in
    let here : (s : Seat) → (get_or (map seat_of ws) k s).who ≡ c.args.who.now = subst (λ (b : Board). (s : Seat) → (get_or b.seats k s).who ≡ c.args.who.now) (sym c.self.view_is) c.requires.it in
    let who : w.who ≡ c.args.who.now = ap (λ (v : Worker). v.who) c.remove.ensures.value ∙ who_at c.args.who.now ws k w lt here in
    let none : (i : ℕ) → is_given_to w.who (state_at c.self.inside.states.items i) ≡ false = λ i. ap (λ x. is_given_to x (state_at c.self.inside.states.items i)) who ∙ subst (λ (b : Board). is_given_to c.args.who.now (state_at b.states i) ≡ false) (sym c.self.view_is) (c.requires.none i) in
    subst (λ l. IsBoard c.self.inside.states.items c.self.inside.free l) (sym c.remove.ensures.items) (board_left c.self.inside.states.items c.self.inside.free ws k w c.self.invariant lt c.remove.ensures.value none)

pub returns : goal.returns
returns c =
    let ws = c.self.inside.workers.items in
    let k : ℕ = c.args.place in
    let w : Worker = c.remove.result in
    let lt : k < length ws = subst (λ n. k < n) (length-map ws seat_of) (subst (λ (b : Board). k < length b.seats) (sym c.self.view_is) c.requires.within) in
    let here : (s : Seat) → (get_or (map seat_of ws) k s).who ≡ c.args.who.now = subst (λ (b : Board). (s : Seat) → (get_or b.seats k s).who ≡ c.args.who.now) (sym c.self.view_is) c.requires.it in
    let with_seats : List Seat → Board = λ l. record { states = c.self.inside.states.items; seats = l } in
    ap with_seats (ap (map seat_of) c.remove.ensures.items ∙ seats_left c.args.who.now ws k w lt (who_at c.args.who.now ws k w lt here) c.self.invariant.differ_are)
    ∙ ap (λ (b : Board). record { states = b.states; seats = filter (λ (s : Seat). not (is_same c.args.who.now s.who)) b.seats }) c.self.view_is
