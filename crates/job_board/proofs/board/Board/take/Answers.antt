use Rattle.std.proofs.Common.{List, ℕ, ap, sym, subst, length, map, ◌<◌, ◌≡◌, ◌∙◌, get_or}
use Rattle.std.specs.Prelude.{true, false, IfSome, IfNone, slice_set}
use Rattle.plain_laws.proofs.Booleans.{true_is_not_false}
use Rattle.yard_model.specs.Words.{is_among}
use Rattle.job_board.specs.Boards.{Board, Seat, IsBoard, seat_of, state_at, given_of}
use Rattle.job_board.specs.declared.state.JobState.{JobState}
use Rattle.job_board.specs.declared.state.JobState.TheVariants as state
use Rattle.job_board.specs.declared.worker.Worker.{Worker}
use Rattle.job_board.proofs.BoardLaws.{board_taken, same_seats, all_who, who_of}
use Rattle.job_board.proofs.board.Board.take.Goals as goal

pub invariant_of-self : goal.invariant_of-self
invariant_of-self c =
    let ws = c.self.inside.workers.items in
    let states = c.self.inside.states.items in
    let k : ℕ = c.in-Some.place in
    let lt : k < length ws = subst (λ (l : List Worker). k < length l) c.as_slice.ensures.value (subst (λ o. IfSome o (λ k. k < length c.as_slice.result.now)) c.in-Some.is c.place_of.ensures.there) in
    let here : (d : Worker) → (get_or ws k d).who ≡ c.args.who.now = subst (λ (l : List Worker). (d : Worker) → (get_or l k d).who ≡ c.args.who.now) c.as_slice.ensures.value (subst (λ o. IfSome o (λ k. (d : Worker) → (get_or c.as_slice.result.now k d).who ≡ c.args.who.now)) c.in-Some.is c.place_of.ensures.it) in
    let w : Worker = c.index_mut.result.now in
    let who : w.who ≡ c.args.who.now = ap who_of c.index_mut.ensures.value ∙ here w in
    let within : c.args.job < length states = subst (λ (b : Board). c.args.job < length b.states) (sym c.self.view_is) c.requires.within in
    let was : state_at states c.args.job ≡ state.Given c.args.who.now = subst (λ (b : Board). state_at b.states c.args.job ≡ state.Given c.args.who.now) (sym c.self.view_is) c.requires.given in
    subst (λ l. IsBoard l c.insert.new.self (slice_set ws k c.take.new.worker)) (sym c.put_free.ensures)
    (board_taken states c.self.inside.free c.insert.new.self ws k c.args.job w c.take.new.worker c.args.who.now c.self.invariant within lt c.index_mut.ensures.value who was
    c.insert.ensures.bound c.insert.ensures.it c.insert.ensures.others c.take.ensures.who c.take.ensures.bound c.take.ensures.it c.take.ensures.others c.take.ensures.load)

pub returns-in-Some : goal.returns-in-Some
returns-in-Some c =
    let ws = c.self.inside.workers.items in
    let with_seats : List Seat → Board = λ l. record { states = c.put_free.new.states.items; seats = l } in
    let with_states : List JobState → Board = λ l. record { states = l; seats = map seat_of ws } in
    ap with_seats (same_seats ws c.in-Some.place c.take.new.worker c.index_mut.result.now (c.take.ensures.who ∙ ap who_of c.index_mut.ensures.value) (c.take.ensures.asked ∙ ap (λ (w : Worker). w.asked) c.index_mut.ensures.value))
    ∙ (ap with_states c.put_free.ensures ∙ ap (λ (b : Board). record { states = slice_set b.states c.args.job state.Free; seats = b.seats }) c.self.view_is)

pub returns-in_default : goal.returns-in_default
returns-in_default c =
    let ws = c.self.inside.workers.items in
    let none : is_among c.args.who.now (all_who ws) ≡ false = subst (λ (l : List Worker). is_among c.args.who.now (all_who l) ≡ false) c.as_slice.ensures.value (subst (λ o. IfNone o (is_among c.args.who.now (all_who c.as_slice.result.now) ≡ false)) c.in_default.is c.place_of.ensures.none) in
    let was : state_at c.self.inside.states.items c.args.job ≡ state.Given c.args.who.now = subst (λ (b : Board). state_at b.states c.args.job ≡ state.Given c.args.who.now) (sym c.self.view_is) c.requires.given in
    let up : is_among c.args.who.now (all_who ws) ≡ true = c.self.invariant.up_are c.args.job c.args.who.now (ap given_of was) in
    absurd (true_is_not_false (sym up ∙ none))

pub take-requires : goal.take-requires
take-requires c =
    let ws = c.self.inside.workers.items in
    let states = c.self.inside.states.items in
    let k : ℕ = c.in-Some.place in
    let lt : k < length ws = subst (λ (l : List Worker). k < length l) c.as_slice.ensures.value (subst (λ o. IfSome o (λ k. k < length c.as_slice.result.now)) c.in-Some.is c.place_of.ensures.there) in
    let within : c.args.job < length states = subst (λ (b : Board). c.args.job < length b.states) (sym c.self.view_is) c.requires.within in
    let w : Worker = c.index_mut.result.now in
    subst (λ n. c.args.job < n) (sym (ap (λ (v : Worker). v.given.bound) c.index_mut.ensures.value ∙ (c.self.invariant.workers_are k w lt).bound_is)) within
