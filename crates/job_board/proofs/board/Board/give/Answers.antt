use Rattle.std.proofs.Common.{List, ℕ, ap, sym, subst, length, map, ◌<◌, ◌≡◌, ◌∙◌, get_or}
use Rattle.std.specs.Prelude.{true, false, IfSome, IfNone, slice_set}
use Rattle.plain_laws.proofs.Booleans.{true_is_not_false}
use Rattle.yard_model.specs.Words.{is_among}
use Rattle.job_board.specs.Boards.{Board, Seat, IsBoard, seat_of, whos, load_of, state_at}
use Rattle.job_board.specs.declared.state.JobState.{JobState}
use Rattle.job_board.specs.declared.state.JobState.TheVariants as state
use Rattle.job_board.specs.declared.worker.Worker.{Worker}
use Rattle.job_board.proofs.BoardLaws.{board_given, same_seats, seats_whos, all_who, who_of}
use Rattle.job_board.proofs.board.Board.give.Goals as goal

pub invariant_of-self : goal.invariant_of-self
invariant_of-self c =
    let ws = c.self.inside.workers.items in
    let states = c.self.inside.states.items in
    let k : ℕ = c.in-Some.place in
    let lt : k < length ws = subst (λ (l : List Worker). k < length l) c.as_slice.ensures.value (subst (λ o. IfSome o (λ k. k < length c.as_slice.result.now)) c.in-Some.is c.place_of.ensures.there) in
    let here : (d : Worker) → (get_or ws k d).who ≡ c.args.who.now = subst (λ (l : List Worker). (d : Worker) → (get_or l k d).who ≡ c.args.who.now) c.as_slice.ensures.value (subst (λ o. IfSome o (λ k. (d : Worker) → (get_or c.as_slice.result.now k d).who ≡ c.args.who.now)) c.in-Some.is c.place_of.ensures.it) in
    let w : Worker = c.index_mut.result.now in
    let who : w.who ≡ c.args.who.now = ap who_of c.index_mut.ensures.value ∙ here w in
    let within : c.args.job < length states = subst (λ (b : Board). c.args.job < length b.states) (sym c.self.view_is) c.requires.within in
    let was : state_at states c.args.job ≡ state.Free = subst (λ (b : Board). state_at b.states c.args.job ≡ state.Free) (sym c.self.view_is) c.requires.free in
    subst (λ l. IsBoard l c.remove.new.self (slice_set ws k c.give.new.worker)) (sym c.put_given.ensures)
    (board_given states c.self.inside.free c.remove.new.self ws k c.args.job w c.give.new.worker c.args.who.now c.self.invariant within lt c.index_mut.ensures.value who was
    c.remove.ensures.bound c.remove.ensures.it c.remove.ensures.others c.give.ensures.who c.give.ensures.bound c.give.ensures.it c.give.ensures.others c.give.ensures.load)

pub returns-in-Some : goal.returns-in-Some
returns-in-Some c =
    let ws = c.self.inside.workers.items in
    let with_seats : List Seat → Board = λ l. record { states = c.put_given.new.states.items; seats = l } in
    let with_states : List JobState → Board = λ l. record { states = l; seats = map seat_of ws } in
    ap with_seats (same_seats ws c.in-Some.place c.give.new.worker c.index_mut.result.now (c.give.ensures.who ∙ ap who_of c.index_mut.ensures.value) (c.give.ensures.asked ∙ ap (λ (w : Worker). w.asked) c.index_mut.ensures.value))
    ∙ (ap with_states c.put_given.ensures ∙ ap (λ (b : Board). record { states = slice_set b.states c.args.job (state.Given c.args.who.now); seats = b.seats }) c.self.view_is)

pub returns-in_default : goal.returns-in_default
returns-in_default c =
    let ws = c.self.inside.workers.items in
    let none : is_among c.args.who.now (all_who ws) ≡ false = subst (λ (l : List Worker). is_among c.args.who.now (all_who l) ≡ false) c.as_slice.ensures.value (subst (λ o. IfNone o (is_among c.args.who.now (all_who c.as_slice.result.now) ≡ false)) c.in_default.is c.place_of.ensures.none) in
    let up : is_among c.args.who.now (all_who ws) ≡ true = ap (is_among c.args.who.now) (sym (seats_whos ws)) ∙ subst (λ (b : Board). is_among c.args.who.now (whos b.seats) ≡ true) (sym c.self.view_is) c.requires.up in
    absurd (true_is_not_false (sym up ∙ none))

pub give-requires-clause-within : goal.give-requires-clause-within
give-requires-clause-within c =
    let ws = c.self.inside.workers.items in
    let states = c.self.inside.states.items in
    let k : ℕ = c.in-Some.place in
    let lt : k < length ws = subst (λ (l : List Worker). k < length l) c.as_slice.ensures.value (subst (λ o. IfSome o (λ k. k < length c.as_slice.result.now)) c.in-Some.is c.place_of.ensures.there) in
    let within : c.args.job < length states = subst (λ (b : Board). c.args.job < length b.states) (sym c.self.view_is) c.requires.within in
    let w : Worker = c.index_mut.result.now in
    subst (λ n. c.args.job < n) (sym (ap (λ (v : Worker). v.given.bound) c.index_mut.ensures.value ∙ (c.self.invariant.workers_are k w lt).bound_is)) within

pub give-requires-clause-few : goal.give-requires-clause-few
give-requires-clause-few c =
    let ws = c.self.inside.workers.items in
    let states = c.self.inside.states.items in
    let k : ℕ = c.in-Some.place in
    let lt : k < length ws = subst (λ (l : List Worker). k < length l) c.as_slice.ensures.value (subst (λ o. IfSome o (λ k. k < length c.as_slice.result.now)) c.in-Some.is c.place_of.ensures.there) in
    let here : (d : Worker) → (get_or ws k d).who ≡ c.args.who.now = subst (λ (l : List Worker). (d : Worker) → (get_or l k d).who ≡ c.args.who.now) c.as_slice.ensures.value (subst (λ o. IfSome o (λ k. (d : Worker) → (get_or c.as_slice.result.now k d).who ≡ c.args.who.now)) c.in-Some.is c.place_of.ensures.it) in
    let w : Worker = c.index_mut.result.now in
    let few : load_of c.args.who.now states < 4294967295 = subst (λ (b : Board). load_of c.args.who.now b.states < 4294967295) (sym c.self.view_is) c.requires.few in
    subst (λ n. n < 4294967295) (sym (ap (λ (v : Worker). v.load) c.index_mut.ensures.value ∙ ((c.self.invariant.workers_are k w lt).load_is ∙ ap (λ x. load_of x states) (here w)))) few
