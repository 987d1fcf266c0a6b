use Rattle.std.proofs.Common.{List, ap, sym, refl, subst, length, map, ◌<◌, ◌≡◌, ◌∙◌, get_or}
use Rattle.std.specs.Prelude.{true, false, IfSome, IfNone}
use Rattle.yard_model.specs.Words.{is_among}
use Rattle.job_board.specs.Boards.{Board, Seat, asking}
use Rattle.job_board.specs.declared.worker.Worker.{Worker}
use Rattle.job_board.proofs.BoardLaws.{board_asked, one_asks, nobody_asks, all_who}
use Rattle.job_board.proofs.board.Board.ask.Goals as goal

pub invariant_of-self : goal.invariant_of-self
invariant_of-self c =
    let ws = c.self.inside.workers.items in
    let w : Worker = c.index_mut.result.now in
    let new : Worker = record { who = w.who; asked = true; given = w.given; load = w.load } in
    let lt : c.in-Some.place < length ws = subst (λ (l : List Worker). c.in-Some.place < length l) c.as_slice.ensures.value (subst (λ o. IfSome o (λ k. k < length c.as_slice.result.now)) c.in-Some.is c.place_of.ensures.there) in
    board_asked c.self.inside.states.items c.self.inside.free ws c.in-Some.place w new c.self.invariant lt c.index_mut.ensures.value refl refl refl

pub returns-in-Some : goal.returns-in-Some
returns-in-Some c =
    let ws = c.self.inside.workers.items in
    let w : Worker = c.index_mut.result.now in
    let new : Worker = record { who = w.who; asked = true; given = w.given; load = w.load } in
    let lt : c.in-Some.place < length ws = subst (λ (l : List Worker). c.in-Some.place < length l) c.as_slice.ensures.value (subst (λ o. IfSome o (λ k. k < length c.as_slice.result.now)) c.in-Some.is c.place_of.ensures.there) in
    let here : (d : Worker) → (get_or ws c.in-Some.place d).who ≡ c.args.who.now = subst (λ (l : List Worker). (d : Worker) → (get_or l c.in-Some.place d).who ≡ c.args.who.now) c.as_slice.ensures.value (subst (λ o. IfSome o (λ k. (d : Worker) → (get_or c.as_slice.result.now k d).who ≡ c.args.who.now)) c.in-Some.is c.place_of.ensures.it) in
    let who : w.who ≡ c.args.who.now = ap (λ (v : Worker). v.who) c.index_mut.ensures.value ∙ here w in
    let with_seats : List Seat → Board = λ l. record { states = c.self.inside.states.items; seats = l } in
    ap with_seats (one_asks c.args.who.now ws c.in-Some.place new w lt c.self.invariant.differ_are (here w) who refl)
    ∙ ap (λ (b : Board). record { states = b.states; seats = map (asking c.args.who.now) b.seats }) c.self.view_is

pub returns-in_default : goal.returns-in_default
returns-in_default c =
    let ws = c.self.inside.workers.items in
    let none : is_among c.args.who.now (all_who ws) ≡ false = subst (λ (l : List Worker). is_among c.args.who.now (all_who l) ≡ false) c.as_slice.ensures.value (subst (λ o. IfNone o (is_among c.args.who.now (all_who c.as_slice.result.now) ≡ false)) c.in_default.is c.place_of.ensures.none) in
    let with_seats : List Seat → Board = λ l. record { states = c.self.inside.states.items; seats = l } in
    sym c.self.view_is ∙ (ap with_seats (nobody_asks c.args.who.now ws none) ∙ ap (λ (b : Board). record { states = b.states; seats = map (asking c.args.who.now) b.seats }) c.self.view_is)
