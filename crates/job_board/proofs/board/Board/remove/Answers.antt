use Rattle.std.proofs.Common.{List, ℕ, ap, sym, subst, length, map, ◌<◌, ◌≡◌, ◌∙◌, get_or}
use Rattle.std.specs.Prelude.{true, false, filter, not, IfSome, IfNone}
use Rattle.std.proofs.lemmas.List.{length-map}
use Rattle.plain_laws.proofs.Booleans.{true_is_not_false}
use Rattle.yard_model.specs.declared.incarnation.Incarnation.{Incarnation}
use Rattle.yard_model.specs.Words.{is_among, is_same}
use Rattle.job_board.specs.Boards.{Board, Seat, seat_of, whos, freed_from, is_given_to, state_at}
use Rattle.job_board.specs.declared.worker.Worker.{Worker}
use Rattle.job_board.proofs.BoardLaws.{seat_at, state_mapped, freed_none, seats_whos, all_who}
use Rattle.job_board.proofs.board.Board.remove.Goals as goal

pub free_jobs_of-requires : goal.free_jobs_of-requires
free_jobs_of-requires c =
    let ws = c.self.inside.workers.items in
    let k : ℕ = c.in-Some.place in
    let who : Incarnation = c.args.who.now in
    let lt : k < length ws = subst (λ (l : List Worker). k < length l) c.as_slice.ensures.value (subst (λ o. IfSome o (λ k. k < length c.as_slice.result.now)) c.in-Some.is c.place_of.ensures.there) in
    let long : k < length c.args.self.now.seats = subst (λ (b : Board). k < length b.seats) c.self.view_is (subst (λ n. k < n) (sym (length-map ws seat_of)) lt) in
    long

pub drop_worker-requires-clause-within : goal.drop_worker-requires-clause-within
drop_worker-requires-clause-within c =
    let ws = c.self.inside.workers.items in
    let k : ℕ = c.in-Some.place in
    let who : Incarnation = c.args.who.now in
    let nobody : Seat = record { who = record { node = 0; number = 0 }; asked = false } in
    let lt : k < length ws = subst (λ (l : List Worker). k < length l) c.as_slice.ensures.value (subst (λ o. IfSome o (λ k. k < length c.as_slice.result.now)) c.in-Some.is c.place_of.ensures.there) in
    let long : k < length c.args.self.now.seats = subst (λ (b : Board). k < length b.seats) c.self.view_is (subst (λ n. k < n) (sym (length-map ws seat_of)) lt) in
    let here : (d : Worker) → (get_or ws k d).who ≡ who = subst (λ (l : List Worker). (d : Worker) → (get_or l k d).who ≡ who) c.as_slice.ensures.value (subst (λ o. IfSome o (λ k. (d : Worker) → (get_or c.as_slice.result.now k d).who ≡ who)) c.in-Some.is c.place_of.ensures.it) in
    let seat : (s : Seat) → (get_or c.args.self.now.seats k s).who ≡ who = subst (λ (b : Board). (s : Seat) → (get_or b.seats k s).who ≡ who) c.self.view_is (λ s. seat_at who ws k s lt here) in
    subst (λ (b : Board). k < length b.seats) (sym (c.free_jobs_of.ensures nobody)) long

pub drop_worker-requires-clause-it : goal.drop_worker-requires-clause-it
drop_worker-requires-clause-it c =
    let ws = c.self.inside.workers.items in
    let k : ℕ = c.in-Some.place in
    let who : Incarnation = c.args.who.now in
    let nobody : Seat = record { who = record { node = 0; number = 0 }; asked = false } in
    let lt : k < length ws = subst (λ (l : List Worker). k < length l) c.as_slice.ensures.value (subst (λ o. IfSome o (λ k. k < length c.as_slice.result.now)) c.in-Some.is c.place_of.ensures.there) in
    let long : k < length c.args.self.now.seats = subst (λ (b : Board). k < length b.seats) c.self.view_is (subst (λ n. k < n) (sym (length-map ws seat_of)) lt) in
    let here : (d : Worker) → (get_or ws k d).who ≡ who = subst (λ (l : List Worker). (d : Worker) → (get_or l k d).who ≡ who) c.as_slice.ensures.value (subst (λ o. IfSome o (λ k. (d : Worker) → (get_or c.as_slice.result.now k d).who ≡ who)) c.in-Some.is c.place_of.ensures.it) in
    let seat : (s : Seat) → (get_or c.args.self.now.seats k s).who ≡ who = subst (λ (b : Board). (s : Seat) → (get_or b.seats k s).who ≡ who) c.self.view_is (λ s. seat_at who ws k s lt here) in
    λ s. ap (λ (b : Board). (get_or b.seats k s).who) (c.free_jobs_of.ensures nobody) ∙ seat s

pub drop_worker-requires-clause-none : goal.drop_worker-requires-clause-none
drop_worker-requires-clause-none c =
    let ws = c.self.inside.workers.items in
    let k : ℕ = c.in-Some.place in
    let who : Incarnation = c.args.who.now in
    let nobody : Seat = record { who = record { node = 0; number = 0 }; asked = false } in
    let lt : k < length ws = subst (λ (l : List Worker). k < length l) c.as_slice.ensures.value (subst (λ o. IfSome o (λ k. k < length c.as_slice.result.now)) c.in-Some.is c.place_of.ensures.there) in
    let long : k < length c.args.self.now.seats = subst (λ (b : Board). k < length b.seats) c.self.view_is (subst (λ n. k < n) (sym (length-map ws seat_of)) lt) in
    let here : (d : Worker) → (get_or ws k d).who ≡ who = subst (λ (l : List Worker). (d : Worker) → (get_or l k d).who ≡ who) c.as_slice.ensures.value (subst (λ o. IfSome o (λ k. (d : Worker) → (get_or c.as_slice.result.now k d).who ≡ who)) c.in-Some.is c.place_of.ensures.it) in
    let seat : (s : Seat) → (get_or c.args.self.now.seats k s).who ≡ who = subst (λ (b : Board). (s : Seat) → (get_or b.seats k s).who ≡ who) c.self.view_is (λ s. seat_at who ws k s lt here) in
    λ i. ap (λ (b : Board). is_given_to who (state_at b.states i)) (c.free_jobs_of.ensures nobody)
    ∙ (ap (λ x. is_given_to who (state_at (map (freed_from x) c.args.self.now.states) i)) (seat nobody)
    ∙ (ap (is_given_to who) (state_mapped who c.args.self.now.states i) ∙ freed_none who (state_at c.args.self.now.states i)))

pub returns-in-Some : goal.returns-in-Some
returns-in-Some c =
    let ws = c.self.inside.workers.items in
    let k : ℕ = c.in-Some.place in
    let who : Incarnation = c.args.who.now in
    let nobody : Seat = record { who = record { node = 0; number = 0 }; asked = false } in
    let lt : k < length ws = subst (λ (l : List Worker). k < length l) c.as_slice.ensures.value (subst (λ o. IfSome o (λ k. k < length c.as_slice.result.now)) c.in-Some.is c.place_of.ensures.there) in
    let long : k < length c.args.self.now.seats = subst (λ (b : Board). k < length b.seats) c.self.view_is (subst (λ n. k < n) (sym (length-map ws seat_of)) lt) in
    let here : (d : Worker) → (get_or ws k d).who ≡ who = subst (λ (l : List Worker). (d : Worker) → (get_or l k d).who ≡ who) c.as_slice.ensures.value (subst (λ o. IfSome o (λ k. (d : Worker) → (get_or c.as_slice.result.now k d).who ≡ who)) c.in-Some.is c.place_of.ensures.it) in
    let seat : (s : Seat) → (get_or c.args.self.now.seats k s).who ≡ who = subst (λ (b : Board). (s : Seat) → (get_or b.seats k s).who ≡ who) c.self.view_is (λ s. seat_at who ws k s lt here) in
    let left : List Seat → List Seat = filter (λ (s : Seat). not (is_same who s.who)) in
    let after : Incarnation → Board = λ x. record { states = map (freed_from x) c.args.self.now.states; seats = left c.args.self.now.seats } in
    c.drop_worker.ensures
    ∙ (ap (λ (b : Board). record { states = b.states; seats = filter (λ (s : Seat). not (is_same c.args.who.now s.who)) b.seats }) (c.free_jobs_of.ensures nobody) ∙ ap after (seat nobody))

pub returns-in_default : goal.returns-in_default
returns-in_default c =
    let ws = c.self.inside.workers.items in
    let none : is_among c.args.who.now (all_who ws) ≡ false = subst (λ (l : List Worker). is_among c.args.who.now (all_who l) ≡ false) c.as_slice.ensures.value (subst (λ o. IfNone o (is_among c.args.who.now (all_who c.as_slice.result.now) ≡ false)) c.in_default.is c.place_of.ensures.none) in
    let up : is_among c.args.who.now (all_who ws) ≡ true = ap (is_among c.args.who.now) (sym (seats_whos ws)) ∙ subst (λ (b : Board). is_among c.args.who.now (whos b.seats) ≡ true) (sym c.self.view_is) c.requires in
    absurd (true_is_not_false (sym up ∙ none))
