use Rattle.std.proofs.Common.{List, ℕ, ap, sym, subst, length, map, ◌<◌, ◌≡◌, ◌∙◌, get_or}
use Rattle.std.specs.Prelude.{slice_set}
use Rattle.std.proofs.lemmas.List.{length-map}
use Rattle.job_board.specs.Boards.{Board, Seat, IsBoard, IsWorker, seat_of, freed_from}
use Rattle.job_board.specs.declared.state.JobState.{JobState}
use Rattle.job_board.specs.declared.worker.Worker.{Worker}
use Rattle.job_board.proofs.BoardLaws.{board_cleared, freed_states, same_seats, seat_at, same_place, each_place, who_of}
use Rattle.job_board.proofs.board.Board.free_jobs_of.Goals as goal

pub invariant_of-self : goal.invariant_of-self
invariant_of-self c =
    let ws = c.self.inside.workers.items in
    let states = c.self.inside.states.items in
    let v : Worker = c.index.result.now in
    let k : ℕ = c.args.place in
    let lt : k < length ws = subst (λ n. k < n) (length-map ws seat_of) (subst (λ (b : Board). k < length b.seats) (sym c.self.view_is) c.requires) in
    let vw : c.index_mut.result.now ≡ v = same_place ws k c.index_mut.result.now v lt c.index_mut.ensures.value c.index.ensures in
    let one : IsWorker states v = subst (λ w. IsWorker states w) (sym c.index.ensures) (c.self.invariant.workers_are k v lt) in
    let is : c.free_all.new.states.items ≡ map (freed_from v.who) states = freed_states v.who states c.free_all.new.states.items v.given c.free_all.ensures.there c.free_all.ensures.states one.given_are in
    subst (λ l. IsBoard l c.free_all.new.free (slice_set ws k c.clear.new.worker)) (sym is)
    (board_cleared states c.self.inside.free c.free_all.new.free ws k v c.clear.new.worker c.self.invariant lt c.index.ensures c.free_all.ensures.bound c.free_all.ensures.free
    (c.clear.ensures.who ∙ ap who_of vw) (c.clear.ensures.bound ∙ ap (λ (w : Worker). w.given.bound) vw) c.clear.ensures.none c.clear.ensures.load)

pub returns : goal.returns
returns c =
    λ s.
    let ws = c.self.inside.workers.items in
    let states = c.self.inside.states.items in
    let v : Worker = c.index.result.now in
    let k : ℕ = c.args.place in
    let lt : k < length ws = subst (λ n. k < n) (length-map ws seat_of) (subst (λ (b : Board). k < length b.seats) (sym c.self.view_is) c.requires) in
    let one : IsWorker states v = subst (λ w. IsWorker states w) (sym c.index.ensures) (c.self.invariant.workers_are k v lt) in
    let is : c.free_all.new.states.items ≡ map (freed_from v.who) states = freed_states v.who states c.free_all.new.states.items v.given c.free_all.ensures.there c.free_all.ensures.states one.given_are in
    let who_is : v.who ≡ (get_or (map seat_of ws) k s).who = sym (seat_at v.who ws k s lt (each_place ws k v lt c.index.ensures)) in
    let with_seats : List Seat → Board = λ l. record { states = c.free_all.new.states.items; seats = l } in
    let with_states : List JobState → Board = λ l. record { states = l; seats = map seat_of ws } in
    ap with_seats (same_seats ws k c.clear.new.worker c.index_mut.result.now (c.clear.ensures.who ∙ ap who_of c.index_mut.ensures.value) (c.clear.ensures.asked ∙ ap (λ (w : Worker). w.asked) c.index_mut.ensures.value))
    ∙ (ap with_states (is ∙ ap (λ x. map (freed_from x) states) who_is)
    ∙ ap (λ (b : Board). record { states = map (freed_from (get_or b.seats k s).who) b.states; seats = b.seats }) c.self.view_is)
