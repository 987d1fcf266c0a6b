use Rattle.std.proofs.Common.{ℕ, ap, sym, subst, length, ◌<◌, ◌≤◌, ◌≡◌, ◌∙◌, arith}
use Rattle.std.specs.Prelude.{true, false, Some}
use Rattle.std.proofs.lemmas.List.{length-map}
use Rattle.yard_model.specs.declared.incarnation.Incarnation.{Incarnation}
use Rattle.yard_model.specs.Words.{is_among}
use Rattle.job_board.specs.Boards.{Board, Seat, seat_of, whos, state_at, given_of}
use Rattle.job_board.proofs.BoardLaws.{freeing_begins, freeing_next, freeing_ends, up_as_kept}
use Rattle.job_board.proofs.board.Board.free_given.Goals as goal

pub loop-place-init : goal.loop-place-init
loop-place-init c =
    freeing_begins c.args.self.now (subst (λ (b : Board). (i : ℕ) (x : Incarnation) → given_of (state_at b.states i) ≡ Some x → is_among x (whos b.seats) ≡ true) c.self.view_is (up_as_kept c.self.inside.states.items c.self.inside.free c.self.inside.workers.items c.self.invariant))

pub loop-place-preserved : goal.loop-place-preserved
loop-place-preserved c =
    let ws = c.self.inside.workers.items in
    let long : c.len-place-end.result ≡ length c.args.self.now.seats = c.len-place-end.ensures ∙ (c.self.inside.workers.ok.0 ∙ (sym (length-map ws seat_of) ∙ ap (λ (b : Board). length b.seats) c.self.view_is)) in
    let nobody : Seat = record { who = record { node = 0; number = 0 }; asked = false } in
    freeing_next c.args.self.now c.loop-place.self c.free_jobs_of.new.self c.loop-place.place nobody c.loop-place.invariant (subst (λ n. c.loop-place.place < n) long c.loop-place-test.true) c.free_jobs_of.ensures

pub returns : goal.returns
returns c =
    let ws = c.self.inside.workers.items in
    let long : c.len-place-end.result ≡ length c.args.self.now.seats = c.len-place-end.ensures ∙ (c.self.inside.workers.ok.0 ∙ (sym (length-map ws seat_of) ∙ ap (λ (b : Board). length b.seats) c.self.view_is)) in
    freeing_ends c.args.self.now c.loop-place.self c.loop-place.place c.loop-place.invariant (subst (λ n. n ≤ c.loop-place.place) long (omega (arith, c.loop-place-test.false)))
