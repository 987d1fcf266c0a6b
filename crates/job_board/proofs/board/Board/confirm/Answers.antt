use Rattle.std.proofs.Common.{List, ap, sym, subst, length, ◌<◌, ◌∙◌}
use Rattle.std.specs.Prelude.{slice_set}
use Rattle.job_board.specs.Boards.{Board, state_at, given_of, freed}
use Rattle.job_board.specs.declared.state.JobState.{JobState}
use Rattle.job_board.specs.declared.state.JobState.TheVariants as state
use Rattle.std.proofs.lemmas.List.{set-set, length-set, get_or-set_same}
use Rattle.job_board.proofs.BoardLaws.{none_given}
use Rattle.job_board.proofs.board.Board.confirm.Goals as goal

pub close-requires-clause-within : goal.close-requires-clause-within
close-requires-clause-within c =
    subst (λ (b : Board). c.args.job < length b.states) (sym c.take_back.ensures) (subst (λ n. c.args.job < n) (sym (length-set c.args.self.now.states c.args.job (freed (state_at c.args.self.now.states c.args.job)))) c.requires)

pub close-requires-clause-none : goal.close-requires-clause-none
close-requires-clause-none c =
    let s : JobState = state_at c.args.self.now.states c.args.job in
    ap (λ (b : Board). given_of (state_at b.states c.args.job)) c.take_back.ensures ∙ (ap given_of (get_or-set_same c.args.self.now.states c.args.job (freed s) state.Unqueued c.requires) ∙ none_given s)

pub returns : goal.returns
returns c =
    let s : JobState = state_at c.args.self.now.states c.args.job in
    let with_states : List JobState → Board = λ l. record { states = l; seats = c.args.self.now.seats } in
    c.close.ensures ∙ (ap (λ (b : Board). record { states = slice_set b.states c.args.job state.Confirmed; seats = b.seats }) c.take_back.ensures ∙ ap with_states (set-set c.args.self.now.states c.args.job (freed s) state.Confirmed))
