use Rattle.std.proofs.Common.{sym, refl, subst, length, ◌<◌, ◌≡◌}
use Rattle.std.specs.Prelude.{None}
use Rattle.job_board.specs.Boards.{Board, state_at, given_of}
use Rattle.job_board.specs.declared.state.JobState.TheVariants as state
use Rattle.job_board.proofs.BoardLaws.{board_set}
use Rattle.job_board.proofs.board.Board.close.Goals as goal

pub invariant_of-self : goal.invariant_of-self
invariant_of-self c =
    let lt : c.args.job < length c.self.inside.states.items = subst (λ (b : Board). c.args.job < length b.states) (sym c.self.view_is) c.requires.within in
    let was : given_of (state_at c.self.inside.states.items c.args.job) ≡ None = subst (λ (b : Board). given_of (state_at b.states c.args.job) ≡ None) (sym c.self.view_is) c.requires.none in
    board_set c.self.inside.states.items c.self.inside.free c.remove.new.self c.self.inside.workers.items c.args.job state.Confirmed c.self.invariant lt was refl c.remove.ensures.bound c.remove.ensures.it c.remove.ensures.others
