use Rattle.std.proofs.Common.{ap, sym, refl, subst, length, ◌≡◌, ◌<◌}
use Rattle.job_board.specs.declared.state.JobState.TheVariants as state
use Rattle.job_board.specs.Boards.{Board, given_of, state_at}
use Rattle.job_board.proofs.BoardLaws.{board_set}
use Rattle.job_board.proofs.board.Board.queue.Goals as goal

pub invariant_of-self : goal.invariant_of-self
invariant_of-self c =
    let lt : c.args.job < length c.self.inside.states.items = subst (λ (b : Board). c.args.job < length b.states) (sym c.self.view_is) c.requires.within in
    let was : state_at c.self.inside.states.items c.args.job ≡ state.Unqueued = subst (λ (b : Board). state_at b.states c.args.job ≡ state.Unqueued) (sym c.self.view_is) c.requires.first in
    board_set c.self.inside.states.items c.self.inside.free c.insert.new.self c.self.inside.workers.items c.args.job state.Free c.self.invariant lt (ap given_of was) refl c.insert.ensures.bound c.insert.ensures.it c.insert.ensures.others
