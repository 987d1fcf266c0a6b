use Rattle.job_board.proofs.BoardLaws.{Forgetting}
use Rattle.job_board.proofs.board.Board.forget_asks.Given as goal

abbrev pub invariant-loop-place : goal.invariant-loop-place
invariant-loop-place l = Forgetting l.fn.self l.self l.place
