use Rattle.job_board.proofs.BoardLaws.{Freeing}
use Rattle.job_board.proofs.board.Board.free_given.Given as goal

abbrev pub invariant-loop-place : goal.invariant-loop-place
invariant-loop-place l = Freeing l.fn.self l.self l.place
