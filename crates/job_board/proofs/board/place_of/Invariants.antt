use Rattle.std.proofs.Common.{◌≡◌}
use Rattle.std.specs.Prelude.{false, take}
use Rattle.yard_model.specs.Words.{is_among}
use Rattle.job_board.proofs.BoardLaws.{all_who}
use Rattle.job_board.proofs.board.place_of.Given as goal

abbrev pub invariant-loop-place : goal.invariant-loop-place
invariant-loop-place l = is_among l.fn.who (all_who (take l.place l.fn.workers)) ≡ false
