use Rattle.apply_run.proofs.LeftLaws.{left_of_log}
use Rattle.apply_run.proofs.left.left_of_log_is_taken.Goals as goal

pub returns : goal.returns
returns c = left_of_log c.left_is_taken.ensures
