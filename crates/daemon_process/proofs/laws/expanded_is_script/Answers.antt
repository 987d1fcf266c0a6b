use Rattle.daemon_process.proofs.ExpandLaws.{is_expanded}
use Rattle.daemon_process.proofs.laws.expanded_is_script.Goals as goal

pub returns : goal.returns
returns c = is_expanded
