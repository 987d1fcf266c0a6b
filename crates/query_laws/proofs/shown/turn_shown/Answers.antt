use Rattle.query_laws.proofs.ShowTurns.{each_turn_shown}
use Rattle.query_laws.proofs.shown.turn_shown.Goals as goal

-- src/shown.rt:5:1
pub returns : goal.returns
returns c = each_turn_shown
