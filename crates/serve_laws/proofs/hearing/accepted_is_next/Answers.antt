use Rattle.serve_laws.proofs.AgainLaws as laws
use Rattle.serve_laws.proofs.hearing.accepted_is_next.Goals as goal

pub returns : goal.returns
returns c = laws.accepted_is_next c.command_law.ensures
