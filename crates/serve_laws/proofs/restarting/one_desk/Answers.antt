use Rattle.serve_laws.proofs.DeskLaws as laws
use Rattle.serve_laws.proofs.restarting.one_desk.Goals as goal

pub returns : goal.returns
returns c = laws.one_desk
