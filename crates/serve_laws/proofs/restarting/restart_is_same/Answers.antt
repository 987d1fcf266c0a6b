use Rattle.serve_laws.proofs.RestartLaws as laws
use Rattle.serve_laws.proofs.restarting.restart_is_same.Goals as goal

pub returns : goal.returns
returns c = laws.restart_is_same c.sending_law.ensures c.confirmed_is_done.ensures
