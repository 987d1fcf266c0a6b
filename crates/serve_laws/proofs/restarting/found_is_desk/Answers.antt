use Rattle.serve_laws.proofs.RestartLaws as laws
use Rattle.serve_laws.proofs.restarting.found_is_desk.Goals as goal

pub returns : goal.returns
returns c = laws.found_is_desk c.sending_law.ensures c.confirmed_is_done.ensures c.grown_is_taken.ensures
