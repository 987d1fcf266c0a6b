use Rattle.std.proofs.Common.{ap}
use Rattle.std.proofs.lemmas.Result.{err_from_is_err_and}
use Rattle.run_parts.specs.declared.course.Course.{Course}
use Rattle.replay_run.proofs.replay.replayed.Goals as goal

pub returns-in_err-replay_world-clause-wrote : goal.returns-in_err-replay_world-clause-wrote
returns-in_err-replay_world-clause-wrote g c =
    let p = err_from_is_err_and c.from_residual.result c.from_residual.ensures.1 in
    rw (p.1, p.2) c.in_err-replay_world.ensures.wrote

pub returns-clause-wrote : goal.returns-clause-wrote
returns-clause-wrote g c = c.in_ok-replay_world.ensures.wrote

pub returns-clause-stop : goal.returns-clause-stop
returns-clause-stop g c = ap (λ (k : Course). k.stop) c.in_ok-replay_world.ensures.course
