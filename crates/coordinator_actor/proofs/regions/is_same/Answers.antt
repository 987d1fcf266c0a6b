use Rattle.coordinator_actor.proofs.regions.is_same.Goals as goal

pub returns : goal.returns
returns c = c.eq.ensures
