use Rattle.producer_ctl.proofs.StoreLaws.{place_stands}
use Rattle.producer_ctl.proofs.producers.Producers.find_near.Goals as goal

pub returns-clause-place : goal.returns-clause-place
returns-clause-place c = place_stands c.place_near-at.result c.args.entity.now c.self.invariant.0 c.self.view_is c.place_near-at.ensures.within c.place_near-at.ensures.it
