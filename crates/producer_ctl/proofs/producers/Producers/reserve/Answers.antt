use Rattle.producer_ctl.proofs.SendLaws.{reserved_stands, reserved_seen, reserved_more, reserved_room, on_ok}
use Rattle.producer_ctl.proofs.producers.Producers.reserve.Goals as goal

pub invariant_of-self : goal.invariant_of-self
invariant_of-self c = (reserved_stands c.self.invariant.0 c.reserve_all.ensures.there c.reserve_all.ensures.kept, c.reserve_all.ensures.ready)

pub returns-clause-state : goal.returns-clause-state
returns-clause-state c = reserved_seen c.self.inside.held.items c.reserve_all.new.held.items c.self.inside.pending c.self.view_is c.reserve_all.ensures.there c.reserve_all.ensures.kept

pub returns-clause-more : goal.returns-clause-more
returns-clause-more c = reserved_more c.self.inside.held.items c.reserve_all.new.held.items c.self.inside.pending c.self.view_is c.reserve_all.ensures.there c.reserve_all.ensures.kept

pub returns-clause-ok : goal.returns-clause-ok
returns-clause-ok c = on_ok c.reserve_all.result _ _ (reserved_room 300 c.self.inside.held.items c.reserve_all.new.held.items c.self.inside.pending c.self.view_is) c.reserve_all.ensures.ok
