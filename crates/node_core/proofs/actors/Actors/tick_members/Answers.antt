use Rattle.std.proofs.Common.{◌≡◌, ◌≤◌, ◌+◌, sym, subst, arith}
use Rattle.node_core.proofs.AgainLaws.{lead_stepped, members_stepped}
use Rattle.node_core.proofs.actors.Actors.tick_members.Goals as goal

pub lead-requires-clause-room : goal.lead-requires-clause-room
lead-requires-clause-room g c = let room = c.requires.room in omega (arith, room)

pub tick_coordinator-requires : goal.tick_coordinator-requires
tick_coordinator-requires g c = let room = c.requires.room in let first = c.lead.ensures.room in record { room = omega (arith, room, first) }

pub tick_region-requires : goal.tick_region-requires
tick_region-requires g c = let room = c.requires.room in let first = c.lead.ensures.room in let second = c.tick_coordinator.ensures.room in record { room = omega (arith, room, first, second) }

pub returns : goal.returns
returns g c = members_stepped (g.L.Leases.meaning c.args.leases.now) (g.L.Leases.meaning c.lead.new.leases) c.tick_laws.ensures c.knows.ensures.script c.requires.sound
    (lead_stepped (g.L.Leases.meaning c.args.leases.now) (g.L.Leases.meaning c.lead.new.leases) c.tick_laws.ensures c.requires.sound c.lead.ensures.script c.lead.ensures.gave c.lead.ensures.room c.lead.ensures.rooms)
    c.tick_coordinator.ensures.went c.tick_coordinator.ensures.room c.tick_region.ensures.went c.tick_region.ensures.room
