use Rattle.std.proofs.Common.{◌≡◌, ◌≤◌, ◌+◌, ◌∙◌, sym, subst, arith}
use Rattle.yard_model.specs.Node as rules
use Rattle.yard_model.specs.Node.{Node}
use Rattle.yard_model.specs.Script.{Script}
use Rattle.shard_lease.specs.Meaning.{Meaning}
use Rattle.node_core.specs.Found.{none}
use Rattle.node_core.specs.Gave.{Gave, moment}
use Rattle.node_core.specs.Leased.{Rests}
use Rattle.node_core.specs.Standing.{Standing}
use Rattle.yard_model.specs.Coordinator.{terminate_lost}
use Rattle.node_core.proofs.PacketLaws.{lead_gave, lost_gave}
use Rattle.node_core.proofs.StepLaws.{office_rooms_same}
use Rattle.node_core.proofs.actors.Actors.lead.Goals as goal

pub returns-clause-gave : goal.returns-clause-gave
returns-clause-gave g c =
    let old : Meaning = g.L.Leases.meaning c.args.leases.now in
    let script : Script = c.args.self.now.script in
    let st : Node = c.args.self.now.state in
    let new : Meaning = g.L.Leases.meaning c.take_lead.new.leases in
    let mid : Standing = c.take_lead.new.self in
    let same : mid.script ≡ script = c.take_lead.ensures.script in
    lead_gave script (moment old st c.args.out.now.items) (moment new mid.state c.take_lead.new.out.items) (moment new c.drop_lost.new.self.state c.drop_lost.new.out.items) c.take_lead.ensures.gave
    (subst (λ (s : Script). Gave s none (λ lists. rules.of_coordinator (terminate_lost mid.state.region.view) mid.state) (moment new mid.state c.take_lead.new.out.items) (moment new c.drop_lost.new.self.state c.drop_lost.new.out.items)) same
    (lost_gave new mid c.drop_lost.new.self c.take_lead.new.out c.drop_lost.new.out c.knows.ensures.entities (subst (λ (s : Script). Rests new s mid.state) (sym same) c.take_lead.ensures.gave.rests) c.drop_lost.ensures.went))

pub returns-clause-room : goal.returns-clause-room
returns-clause-room g c =
    let one : c.args.out.now.spare ≤ c.take_lead.new.out.spare + 1 = c.take_lead.ensures.room in
    let two : c.take_lead.new.out.spare ≤ c.drop_lost.new.out.spare + 2064 = c.drop_lost.ensures.room in
    omega (arith, one, two)

pub returns-clause-rooms : goal.returns-clause-rooms
returns-clause-rooms g c = office_rooms_same c.take_lead.new.self c.drop_lost.new.self c.take_lead.new.out c.drop_lost.new.out (terminate_lost c.take_lead.new.self.state.region.view) c.drop_lost.ensures.went ∙ c.take_lead.ensures.rooms
