use Rattle.std.proofs.Common.{◌∙◌, sym}
use Rattle.yard_model.specs.Node.{Node}
use Rattle.yard_model.specs.Script.{Script}
use Rattle.shard_lease.specs.Meaning.{Meaning}
use Rattle.node_core.specs.Gave.{moment}
use Rattle.node_core.proofs.PacketLaws.{asked_gave, not_asked_gave}
use Rattle.node_core.proofs.actors.Actors.take_lead.Goals as goal

pub returns-then-is_to_lead-clause-gave : goal.returns-then-is_to_lead-clause-gave
returns-then-is_to_lead-clause-gave g c =
    let old : Meaning = g.L.Leases.meaning c.args.leases.now in
    let script : Script = c.args.self.now.script in
    let st : Node = c.args.self.now.state in
    asked_gave script (moment old st c.args.out.now.items) (moment (g.L.Leases.meaning c.take_slot.new.leases) c.take_slot.new.self.state c.take_slot.new.out.items) (sym c.is_to_lead.ensures ∙ c.if-is_to_lead.true) c.take_slot.ensures.gave

pub returns-else-is_to_lead-clause-gave : goal.returns-else-is_to_lead-clause-gave
returns-else-is_to_lead-clause-gave g c =
    let old : Meaning = g.L.Leases.meaning c.args.leases.now in
    let script : Script = c.args.self.now.script in
    let st : Node = c.args.self.now.state in
    not_asked_gave script (moment old st c.args.out.now.items) (sym c.is_to_lead.ensures ∙ c.if-is_to_lead.false) c.requires.rests
