use Rattle.std.proofs.Common.{◌∙◌, sym}
use Rattle.node_core.specs.Standing.{Standing}
use Rattle.node_core.proofs.StartLaws.{start_leaves_all, start_taken, start_there}
use Rattle.node_core.proofs.actors.Actors.start.Goals as goal

pub returns-then-not-is_hosted-clause-gave : goal.returns-then-not-is_hosted-clause-gave
returns-then-not-is_hosted-clause-gave g c =
    let v : Standing = c.args.self.now in
    start_taken v.script c.args.s (g.L.Leases.meaning c.args.leases.now) (g.L.Leases.meaning c.take_shard.new.leases) v.state c.take_shard.new.self.state c.args.out.now.items c.take_shard.new.out.items
    (sym c.is_hosted.ensures ∙ c.if-not-is_hosted.true) c.take_shard.ensures.gave

pub returns-else-not-is_hosted-clause-gave : goal.returns-else-not-is_hosted-clause-gave
returns-else-not-is_hosted-clause-gave g c =
    let v : Standing = c.args.self.now in
    start_there v.script c.args.s (g.L.Leases.meaning c.args.leases.now) v.state c.args.out.now.items (sym c.is_hosted.ensures ∙ c.if-not-is_hosted.false) c.requires.rests

pub returns-else-not-is_hosted-clause-leaves : goal.returns-else-not-is_hosted-clause-leaves
returns-else-not-is_hosted-clause-leaves g c = start_leaves_all c.args.s
