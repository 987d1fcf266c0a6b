use Rattle.std.proofs.Common.{◌≡◌, ◌∙◌, subst}
use Rattle.yard_model.specs.Node.{turn}
use Rattle.yard_model.specs.World.{all_sends}
use Rattle.node_core.specs.Gave.{moment}
use Rattle.node_core.specs.Standing.{Standing}
use Rattle.node_core.specs.Turned.{Turned}
use Rattle.node_runner.proofs.up_node.UpNode.turn.Goals as goal

pub returns-clause-turned : goal.returns-clause-turned
returns-clause-turned g c =
    let same : c.deref_mut.result.now ≡ c.args.self.now = c.deref_mut.ensures.value ∙ c.self.view_is in
    subst (λ (v : Standing). Turned v.script (λ lists. turn (all_sends v.script) lists c.args.input.now v.state) (moment (g.L.Leases.meaning c.args.leases.now) v.state c.args.out.now.items) (moment (g.L.Leases.meaning c.handle.new.leases) c.handle.new.self.state c.handle.new.out.items))
    same c.handle.ensures.turned
