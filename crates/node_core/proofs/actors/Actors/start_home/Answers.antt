use Rattle.std.proofs.Common.{◌∙◌, sym}
use Rattle.node_core.specs.Gave.{moment}
use Rattle.node_core.specs.Standing.{Standing}
use Rattle.node_core.proofs.HomeLaws.{start_home_gave, start_home_not}
use Rattle.node_core.proofs.StartLaws.{start_leaves_all}
use Rattle.node_core.proofs.actors.Actors.start_home.Goals as goal

pub returns-then-is_home-clause-gave : goal.returns-then-is_home-clause-gave
returns-then-is_home-clause-gave g c =
    let v : Standing = c.args.self.now in
    start_home_gave v.script c.args.s (moment (g.L.Leases.meaning c.args.leases.now) v.state c.args.out.now.items) (moment (g.L.Leases.meaning c.start.new.leases) c.start.new.self.state c.start.new.out.items)
    (sym c.is_home.ensures ∙ c.if-is_home.true) c.start.ensures.gave

pub returns-else-is_home-clause-gave : goal.returns-else-is_home-clause-gave
returns-else-is_home-clause-gave g c =
    let v : Standing = c.args.self.now in
    start_home_not v.script c.args.s (moment (g.L.Leases.meaning c.args.leases.now) v.state c.args.out.now.items) (sym c.is_home.ensures ∙ c.if-is_home.false) c.requires.rests

pub returns-else-is_home-clause-leaves : goal.returns-else-is_home-clause-leaves
returns-else-is_home-clause-leaves g c = start_leaves_all c.args.s
