use Rattle.std.proofs.Common.{◌≡◌, ◌∙◌, sym, true}
use Rattle.std.specs.Prelude.{not}
use Rattle.yard_model.specs.Entities.{is_hosted}
use Rattle.yard_model.specs.Region.{is_home}
use Rattle.plain_laws.proofs.Booleans.{and_both, of_not}
use Rattle.node_core.specs.Gave.{moment}
use Rattle.node_core.specs.Standing.{Standing}
use Rattle.node_core.proofs.HomeLaws.{again_gave, again_nothing, again_same}
use Rattle.node_core.proofs.actors.Actors.start_again.Goals as goal

pub start_and_release-requires-clause-new : goal.start_and_release-requires-clause-new
start_and_release-requires-clause-new g c =
    let v : Standing = c.args.self.now in
    of_not (is_hosted v.state.entities c.args.s) (and_both (is_home v.state.region c.args.s) (not (is_hosted v.state.entities c.args.s)) (sym c.is_missing.ensures ∙ c.if-is_missing.true)).1

pub returns-then-is_missing-clause-gave : goal.returns-then-is_missing-clause-gave
returns-then-is_missing-clause-gave g c =
    let v : Standing = c.args.self.now in
    let both : (is_home v.state.region c.args.s ≡ true) × (not (is_hosted v.state.entities c.args.s) ≡ true) = and_both (is_home v.state.region c.args.s) (not (is_hosted v.state.entities c.args.s)) (sym c.is_missing.ensures ∙ c.if-is_missing.true) in
    again_gave v.script c.args.s (moment (g.L.Leases.meaning c.args.leases.now) v.state c.args.out.now.items) (moment (g.L.Leases.meaning c.start_and_release.new.leases) c.start_and_release.new.self.state c.start_and_release.new.out.items)
    both.0 (of_not (is_hosted v.state.entities c.args.s) both.1) c.start_and_release.ensures.gave

pub returns-else-is_missing-clause-gave : goal.returns-else-is_missing-clause-gave
returns-else-is_missing-clause-gave g c =
    let v : Standing = c.args.self.now in
    again_nothing v.script c.args.s (moment (g.L.Leases.meaning c.args.leases.now) v.state c.args.out.now.items) (sym c.is_missing.ensures ∙ c.if-is_missing.false) c.requires.rests

pub returns-else-is_missing-clause-leaves : goal.returns-else-is_missing-clause-leaves
returns-else-is_missing-clause-leaves g c = again_same c.args.s
