use Rattle.std.proofs.Common.{◌≡◌, ◌++◌, List, sym, subst, ◌∙◌, ap, length, map, take, drop, arith}
use Rattle.std.specs.Prelude.{Option}
use Rattle.std.proofs.lemmas.Grind.{common_steps}
use Rattle.yard_model.specs.declared.incarnation.Incarnation.{Incarnation}
use Rattle.yard_model.specs.declared.load.Load.{Load}
use Rattle.yard_model.specs.Words.{without}
use Rattle.coordinator_state.specs.Homes.{AreHomes, home_without, regions_of}
use Rattle.coordinator_state.proofs.HomesLaws.{terminated_homes, regions_without}
use Rattle.coordinator_state.proofs.homes.Homes.terminate.Goals as goal

pub invariant_of-self : goal.invariant_of-self
invariant_of-self c =
    let items = c.self.inside.homes.items in
    let r = c.args.r.now in
    let cleared : take c.self.inside.homes.len (c.clear_homes.new.homes ++ drop (length c.clear_homes.new.homes) items) ≡ map (home_without r) items = grind (arith, common_steps) in
    subst (λ (hs : List (Option Incarnation)). AreHomes hs c.loads_without.result) (sym cleared)
    (subst (λ (ls : List Load). AreHomes (map (home_without r) items) ls) (sym (rw c.deref.ensures at c.loads_without.ensures)) (terminated_homes items c.self.inside.loads.value r c.self.invariant))

pub returns-clause-regions : goal.returns-clause-regions
returns-clause-regions c =
    let r = c.args.r.now in
    ap regions_of (rw c.deref.ensures at c.loads_without.ensures) ∙ (regions_without r c.self.inside.loads.value ∙ ap (λ v. without r v.regions) c.self.view_is)
