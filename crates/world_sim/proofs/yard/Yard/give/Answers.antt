use Rattle.std.proofs.Common.{◌≡◌, ◌-◌, false, sym, subst, refl, ap}
use Rattle.std.specs.Prelude.{is_none, IsSomeAnd}
use Rattle.yard_model.specs.Script.{Script}
use Rattle.yard_model.specs.Words.{at}
use Rattle.world_sim.specs.Steps.{given}
use Rattle.world_sim.specs.Turns.{MayHandle}
use Rattle.world_sim.specs.Yard.{Yard, MayGive}
use Rattle.world_sim.proofs.GiveLaws.{up_inside, up_still, may_handle, given_told}
use Rattle.world_sim.proofs.SeenLaws.{all_told_is}
use Rattle.world_sim.proofs.StepLaws.{cut_none, step_err, step_seen, on_ok_any}
use Rattle.world_sim.proofs.yard.Yard.give.Goals as goal

pub hand_at-requires-clause-there : goal.hand_at-requires-clause-there
hand_at-requires-clause-there g c = let s = subst (λ v. MayGive c.args.input.now c.args.n v c.requires.0) (sym c.self.view_is) c.requires.1 in up_inside c.self.inside.nodes.items c.args.n s.stands_at.up

pub hand_at-requires-clause-up : goal.hand_at-requires-clause-up
hand_at-requires-clause-up g c = subst (λ (s : Script). IsSomeAnd (at c.self.inside.nodes.items (c.args.n - 1)) (MayHandle s c.args.input.now c.self.inside.book)) (sym c.charter.ensures) (may_handle _ c.requires.0 c.args.n c.args.input.now (subst (λ v. MayGive c.args.input.now c.args.n v c.requires.0) (sym c.self.view_is) c.requires.1))

pub returns-clause-up : goal.returns-clause-up
returns-clause-up g c = on_ok_any c.tell_items.result (is_none (at c.hand_at.new.nodes.items (c.args.n - 1)) ≡ false) (up_still c.args.input.now c.args.n c.self.inside.book c.hand_at.new.book c.self.inside.mail c.hand_at.new.mail c.self.inside.nodes.items c.hand_at.new.nodes.items c.in_ok-hand_at.ensures)

pub returns-clause-stepped : goal.returns-clause-stepped
returns-clause-stepped g c =
    let t = c.tell_items.ensures in
    let mid = c.hand_at.new.mail in
    step_seen (MayGive c.args.input.now c.args.n) 0 (given c.args.n c.args.input.now) c.tell_items.result _ _ _ _ _ c.self.view_is
    (given_told _ c.args.n c.args.input.now c.hand_at.new.nodes.items c.hand_at.new.book mid c.tell_items.new.self c.tell_items.result c.args.facts.now c.tell_items.new.facts c.in_ok-hand_at.ensures
    (all_told_is c.tell_items.result mid c.tell_items.new.self c.args.facts.now c.tell_items.new.facts t.facts t.packets t.fresh t.full t.items) t.told)

pub returns-in_err-hand_at-clause-stepped : goal.returns-in_err-hand_at-clause-stepped
returns-in_err-hand_at-clause-stepped g c = step_err (MayGive c.args.input.now c.args.n) 0 (given c.args.n c.args.input.now) c.from_residual.result _ _ _ _ c.from_residual.ensures.0 (cut_none (MayGive c.args.input.now c.args.n) (given c.args.n c.args.input.now) _ _ _ _ (ap (λ (v : Yard). v.script) c.self.view_is) refl)
