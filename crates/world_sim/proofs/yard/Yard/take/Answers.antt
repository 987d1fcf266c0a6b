use Rattle.std.proofs.Common.{sym, ap, ◌∙◌}
use Rattle.yard_model.specs.declared.input.Input.TheVariants as input
use Rattle.yard_model.specs.Genuine.{is_producer}
use Rattle.yard_model.specs.Script.{Script}
use Rattle.yard_model.specs.World.{send_all_waiting}
use Rattle.world_sim.specs.Steps.{given, produced}
use Rattle.world_sim.specs.Yard.{Yard, MayGive}
use Rattle.world_sim.proofs.ProduceLaws.{given_at, taken_stepped, taken_full}
use Rattle.world_sim.proofs.StepLaws.{step_cut, step_err}
use Rattle.world_sim.proofs.yard.Yard.take.Goals as goal

pub send_all_waiting-requires-clause-world : goal.send_all_waiting-requires-clause-world
send_all_waiting-requires-clause-world g c =
    let r = c.requires.world in
    let e = c.in_ok-give.ensures.stepped in
    let full = ap (λ (v : Yard). v.mail.full) (sym c.self.view_is) ∙ (sym c.is_full.ensures ∙ c.if-is_full.false) in (
      (given c.args.n (input.Produce c.args.p) r.0).world,
      (given_at c.args.self.now c.give.new.self r.0 c.args.n (input.Produce c.args.p) c.args.facts.now c.give.new.facts e.script_is r.1.stands_at
          (c.standing_is_kept.ensures.produces c.args.self.now.script r.0 c.args.p c.args.n c.requires.producer r.1.stands_at.sound.stands_is) c.in_ok-give.ensures.up full (e.goes r.0 r.1)).1,
    )

pub send_all_waiting-requires-clause-producer : goal.send_all_waiting-requires-clause-producer
send_all_waiting-requires-clause-producer g c = ap (λ (x : Script). is_producer x c.args.p) c.in_ok-give.ensures.stepped.script_is ∙ c.requires.producer

pub returns-then-is_full : goal.returns-then-is_full
returns-then-is_full g c =
    let full = ap (λ (v : Yard). v.mail.full) (sym c.self.view_is) ∙ (sym c.is_full.ensures ∙ c.if-is_full.true) in
    taken_full c.args.self.now c.give.new.self c.args.p c.args.n c.args.facts.now c.give.new.facts c.in_ok-give.ensures.stepped full

pub returns : goal.returns
returns g c =
    let full = ap (λ (v : Yard). v.mail.full) (sym c.self.view_is) ∙ (sym c.is_full.ensures ∙ c.if-is_full.false) in
    taken_stepped c.standing_is_kept.ensures c.args.self.now c.give.new.self c.args.p c.args.n c.send_all_waiting.result c.send_all_waiting.new.self c.args.facts.now c.give.new.facts c.send_all_waiting.new.facts c.requires.producer c.in_ok-give.ensures.stepped c.in_ok-give.ensures.up full c.send_all_waiting.ensures

pub returns-in_err-give : goal.returns-in_err-give
returns-in_err-give g c = step_err (MayGive (input.Produce c.args.p) c.args.n) 0 (produced c.args.p c.args.n) c.from_residual.result _ _ _ _ c.from_residual.ensures.0
    (step_cut (MayGive (input.Produce c.args.p) c.args.n) (given c.args.n (input.Produce c.args.p)) (send_all_waiting c.args.p c.args.n) c.args.self.now c.give.new.self c.args.facts.now c.give.new.facts c.in_err-give.ensures.stepped)
