use Rattle.std.proofs.Common.{arith, refl, ap, sym, ◌∙◌, subst}
use Rattle.yard_model.specs.Script.{is_order}
use Rattle.yard_model.specs.World.{play_line, play, with_order}
use Rattle.std.specs.Prelude.{Some}
use Rattle.play_laws.specs.Played.{is_named}
use Rattle.world_sim.specs.Stepped.{Plays}
use Rattle.world_sim.specs.Yard.{Yard, IsBacked}
use Rattle.world_sim.proofs.DeliveryLaws.{line_stepped, noted_backed, noted_script, noted_version, noted_ups, noted_ordered}
use Rattle.world_sim.proofs.StepLaws.{cut_none, plays_err}
use Rattle.world_sim.proofs.yard.Yard.play_line.Goals as goal

pub play-requires-clause-world : goal.play-requires-clause-world
play-requires-clause-world g c =
    let r = c.requires.world in
    (with_order (Some c.args.line.now.order) r.0, subst (λ v. IsBacked v (with_order (Some c.args.line.now.order) r.0)) (sym c.note.ensures) (noted_backed c.args.line.now.order c.args.self.now r.0 r.1))

pub play-requires-clause-order : goal.play-requires-clause-order
play-requires-clause-order g c = ap (λ (v : Yard). is_order v.script.config c.args.line.now.order) c.note.ensures ∙ (ap (λ x. is_order x.config c.args.line.now.order) (noted_script c.args.line.now.order c.args.self.now) ∙ c.requires.order)

pub play-requires-clause-named : goal.play-requires-clause-named
play-requires-clause-named g c = ap (λ (v : Yard). is_named v.script c.args.line.now.order) c.note.ensures ∙ (ap (λ x. is_named x c.args.line.now.order) (noted_script c.args.line.now.order c.args.self.now) ∙ c.requires.named)

pub play-requires-clause-version : goal.play-requires-clause-version
play-requires-clause-version g c = noted_version c.args.line.now.order c.args.self.now c.note.new.self c.note.ensures c.requires.version

pub play-requires-clause-ups : goal.play-requires-clause-ups
play-requires-clause-ups g c = noted_ups c.args.line.now.order c.args.self.now c.note.new.self c.note.ensures c.requires.ups

pub returns : goal.returns
returns g c =
    line_stepped c.args.self.now c.args.line.now c.play.result c.play.new.self c.args.facts.now c.push.new.self c.play.new.facts c.in_ok-push.ensures.ok
    (subst (λ v. Plays 20 (play c.args.line.now.order) c.play.result v c.play.new.self c.push.new.self c.play.new.facts) c.note.ensures c.play.ensures)

pub returns-in_err-push : goal.returns-in_err-push
returns-in_err-push g c = plays_err 20 (play_line c.args.line.now) c.from_residual.result _ _ _ _ c.from_residual.ensures.0 (cut_none IsBacked (play_line c.args.line.now) _ _ _ _ refl c.in_err-push.ensures.err)

pub note-requires-clause-ordered : goal.note-requires-clause-ordered
note-requires-clause-ordered g c = λ k. let h = c.requires.ordered k in omega (arith, h)

pub play-requires-clause-ordered : goal.play-requires-clause-ordered
play-requires-clause-ordered g c = noted_ordered c.args.line.now.order c.args.self.now c.note.new.self c.note.ensures c.requires.ordered

pub note-requires-clause-world : goal.note-requires-clause-world
note-requires-clause-world g c = (c.requires.world.0, c.requires.world.1.sound)
