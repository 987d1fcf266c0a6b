use Rattle.std.proofs.Common.{ap, sym, ◌∙◌, subst}
use Rattle.std.specs.Prelude.{IsSome, IfSome, Some}
use Rattle.world_sim.specs.declared.fault.StepFault.TheVariants as fault
use Rattle.world_sim.specs.Played.{Played, WasSettled, WasCut}
use Rattle.world_sim.specs.World.{given_in}
use Rattle.world_sim.proofs.GivenLaws.{ready, ready_version, ready_ups, ready_ordered, world_settled, world_cut, settle_told, settle_short}
use Rattle.world_sim.proofs.world.World.settle.Goals as goal

pub settle-requires-clause-world : goal.settle-requires-clause-world
settle-requires-clause-world g c = ready c.given_may_settle.ensures c.self.inside.script.value (given_in c.self.inside.given) c.self.inside.yard c.self.inside.count c.self.inside.fault c.self.invariant (subst (λ (p : Played). IsSome p.given) (sym c.self.view_is) c.requires.given) (ap (λ (p : Played). p.count) c.self.view_is ∙ c.requires.first) (ap (λ (p : Played). p.fault) c.self.view_is ∙ c.requires.going)

pub settle-requires-clause-version : goal.settle-requires-clause-version
settle-requires-clause-version g c = ready_version c.self.inside.script.value (given_in c.self.inside.given) c.self.inside.yard c.self.inside.count c.self.inside.fault c.self.invariant (subst (λ (p : Played). IsSome p.given) (sym c.self.view_is) c.requires.given) (ap (λ (p : Played). p.count) c.self.view_is ∙ c.requires.first) (ap (λ (p : Played). p.fault) c.self.view_is ∙ c.requires.going)

pub settle-requires-clause-ups : goal.settle-requires-clause-ups
settle-requires-clause-ups g c = ready_ups c.self.inside.script.value (given_in c.self.inside.given) c.self.inside.yard c.self.inside.count c.self.inside.fault c.self.invariant (subst (λ (p : Played). IsSome p.given) (sym c.self.view_is) c.requires.given) (ap (λ (p : Played). p.count) c.self.view_is ∙ c.requires.first) (ap (λ (p : Played). p.fault) c.self.view_is ∙ c.requires.going)

pub settle-requires-clause-ordered : goal.settle-requires-clause-ordered
settle-requires-clause-ordered g c = ready_ordered c.self.inside.script.value (given_in c.self.inside.given) c.self.inside.yard c.self.inside.count c.self.inside.fault c.self.invariant (subst (λ (p : Played). IsSome p.given) (sym c.self.view_is) c.requires.given) (ap (λ (p : Played). p.count) c.self.view_is ∙ c.requires.first) (ap (λ (p : Played). p.fault) c.self.view_is ∙ c.requires.going)

pub invariant_of-self : goal.invariant_of-self
invariant_of-self g c = world_settled c.standing_is_kept.ensures c.given_may_settle.ensures c.self.inside.script.value (given_in c.self.inside.given) c.self.inside.yard c.settle.new.self c.self.inside.count c.self.inside.fault c.args.out.now c.settle.new.facts c.self.invariant (subst (λ (p : Played). IsSome p.given) (sym c.self.view_is) c.requires.given) (ap (λ (p : Played). p.count) c.self.view_is ∙ c.requires.first) (ap (λ (p : Played). p.fault) c.self.view_is ∙ c.requires.going) c.in-Ok.ensures

pub invariant_of-self-in-Err : goal.invariant_of-self-in-Err
invariant_of-self-in-Err g c = world_cut c.self.inside.script.value (given_in c.self.inside.given) c.self.inside.yard c.settle.new.self c.self.inside.count c.self.inside.fault c.self.invariant (subst (λ (p : Played). IsSome p.given) (sym c.self.view_is) c.requires.given)

pub returns-in-Ok : goal.returns-in-Ok
returns-in-Ok g c =
    subst (λ (p : Played). IfSome p.given (λ o. WasSettled p o c.args.out.now (record { script = c.self.inside.script.value; given = given_in c.self.inside.given; count = 1; fault = c.self.inside.fault }) c.settle.new.facts)) c.self.view_is
    (settle_told c.stores_settle.ensures c.given_may_settle.ensures c.self.inside.script.value (given_in c.self.inside.given) c.self.inside.yard c.settle.new.self c.self.inside.count c.self.inside.fault c.args.out.now c.settle.new.facts c.self.invariant (ap (λ (p : Played). p.count) c.self.view_is ∙ c.requires.first) (ap (λ (p : Played). p.fault) c.self.view_is ∙ c.requires.going) c.in-Ok.ensures)

pub returns-in-Err : goal.returns-in-Err
returns-in-Err g c =
    subst (λ (p : Played). IfSome p.given (λ o. WasCut p o c.args.out.now (record { script = c.self.inside.script.value; given = given_in c.self.inside.given; count = c.self.inside.count; fault = Some fault.OutOfMemory }) c.settle.new.facts)) c.self.view_is
    (settle_short c.given_may_settle.ensures c.self.inside.script.value (given_in c.self.inside.given) c.self.inside.yard c.settle.new.self c.self.inside.count c.self.inside.fault c.args.out.now c.settle.new.facts c.self.invariant (ap (λ (p : Played). p.count) c.self.view_is ∙ c.requires.first) (ap (λ (p : Played). p.fault) c.self.view_is ∙ c.requires.going) c.in-Err.ensures)
