use Rattle.std.proofs.Common.{[], ◌∷◌, sym, subst, refl, ◌∙◌}
use Rattle.std.specs.Prelude.{Option, None, IfSome}
use Rattle.std.specs.Option.{option_map}
use Rattle.yard_model.specs.declared.incarnation.Slot.TheVariants as slot
use Rattle.yard_model.specs.Region.{Region}
use Rattle.yard_model.specs.Script.{Script}
use Rattle.coordinator_actor.specs.Held.{Held}
use Rattle.producer_ctl.specs.Producing.{Producing}
use Rattle.shard_entities.specs.Lodged.{Lodged}
use Rattle.shard_lease.specs.Meaning.{Meaning}
use Rattle.node_core.specs.Leased.{Rests, MayGiveOffice}
use Rattle.node_core.specs.LetGo.{AreFreed, IsSlotFreed}
use Rattle.node_core.specs.Standing.{Standing, IsEnding, standing_of}
use Rattle.node_core.proofs.CrashLaws.{freed_one, office_list_is, office_ending, office_frees, back_of_office, none_freed, no_office}
use Rattle.node_core.proofs.actors.Actors.let_office_go.Goals as goal

pub free_office_if_there-requires-clause-office : goal.free_office_if_there-requires-clause-office
free_office_if_there-requires-clause-office g c =
    let script : Script = c.self.inside.script.value in
    let r : Region = c.self.inside.region.state in
    let e : Lodged = c.self.inside.entities in
    let ps : Producing = c.self.inside.producers in
    let k : Option Held = c.self.inside.coordinator in
    let old : Meaning = g.L.Leases.meaning c.args.leases.now in
    subst (λ (o : Option Held). IfSome o (MayGiveOffice old c.who.result)) (sym c.take-coordinator.ensures.value)
    (subst (λ w. IfSome c.self.inside.coordinator (MayGiveOffice old w)) (sym c.who.ensures)
    (back_of_office script old r e ps k c.self.invariant.0.who_is c.self.invariant.0.coordinator (subst IsEnding (sym c.self.view_is) c.requires.ending)
    (subst (λ (v : Standing). Rests old v.script v.state) (sym c.self.view_is) c.requires.rests)))

pub returns-then-is_coordinator : goal.returns-then-is_coordinator
returns-then-is_coordinator g c =
    let script : Script = c.self.inside.script.value in
    let r : Region = c.self.inside.region.state in
    let e : Lodged = c.self.inside.entities in
    let ps : Producing = c.self.inside.producers in
    let k : Option Held = c.self.inside.coordinator in
    let old : Meaning = g.L.Leases.meaning c.args.leases.now in
    let new : Meaning = g.L.Leases.meaning c.free_office_if_there.new.leases in
    subst (λ (o : Option Held). AreFreed (slot.Coordinator ∷ []) c.args.self.now (standing_of script r e ps o) old new c.args.out.now c.free_office_if_there.new.out) (sym c.take-coordinator.ensures.after)
    (subst (λ (v : Standing). AreFreed (slot.Coordinator ∷ []) v (standing_of script r e ps None) old new c.args.out.now c.free_office_if_there.new.out) c.self.view_is
    (freed_one (standing_of script r e ps k) (standing_of script r e ps None) slot.Coordinator (option_map (λ (x : Held). x.state.entries) k) old new c.args.out.now c.free_office_if_there.new.out refl refl
    (office_list_is script r e ps k) (office_frees script r e ps k)
    (subst (λ (o : Option Held). IsSlotFreed slot.Coordinator r.who (option_map (λ (x : Held). x.state.entries) o) old new c.args.out.now c.free_office_if_there.new.out) c.take-coordinator.ensures.value
    (subst (λ w. IsSlotFreed slot.Coordinator w (option_map (λ (x : Held). x.state.entries) c.take-coordinator.result) old new c.args.out.now c.free_office_if_there.new.out) c.who.ensures c.free_office_if_there.ensures))
    (subst (λ (v : Standing). Rests old v.script v.state) (sym c.self.view_is) c.requires.rests)
    (office_ending script r e ps k (subst IsEnding (sym c.self.view_is) c.requires.ending))))

pub returns-else-is_coordinator : goal.returns-else-is_coordinator
returns-else-is_coordinator g c =
    let v : Standing = c.args.self.now in
    none_freed v slot.Coordinator (g.L.Leases.meaning c.args.leases.now) c.args.out.now refl
    (no_office v.state (sym c.is_coordinator.ensures ∙ c.if-is_coordinator.false)) c.requires.rests c.requires.ending
