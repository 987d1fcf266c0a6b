use Rattle.std.proofs.Common.{◌≡◌, [], ◌∷◌, sym, subst, refl, true, ◌∙◌}
use Rattle.std.specs.Prelude.{Option, IfSome}
use Rattle.std.specs.Option.{option_map}
use Rattle.yard_model.specs.declared.incarnation.Slot.TheVariants as slot
use Rattle.yard_model.specs.Genuine.{is_shard}
use Rattle.yard_model.specs.Region.{Region}
use Rattle.yard_model.specs.Script.{Script}
use Rattle.coordinator_actor.specs.Held.{Held}
use Rattle.producer_ctl.specs.Producing.{Producing}
use Rattle.shard_entities.specs.Lodged.{Lodged, without}
use Rattle.shard_lease.specs.Meaning.{Meaning}
use Rattle.shard_store.specs.Shelf.{Shelf}
use Rattle.node_core.specs.Leased.{Rests, MayGiveBack}
use Rattle.node_core.specs.LetGo.{AreFreed, IsSlotFreed}
use Rattle.node_core.specs.Standing.{Standing, IsEnding, standing_of}
use Rattle.node_core.proofs.CrashLaws.{freed_one, shard_list_is, shard_ending, none_freed, not_hosted}
use Rattle.node_core.proofs.FreeingLaws.{back_of_hand_off}
use Rattle.node_core.proofs.PartLaws.{without_frees}
use Rattle.node_core.proofs.actors.Actors.let_shard_go.Goals as goal

pub free_shard_if_there-requires-clause-store : goal.free_shard_if_there-requires-clause-store
free_shard_if_there-requires-clause-store g c =
    let script : Script = c.self.inside.script.value in
    let r : Region = c.self.inside.region.state in
    let e : Lodged = c.self.inside.entities in
    let ps : Producing = c.self.inside.producers in
    let k : Option Held = c.self.inside.coordinator in
    let old : Meaning = g.L.Leases.meaning c.args.leases.now in
    subst (λ w. IfSome c.take_all-store.result (MayGiveBack old w c.args.s)) (sym c.who.ensures)
    (back_of_hand_off script old r e ps k c.args.s _ c.self.invariant.0.who_is (subst (λ (v : Standing). is_shard v.script c.args.s ≡ true) (sym c.self.view_is) c.requires.shard)
    c.self.invariant.0.entities_script c.self.invariant.0.entities_who
    (λ there. (subst IsEnding (sym c.self.view_is) c.requires.ending).rooms c.args.s there)
    (subst (λ (v : Standing). Rests old v.script v.state) (sym c.self.view_is) c.requires.rests) c.take_all-store.result c.take_all-store.ensures.store)

pub returns-then-is_hosted : goal.returns-then-is_hosted
returns-then-is_hosted g c =
    let script : Script = c.self.inside.script.value in
    let r : Region = c.self.inside.region.state in
    let e : Lodged = c.self.inside.entities in
    let ps : Producing = c.self.inside.producers in
    let k : Option Held = c.self.inside.coordinator in
    let s = c.args.s in
    let old : Meaning = g.L.Leases.meaning c.args.leases.now in
    let new : Meaning = g.L.Leases.meaning c.free_shard_if_there.new.leases in
    subst (λ (x : Lodged). AreFreed (slot.Shard s ∷ []) c.args.self.now (standing_of script r x ps k) old new c.args.out.now c.free_shard_if_there.new.out) (sym c.take_all-store.ensures.state)
    (subst (λ (v : Standing). AreFreed (slot.Shard s ∷ []) v (standing_of script r (without e s) ps k) old new c.args.out.now c.free_shard_if_there.new.out) c.self.view_is
    (freed_one (standing_of script r e ps k) (standing_of script r (without e s) ps k) (slot.Shard s) (option_map (λ (x : Shelf). x.entries) c.take_all-store.result) old new c.args.out.now c.free_shard_if_there.new.out refl
    (subst (λ (v : Standing). is_shard v.script s ≡ true) (sym c.self.view_is) c.requires.shard)
    (shard_list_is script r e ps k s c.take_all-store.result c.take_all-store.ensures.store) (without_frees script r e ps k s)
    (subst (λ w. IsSlotFreed (slot.Shard s) w (option_map (λ (x : Shelf). x.entries) c.take_all-store.result) old new c.args.out.now c.free_shard_if_there.new.out) c.who.ensures c.free_shard_if_there.ensures)
    (subst (λ (v : Standing). Rests old v.script v.state) (sym c.self.view_is) c.requires.rests)
    (shard_ending script r e ps k s (subst IsEnding (sym c.self.view_is) c.requires.ending))))

pub returns-else-is_hosted : goal.returns-else-is_hosted
returns-else-is_hosted g c =
    let v : Standing = c.args.self.now in
    none_freed v (slot.Shard c.args.s) (g.L.Leases.meaning c.args.leases.now) c.args.out.now c.requires.shard
    (not_hosted v.state c.args.s (sym c.is_hosted.ensures ∙ c.if-is_hosted.false)) c.requires.rests c.requires.ending
