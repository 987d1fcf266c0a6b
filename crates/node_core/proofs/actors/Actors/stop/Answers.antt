use Rattle.std.proofs.Common.{◌≡◌, ◌<◌, sym, subst, arith, true, false}
use Rattle.std.specs.List.{list_any}
use Rattle.std.specs.Prelude.{Option, None, slice_index_or, IfSome, MatchOption}
use Rattle.yard_model.specs.Entities.{hosted, stop}
use Rattle.yard_model.specs.Genuine.{is_brought}
use Rattle.yard_model.specs.Node as rules
use Rattle.node_laws.specs.NodeStands.{IsSoundNode}
use Rattle.yard_model.specs.Region.{Region}
use Rattle.yard_model.specs.Script.{Script, setting}
use Rattle.yard_model.specs.Setting.{shard_of}
use Rattle.coordinator_actor.specs.Held.{Held}
use Rattle.shard_entities.specs.Lodged.{Lodged, moved}
use Rattle.shard_entities.specs.Settled.{IsStopped, frees}
use Rattle.shard_lease.specs.Meaning.{Meaning}
use Rattle.node_core.specs.Found.{none}
use Rattle.node_core.specs.Gave.{Gave, moment}
use Rattle.node_core.specs.Leased.{Rests, MayGiveBack, GaveBack}
use Rattle.node_core.specs.Standing.{Standing, IsReady, standing_of, node_of}
use Rattle.node_core.proofs.PartLaws.{parts_moved}
use Rattle.node_core.proofs.StillEntities.{stop_first}
use Rattle.node_core.proofs.FreeingLaws.{back_of_stop, stopped_gave}
use Rattle.node_core.proofs.actors.Actors.stop.Goals as goal

pub give_back_stopped-requires : goal.give_back_stopped-requires
give_back_stopped-requires g c =
    let script : Script = c.self.inside.script.value in
    let r : Region = c.self.inside.region.state in
    let e : Lodged = c.self.inside.entities in
    let k : Option Held = c.self.inside.coordinator in
    let m : Meaning = g.L.Leases.meaning c.args.leases.now in
    let ready : IsReady (standing_of script r e c.self.inside.producers k) c.args.out.now.spare = subst (λ (v : Standing). IsReady v c.args.out.now.spare) (sym c.self.view_is) c.requires.ready in
    let stopped = subst (λ (d : Script). MatchOption c.stop-stopped.result (list_any frees (stop c.args.entity.now e.state) ≡ false) (IsStopped e (moved e (stop_first c.args.entity.now e.state)) (shard_of (setting d) c.args.entity.now))) c.self.invariant.0.entities_script c.stop-stopped.ensures.stopped in
    subst (λ w. IfSome c.stop-stopped.result (λ x. MayGiveBack m w x.shard x.store)) (sym c.who.ensures)
    (back_of_stop script m r e c.self.inside.producers k c.args.entity.now _ c.shards_are_there.ensures c.self.invariant.0.script_is
    (subst (λ (v : Standing). IsSoundNode v.script v.state) (sym c.self.view_is) c.requires.sound)
    (subst (λ (v : Standing). is_brought v.script c.args.entity.now ≡ true) (sym c.self.view_is) c.requires.name)
    c.self.invariant.0.entities_script c.self.invariant.0.entities_set c.self.invariant.0.entities_who
    (λ there. let wide = ready.rooms (shard_of (setting script) c.args.entity.now) there in omega (arith, wide))
    (subst (λ (v : Standing). Rests m v.script v.state) (sym c.self.view_is) c.requires.rests) c.stop-stopped.result stopped c.stop-stopped.ensures.freed)

pub invariant_of-self : goal.invariant_of-self
invariant_of-self g c = (parts_moved (stop c.args.entity.now c.self.inside.entities.state) c.stop-stopped.ensures.state c.self.invariant.0, c.self.invariant.1)

pub returns-clause-gave : goal.returns-clause-gave
returns-clause-gave g c =
    let script : Script = c.self.inside.script.value in
    let r : Region = c.self.inside.region.state in
    let e : Lodged = c.self.inside.entities in
    let k : Option Held = c.self.inside.coordinator in
    let old : Meaning = g.L.Leases.meaning c.args.leases.now in
    let new : Meaning = g.L.Leases.meaning c.give_back_stopped.new.leases in
    let stopped = subst (λ (d : Script). MatchOption c.stop-stopped.result (list_any frees (stop c.args.entity.now e.state) ≡ false) (IsStopped e (moved e (stop_first c.args.entity.now e.state)) (shard_of (setting d) c.args.entity.now))) c.self.invariant.0.entities_script c.stop-stopped.ensures.stopped in
    subst (λ (v : Standing). Gave v.script none (λ lists. rules.of_entities (stop c.args.entity.now) v.state) (moment old v.state c.args.out.now.items) (moment new (node_of script r c.stop-stopped.new.self c.self.inside.producers k) c.stop-stopped.new.out.items)) c.self.view_is
    (stopped_gave script old new r e c.stop-stopped.new.self c.self.inside.producers k c.args.entity.now c.args.out.now c.stop-stopped.new.out c.shards_are_there.ensures c.self.invariant.0.script_is
    (subst (λ (v : Standing). IsSoundNode v.script v.state) (sym c.self.view_is) c.requires.sound)
    (subst (λ (v : Standing). is_brought v.script c.args.entity.now ≡ true) (sym c.self.view_is) c.requires.name)
    c.self.invariant.0.entities_set c.self.invariant.0.entities_who (subst (λ (v : Standing). Rests old v.script v.state) (sym c.self.view_is) c.requires.rests)
    c.stop-stopped.ensures.state c.stop-stopped.ensures.out c.stop-stopped.result stopped c.stop-stopped.ensures.freed
    (subst (λ w. MatchOption c.stop-stopped.result (new ≡ old) (λ x. GaveBack old w x.shard x.store.entries new)) c.who.ensures c.give_back_stopped.ensures))

pub stop-stopped-requires-clause-there : goal.stop-stopped-requires-clause-there
stop-stopped-requires-clause-there g c =
    let script : Script = c.self.inside.script.value in
    let e : Lodged = c.self.inside.entities in
    let ready : IsReady (standing_of script c.self.inside.region.state e c.self.inside.producers c.self.inside.coordinator) c.args.out.now.spare = subst (λ (v : Standing). IsReady v c.args.out.now.spare) (sym c.self.view_is) c.requires.ready in
    subst (λ (d : Script). (hosted e.state (shard_of (setting d) c.args.entity.now) ≡ None → ⊥) → 0 < slice_index_or e.rooms (shard_of (setting d) c.args.entity.now) 0) (sym c.self.invariant.0.entities_script)
    (λ there. let wide = ready.rooms (shard_of (setting script) c.args.entity.now) there in omega (arith, wide))
