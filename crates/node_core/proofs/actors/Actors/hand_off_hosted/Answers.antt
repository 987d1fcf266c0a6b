use Rattle.std.proofs.Common.{◌≡◌, ◌≤◌, length, sym, subst, arith, true}
use Rattle.std.specs.Prelude.{Option, IfSome, MatchOption}
use Rattle.yard_model.specs.Entities.{hand_off}
use Rattle.yard_model.specs.Genuine.{is_shard}
use Rattle.yard_model.specs.Node as rules
use Rattle.yard_model.specs.Region.{Region}
use Rattle.yard_model.specs.Script.{Script}
use Rattle.yard_model.specs.Setting.{names_of}
use Rattle.coordinator_actor.specs.Held.{Held}
use Rattle.shard_entities.specs.Lodged.{Lodged}
use Rattle.shard_lease.specs.Meaning.{Meaning}
use Rattle.node_core.specs.Found.{none}
use Rattle.node_core.specs.Gave.{Gave, moment}
use Rattle.node_core.specs.Leased.{Rests, MayGiveBack, GaveBack}
use Rattle.node_core.specs.Standing.{Standing, IsReady, standing_of, node_of}
use Rattle.room_laws.proofs.Limits.{few_names_in}
use Rattle.room_laws.proofs.Gives.{filter_few}
use Rattle.node_core.proofs.PartLaws.{parts_moved}
use Rattle.node_core.proofs.FreeingLaws.{back_of_hand_off, handed_gave}
use Rattle.node_core.proofs.actors.Actors.hand_off_hosted.Goals as goal

pub hand_off-store-requires-clause-room : goal.hand_off-store-requires-clause-room
hand_off-store-requires-clause-room g c =
    let e : Lodged = c.self.inside.entities in
    let few : length e.state.set.names ≤ 1000 = few_names_in c.self.inside.script.value e.state.set c.self.invariant.0.script_is c.self.invariant.0.entities_set in
    let fewer : length (names_of e.state.set c.args.s) ≤ length e.state.set.names = filter_few _ e.state.set.names in
    let room : 8000 ≤ c.args.out.now.spare = let all = c.requires.ready.room in omega (arith, all) in
    omega (arith, few, fewer, room)

pub give_back_store-requires : goal.give_back_store-requires
give_back_store-requires g c =
    let script : Script = c.self.inside.script.value in
    let r : Region = c.self.inside.region.state in
    let e : Lodged = c.self.inside.entities in
    let k : Option Held = c.self.inside.coordinator in
    let m : Meaning = g.L.Leases.meaning c.args.leases.now in
    let ready : IsReady (standing_of script r e c.self.inside.producers k) c.args.out.now.spare = subst (λ (v : Standing). IsReady v c.args.out.now.spare) (sym c.self.view_is) c.requires.ready in
    subst (λ w. IfSome c.hand_off-store.result (MayGiveBack m w c.args.s)) (sym c.who.ensures)
    (back_of_hand_off script m r e c.self.inside.producers k c.args.s _ c.self.invariant.0.who_is (subst (λ (v : Standing). is_shard v.script c.args.s ≡ true) (sym c.self.view_is) c.requires.shard)
    c.self.invariant.0.entities_script c.self.invariant.0.entities_who
    (λ there. let wide = ready.rooms c.args.s there in omega (arith, wide))
    (subst (λ (v : Standing). Rests m v.script v.state) (sym c.self.view_is) c.requires.rests) c.hand_off-store.result c.hand_off-store.ensures.store)

pub invariant_of-self : goal.invariant_of-self
invariant_of-self g c = (parts_moved (hand_off c.args.s c.args.stamp c.args.to c.self.inside.entities.state) c.hand_off-store.ensures.state c.self.invariant.0, c.self.invariant.1)

pub returns-clause-gave : goal.returns-clause-gave
returns-clause-gave g c =
    let script : Script = c.self.inside.script.value in
    let r : Region = c.self.inside.region.state in
    let e : Lodged = c.self.inside.entities in
    let k : Option Held = c.self.inside.coordinator in
    let old : Meaning = g.L.Leases.meaning c.args.leases.now in
    let new : Meaning = g.L.Leases.meaning c.give_back_store.new.leases in
    subst (λ (v : Standing). Gave v.script none (λ lists. rules.of_entities (hand_off c.args.s c.args.stamp c.args.to) v.state) (moment old v.state c.args.out.now.items) (moment new (node_of script r c.hand_off-store.new.self c.self.inside.producers k) c.hand_off-store.new.out.items)) c.self.view_is
    (handed_gave script old new r e c.hand_off-store.new.self c.self.inside.producers k c.args.s c.args.stamp c.args.to c.args.out.now c.hand_off-store.new.out c.self.invariant.0.entities_set c.self.invariant.0.entities_who
    (subst (λ (v : Standing). is_shard v.script c.args.s ≡ true) (sym c.self.view_is) c.requires.shard) (subst (λ (v : Standing). Rests old v.script v.state) (sym c.self.view_is) c.requires.rests)
    c.hand_off-store.ensures.state c.hand_off-store.ensures.out c.hand_off-store.result c.hand_off-store.ensures.store c.hand_off-store.ensures.freed
    (subst (λ w. MatchOption c.hand_off-store.result (new ≡ old) (λ x. GaveBack old w c.args.s x.entries new)) c.who.ensures c.give_back_store.ensures))
