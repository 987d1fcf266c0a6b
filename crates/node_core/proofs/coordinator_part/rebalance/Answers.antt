use Rattle.std.proofs.Common.{◌+◌, sym, ap, subst, ◌∙◌, length}
use Rattle.std.specs.Prelude.{Option, Some}
use Rattle.yard_model.specs.Coordinator.{Coordinator, rebalance}
use Rattle.coordinator_actor.specs.Held.{Held}
use Rattle.node_core.specs.Went.{CoordinatorWent}
use Rattle.std.proofs.Common.{◌≤◌, arith}
use Rattle.std.specs.List.{flat_map}
use Rattle.yard_model.specs.Move.{item_of}
use Rattle.room_laws.proofs.CoordinatorRoom.{rebalance_room}
use Rattle.room_laws.proofs.Limits.{few_shards_in}
use Rattle.node_core.proofs.StepLaws.{coordinator_did, coordinator_absent}
use Rattle.node_core.proofs.coordinator_part.rebalance.Goals as goal

pub returns-in-Some : goal.returns-in-Some
returns-in-Some c =
    let k : Held = c.in-Some.coordinator in
    subst (λ (o : Option Held). CoordinatorWent (rebalance c.args.limit) o (Some c.rebalance.new.self) c.args.out.now c.rebalance.new.out) (sym c.in-Some.is)
    (coordinator_did (rebalance c.args.limit) k c.rebalance.new.self c.args.out.now c.rebalance.new.out c.rebalance.ensures.state c.rebalance.ensures.items c.rebalance.ensures.spare (ap (λ l. length l + c.rebalance.new.self.spare) c.rebalance.ensures.kept ∙ ap (λ n. length k.state.entries + n) c.rebalance.ensures.entries) c.rebalance.ensures.script
    (ap (λ (s : Coordinator). s.who) c.rebalance.ensures.state ∙ c.same_law.ensures.who k.state (rebalance c.args.limit k.state))
    (ap (λ (s : Coordinator). s.set) c.rebalance.ensures.state ∙ c.same_law.ensures.set k.state (rebalance c.args.limit k.state)))

pub returns-in_default : goal.returns-in_default
returns-in_default c = coordinator_absent (rebalance c.args.limit) c.args.coordinator.now c.args.out.now c.in_default.is

pub rebalance-requires : goal.rebalance-requires
rebalance-requires c =
    let k : Held = c.in-Some.coordinator in
    let most : length (flat_map item_of (rebalance c.args.limit k.state)) ≤ 2176 = rebalance_room c.args.limit k.state c.room.ensures.regions (few_shards_in k.script k.state.set c.who.ensures.script c.who.ensures.set) in
    let room : 2500 ≤ c.args.out.now.spare = c.requires.room in
    omega (arith, most, room)
