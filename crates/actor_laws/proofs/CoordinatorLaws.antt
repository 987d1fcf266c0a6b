-- What stands of a coordinator is kept by each of its rules.
use Rattle.std.proofs.Common.{◌≡◌, ◌<◌, refl}
use Rattle.std.specs.Prelude.{true, false, List, [], length}
use Rattle.yard_model.specs.declared.incarnation.Incarnation.{Incarnation}
use Rattle.yard_model.specs.declared.packet.Body.{Body}
use Rattle.yard_model.specs.declared.packet.Body.TheVariants as body
use Rattle.yard_model.specs.Script.{Script}
use Rattle.yard_model.specs.Genuine.{is_node, is_genuine_body}
use Rattle.yard_model.specs.SlotReads.{regions}
use Rattle.yard_model.specs.Words.{is_among}
use Rattle.yard_model.specs.Coordinator as coordinator
use Rattle.yard_model.specs.Coordinator.{Coordinator}
use Rattle.actor_laws.specs.CoordinatorStands.{IsGoodCoordinator, KeepsCoordinator, KeepsRules, CoordinatorKeeps, CoordinatorTakes, CoordinatorBegins}
use Rattle.actor_laws.proofs.CoordinatorMoves.{goes_keeps}
use Rattle.actor_laws.proofs.CoordinatorRules as rules

pub coordinator_keeps : CoordinatorKeeps
coordinator_keeps c st k = record {
  terminates = λ view. goes_keeps c st (coordinator.terminate_lost view st) k (rules.terminates c st view k);
  registers = λ from view node room. goes_keeps c st (coordinator.register_from from view st) k (rules.registers c st from view k node room);
  gets = λ from s shard. goes_keeps c st (coordinator.get_home from s st) k (rules.gets c st from s k shard);
  starts = λ from s. goes_keeps c st (coordinator.shard_started from s st) k (rules.starts c st from s);
  quits = λ from. goes_keeps c st (coordinator.quit from st) k (rules.quits_goes c st from k);
  acknowledges = λ from s stamp. goes_keeps c st (coordinator.acknowledge from s stamp st) k (rules.acknowledges c st from s stamp k);
  stops = λ from s stamp. goes_keeps c st (coordinator.shard_stopped from s stamp st) k (rules.stops c st from s stamp k);
  rebalances = λ limit. goes_keeps c st (coordinator.rebalance limit st) k (rules.rebalances c st limit k);
  ticks = goes_keeps c st (coordinator.tick_coordinator st) k (rules.ticks c st k);
}

takes : (c : Script) (st : Coordinator) (from : Incarnation) (b : Body) (view : List Incarnation) → IsGoodCoordinator c st → is_node c from ≡ true → is_genuine_body c b ≡ true → (is_among from view ≡ true → is_among from (regions st.entries) ≡ false → length (regions st.entries) < 16)
    → KeepsRules c st → KeepsCoordinator c st (coordinator.coordinate from b view st)
takes c st from body.Register view k node genuine room r = r.registers from view node room
takes c st from (body.GetShardHome s) view k node genuine room r = r.gets from s genuine
takes c st from (body.ShardStarted s) view k node genuine room r = r.starts from s
takes c st from body.GracefulShutdownReq view k node genuine room r = r.quits from
takes c st from (body.BeginHandOffAck s given) view k node genuine room r = r.acknowledges from s given
takes c st from (body.ShardStopped s given) view k node genuine room r = r.stops from s given
takes c st from b view k node genuine room r = goes_keeps c st [] k refl

pub coordinator_takes : CoordinatorTakes
coordinator_takes c st from b view k node genuine room = takes c st from b view k node genuine room (coordinator_keeps c st k)

pub coordinator_begins : CoordinatorBegins
coordinator_begins c who list node own_is held_is = record { who_is = node; set_is = refl; own_is = own_is; held_is = held_is; moving_is = refl; quitting_is = refl }
