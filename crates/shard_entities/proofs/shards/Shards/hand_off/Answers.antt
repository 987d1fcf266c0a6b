use Rattle.std.proofs.Common.{◌∷◌, map}
use Rattle.yard_model.specs.declared.packet.Body.TheVariants as body
use Rattle.yard_model.specs.Entities.{entities_of, free_if_left}
use Rattle.yard_model.specs.Move.{post, handed_off}
use Rattle.shard_entities.proofs.FreedLaws.{handed_freed}
use Rattle.shard_entities.proofs.LoopLaws.{turn_state, turn_out, each_stopped, each_told, handed_answers, handed_settled, handed_there, handed_shard, handed_room}
use Rattle.shard_entities.proofs.shards.Shards.hand_off.Goals as goal

pub stop_each-requires-clause-there : goal.stop_each-requires-clause-there
stop_each-requires-clause-there c = handed_there c.args.s c.args.stamp c.args.to c.knows.ensures c.requires.shard c.requires.there c.set_stopping.ensures

pub stop_each-requires-clause-settled : goal.stop_each-requires-clause-settled
stop_each-requires-clause-settled c = handed_settled c.args.self.now c.args.s c.args.stamp c.args.to c.requires.settled c.set_stopping.ensures

pub free_if_left-stopped-requires-clause-shard : goal.free_if_left-stopped-requires-clause-shard
free_if_left-stopped-requires-clause-shard c = handed_shard c.args.self.now (handed_off c.args.s c.args.stamp c.args.to ∷ map (λ e. post c.args.self.now.state.who c.args.self.now.state.who (body.StopEntity e)) (entities_of c.args.self.now.state c.args.s)) c.args.s c.args.stamp c.args.to (each_stopped c.args.self.now c.args.s c.args.stamp c.args.to c.set_stopping.ensures c.stop_each.ensures.state) c.requires.shard

pub free_if_left-stopped-requires-clause-room : goal.free_if_left-stopped-requires-clause-room
free_if_left-stopped-requires-clause-room c = handed_room c.args.self.now c.args.stamp c.args.to c.args.out.now c.args.s c.set_stopping.ensures c.stop_each.ensures.out c.requires.room

pub returns-clause-state : goal.returns-clause-state
returns-clause-state c = turn_state c.args.self.now (λ st. handed_off c.args.s c.args.stamp c.args.to ∷ map (λ e. post st.who st.who (body.StopEntity e)) (entities_of st c.args.s)) (free_if_left c.args.s) (each_stopped c.args.self.now c.args.s c.args.stamp c.args.to c.set_stopping.ensures c.stop_each.ensures.state) c.free_if_left-stopped.ensures.state

pub returns-clause-out : goal.returns-clause-out
returns-clause-out c = turn_out c.args.self.now c.args.out.now (λ st. handed_off c.args.s c.args.stamp c.args.to ∷ map (λ e. post st.who st.who (body.StopEntity e)) (entities_of st c.args.s)) (free_if_left c.args.s) (each_stopped c.args.self.now c.args.s c.args.stamp c.args.to c.set_stopping.ensures c.stop_each.ensures.state) (each_told c.args.self.now c.args.out.now c.args.s c.args.stamp c.args.to c.set_stopping.ensures c.stop_each.ensures.out) c.free_if_left-stopped.ensures.out

pub returns-clause-store : goal.returns-clause-store
returns-clause-store c = handed_answers c.free_if_left-stopped.result c.args.s c.args.stamp c.args.to c.knows.ensures c.requires.shard (each_stopped c.args.self.now c.args.s c.args.stamp c.args.to c.set_stopping.ensures c.stop_each.ensures.state) c.free_if_left-stopped.ensures.stopped c.store_of.ensures

pub returns-clause-freed : goal.returns-clause-freed
returns-clause-freed c = handed_freed c.free_if_left-stopped.result c.args.s c.args.stamp c.args.to c.knows.ensures c.requires.shard (each_stopped c.args.self.now c.args.s c.args.stamp c.args.to c.set_stopping.ensures c.stop_each.ensures.state) c.free_if_left-stopped.ensures.stopped c.free_if_left-stopped.ensures.freed c.store_of.ensures
