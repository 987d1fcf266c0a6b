use Rattle.std.proofs.Common.{◌≡◌, subst, sym}
use Rattle.yard_model.specs.Entities.{drop_stash, free_if_left}
use Rattle.yard_model.specs.Setting.{shard_of}
use Rattle.shard_entities.specs.Lodged.{moved, given}
use Rattle.shard_entities.proofs.FreedLaws.{dropped_freed}
use Rattle.shard_entities.proofs.LoopLaws.{turn_state, turn_out, turn_stopped, drop_same, shard_left, drop_room}
use Rattle.shard_entities.proofs.WalkLaws.{on_of}
use Rattle.shard_entities.proofs.shards.Shards.drop_and_free.Goals as goal

pub free_if_left-requires-clause-shard : goal.free_if_left-requires-clause-shard
free_if_left-requires-clause-shard c = shard_left (drop_same {v = c.args.self.now} c.args.place.now.entity c.drop_stash.ensures.state) c.requires.place

pub free_if_left-requires-clause-room : goal.free_if_left-requires-clause-room
free_if_left-requires-clause-room c = drop_room c.args.self.now c.args.out.now c.args.place.now.entity c.drop_stash.ensures.out c.stashed.ensures.count c.stashed.ensures.few c.requires.room

pub returns-clause-state : goal.returns-clause-state
returns-clause-state c = turn_state c.args.self.now (drop_stash c.args.place.now.entity) (free_if_left (shard_of c.args.self.now.state.set c.args.place.now.entity)) c.drop_stash.ensures.state (subst (λ s. c.free_if_left.new.self ≡ moved c.drop_stash.new.self (free_if_left s c.drop_stash.new.self.state)) (sym (on_of c.knows.ensures c.requires.place).shard_is) c.free_if_left.ensures.state)

pub returns-clause-out : goal.returns-clause-out
returns-clause-out c = turn_out c.args.self.now c.args.out.now (drop_stash c.args.place.now.entity) (free_if_left (shard_of c.args.self.now.state.set c.args.place.now.entity)) c.drop_stash.ensures.state c.drop_stash.ensures.out (subst (λ s. c.free_if_left.new.out ≡ given c.drop_stash.new.out (free_if_left s c.drop_stash.new.self.state)) (sym (on_of c.knows.ensures c.requires.place).shard_is) c.free_if_left.ensures.out)

pub returns-clause-stopped : goal.returns-clause-stopped
returns-clause-stopped c = turn_stopped c.free_if_left.result c.args.place.now (on_of c.knows.ensures c.requires.place) c.drop_stash.ensures.state c.free_if_left.ensures.stopped

pub returns-clause-freed : goal.returns-clause-freed
returns-clause-freed c = dropped_freed c.free_if_left.result c.args.place.now (on_of c.knows.ensures c.requires.place) c.drop_stash.ensures.state c.free_if_left.ensures.freed
