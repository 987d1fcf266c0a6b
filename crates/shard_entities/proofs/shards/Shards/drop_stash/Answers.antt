use Rattle.std.proofs.Common.{◌≡◌, ◌+◌, ◌<◌, ◌≤◌, length, arith, subst, sym}
use Rattle.yard_model.specs.Entities.{cell}
use Rattle.shard_entities.specs.Placed.{IsPlace}
use Rattle.shard_entities.proofs.LoopLaws.{dropping_first, dropping_next, dropping_done, dropping_settled, way_state, way_out}
use Rattle.shard_entities.proofs.WalkLaws.{on_of}
use Rattle.shard_entities.proofs.shards.Shards.drop_stash.Goals as goal

pub loop-init : goal.loop-init
loop-init c = dropping_first (on_of c.knows.ensures c.requires.place) c.requires.gone c.stashed-end.ensures.own (let count : c.stashed-end.result ≡ length (cell c.args.self.now.state c.args.place.now.entity).stash = c.stashed-end.ensures.count in let few : c.stashed-end.result ≤ c.args.self.now.script.config.window = c.stashed-end.ensures.few in let room : c.args.self.now.script.config.window ≤ c.args.out.now.spare = c.requires.room in omega (arith, count, few, room))

pub drop_oldest-requires-clause-place : goal.drop_oldest-requires-clause-place
drop_oldest-requires-clause-place c = subst (λ s. IsPlace s c.args.place.now) (sym c.loop.invariant.walk.script_is) c.requires.place

pub drop_oldest-requires-clause-gone : goal.drop_oldest-requires-clause-gone
drop_oldest-requires-clause-gone c = c.loop.invariant.gone

pub drop_oldest-requires-clause-room : goal.drop_oldest-requires-clause-room
drop_oldest-requires-clause-room c =
    let below : c.loop.counter < c.stashed-end.result = c.loop-test.true in
    let all : c.stashed-end.result ≡ length (cell c.args.self.now.state c.args.place.now.entity).stash = c.stashed-end.ensures.count in
    let count : length (cell c.loop.self.state c.args.place.now.entity).stash + c.loop.counter ≡ length (cell c.args.self.now.state c.args.place.now.entity).stash = c.loop.invariant.count in
    let room : length (cell c.loop.self.state c.args.place.now.entity).stash ≤ c.loop.out.spare = c.loop.invariant.room in
    omega (arith, below, all, count, room)

pub loop-preserved : goal.loop-preserved
loop-preserved c = dropping_next c.loop.invariant (subst (λ n. c.loop.counter < n) c.stashed-end.ensures.count c.loop-test.true) c.drop_oldest.ensures.state c.drop_oldest.ensures.out

pub returns-clause-state : goal.returns-clause-state
returns-clause-state c = way_state c.loop.invariant.way (dropping_done c.loop.invariant c.loop-test.false c.stashed-end.ensures.count)

pub returns-clause-out : goal.returns-clause-out
returns-clause-out c = way_out c.loop.invariant.way (dropping_done c.loop.invariant c.loop-test.false c.stashed-end.ensures.count)

pub returns-clause-settled : goal.returns-clause-settled
returns-clause-settled c = dropping_settled c.loop.invariant c.loop-test.false c.stashed-end.ensures.count c.requires.settled
