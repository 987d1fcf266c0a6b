use Rattle.std.proofs.Common.{◌≡◌, ◌<◌, ◌≤◌, length, arith, ap}
use Rattle.std.specs.Prelude.{◌*◌, ◌-◌, filter}
use Rattle.std.specs.List.{flat_map}
use Rattle.yard_model.specs.Entities.{entries, start_entity}
use Rattle.yard_model.specs.Setting.{names_of}
use Rattle.yard_model.specs.SlotReads.{is_remembered}
use Rattle.shard_entities.proofs.LoopLaws.{start_next, start_same, start_room, count_there, home_there, names_end, way_state, way_out}
use Rattle.shard_entities.proofs.shards.Shards.start_each.Goals as goal

pub start_where_remembered-requires-clause-there : goal.start_where_remembered-requires-clause-there
start_where_remembered-requires-clause-there c = home_there c.loop-k.invariant.same c.nth-place.ensures.shard c.requires.there

pub start_where_remembered-requires-clause-room : goal.start_where_remembered-requires-clause-room
start_where_remembered-requires-clause-room c =
    let below : c.loop-k.k < c.count-k-end.result = c.loop-k-test.true in
    let all : c.count-k-end.result ≡ length (names_of c.args.self.now.state.set c.args.s) = count_there c.args.s c.knows.ensures c.loop-k.invariant.same c.count-k-end.ensures.count in
    let room : 2 * (length (names_of c.args.self.now.state.set c.args.s) - c.loop-k.k) ≤ c.loop-k.out.spare = c.loop-k.invariant.room in
    omega (arith, below, all, room)

pub loop-k-preserved : goal.loop-k-preserved
loop-k-preserved c = record {
  way = start_next c.args.s c.knows.ensures c.loop-k.invariant.same c.loop-k-test.true c.count-k-end.ensures.count c.nth-place.ensures.entity c.start_where_remembered.ensures.state c.start_where_remembered.ensures.out c.loop-k.invariant.way;
  same = start_same c.nth-place.result.entity (is_remembered c.nth-place.result.entity (entries c.loop-k.self.state c.nth-place.result.entity)) c.loop-k.invariant.same c.start_where_remembered.ensures.state;
  settled = c.start_where_remembered.ensures.settled;
  room = start_room c.loop-k.out c.loop-k.self.state c.nth-place.result.entity (is_remembered c.nth-place.result.entity (entries c.loop-k.self.state c.nth-place.result.entity)) c.loop-k.k (length (names_of c.args.self.now.state.set c.args.s)) c.count-k-end.result c.start_where_remembered.ensures.out c.loop-k-test.true (count_there c.args.s c.knows.ensures c.loop-k.invariant.same c.count-k-end.ensures.count) c.loop-k.invariant.room;
}

pub returns-clause-state : goal.returns-clause-state
returns-clause-state c = way_state c.loop-k.invariant.way (ap (λ l. flat_map (λ e. start_entity e c.args.self.now.state) (filter (λ e. is_remembered e (entries c.args.self.now.state e)) l)) (names_end c.args.self.now.state.set c.args.s c.count-k-end.ensures.names c.loop-k-test.false))

pub returns-clause-out : goal.returns-clause-out
returns-clause-out c = way_out c.loop-k.invariant.way (ap (λ l. flat_map (λ e. start_entity e c.args.self.now.state) (filter (λ e. is_remembered e (entries c.args.self.now.state e)) l)) (names_end c.args.self.now.state.set c.args.s c.count-k-end.ensures.names c.loop-k-test.false))
