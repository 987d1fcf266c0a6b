use Rattle.std.proofs.Common.{◌≡◌, ◌<◌, ◌≤◌, [], ◌∷◌, length, arith, ap, sym, ◌∙◌}
use Rattle.std.specs.Prelude.{◌-◌, not, filter}
use Rattle.std.specs.List.{flat_map}
use Rattle.yard_model.specs.declared.input.Phase.TheVariants as phase
use Rattle.yard_model.specs.Entities.{is_in_phase, entities_of}
use Rattle.yard_model.specs.Setting.{names_of}
use Rattle.shard_entities.proofs.LoopLaws.{stop_next, stop_same, stop_phases, stop_room, count_there, names_end, way_state, way_out}
use Rattle.shard_entities.proofs.WayLaws.{map_flat}
use Rattle.shard_entities.proofs.WalkLaws.{stop_of}
use Rattle.shard_entities.specs.Lodged.{moved, given}
use Rattle.shard_entities.proofs.shards.Shards.stop_each.Goals as goal

pub stop_where_there-requires-clause-room : goal.stop_where_there-requires-clause-room
stop_where_there-requires-clause-room c =
    let below : c.loop-k.k < c.count-k-end.result = c.loop-k-test.true in
    let all : c.count-k-end.result ≡ length (names_of c.args.self.now.state.set c.args.s) = count_there c.args.s c.knows.ensures c.loop-k.invariant.same c.count-k-end.ensures.count in
    let room : length (names_of c.args.self.now.state.set c.args.s) - c.loop-k.k ≤ c.loop-k.out.spare = c.loop-k.invariant.room in
    omega (arith, below, all, room)

pub loop-k-preserved : goal.loop-k-preserved
loop-k-preserved c = record {
  way = stop_next c.args.s c.knows.ensures c.loop-k.invariant.same c.loop-k.invariant.phases c.loop-k-test.true c.count-k-end.ensures.count c.nth-place.ensures.entity c.stop_where_there.ensures.state c.stop_where_there.ensures.out c.loop-k.invariant.way;
  same = stop_same c.nth-place.result.entity (not (is_in_phase phase.Absent c.loop-k.self.state c.nth-place.result.entity)) c.loop-k.invariant.same c.stop_where_there.ensures.state;
  phases = stop_phases (not (is_in_phase phase.Absent c.loop-k.self.state c.nth-place.result.entity)) c.knows.ensures c.nth-place.ensures.place c.loop-k.invariant.same c.loop-k.invariant.phases c.stop_where_there.ensures.state;
  settled = c.stop_where_there.ensures.settled;
  room = stop_room c.loop-k.out c.loop-k.self c.nth-place.result.entity (not (is_in_phase phase.Absent c.loop-k.self.state c.nth-place.result.entity)) c.loop-k.k (length (names_of c.args.self.now.state.set c.args.s)) c.count-k-end.result c.stop_where_there.ensures.out c.loop-k-test.true (count_there c.args.s c.knows.ensures c.loop-k.invariant.same c.count-k-end.ensures.count) c.loop-k.invariant.room;
}

pub returns-clause-state : goal.returns-clause-state
returns-clause-state c = way_state c.loop-k.invariant.way (ap (λ l. flat_map (λ e. stop_of c.args.self.now e ∷ []) (filter (λ e. not (is_in_phase phase.Absent c.args.self.now.state e)) l)) (names_end c.args.self.now.state.set c.args.s c.count-k-end.ensures.names c.loop-k-test.false)) ∙ ap (moved c.args.self.now) (sym (map_flat (stop_of c.args.self.now) (entities_of c.args.self.now.state c.args.s)))

pub returns-clause-out : goal.returns-clause-out
returns-clause-out c = way_out c.loop-k.invariant.way (ap (λ l. flat_map (λ e. stop_of c.args.self.now e ∷ []) (filter (λ e. not (is_in_phase phase.Absent c.args.self.now.state e)) l)) (names_end c.args.self.now.state.set c.args.s c.count-k-end.ensures.names c.loop-k-test.false)) ∙ ap (given c.args.out.now) (sym (map_flat (stop_of c.args.self.now) (entities_of c.args.self.now.state c.args.s)))
