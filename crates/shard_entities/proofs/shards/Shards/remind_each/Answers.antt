use Rattle.std.proofs.Common.{◌≤◌, ◌<◌, ◌+◌, ◌∙◌, arith, drop, subst}
use Rattle.yard_model.specs.Entities.{cell, remind_by}
use Rattle.yard_model.specs.Setting.{names_of}
use Rattle.shard_entities.proofs.LoopLaws.{remind_cut, room_goes}
use Rattle.shard_entities.proofs.RestlessLaws.{first_room, names_passed, remind_done}
use Rattle.shard_entities.proofs.TickLaws.{of_names, of_shard}
use Rattle.shard_entities.proofs.WayLaws.{out_goes}
use Rattle.shard_entities.proofs.shards.Shards.remind_each.Goals as goal

pub returns-then-k-count : goal.returns-then-k-count
returns-then-k-count c = remind_done c.args.self.now.state (names_of c.args.self.now.state.set c.args.s) c.loop.from c.next_restless-k.result c.loop.out c.loop.invariant.way c.next_restless-k.ensures.from c.next_restless-k.ensures.within c.next_restless-k.ensures.between (subst (λ n. n ≤ c.next_restless-k.result) c.count-count.ensures.names c.if-k-count.true)

pub remind-requires-clause-room : goal.remind-requires-clause-room
remind-requires-clause-room c = first_room (of_names c.args.self.now.state (drop c.loop.from (names_of c.args.self.now.state.set c.args.s))) (remind_by c.nth.result.entity c.args.self.now.state (cell c.args.self.now.state c.nth.result.entity).phase) (of_names c.args.self.now.state (drop (c.next_restless-k.result + 1) (names_of c.args.self.now.state.set c.args.s))) c.loop.out.spare (names_passed c.args.self.now.state (names_of c.args.self.now.state.set c.args.s) c.loop.from c.next_restless-k.result c.next_restless-k.ensures.from c.next_restless-k.ensures.within c.next_restless-k.ensures.between ∙ remind_cut c.args.s c.knows.ensures c.if-k-count.false c.count-count.ensures.count c.nth.ensures.entity) c.loop.invariant.room

pub loop-preserved : goal.loop-preserved
loop-preserved c = record {
  way = out_goes c.loop.out c.remind.new.out c.args.out.now (remind_by c.nth.result.entity c.args.self.now.state (cell c.args.self.now.state c.nth.result.entity).phase) (of_names c.args.self.now.state (drop (c.next_restless-k.result + 1) (names_of c.args.self.now.state.set c.args.s))) (of_names c.args.self.now.state (drop c.loop.from (names_of c.args.self.now.state.set c.args.s))) (of_shard c.args.self.now.state c.args.s) (names_passed c.args.self.now.state (names_of c.args.self.now.state.set c.args.s) c.loop.from c.next_restless-k.result c.next_restless-k.ensures.from c.next_restless-k.ensures.within c.next_restless-k.ensures.between ∙ remind_cut c.args.s c.knows.ensures c.if-k-count.false c.count-count.ensures.count c.nth.ensures.entity) c.remind.ensures c.loop.invariant.way;
  room = room_goes (of_names c.args.self.now.state (drop c.loop.from (names_of c.args.self.now.state.set c.args.s))) (remind_by c.nth.result.entity c.args.self.now.state (cell c.args.self.now.state c.nth.result.entity).phase) (of_names c.args.self.now.state (drop (c.next_restless-k.result + 1) (names_of c.args.self.now.state.set c.args.s))) c.loop.out c.remind.new.out (names_passed c.args.self.now.state (names_of c.args.self.now.state.set c.args.s) c.loop.from c.next_restless-k.result c.next_restless-k.ensures.from c.next_restless-k.ensures.within c.next_restless-k.ensures.between ∙ remind_cut c.args.s c.knows.ensures c.if-k-count.false c.count-count.ensures.count c.nth.ensures.entity) c.remind.ensures c.loop.invariant.room;
  far = let up : c.loop.from ≤ c.next_restless-k.result = c.next_restless-k.ensures.from in let far : c.loop.counter ≤ c.loop.from = c.loop.invariant.far in omega (arith, up, far);
  within = subst (λ n. c.next_restless-k.result + 1 ≤ n) c.count-count.ensures.names (let below : c.next_restless-k.result < c.count-count.result = c.if-k-count.false in omega (arith, below));
}
