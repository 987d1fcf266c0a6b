use Rattle.std.proofs.Common.{◌≡◌, ℕ, ◌≤◌, subst, arith}
use Rattle.lease_table.specs.Belongs.{id_of, charter_of}
use Rattle.node_runner.specs.OnWay.{OnWay}
use Rattle.node_runner.proofs.Ways.{over_way, last_way}
use Rattle.node_runner.proofs.worker.run_turns.Goals as goal

pub returns-then-is_over-clause-done : goal.returns-then-is_over-clause-done
returns-then-is_over-clause-done g c =
    over_way (id_of c.args.table.now) (charter_of c.args.table.now) c.args.me c.loop-turn.turn c.args.turns c.loop-turn.place.pass c.loop-turn.place.node c.loop-turn.course.next c.loop-turn.course.orders c.loop-turn.course.idle
    c.loop-turn.invariant.on_way (c.is_over.ensures c.if-is_over.true)

pub returns-clause-done : goal.returns-clause-done
returns-clause-done g c =
    let last : c.loop-turn.turn ≡ c.args.turns = let a : c.args.turns ≤ c.loop-turn.turn = omega (arith, c.loop-turn-test.false) in omega (arith, a, c.loop-turn.auto.turn-end) in
    last_way (id_of c.args.table.now) (charter_of c.args.table.now) c.args.me c.args.turns c.loop-turn.place.pass c.loop-turn.place.node c.loop-turn.course.next c.loop-turn.course.orders c.loop-turn.course.idle
    (subst (λ (t : ℕ). OnWay (id_of c.args.table.now) (charter_of c.args.table.now) c.args.me t c.loop-turn.place.pass c.loop-turn.place.node c.loop-turn.course.next c.loop-turn.course.orders c.loop-turn.course.idle) last c.loop-turn.invariant.on_way)
