use Rattle.std.proofs.Common.{◌≡◌, ◌+◌}
use Rattle.std.specs.Prelude.{slice_get, Some}
use Rattle.yard_model.specs.Script.{Script}
use Rattle.replay_run.specs.Replays.{IsThrough}
use Rattle.replay_run.proofs.TraceLaws.{order_inside, order_there, facts_here, facts_all, through_here, on_here}
use Rattle.replay_run.proofs.following.follow.Goals as goal

pub bounds-orders-k : goal.bounds-orders-k
bounds-orders-k g c = order_inside c.args.world.now.script c.loop-k.k c.loop-k.world _ _ c.loop-k.invariant.on c.orders.ensures c.orders-k-end.ensures c.loop-k-test.true

pub returns-then-not-branch-clause-told : goal.returns-then-not-branch-clause-told
returns-then-not-branch-clause-told g c =
    let s : Script = c.args.world.now.script in
    let on = c.loop-k.invariant.on in
    let it : slice_get s.orders c.loop-k.k ≡ Some c.index-orders-k.result = order_there s c.loop-k.k c.loop-k.world _ _ _ on c.orders.ensures c.orders-k-end.ensures c.loop-k-test.true c.index-orders-k.is in
    let through : IsThrough s (c.loop-k.k + 1) c.play_next.new.world = through_here s c.loop-k.k c.loop-k.world _ _ on c.if-not-branch.true c.in_ok-play_next.ensures.next in
    facts_all c.made_law.ensures.next s c.loop-k.k c.loop-k.world _ _ _ _ on it through c.loop-k.invariant.told c.in_ok-play_next.ensures.facts

pub loop-k-preserved : goal.loop-k-preserved
loop-k-preserved g c =
    let s : Script = c.args.world.now.script in
    let on = c.loop-k.invariant.on in
    let it : slice_get s.orders c.loop-k.k ≡ Some c.index-orders-k.result = order_there s c.loop-k.k c.loop-k.world _ _ _ on c.orders.ensures c.orders-k-end.ensures c.loop-k-test.true c.index-orders-k.is in
    record {
      on = on_here s c.loop-k.k c.loop-k.world _ _ on c.if-not-branch.false c.in_ok-play_next.ensures.next;
      told = facts_here c.made_law.ensures.next s c.loop-k.k c.loop-k.world _ _ _ on it c.loop-k.invariant.told c.in_ok-play_next.ensures.facts;
    }
