use Rattle.std.proofs.Common.{◌≡◌, ◌≤◌, length, map, ap, ◌∙◌, arith}
use Rattle.std.proofs.lemmas.List.{length-map}
use Rattle.post_box.specs.Holding.{new_holder}
use Rattle.post_box.specs.Tables.{queue_table}
use Rattle.post_box.proofs.Dealt.{dealt_more}
use Rattle.post_box.proofs.Rows.{last_of}
use Rattle.post_box.proofs.make.join_all.Goals as goal

pub pass_of-requires-clause-node : goal.pass_of-requires-clause-node
pass_of-requires-clause-node g c =
    let i = c.loop-node.invariant in
    let l = last_of _ _ (length c.args.queues.now) _ _ _ _ _ _ (length-map c.args.queues.now queue_table) i.rows i.takers c.in-Some.ensures.items c.in-Some-pop.ensures.items in
    let long : length c.in-Some.senders.items ≡ length c.args.queues.now = l.long in
    let within : c.loop-node.node ≤ length c.args.queues.now = i.within in let few : length c.args.queues.now ≤ 16 = c.requires.few in
    (c.loop-node-test.true, omega arith, omega arith)

pub pass_of-requires-clause-senders : goal.pass_of-requires-clause-senders
pass_of-requires-clause-senders g c =
    let i = c.loop-node.invariant in
    (last_of _ _ (length c.args.queues.now) _ _ _ _ _ _ (length-map c.args.queues.now queue_table) i.rows i.takers c.in-Some.ensures.items c.in-Some-pop.ensures.items).idle

pub pass_of-requires-clause-taker : goal.pass_of-requires-clause-taker
pass_of-requires-clause-taker g c =
    let i = c.loop-node.invariant in
    (last_of _ _ (length c.args.queues.now) _ _ _ _ _ _ (length-map c.args.queues.now queue_table) i.rows i.takers c.in-Some.ensures.items c.in-Some-pop.ensures.items).reader

pub pass_of-requires-clause-own : goal.pass_of-requires-clause-own
pass_of-requires-clause-own g c =
    let i = c.loop-node.invariant in
    (last_of _ _ (length c.args.queues.now) _ _ _ _ _ _ (length-map c.args.queues.now queue_table) i.rows i.takers c.in-Some.ensures.items c.in-Some-pop.ensures.items).own

pub loop-node-preserved : goal.loop-node-preserved
loop-node-preserved g c =
    let i = c.loop-node.invariant in
    let l = last_of _ _ (length c.args.queues.now) _ _ _ _ _ _ (length-map c.args.queues.now queue_table) i.rows i.takers c.in-Some.ensures.items c.in-Some-pop.ensures.items in
    let within : c.loop-node.node ≤ length c.args.queues.now = i.within in record {
      within = omega arith;
      rows = l.rows_left;
      takers = l.takers_left;
      passed = dealt_more _ _ _ _ _ _ c.loop-node-test.true i.passed c.in_ok-push.ensures.items (c.pass_of.ensures.pass ∙ ap (λ ids. new_holder ids c.loop-node.node) l.tables);
    }
