use Rattle.std.proofs.Common.{◌≡◌, ◌<◌, ◌+◌, length, map, sym, ap, ◌∙◌, arith}
use Rattle.std.proofs.lemmas.List.{length-map}
use Rattle.atomic_table.proofs.Lists.{at_index}
use Rattle.post_box.specs.Tables.{queue_table}
use Rattle.post_box.proofs.Places.{at_map}
use Rattle.post_box.proofs.Rows.{row_begins, row_may, row_more, row_ends}
use Rattle.post_box.proofs.make.next_row.Goals as goal

pub loop-place-init : goal.loop-place-init
loop-place-init g c = row_begins _ _ _ _ c.new-row.ensures.items c.requires.takers

pub next_at-requires-clause-queue : goal.next_at-requires-clause-queue
next_at-requires-clause-queue g c = row_may _ _ _ _ _ _ c.loop-place.invariant (at_map queue_table c.args.queues.now c.loop-place.place c.index-queues-place.result (at_index _ _ _ c.loop-place-test.true c.index-queues-place.is))

pub loop-place-preserved : goal.loop-place-preserved
loop-place-preserved g c =
    let low : c.loop-place.place < length (map queue_table c.args.queues.now) = let e : length (map queue_table c.args.queues.now) ≡ length c.args.queues.now = length-map c.args.queues.now queue_table in let t = c.loop-place-test.true in omega arith in
    row_more _ _ _ _ _ _ _ _ _ c.loop-place.invariant low (at_map queue_table c.args.queues.now c.loop-place.place c.index-queues-place.result (at_index _ _ _ c.loop-place-test.true c.index-queues-place.is)) c.next_at.ensures.made c.in_ok-push.ensures.items

pub returns-clause-takers : goal.returns-clause-takers
returns-clause-takers g c =
    let end : c.loop-place.place ≡ length (map queue_table c.args.queues.now) = let e : length (map queue_table c.args.queues.now) ≡ length c.args.queues.now = length-map c.args.queues.now queue_table in let t = c.loop-place-test.false in let p = c.loop-place.auto.place-end in omega arith in
    (row_ends _ _ _ _ _ c.loop-place.invariant end).1

pub returns-clause-row : goal.returns-clause-row
returns-clause-row g c =
    let end : c.loop-place.place ≡ length (map queue_table c.args.queues.now) = let e : length (map queue_table c.args.queues.now) ≡ length c.args.queues.now = length-map c.args.queues.now queue_table in let t = c.loop-place-test.false in let p = c.loop-place.auto.place-end in omega arith in
    (row_ends _ _ _ _ _ c.loop-place.invariant end).0
