use Rattle.std.proofs.Common.{◌≡◌, List, length, map, ap, sym, ◌∙◌}
use Rattle.std.proofs.lemmas.List.{length-map}
use Rattle.post_box.specs.Making.{dealt_down}
use Rattle.post_box.specs.Tables.{queue_table}
use Rattle.post_box.proofs.Dealt.{in_order}
use Rattle.post_box.proofs.Rows.{takers_read}
use Rattle.post_box.proofs.boxes.PostBox.make.Goals as goal

pub join_all-requires-clause-takers : goal.join_all-requires-clause-takers
join_all-requires-clause-takers g c =
    let same = c.as_slice.ensures.value ∙ sym c.as_slice-2.ensures.value in
    takers_read _ _ _ _ _ c.in_ok-rows.ensures.takers (ap (map queue_table) same) (length-map c.as_slice.result.now queue_table ∙ ap length same) (ap length same)

pub returns-clause-passes : goal.returns-clause-passes
returns-clause-passes g c =
    let same = c.as_slice-2.ensures.value in
    in_order (map queue_table c.in_ok-queues.queues.items) (length c.in_ok-queues.queues.items) _ (c.in_ok-left.ensures.passes ∙ ap (λ l. dealt_down (map queue_table l) (length l)) same) (sym (length-map c.in_ok-queues.queues.items queue_table))
