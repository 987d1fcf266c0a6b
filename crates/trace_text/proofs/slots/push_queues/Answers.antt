use Rattle.std.proofs.Common.{◌≡◌, ◌+◌, ◌-◌, ap, arith}
use Rattle.std.specs.List.{flat_map}
use Rattle.yard_model.specs.declared.charter.Config.{Config}
use Rattle.yard_model.specs.declared.incarnation.Slot.TheVariants as slot
use Rattle.yard_model.specs.Words.{numbers}
use Rattle.yard_model.specs.SlotLists.{queue_list}
use Rattle.yard_model.specs.Text.{slot_lines}
use Rattle.trace_text.proofs.GrownLaws.{begins_more, begins_then, grows_done, grows_err}
use Rattle.trace_text.proofs.RowLaws.{numbers_step}
use Rattle.trace_text.proofs.slots.push_queues.Goals as goal

pub loop-i-preserved : goal.loop-i-preserved
loop-i-preserved g c =
    let same : c.config.result.now.producers ≡ c.args.charter.now.config.producers = ap (λ (k : Config). k.producers) c.config.ensures.value in
    record {
      text = numbers_step (λ p. slot_lines (slot.Queue p) (queue_list (g.T.Lists.lists c.args.stores.now) p)) (c.loop-i.i + 1) c.loop-i.i c.args.charter.now.config.producers _ _ _ (omega arith) c.in_ok-push_queue.ensures c.loop-i.invariant.text;
      within = omega arith;
      begins = begins_then c.args.text.now.items c.loop-i.text.items c.push_queue.new.text.items c.loop-i.invariant.begins (begins_more c.loop-i.text.items c.push_queue.new.text.items _ c.in_ok-push_queue.ensures);
    }

pub returns : goal.returns
returns g c =
    let same : c.config.result.now.producers ≡ c.args.charter.now.config.producers = ap (λ (k : Config). k.producers) c.config.ensures.value in
    let none : c.args.charter.now.config.producers - c.loop-i.i ≡ 0 = omega arith in
    grows_done c.loop-i.text.items (flat_map (λ p. slot_lines (slot.Queue p) (queue_list (g.T.Lists.lists c.args.stores.now) p)) (numbers (c.loop-i.i + 1) (c.args.charter.now.config.producers - c.loop-i.i))) _
    (ap (λ n. flat_map (λ p. slot_lines (slot.Queue p) (queue_list (g.T.Lists.lists c.args.stores.now) p)) (numbers (c.loop-i.i + 1) n)) none) c.loop-i.invariant.text

pub returns-in_err-push_queue : goal.returns-in_err-push_queue
returns-in_err-push_queue g c =
    grows_err c.from_residual.result c.args.text.now.items c.push_queue.new.text.items _ c.from_residual.ensures.0
    (begins_then c.args.text.now.items c.loop-i.text.items c.push_queue.new.text.items c.loop-i.invariant.begins c.in_err-push_queue.ensures)
