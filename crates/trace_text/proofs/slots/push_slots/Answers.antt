use Rattle.std.proofs.Common.{◌++◌, ◌∙◌, ap, append_assoc}
use Rattle.yard_model.specs.declared.incarnation.Slot.TheVariants as slot
use Rattle.yard_model.specs.Script.{setting}
use Rattle.yard_model.specs.Text.{Bytes, slot_lines}
use Rattle.trace_text.specs.Slots.{shards_lists, queues_lists}
use Rattle.trace_text.proofs.GrownLaws.{begins_more, begins_then, grows_err, grows_on}
use Rattle.trace_text.proofs.slots.push_slots.Goals as goal

pub returns : goal.returns
returns g c =
    let set = setting c.args.charter.now in
    let lists = g.T.Lists.lists c.args.stores.now in
    let old = c.args.text.now.items in
    let first = c.push_shards.new.text.items in
    let second = c.push_coordinator.new.text.items in
    let office = slot_lines slot.Coordinator lists.coordinator in
    grows_on c.push_queues.result old second c.push_queues.new.text.items (shards_lists set lists ++ office) (queues_lists set lists)
    (c.in_ok-push_coordinator.ensures
    ∙ (ap (λ l. first ++ slot_lines slot.Coordinator l) c.coordinator.ensures ∙ (ap (λ (l : Bytes). l ++ office) c.in_ok-push_shards.ensures ∙ append_assoc old (shards_lists set lists) office)))
    c.push_queues.ensures

pub returns-in_err-push_shards : goal.returns-in_err-push_shards
returns-in_err-push_shards g c = grows_err c.from_residual.result c.args.text.now.items c.push_shards.new.text.items _ c.from_residual.ensures.0 c.in_err-push_shards.ensures

pub returns-in_err-push_coordinator : goal.returns-in_err-push_coordinator
returns-in_err-push_coordinator g c =
    grows_err c.from_residual-in_err-push_coordinator.result c.args.text.now.items c.push_coordinator.new.text.items _ c.from_residual-in_err-push_coordinator.ensures.0
    (begins_then c.args.text.now.items c.push_shards.new.text.items c.push_coordinator.new.text.items (begins_more c.args.text.now.items c.push_shards.new.text.items _ c.in_ok-push_shards.ensures)
    c.in_err-push_coordinator.ensures)
