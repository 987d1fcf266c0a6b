use Rattle.std.proofs.Common.{◌++◌, ◌∙◌, ap, arith, take}
use Rattle.std.specs.List.{flat_map}
use Rattle.std.proofs.lemmas.List.{take_all}
use Rattle.yard_model.specs.Entry.{queue_fact}
use Rattle.yard_model.specs.Text.{fact_line}
use Rattle.trace_text.proofs.GrownLaws.{appends_last, begins_then, each_taken, grows_err}
use Rattle.trace_text.proofs.slots.push_queue_entries.Goals as goal

pub loop-entry-preserved : goal.loop-entry-preserved
loop-entry-preserved c = (
  each_taken (λ e. fact_line (queue_fact c.args.p e)) c.args.list.now c.loop-entry.entry-index c.entry-item.result c.loop-entry.text.items (take c.loop-entry.at c.loop-entry.cells) c.args.text.now.items _ (omega arith) c.entry-item.is
      c.in_ok-at.ensures.text c.loop-entry.invariant.0,
  c.in_ok-at.ensures.end,
  begins_then c.args.text.now.items c.loop-entry.text.items c.push_queue_entry.new.text.items c.loop-entry.invariant.2 c.in_ok-at.ensures.begins,
)

pub returns-in_err-at : goal.returns-in_err-at
returns-in_err-at c =
    grows_err c.from_residual.result c.args.text.now.items c.push_queue_entry.new.text.items _ c.from_residual.ensures.0
    (begins_then c.args.text.now.items c.loop-entry.text.items c.push_queue_entry.new.text.items c.loop-entry.invariant.2 c.in_err-at.ensures.begins)

pub returns : goal.returns
returns c =
    appends_last c.push_cells.result c.args.text.now.items c.loop-entry.text.items c.push_cells.new.text.items (take c.loop-entry.at c.loop-entry.cells) (flat_map (λ e. fact_line (queue_fact c.args.p e)) c.args.list.now) c.loop-entry.invariant.2
    (c.loop-entry.invariant.0 ∙ ap (λ l. c.args.text.now.items ++ flat_map (λ e. fact_line (queue_fact c.args.p e)) l) (take_all c.loop-entry.entry-index c.args.list.now (omega arith))) c.push_cells.ensures
