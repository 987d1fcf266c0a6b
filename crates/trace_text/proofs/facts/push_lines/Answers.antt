use Rattle.std.proofs.Common.{◌++◌, ◌∙◌, ap, arith, take}
use Rattle.std.specs.List.{flat_map}
use Rattle.std.proofs.lemmas.List.{take_all}
use Rattle.yard_model.specs.Text.{fact_line}
use Rattle.trace_text.proofs.GrownLaws.{appends_last, begins_then, each_taken, grows_err}
use Rattle.trace_text.proofs.facts.push_lines.Goals as goal

pub loop-fact-preserved : goal.loop-fact-preserved
loop-fact-preserved c = (
  each_taken fact_line c.args.facts.now c.loop-fact.fact-index c.fact-item.result c.loop-fact.text.items (take c.loop-fact.at c.loop-fact.cells) c.args.text.now.items _ (omega arith) c.fact-item.is
      c.in_ok-at.ensures.text c.loop-fact.invariant.0,
  c.in_ok-at.ensures.end,
  begins_then c.args.text.now.items c.loop-fact.text.items c.push_next.new.text.items c.loop-fact.invariant.2 c.in_ok-at.ensures.begins,
)

pub returns-in_err-at : goal.returns-in_err-at
returns-in_err-at c =
    grows_err c.from_residual.result c.args.text.now.items c.push_next.new.text.items _ c.from_residual.ensures.0
    (begins_then c.args.text.now.items c.loop-fact.text.items c.push_next.new.text.items c.loop-fact.invariant.2 c.in_err-at.ensures.begins)

pub returns : goal.returns
returns c =
    appends_last c.push_cells.result c.args.text.now.items c.loop-fact.text.items c.push_cells.new.text.items (take c.loop-fact.at c.loop-fact.cells) (flat_map fact_line c.args.facts.now) c.loop-fact.invariant.2
    (c.loop-fact.invariant.0 ∙ ap (λ l. c.args.text.now.items ++ flat_map fact_line l) (take_all c.loop-fact.fact-index c.args.facts.now (omega arith))) c.push_cells.ensures
