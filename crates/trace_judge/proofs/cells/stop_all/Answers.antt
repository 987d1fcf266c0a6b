use Rattle.std.proofs.Common.{◌<◌, ◌∙◌, ap, length, sym, subst}
use Rattle.trace_judge.specs.Judging.{stopped}
use Rattle.trace_judge.proofs.CellLaws.{one_stopped}
use Rattle.trace_judge.proofs.cells.stop_all.Goals as goal

pub loop-cell-preserved : goal.loop-cell-preserved
loop-cell-preserved c =
    let now = c.loop-cell.cells in
    let i = c.loop-cell.cell-index in
    let within : i < length now = subst (λ n. i < n) (sym c.loop-cell.auto.cells) c.loop-cell-test.true in
    one_stopped (stopped c.args.who.now) c.args.cells.now now i c.cell-item.result c.stopped.result within c.cell-item.is (c.stopped.ensures ∙ ap (stopped c.args.who.now) (sym c.cell-item.is)) c.loop-cell.invariant.0 c.loop-cell.invariant.1
