use Rattle.std.proofs.Common.{sym, subst}
use Rattle.yard_model.specs.declared.fact.Fact.{Fact}
use Rattle.std.specs.Prelude.{List}
use Rattle.entry_slots.proofs.SeenLaws.{some_shards}
use Rattle.trace_judge.specs.Judging.{IsJudge}
use Rattle.trace_judge.proofs.CellLaws.{cells_begin}
use Rattle.trace_judge.proofs.JudgeLaws.{judge_begins}
use Rattle.trace_judge.proofs.judge.Judge.new.Goals as goal

pub invariant_of-result : goal.invariant_of-result
invariant_of-result c =
    let d = c.args.charter.now in
    subst (λ (t : List Fact). IsJudge c.in_ok-new.field-0 c.in_ok-new_cells.field-0.items 1 t) (sym c.new-2.ensures)
    (judge_begins d c.in_ok-new.field-0 c.in_ok-new_cells.field-0.items (some_shards d c.config-config.ensures.script) c.in_ok-new.ensures (cells_begin d c.in_ok-new_cells.field-0.items c.in_ok-new_cells.ensures))
