use Rattle.std.proofs.Common.{◌≡◌, sym, subst, ◌∙◌, false}
use Rattle.yard_model.specs.declared.fact.Fact.TheVariants as fact
use Rattle.judge_laws.specs.Judged.{judged}
use Rattle.trace_judge.specs.Judging.{Judged}
use Rattle.trace_judge.proofs.CellLaws.{none_live}
use Rattle.trace_judge.proofs.JudgeLaws.{not_live, unplanned}
use Rattle.trace_judge.proofs.judge.Judge.may_write.Goals as goal
use Rattle.trace_judge.proofs.judge.Judge.may_write.Goals.{then-is_some, else-is_some}

pub returns-else-is_planned-clause-fails : goal.returns-else-is_planned-clause-fails
returns-else-is_planned-clause-fails c = λ none.
    let i = c.self.inside in
    let e = c.args.entity.now in
    let r = c.args.entry.now in
    subst (λ (v : Judged). judged v.script v.trace (fact.Wrote e r) ≡ false) c.self.view_is
    (elim c.if-is_some.branch [
      | then-is_some w ↦ unplanned i.slots.script i.story.told e r c.self.invariant.shards (sym w.is_planned.ensures ∙ (sym w.value-is ∙ none))
      | else-is_some w ↦ not_live i.slots.script i.story.told e r (none_live i.slots.script i.story.told i.cells.items e c.in-Some.place c.index.result.now c.self.invariant.cells_are c.in-Some.ensures c.index.ensures (sym c.is_some.ensures ∙ w.if-is_some.false))
    ])
