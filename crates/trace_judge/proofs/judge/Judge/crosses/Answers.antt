use Rattle.std.proofs.Common.{ap, ◌∙◌}
use Rattle.judge_laws.specs.Judged.{judged}
use Rattle.trace_judge.proofs.judge.Judge.crosses.Goals as goal

pub returns-in-Wrote-clause-fails : goal.returns-in-Wrote-clause-fails
returns-in-Wrote-clause-fails c = λ none. let v = c.args.self.now in ap (judged v.script v.trace) c.in-Wrote.is ∙ c.may_write.ensures.fails none
