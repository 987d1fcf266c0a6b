use Rattle.std.proofs.Common.{◌∙◌, ℕ, ◌++◌, List, ap, sym}
use Rattle.std.specs.Prelude.{decimal}
use Rattle.std.proofs.lemmas.List.{take_rest}
use Rattle.fact_lines.proofs.DecimalLaws.{zero_first}
use Rattle.fact_lines.proofs.exact.number.Goals as goal

pub returns-then-line-eq48-clause-spelled : goal.returns-then-line-eq48-clause-spelled
returns-then-line-eq48-clause-spelled c =
    zero_first c.args.line.now c.if-line-eq48.true ∙ ap (λ (l : List ℕ). decimal 0 ++ l) (sym (take_rest c.args.line.now 1))
