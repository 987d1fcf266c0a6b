use Rattle.std.proofs.Common.{◌∙◌, ap, ap₂, sym, ◌+◌, ◌∷◌, arith}
use Rattle.std.specs.Str.Lines.{lines}
use Rattle.std.proofs.lemmas.Bool.Decides.{nat_tests}
use Rattle.script_text.proofs.Cuts.{lines_cut, lines_last, rest_is, end_is}
use Rattle.script_text.proofs.cut.any_line.Goals as goal

pub returns-in-None-clause-lines : goal.returns-in-None-clause-lines
returns-in-None-clause-lines c = lines_last c.args.bytes.now (sym c.in-None.ensures.place) (grind (arith, nat_tests)) ∙ ap (λ r. c.args.bytes.now ∷ lines r) (sym (end_is c.args.bytes.now))

pub returns-in-Some-clause-lines : goal.returns-in-Some-clause-lines
returns-in-Some-clause-lines c =
    lines_cut c.args.bytes.now c.in-Some.end (sym c.in-Some.ensures.place)
    ∙ ap₂ (λ x r. x ∷ lines r) (sym c.without_return.ensures) (sym (rest_is c.args.bytes.now (c.in-Some.end + 1)))
