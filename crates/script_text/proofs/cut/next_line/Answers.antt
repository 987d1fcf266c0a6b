use Rattle.std.proofs.Common.{◌∙◌, ap, sym, ◌+◌, ◌∷◌, take}
use Rattle.std.specs.Prelude.{◌==◌}
use Rattle.std.specs.Str.Lines.{lines}
use Rattle.script_text.proofs.Cuts.{rest_is}
use Rattle.script_text.proofs.Stops.{lines_clean, plain_clean}
use Rattle.script_text.proofs.cut.next_line.Goals as goal

pub returns-then-bytes-stop-eq10-clause-lines : goal.returns-then-bytes-stop-eq10-clause-lines
returns-then-bytes-stop-eq10-clause-lines c =
    lines_clean c.args.bytes.now c.first_stop-stop.result c.if-stop-bytes.true c.first_stop-stop.ensures.before (ap (λ b. b == 10) c.if-bytes-stop-eq10.true)
    ∙ ap (λ r. take c.first_stop-stop.result c.args.bytes.now ∷ lines r) (sym (rest_is c.args.bytes.now (c.first_stop-stop.result + 1)))

pub returns-then-bytes-stop-eq10-clause-clean : goal.returns-then-bytes-stop-eq10-clause-clean
returns-then-bytes-stop-eq10-clause-clean c known = plain_clean c.args.bytes.now c.first_stop-stop.result c.first_stop-stop.ensures.within c.first_stop-stop.ensures.before
