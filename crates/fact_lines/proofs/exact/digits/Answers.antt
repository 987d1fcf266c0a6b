use Rattle.std.proofs.Common.{arith, sym, ◌∙◌}
use Rattle.std.specs.Prelude.{slice_index_or}
use Rattle.fact_lines.proofs.DecimalLaws.{digit_within, digits_on, first_digit}
use Rattle.fact_lines.proofs.exact.digits.Goals as goal

pub loop-i-init : goal.loop-i-init
loop-i-init c =
    let d = digit_within (slice_index_or c.args.line.now 0 0) c.requires.first in
    record {
      within = omega (arith, c.requires.some);
      some = omega (arith, c.requires.other);
      small = omega (arith, d.1, c.requires.low);
      spelled = first_digit c.args.line.now c.requires.some d.0 d.1;
    }

pub loop-i-preserved : goal.loop-i-preserved
loop-i-preserved c =
    let line = c.args.line.now in
    let i = c.loop-i.i in
    let d = digit_within (slice_index_or line i 0) (sym c.is_digit.ensures ∙ c.if-is_digit.true) in
    record {
      within = omega (arith, c.loop-i-test.true);
      some = omega (arith, c.loop-i.invariant.some);
      small = omega (arith, c.if-value-top.false);
      spelled = digits_on line i c.loop-i.value c.loop-i-test.true d.0 d.1 c.loop-i.invariant.some (omega (arith, c.if-value-top.false, c.requires.high)) c.loop-i.invariant.spelled;
    }
