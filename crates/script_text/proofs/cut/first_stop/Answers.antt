use Rattle.std.proofs.Common.{◌+◌, ap, ◌∙◌, arith, refl}
use Rattle.std.specs.Int.{bit_at}
use Rattle.std.proofs.lemmas.Nat.Bits.{bit_at-zero}
use Rattle.script_text.proofs.Stops.{printable_on}
use Rattle.script_text.proofs.cut.first_stop.Goals as goal

pub returns-then-stops-ne0-clause-before : goal.returns-then-stops-ne0-clause-before
returns-then-stops-ne0-clause-before c =
    let inside = c.stops_of-stops.ensures.within c.lowest.result c.lowest.ensures.set in
    printable_on c.args.bytes.now c.loop-at.at c.lowest.result (c.loop-at.at + c.lowest.result) c.loop-at.invariant.before
    (λ j below. c.stops_of-stops.ensures.before j (omega (arith, inside, below)) (c.lowest.ensures.below j below)) refl

pub loop-at-preserved : goal.loop-at-preserved
loop-at-preserved c = record {
  before = printable_on c.args.bytes.now c.loop-at.at 16 (c.loop-at.at + 16) c.loop-at.invariant.before
      (λ j below. c.stops_of-stops.ensures.before j below (ap (λ n. bit_at n j) c.if-stops-ne0.false ∙ bit_at-zero j)) refl;
  within = omega (arith, c.loop-at-test.true);
}
