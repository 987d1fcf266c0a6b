use Rattle.std.proofs.Common.{◌≡◌, sym, ◌∙◌, arith, true}
use Rattle.std.specs.Prelude.{slice_index}
use Rattle.script_text.specs.Words.{is_printable}
use Rattle.script_text.proofs.Stops.{printable_next}
use Rattle.script_text.proofs.cut.last_stop.Goals as goal

pub loop-at-preserved : goal.loop-at-preserved
loop-at-preserved c =
    let one : is_printable (slice_index c.args.bytes.now c.loop-at.at) ≡ true = sym c.is_printable.ensures ∙ c.if-not-is_printable.false in
    let inside = c.loop-at-test.true in
    record {
      before = printable_next c.args.bytes.now c.loop-at.at c.loop-at.invariant.before one;
      within = omega arith;
    }
