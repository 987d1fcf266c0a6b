use Rattle.std.proofs.Common.{◌+◌, ◌<◌, ◌&&◌, not, length, drop, map, ap, sym, ◌∙◌, arith}
use Rattle.yard_model.specs.Words.{is_empty}
use Rattle.handoff_steps.specs.declared.cell.Cell.TheVariants as cell
use Rattle.handoff_steps.specs.Places.{is_open, moving_from}
use Rattle.handoff_steps.specs.Seen.{seen}
use Rattle.handoff_steps.proofs.PlaceLaws.{empty_more}
use Rattle.handoff_steps.proofs.round.is_none_open.Goals as goal

pub returns-then-is_open : goal.returns-then-is_open
returns-then-is_open c =
    let cells = c.args.cells.now in
    let i = c.loop-place.place in
    let f = seen c.args.regions.now in
    let more = empty_more f cells i cell.Out c.loop-place-test.true in
    let shown = sym c.is_open.ensures ∙ c.if-is_open.true in
    sym (sym c.loop-place.invariant.rest ∙ (more ∙ ap (λ b. not b && is_empty (moving_from (i + 1) (map f (drop (i + 1) cells)))) shown))

pub loop-place-preserved : goal.loop-place-preserved
loop-place-preserved c =
    let cells = c.args.cells.now in
    let i = c.loop-place.place in
    let f = seen c.args.regions.now in
    let low : i < length cells = c.loop-place-test.true in
    let more = empty_more f cells i cell.Out low in
    let shown = sym c.is_open.ensures ∙ c.if-is_open.false in record {
      within = omega arith;
      end = c.loop-place.invariant.end;
      rest = sym (more ∙ ap (λ b. not b && is_empty (moving_from (i + 1) (map f (drop (i + 1) cells)))) shown) ∙ c.loop-place.invariant.rest;
    }
