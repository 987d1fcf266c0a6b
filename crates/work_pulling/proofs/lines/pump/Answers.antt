use Rattle.std.proofs.Common.{sym, ap, ◌∙◌, arith, ◌≤◌}
use Rattle.std.specs.Prelude.{is_some, not}
use Rattle.plain_laws.proofs.Booleans.{true_is_not_false}
use Rattle.work_pulling.proofs.PumpLaws.{draining_begins, draining_next, draining_full, draining_empty, draining_ends, pumped}
use Rattle.work_pulling.proofs.lines.pump.Goals as goal

pub loop-init : goal.loop-init
loop-init c = draining_begins c.args.cluster.now c.args.out.now c.args.count

pub returns-in_default : goal.returns-in_default
returns-in_default c =
    let le : c.loop.counter ≤ c.args.count = omega (arith, c.loop-test.true) in
    pumped c.args.cluster.now c.loop.cluster c.args.out.now c.loop.out c.args.count (λ low. true_is_not_false (sym (sym (ap is_some (c.next_fresh.ensures.value ∙ low)) ∙ (c.is_none.ensures ∙ ap not c.if-is_none.false)))) c.loop.invariant.on
    (draining_empty c.args.cluster.now c.loop.cluster c.args.out.now c.loop.out c.loop.counter c.args.count c.loop.invariant le (sym c.next_fresh-in-loop.ensures.value ∙ c.in_default.is))

pub returns-then-is_full : goal.returns-then-is_full
returns-then-is_full c =
    let d : _ × _ = draining_full c.args.cluster.now c.loop.cluster c.deliver.new.cluster c.end_input.new.cluster c.args.out.now c.loop.out c.deliver.new.out c.end_input.new.out c.in-Some.number c.loop.counter c.args.count c.loop.invariant c.loop-test.true (sym c.next_fresh-in-loop.ensures.value ∙ c.in-Some.is) c.in_ok-deliver.ensures c.in_ok-end_input.ensures (sym c.is_full.ensures ∙ c.if-is_full.true) in
    pumped c.args.cluster.now c.end_input.new.cluster c.args.out.now c.end_input.new.out c.args.count (λ low. true_is_not_false (sym (sym (ap is_some (c.next_fresh.ensures.value ∙ low)) ∙ (c.is_none.ensures ∙ ap not c.if-is_none.false)))) d.0 d.1

pub loop-preserved : goal.loop-preserved
loop-preserved c = draining_next c.args.cluster.now c.loop.cluster c.deliver.new.cluster c.end_input.new.cluster c.args.out.now c.loop.out c.deliver.new.out c.end_input.new.out c.in-Some.number c.loop.counter c.args.count c.loop.invariant (sym c.next_fresh-in-loop.ensures.value ∙ c.in-Some.is) c.in_ok-deliver.ensures c.in_ok-end_input.ensures (sym c.is_full.ensures ∙ c.if-is_full.false)

pub returns : goal.returns
returns c =
    let le : c.loop.counter ≤ c.args.count = c.loop.auto.counter-end in
    let ge : c.args.count ≤ c.loop.counter = omega (arith, c.loop-test.false) in
    pumped c.args.cluster.now c.loop.cluster c.args.out.now c.loop.out c.args.count (λ low. true_is_not_false (sym (sym (ap is_some (c.next_fresh.ensures.value ∙ low)) ∙ (c.is_none.ensures ∙ ap not c.if-is_none.false)))) c.loop.invariant.on
    (draining_ends c.args.cluster.now c.loop.cluster c.args.out.now c.loop.out c.loop.counter c.args.count c.loop.invariant le ge)
