use Rattle.std.proofs.Common.{◌<◌, ◌≤◌, ◌∙◌, ap, subst, sym}
use Rattle.std.specs.Prelude.{IsTrue, fold}
use Rattle.yard_model.specs.Behaviour.{apply, are_applicable}
use Rattle.yard_model.specs.SlotReads.{journal}
use Rattle.live_run.proofs.ReportLaws.{fold_done, fold_may, fold_next}
use Rattle.live_run.proofs.reporting.state_of.Goals as goal

pub record_at-written-requires-clause-within : goal.record_at-written-requires-clause-within
record_at-written-requires-clause-within c = subst (λ n. c.loop-k.k < n) c.requires.count c.loop-k-test.true

pub apply_events-requires : goal.apply_events-requires
apply_events-requires c =
    subst (λ l. IsTrue (are_applicable c.loop-k.state l)) (sym c.as_slice.ensures.items)
    (fold_may c.loop-k.state (journal c.args.name.now c.args.store.now.entries) c.loop-k.k c.record_at-written.result.now (subst (λ n. c.loop-k.k < n) c.requires.count c.loop-k-test.true) c.record_at-written.ensures c.loop-k.invariant.foldable)

pub loop-k-preserved : goal.loop-k-preserved
loop-k-preserved c =
    let next : _ = fold_next c.loop-k.state c.apply_events.new.state _ (journal c.args.name.now c.args.store.now.entries) c.loop-k.k c.record_at-written.result.now (subst (λ n. c.loop-k.k < n) c.requires.count c.loop-k-test.true) c.record_at-written.ensures c.loop-k.invariant.foldable c.loop-k.invariant.value (c.apply_events.ensures ∙ ap (fold apply c.loop-k.state) c.as_slice.ensures.items) in
    record { foldable = next.0; value = next.1 }

pub returns : goal.returns
returns c = fold_done c.loop-k.state _ (journal c.args.name.now c.args.store.now.entries) c.loop-k.k (subst (λ n. n ≤ c.loop-k.k) c.requires.count c.loop-k-test.false) c.loop-k.invariant.value
