use Rattle.std.proofs.Common.{◌≡◌, ◌<◌, ◌≤◌, ◌∙◌, sym, subst, ap, true}
use Rattle.std.specs.Prelude.{fold}
use Rattle.yard_model.specs.Behaviour.{are_applicable, apply}
use Rattle.yard_model.specs.SlotReads.{journal}
use Rattle.shard_entities.proofs.FoldLaws.{replay_done, replay_may_read, replay_to}
use Rattle.shard_entities.proofs.recovery.replayed.Goals as goal

pub record_at-written-requires-clause-within : goal.record_at-written-requires-clause-within
record_at-written-requires-clause-within g c = subst (λ n. c.loop-k.k < n) c.requires.count c.loop-k-test.true

pub apply_all-requires-clause-state : goal.apply_all-requires-clause-state
apply_all-requires-clause-state g c = c.loop-k.invariant.valid

pub apply_all-requires-clause-events : goal.apply_all-requires-clause-events
apply_all-requires-clause-events g c =
    subst (λ l. are_applicable c.loop-k.current l ≡ true) (sym c.as_slice.ensures.items)
    (replay_may_read c.loop-k.current (journal c.args.place.now.entity c.args.store.now.entries) c.loop-k.k c.record_at-written.result.now (subst (λ n. c.loop-k.k < n) c.requires.count c.loop-k-test.true) c.record_at-written.ensures c.loop-k.invariant.may)

pub loop-k-preserved : goal.loop-k-preserved
loop-k-preserved g c =
    let next : _ = replay_to c.loop-k.current c.apply_all.new.state _ (journal c.args.place.now.entity c.args.store.now.entries) c.loop-k.k c.record_at-written.result.now (subst (λ n. c.loop-k.k < n) c.requires.count c.loop-k-test.true) c.record_at-written.ensures c.loop-k.invariant.may c.loop-k.invariant.value (c.apply_all.ensures.value ∙ ap (fold apply c.loop-k.current) c.as_slice.ensures.items) in
    record { valid = c.apply_all.ensures.valid; may = next.0; value = next.1 }

pub returns-clause-value : goal.returns-clause-value
returns-clause-value g c = replay_done c.loop-k.current _ (journal c.args.place.now.entity c.args.store.now.entries) c.loop-k.k (subst (λ n. n ≤ c.loop-k.k) c.requires.count c.loop-k-test.false) c.loop-k.invariant.value
