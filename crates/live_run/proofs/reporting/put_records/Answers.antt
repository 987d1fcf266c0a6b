use Rattle.std.proofs.Common.{◌≡◌, ◌+◌, ◌-◌, ◌<◌, ◌∷◌, ◌∙◌, ap, arith, drop, subst, take}
use Rattle.std.specs.Prelude.{codes}
use Rattle.std.specs.List.{flat_map}
use Rattle.yard_model.specs.SlotReads.{journal}
use Rattle.yard_model.specs.Text.{line, record_words}
use Rattle.live_run.proofs.ReportLaws.{lines_more}
use Rattle.live_run.proofs.reporting.put_records.Goals as goal

pub record_at-written-requires-clause-within : goal.record_at-written-requires-clause-within
record_at-written-requires-clause-within c = subst (λ n. c.args.from + c.loop-i.i < n) c.requires.count (omega (arith, c.loop-i-test.true, c.requires.from))

pub loop-i-preserved : goal.loop-i-preserved
loop-i-preserved c = record {
  items = lines_more (λ x. line (codes "record" ∷ record_words x)) (journal c.args.name.now c.args.store.now.entries) c.args.from c.loop-i.i c.record_at-written.result.now _ _ (subst (λ n. c.args.from + c.loop-i.i < n) c.requires.count (omega (arith, c.loop-i-test.true, c.requires.from))) c.record_at-written.ensures c.loop-i.invariant.items c.put_record_line-end.ensures.items;
  within = omega (arith, c.put_record_line-end.ensures.end, c.loop-i.invariant.within);
  short = omega (arith, c.put_record_line-end.ensures.end, c.loop-i.invariant.short);
  upto = omega (arith, c.loop-i-test.true);
}

pub returns-clause-items : goal.returns-clause-items
returns-clause-items c =
    let here : c.loop-i.i ≡ c.args.count - c.args.from = omega (arith, c.loop-i.invariant.upto, c.loop-i-test.false) in
    c.loop-i.invariant.items ∙ ap (λ n. flat_map (λ x. line (codes "record" ∷ record_words x)) (take n (drop c.args.from (journal c.args.name.now c.args.store.now.entries)))) here
