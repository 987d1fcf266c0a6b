use Rattle.std.proofs.Common.{◌∷◌, arith, take}
use Rattle.std.specs.Prelude.{codes}
use Rattle.std.specs.Borrow.{Bor}
use Rattle.yard_model.specs.declared.packet.Record.{Record}
use Rattle.yard_model.specs.Text.{line, record_words}
use Rattle.trace_text.proofs.GrownLaws.{each_seen_done, each_seen_next}
use Rattle.trace_text.proofs.entities.put_records.Goals as goal

pub loop-written-preserved : goal.loop-written-preserved
loop-written-preserved c = record {
  items = each_seen_next (λ (r : Bor Record). r.now) (λ x. line (codes "record" ∷ record_words x)) c.args.records.now c.loop-written.written-index c.written-item.result (take c.loop-written.end c.loop-written.cells.items) _ _
      (omega arith) c.written-item.is c.in_ok-end.ensures.items c.loop-written.invariant.items;
  within = c.in_ok-end.ensures.end;
  more = omega (arith, c.in_ok-end.ensures.length, c.loop-written.invariant.more);
}

pub returns-clause-items : goal.returns-clause-items
returns-clause-items c =
    each_seen_done (λ (r : Bor Record). r.now) (λ x. line (codes "record" ∷ record_words x)) c.args.records.now c.loop-written.written-index (take c.loop-written.end c.loop-written.cells.items) _ (omega arith)
    c.loop-written.invariant.items
