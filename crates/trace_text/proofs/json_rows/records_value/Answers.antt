use Rattle.std.proofs.Common.{List, ap, sym, ◌∙◌, ◌∷◌, arith, drop, ◌+◌}
use Rattle.std.specs.Prelude.{map}
use Rattle.std.specs.Borrow.{Bor}
use Rattle.std.proofs.lemmas.List.{drop_all, drop_more}
use Rattle.yard_model.specs.declared.packet.Record.{Record}
use Rattle.trace_text.specs.Json.{record_json}
use Rattle.trace_text.specs.Places.{lent}
use Rattle.trace_text.proofs.JsonValues.{array_of_all, item_more}
use Rattle.trace_text.proofs.json_rows.records_value.Goals as goal

pub loop-written-preserved : goal.loop-written-preserved
loop-written-preserved c =
    let i = c.loop-written.written-index in
    let rs = c.args.records.now in
    item_more c.loop-written.values.items c.push.new.self.items c.in_ok-record_value.field-0 (record_json c.written-item.result.now) (map record_json (lent (drop i rs)))
    (map record_json (lent (drop (i + 1) rs))) (map record_json (lent rs)) c.in_ok-push.ensures.items c.in_ok-record_value.ensures
    (ap (λ (l : List (Bor Record)). map record_json (lent l)) (drop_more rs i c.written-item.result (omega arith) ∙ ap (λ (x : Bor Record). x ∷ drop (i + 1) rs) (sym c.written-item.is)))
    c.loop-written.invariant

pub returns : goal.returns
returns c =
    array_of_all c.loop-written.values (map record_json (lent (drop c.loop-written.written-index c.args.records.now))) (map record_json (lent c.args.records.now)) c.loop-written.invariant
    (ap (λ (l : List (Bor Record)). map record_json (lent l)) (drop_all c.loop-written.written-index c.args.records.now (omega arith)))
