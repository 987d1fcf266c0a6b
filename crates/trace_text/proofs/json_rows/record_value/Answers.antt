use Rattle.trace_text.specs.JsonMembers.{with_told, with_answered}
use Rattle.trace_text.proofs.JsonValues.{object_in_two}
use Rattle.trace_text.proofs.json_rows.record_value.Goals as goal

pub returns : goal.returns
returns c =
    object_in_two (with_told c.args.written.now) (with_answered c.args.written.now) c.new-map.result c.put_told.new.map c.put_answered.new.map c.new-map.ensures.empty c.in_ok-put_told.ensures c.in_ok-put_answered.ensures
