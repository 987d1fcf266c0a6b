use Rattle.trace_text.specs.JsonMembers.{with_named, with_shown}
use Rattle.trace_text.specs.Places.{lent}
use Rattle.trace_text.proofs.JsonValues.{object_in_two}
use Rattle.trace_text.proofs.json_rows.entity_value.Goals as goal

pub returns : goal.returns
returns c =
    object_in_two (with_named c.args.name.now (lent c.args.records.now)) (with_shown c.args.kind c.args.s (lent c.args.records.now)) c.new-map.result c.put_named.new.map c.put_shown.new.map
    c.new-map.ensures.empty c.in_ok-put_named.ensures c.in_ok-put_shown.ensures
