use Rattle.trace_text.specs.JsonMembers.{with_pair}
use Rattle.trace_text.proofs.JsonValues.{object_in_one}
use Rattle.trace_text.proofs.json_rows.pair_value.Goals as goal

pub returns : goal.returns
returns c =
    object_in_one (with_pair c.args.p c.args.name.now c.args.tally.now.queued c.args.tally.now.confirmed) c.new-map.result c.put_pair.new.map c.new-map.ensures.empty c.in_ok-put_pair.ensures
