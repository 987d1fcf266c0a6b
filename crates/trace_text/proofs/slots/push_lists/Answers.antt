use Rattle.std.proofs.Common.{◌∙◌}
use Rattle.trace_text.proofs.GrownLaws.{cut_back}
use Rattle.trace_text.proofs.slots.push_lists.Goals as goal

pub returns : goal.returns
returns g c = cut_back c.push_slots-pushed.result c.all_or_none.result c.len-length.result c.args.text.now.items c.push_slots-pushed.new.text.items c.all_or_none.new.text.items _ c.all_or_none.ensures.result (c.len-length.ensures ∙ c.args.text.now.ok.0) c.push_slots-pushed.ensures c.all_or_none.ensures.items
