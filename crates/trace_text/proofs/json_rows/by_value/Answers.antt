use Rattle.std.proofs.Common.{ap, ◌∙◌}
use Rattle.trace_text.specs.Json.{number_json}
use Rattle.trace_text.proofs.JsonValues.{array_of_two}
use Rattle.trace_text.proofs.json_rows.by_value.Goals as goal

pub returns : goal.returns
returns c =
    array_of_two c.new-list.result c.push.new.self c.push-2.new.self c.from.result c.from-2.result (number_json c.args.written.now.producer) (number_json c.args.written.now.place)
    c.new-list.ensures.items c.in_ok-push.ensures.items c.in_ok-push-2.ensures.items (c.from.ensures ∙ ap number_json c.get.ensures.value) c.from-2.ensures
