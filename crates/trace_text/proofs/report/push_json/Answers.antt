use Rattle.std.proofs.Common.{[], ◌++◌, ap, ◌∙◌, drop, subst}
use Rattle.std.specs.Prelude.{codes}
use Rattle.yard_model.specs.Script.{setting}
use Rattle.yard_model.specs.Text.{Bytes}
use Rattle.trace_text.specs.Grown.{Appends}
use Rattle.trace_text.specs.Json.{entities_json, queues_json}
use Rattle.trace_text.specs.JsonText.{values_text}
use Rattle.trace_text.proofs.GrownLaws.{cut_back}
use Rattle.trace_text.proofs.JsonLaws.{whole_told}
use Rattle.trace_text.proofs.report.push_json.Goals as goal

pub returns : goal.returns
returns g c =
    let entities = entities_json (setting c.args.charter.now) (g.T.Lists.lists c.args.stores.now) in
    let queues = queues_json (setting c.args.charter.now) (g.T.Lists.lists c.args.stores.now) in
    subst (λ (l : Bytes). Appends c.all_or_none.result c.args.text.now.items c.all_or_none.new.text.items l)
    (ap (λ (l : Bytes). (codes "{\"entities\":[" ++ drop 1 l) ++ (codes "],\"queues\":[" ++ drop 1 c.as_slice-2.result.now) ++ codes "]}\n") (c.as_slice.ensures ∙ c.in_ok-entities.ensures)
    ∙ (ap (λ (l : Bytes). (codes "{\"entities\":[" ++ drop 1 (values_text entities)) ++ (codes "],\"queues\":[" ++ drop 1 l) ++ codes "]}\n") (c.as_slice-2.ensures ∙ c.in_ok-queues.ensures)
    ∙ whole_told [] entities queues))
    (cut_back c.push_object-pushed.result c.all_or_none.result c.len-length.result c.args.text.now.items c.push_object-pushed.new.text.items c.all_or_none.new.text.items _ c.all_or_none.ensures.result (c.len-length.ensures ∙ c.args.text.now.ok.0) c.push_object-pushed.ensures c.all_or_none.ensures.items)
