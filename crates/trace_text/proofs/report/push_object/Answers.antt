use Rattle.std.proofs.Common.{◌++◌, ap, ◌∙◌, append_assoc, drop}
use Rattle.std.specs.Prelude.{codes}
use Rattle.yard_model.specs.Text.{Bytes}
use Rattle.trace_text.proofs.GrownLaws.{appends_grows, grows_on}
use Rattle.trace_text.proofs.report.push_object.Goals as goal

pub returns : goal.returns
returns c =
    let first : Bytes = codes "{\"entities\":[" ++ drop 1 c.args.entities.now in
    let second : Bytes = codes "],\"queues\":[" ++ drop 1 c.args.queues.now in
    grows_on c.push.result c.args.text.now.items c.push_values-2.new.text.items c.push.new.text.items (first ++ second) (codes "]}\n")
    (c.in_ok-push_values-2.ensures ∙ (ap (λ (l : Bytes). l ++ second) c.in_ok-push_values.ensures ∙ append_assoc c.args.text.now.items first second))
    (appends_grows c.push.result c.push_values-2.new.text.items c.push.new.text.items (codes "]}\n") c.push.ensures)
