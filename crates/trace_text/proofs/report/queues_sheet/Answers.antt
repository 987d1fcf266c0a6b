use Rattle.std.proofs.Common.{◌++◌, ap, ◌∙◌}
use Rattle.std.specs.List.{flat_map}
use Rattle.yard_model.specs.Script.{setting}
use Rattle.yard_model.specs.Setting.{producers}
use Rattle.yard_model.specs.SlotLists.{queue_list}
use Rattle.yard_model.specs.Text.{Bytes}
use Rattle.trace_text.specs.JsonText.{pair_values}
use Rattle.trace_text.specs.Rows.{queue_rows}
use Rattle.trace_text.proofs.JsonLaws.{queues_told}
use Rattle.trace_text.proofs.report.queues_sheet.Goals as goal

pub returns : goal.returns
returns g c =
    let set = setting c.args.charter.now in
    let lists = g.T.Lists.lists c.args.stores.now in
    c.in_ok-push_queues.ensures
    ∙ (ap (λ (l : Bytes). l ++ flat_map (λ p. queue_rows pair_values p (queue_list lists p) set.names) (producers set)) c.new.ensures ∙ queues_told set lists)
