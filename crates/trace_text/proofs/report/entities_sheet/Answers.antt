use Rattle.std.proofs.Common.{◌++◌, ap, ◌∙◌}
use Rattle.std.specs.List.{flat_map}
use Rattle.yard_model.specs.Script.{setting}
use Rattle.yard_model.specs.Setting.{shards}
use Rattle.yard_model.specs.SlotLists.{shard_list}
use Rattle.yard_model.specs.Text.{Bytes}
use Rattle.trace_text.specs.JsonText.{entity_values}
use Rattle.trace_text.specs.Rows.{shard_rows}
use Rattle.trace_text.proofs.JsonLaws.{entities_told}
use Rattle.trace_text.proofs.report.entities_sheet.Goals as goal

pub returns : goal.returns
returns g c =
    let set = setting c.args.charter.now in
    let lists = g.T.Lists.lists c.args.stores.now in
    c.in_ok-push_entities.ensures
    ∙ (ap (λ (l : Bytes). l ++ flat_map (λ s. shard_rows entity_values set s (shard_list lists s)) (shards set)) c.new.ensures ∙ entities_told set lists)
