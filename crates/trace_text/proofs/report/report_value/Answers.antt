use Rattle.std.proofs.Common.{◌≡◌, ◌++◌, List, ap, sym, ◌∙◌, subst, IfOk}
use Rattle.std.specs.Prelude.{map}
use Rattle.std.specs.List.{flat_map}
use Rattle.serde_json.specs.Data.{Data}
use Rattle.serde_json.specs.View.{view}
use Rattle.serde_json.specs.declared.value.Value.{Value}
use Rattle.yard_model.specs.Script.{setting}
use Rattle.yard_model.specs.Setting.{shards, producers}
use Rattle.yard_model.specs.SlotLists.{shard_list, queue_list}
use Rattle.trace_text.specs.Json.{entity_json, pair_json, entities_json, queues_json, whole_json}
use Rattle.trace_text.specs.Rows.{shard_rows, queue_rows}
use Rattle.trace_text.proofs.RowLaws.{entities_are}
use Rattle.trace_text.proofs.report.report_value.Goals as goal

pub returns : goal.returns
returns g c =
    let set = setting c.args.charter.now in
    let lists = g.T.Lists.lists c.args.stores.now in
    let entities : map view c.push_entities.new.out.items ≡ entities_json set lists =
    c.in_ok-push_entities.ensures
    ∙ (ap (λ (l : List Value). map view l ++ flat_map (λ s. shard_rows entity_json set s (shard_list lists s)) (shards set)) c.new-entities.ensures.items
    ∙ sym (entities_are entity_json set lists)) in
    let queues : map view c.push_queues.new.out.items ≡ queues_json set lists =
    c.in_ok-push_queues.ensures
    ∙ ap (λ (l : List Value). map view l ++ flat_map (λ p. queue_rows (λ q e t. pair_json q e t.queued t.confirmed) p (queue_list lists p) set.names) (producers set)) c.new-queues.ensures.items in
    subst (λ (d : Data). IfOk c.whole_value.result (λ v. view v ≡ d))
    (ap (λ (l : List Data). whole_json l (map view c.push_queues.new.out.items)) entities ∙ ap (whole_json (entities_json set lists)) queues)
    c.whole_value.ensures
