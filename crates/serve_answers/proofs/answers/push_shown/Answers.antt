use Rattle.std.proofs.Common.{◌≡◌, ◌++◌, ap, ◌∙◌}
use Rattle.std.proofs.lemmas.Result.{on_ok_weaker}
use Rattle.yard_model.specs.Script.{setting}
use Rattle.yard_model.specs.Setting.{shard_of}
use Rattle.yard_model.specs.SlotLists.{shard_list}
use Rattle.yard_model.specs.SlotReads.{journal}
use Rattle.shard_store.specs.Stores.{lists_at}
use Rattle.serve_answers.specs.Records.{records_in}
use Rattle.serve_answers.proofs.ShownLaws.{listed, shown_folds, shown_line, some_shards}
use Rattle.serve_answers.proofs.answers.push_shown.Goals as goal

pub shown_in-count-requires : goal.shown_in-count-requires
shown_in-count-requires c =
    let same : journal c.args.entity.now (shard_list (lists_at c.args.charter.now.config c.args.stores.now.places) (shard_of (setting c.args.charter.now) c.args.entity.now)) ≡ records_in c.args.entity.now c.shard.result.now =
    listed c.args.charter.now c.args.stores.now.script c.config-config.result.now c.args.stores.now.places c.shard_of-shard.result c.args.entity.now c.shard.result.now c.requires.script c.config-config.ensures.value c.shard_of-shard.ensures c.shard.ensures in
    shown_folds c.args.charter.now c.config-config.result.now (lists_at c.args.charter.now.config c.args.stores.now.places) c.args.entity.now c.shard.result.now
    (record { commands = c.command_law.ensures; decisions = c.decision_law.ensures; applies = c.decided_law.ensures }) c.config-config.ensures.script (some_shards c.args.charter.now c.config-config.ensures.script) c.requires.lawful c.config-config.ensures.value same

pub returns-in-Ok : goal.returns-in-Ok
returns-in-Ok c =
    let same : journal c.args.entity.now (shard_list (lists_at c.args.charter.now.config c.args.stores.now.places) (shard_of (setting c.args.charter.now) c.args.entity.now)) ≡ records_in c.args.entity.now c.shard.result.now =
    listed c.args.charter.now c.args.stores.now.script c.config-config.result.now c.args.stores.now.places c.shard_of-shard.result c.args.entity.now c.shard.result.now c.requires.script c.config-config.ensures.value c.shard_of-shard.ensures c.shard.ensures in
    on_ok_weaker c.push_entity.result
    (λ pushed. pushed ∙ ap (λ l. c.args.text.now.items ++ l)
    (shown_line c.args.charter.now c.config-config.result.now (lists_at c.args.charter.now.config c.args.stores.now.places) c.args.entity.now c.shard.result.now c.shard_of-shard.result c.in-Ok.count c.shown_in-count.result.1
    c.config-config.ensures.value c.shard_of-shard.ensures same (c.in-Ok.ensures.1 ∙ c.shown_in-count.ensures.count) c.shown_in-count.ensures.state))
    c.push_entity.ensures
