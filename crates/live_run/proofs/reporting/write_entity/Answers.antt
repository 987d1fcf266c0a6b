use Rattle.std.proofs.Common.{ap, length, ◌∙◌}
use Rattle.yard_model.specs.declared.charter.Config.{Config}
use Rattle.yard_model.specs.SlotReads.{journal}
use Rattle.live_run.proofs.ReportLaws.{entity_began, entity_put}
use Rattle.live_run.proofs.reporting.write_entity.Goals as goal

pub returns : goal.returns
returns g c =
    entity_put c.args.charter.now c.config.result.now.kind c.args.s c.args.name.now (journal c.args.name.now c.args.store.now.entries) c.len-count.result c.state_of-state.result c.write_records.result _ _ _ (c.len-count.ensures.count ∙ ap length c.journal_at.ensures.records) c.state_of-state.ensures c.if-count-eq0.false (ap (λ (k : Config). k.kind) c.config.ensures.value) c.requires.shard
    c.in_ok-write_entity_head.ensures c.write_records.ensures

pub returns-in_err-write_entity_head : goal.returns-in_err-write_entity_head
returns-in_err-write_entity_head g c =
    entity_began c.args.charter.now c.config.result.now.kind c.args.s c.args.name.now (journal c.args.name.now c.args.store.now.entries) c.len-count.result c.state_of-state.result c.from_residual.result _ _ (c.len-count.ensures.count ∙ ap length c.journal_at.ensures.records) c.state_of-state.ensures c.if-count-eq0.false (ap (λ (k : Config). k.kind) c.config.ensures.value) c.requires.shard
    c.from_residual.ensures.0 c.in_err-write_entity_head.ensures
