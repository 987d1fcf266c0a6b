use Rattle.std.proofs.Common.{◌∙◌, ap, sym}
use Rattle.yard_model.specs.declared.charter.Config.{Config}
use Rattle.yard_model.specs.Lawful.{lawful}
use Rattle.yard_model.specs.Script.{Script}
use Rattle.log_resume.proofs.FreedLaws.{three_freed}
use Rattle.log_resume.proofs.free.free_all.Goals as goal

pub free_queues-requires-clause-lawful : goal.free_queues-requires-clause-lawful
free_queues-requires-clause-lawful c = ap (λ s. lawful s c.free.new.store.lists) c.free.ensures.script ∙ c.in_ok-free.ensures.lawful

pub returns-clause-lawful : goal.returns-clause-lawful
returns-clause-lawful c = ap (λ s. lawful s c.free_queues.new.store.lists) (sym (c.free.ensures.script ∙ c.free_shards.ensures.script)) ∙ c.in_ok-free_queues.ensures.lawful

pub returns-clause-freed : goal.returns-clause-freed
returns-clause-freed c =
    let shards = ap (λ (x : Config). x.shards) c.config-config.ensures.value ∙ ap (λ (s : Script). s.config.shards) (sym c.requires.charter) in
    let producers = ap (λ (x : Config). x.producers) c.config-config.ensures.value ∙ ap (λ (s : Script). s.config.producers) (sym c.requires.charter) in
    three_freed c.args.store.now.script c.args.store.now.lists c.free_shards.new.store.lists c.free.new.store.lists c.free_queues.new.store.lists _ _ shards producers
    c.in_ok-free_shards.ensures.freed c.in_ok-free.ensures.freed c.in_ok-free_queues.ensures.freed
