use Rattle.std.proofs.Common.{ap}
use Rattle.entry_slots.proofs.TakenLaws.{on_err}
use Rattle.yard_model.specs.declared.charter.Config.{Config}
use Rattle.log_resume.proofs.NoteLaws.{first_begun, second_begun, third_begun, three_noted}
use Rattle.log_resume.proofs.note.note_all.Goals as goal

pub returns-clause-ok : goal.returns-clause-ok
returns-clause-ok c =
    three_noted c.args.charter.now c.args.store.now.lists _ _ (ap (λ (x : Config). x.shards) c.config-config.ensures.value) (ap (λ (x : Config). x.producers) c.config-config.ensures.value)
    c.args.freed.now c.note_shards.new.freed c.note.new.freed c.note_queues.new.freed c.in_ok-note_shards.ensures.ok c.in_ok-note.ensures.ok c.in_ok-note_queues.ensures.ok

pub returns-in_err-note_shards-clause-err : goal.returns-in_err-note_shards-clause-err
returns-in_err-note_shards-clause-err c =
    on_err c.from_residual.result _
    (first_begun c.args.charter.now c.args.store.now.lists _ _ (ap (λ (x : Config). x.shards) c.config-config.ensures.value) (ap (λ (x : Config). x.producers) c.config-config.ensures.value)
    c.args.freed.now c.note_shards.new.freed c.in_err-note_shards.ensures.err)

pub returns-in_err-note-clause-err : goal.returns-in_err-note-clause-err
returns-in_err-note-clause-err c =
    on_err c.from_residual-in_err-note.result _
    (second_begun c.args.charter.now c.args.store.now.lists _ _ (ap (λ (x : Config). x.shards) c.config-config.ensures.value) (ap (λ (x : Config). x.producers) c.config-config.ensures.value)
    c.args.freed.now c.note_shards.new.freed c.note.new.freed c.in_ok-note_shards.ensures.ok c.in_err-note.ensures.err)

pub returns-in_err-note_queues-clause-err : goal.returns-in_err-note_queues-clause-err
returns-in_err-note_queues-clause-err c =
    on_err c.from_residual-in_err-note_queues.result _
    (third_begun c.args.charter.now c.args.store.now.lists _ _ (ap (λ (x : Config). x.shards) c.config-config.ensures.value) (ap (λ (x : Config). x.producers) c.config-config.ensures.value)
    c.args.freed.now c.note_shards.new.freed c.note.new.freed c.note_queues.new.freed c.in_ok-note_shards.ensures.ok c.in_ok-note.ensures.ok c.in_err-note_queues.ensures.err)
