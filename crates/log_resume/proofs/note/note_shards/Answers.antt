use Rattle.std.proofs.Common.{◌≡◌, ◌+◌, ap, sym, ◌∙◌, arith}
use Rattle.std.proofs.lemmas.List.{append-nil}
use Rattle.entry_slots.proofs.TakenLaws.{on_err}
use Rattle.yard_model.specs.declared.incarnation.Slot.TheVariants as slot
use Rattle.plain_laws.proofs.Booleans.{is_below}
use Rattle.log_resume.proofs.NoteLaws.{noted_front, noted_more}
use Rattle.log_resume.proofs.note.note_shards.Goals as goal

pub note-requires : goal.note-requires
note-requires c = is_below c.in-Some.shard c.args.store.now.script.config.shards (omega (arith, c.in-Some.ensures.value, c.loop-k-test.true, c.requires.count))

pub loop-k-init : goal.loop-k-init
loop-k-init c = sym (append-nil c.args.freed.now)

pub loop-k-preserved : goal.loop-k-preserved
loop-k-preserved c =
    let place : c.in-Some.shard ≡ 0 + c.loop-k.k = omega (arith, c.in-Some.ensures.value) in
    noted_more c.args.store.now.lists slot.Shard 0 c.loop-k.k (slot.Shard c.in-Some.shard) c.args.freed.now c.loop-k.freed c.note.new.freed c.loop-k.invariant (ap slot.Shard place) c.in_ok-note.ensures.ok

pub returns-in_err-note-clause-err : goal.returns-in_err-note-clause-err
returns-in_err-note-clause-err c =
    on_err c.from_residual.result _ (noted_front c.args.store.now.lists slot.Shard 0 c.loop-k.k c.args.shards c.args.freed.now c.note.new.freed (omega (arith, c.loop-k-test.true)) (c.in_err-note.ensures.err ∙ c.loop-k.invariant))
