use Rattle.std.proofs.Common.{◌≡◌, ◌+◌, ap, sym, ◌∙◌, arith}
use Rattle.std.proofs.lemmas.List.{append-nil}
use Rattle.entry_slots.proofs.TakenLaws.{on_err}
use Rattle.yard_model.specs.declared.incarnation.Slot.TheVariants as slot
use Rattle.plain_laws.proofs.Booleans.{both, within}
use Rattle.log_resume.proofs.NoteLaws.{noted_front, noted_more}
use Rattle.log_resume.proofs.note.note_queues.Goals as goal

pub note-requires : goal.note-requires
note-requires c = both _ _ (within 1 c.in-Some.producer (omega (arith, c.in-Some.ensures.value))) (within c.in-Some.producer c.args.store.now.script.config.producers (omega (arith, c.in-Some.ensures.value, c.loop-k-test.true, c.requires.count)))

pub loop-k-init : goal.loop-k-init
loop-k-init c = sym (append-nil c.args.freed.now)

pub loop-k-preserved : goal.loop-k-preserved
loop-k-preserved c =
    let place : c.in-Some.producer ≡ 1 + c.loop-k.k = omega (arith, c.in-Some.ensures.value) in
    noted_more c.args.store.now.lists slot.Queue 1 c.loop-k.k (slot.Queue c.in-Some.producer) c.args.freed.now c.loop-k.freed c.note.new.freed c.loop-k.invariant (ap slot.Queue place) c.in_ok-note.ensures.ok

pub returns-in_err-note-clause-err : goal.returns-in_err-note-clause-err
returns-in_err-note-clause-err c =
    on_err c.from_residual.result _ (noted_front c.args.store.now.lists slot.Queue 1 c.loop-k.k c.args.producers c.args.freed.now c.note.new.freed (omega (arith, c.loop-k-test.true)) (c.in_err-note.ensures.err ∙ c.loop-k.invariant))
