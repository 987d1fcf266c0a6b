use Rattle.std.proofs.Common.{◌∙◌, ap, refl, subst}
use Rattle.std.specs.Prelude.{Err}
use Rattle.yard_io.specs.Told.{TakesFront, followed_by}
use Rattle.program_words.specs.declared.status.Status.TheVariants as status
use Rattle.resume_run.specs.declared.fault.ResumeError.TheVariants as error
use Rattle.yard_top.specs.Disks.{platter}
use Rattle.yard_top.specs.Ends.{streams}
use Rattle.yard_top.proofs.DiskLaws.{apply_early, apply_ends, apply_errs, damaged_failed, damaged_memory, failed_memory, foreign_failed, foreign_memory, if_no_script, memory_failed, script_there}
use Rattle.yard_top.proofs.disk.run_apply.Goals as goal

pub returns-in-Ok-apply_text-clause-on_disk : goal.returns-in-Ok-apply_text-clause-on_disk
returns-in-Ok-apply_text-clause-on_disk g c = apply_ends g.D.Disk.tells
    (streams (g.S.Source.left c.args.source.now) (g.S.Source.faults c.args.source.now) (g.K.Sink.taken c.args.sink.now) (g.K.Sink.flushed c.args.sink.now) (g.K.Sink.faults c.args.sink.now))
    (streams (g.S.Source.left c.read_charter.new.source) (g.S.Source.faults c.read_charter.new.source) (g.K.Sink.taken c.write_text.new.sink) (g.K.Sink.flushed c.write_text.new.sink) (g.K.Sink.faults c.write_text.new.sink))
    (platter (g.D.Disk.content c.args.disk.now) (g.D.Disk.images c.args.disk.now) (g.D.Disk.faults c.args.disk.now))
    (platter (g.D.Disk.content c.apply_text.new.disk) (g.D.Disk.images c.apply_text.new.disk) (g.D.Disk.faults c.apply_text.new.disk))
    c.in-Ok.charter c.write_text.result c.in-Ok-apply_text.text.items c.in-Ok.ensures.script c.in-Ok-apply_text.ensures.applied c.apply_text.ensures.any_moment c.apply_text.ensures.never_falls c.write_text.ensures.either
    (λ ok. (c.write_text.ensures.ok ok).0 ∙ ap (followed_by (g.K.Sink.taken c.args.sink.now)) c.as_slice.ensures.value)
    (λ failed. let f = c.write_text.ensures.failed failed in (f.0, subst (TakesFront (g.K.Sink.taken c.args.sink.now) (g.K.Sink.taken c.write_text.new.sink)) c.as_slice.ensures.value f.1))

pub returns-in-Ok-apply_text-clause-untouched : goal.returns-in-Ok-apply_text-clause-untouched
returns-in-Ok-apply_text-clause-untouched g c = script_there _ c.write_text.result c.write_text.ensures.either

pub returns-in-Err-clause-untouched : goal.returns-in-Err-clause-untouched
returns-in-Err-clause-untouched g c = if_no_script c.in-Err.status refl

pub returns-in-Err-clause-on_disk : goal.returns-in-Err-clause-on_disk
returns-in-Err-clause-on_disk g c = apply_early g.D.Disk.tells
    (streams (g.S.Source.left c.args.source.now) (g.S.Source.faults c.args.source.now) (g.K.Sink.taken c.args.sink.now) (g.K.Sink.flushed c.args.sink.now) (g.K.Sink.faults c.args.sink.now))
    (streams (g.S.Source.left c.read_charter.new.source) (g.S.Source.faults c.read_charter.new.source) (g.K.Sink.taken c.args.sink.now) (g.K.Sink.flushed c.args.sink.now) (g.K.Sink.faults c.args.sink.now))
    (platter (g.D.Disk.content c.args.disk.now) (g.D.Disk.images c.args.disk.now) (g.D.Disk.faults c.args.disk.now))
    c.in-Err.status (g.met.D.Disk.timed c.args.disk.now) refl c.in-Err.ensures.early

pub returns-in-Err-Failed-clause-on_disk : goal.returns-in-Err-Failed-clause-on_disk
returns-in-Err-Failed-clause-on_disk g c =
    let is = c.in-Err-Failed.is ∙ ap Err c.in-Err-Failed.field-0-is in
    apply_errs g.D.Disk.tells
    (streams (g.S.Source.left c.args.source.now) (g.S.Source.faults c.args.source.now) (g.K.Sink.taken c.args.sink.now) (g.K.Sink.flushed c.args.sink.now) (g.K.Sink.faults c.args.sink.now))
    (streams (g.S.Source.left c.read_charter.new.source) (g.S.Source.faults c.read_charter.new.source) (g.K.Sink.taken c.args.sink.now) (g.K.Sink.flushed c.args.sink.now) (g.K.Sink.faults c.args.sink.now))
    (platter (g.D.Disk.content c.args.disk.now) (g.D.Disk.images c.args.disk.now) (g.D.Disk.faults c.args.disk.now))
    (platter (g.D.Disk.content c.apply_text.new.disk) (g.D.Disk.images c.apply_text.new.disk) (g.D.Disk.faults c.apply_text.new.disk))
    c.in-Ok.charter status.DiskFault c.apply_text.result error.Failed c.in-Ok.ensures.script refl is failed_memory c.apply_text.ensures.any_moment c.apply_text.ensures.never_falls c.apply_text.ensures.complete
    (c.apply_text.ensures.cause is, refl)

pub returns-in-Err-OutOfMemory-clause-on_disk : goal.returns-in-Err-OutOfMemory-clause-on_disk
returns-in-Err-OutOfMemory-clause-on_disk g c =
    let is = c.in-Err-OutOfMemory.is ∙ ap Err c.in-Err-OutOfMemory.field-0-is in
    apply_errs g.D.Disk.tells
    (streams (g.S.Source.left c.args.source.now) (g.S.Source.faults c.args.source.now) (g.K.Sink.taken c.args.sink.now) (g.K.Sink.flushed c.args.sink.now) (g.K.Sink.faults c.args.sink.now))
    (streams (g.S.Source.left c.read_charter.new.source) (g.S.Source.faults c.read_charter.new.source) (g.K.Sink.taken c.args.sink.now) (g.K.Sink.flushed c.args.sink.now) (g.K.Sink.faults c.args.sink.now))
    (platter (g.D.Disk.content c.args.disk.now) (g.D.Disk.images c.args.disk.now) (g.D.Disk.faults c.args.disk.now))
    (platter (g.D.Disk.content c.apply_text.new.disk) (g.D.Disk.images c.apply_text.new.disk) (g.D.Disk.faults c.apply_text.new.disk))
    c.in-Ok.charter status.OutOfMemory c.apply_text.result error.OutOfMemory c.in-Ok.ensures.script refl is (λ e. refl) c.apply_text.ensures.any_moment c.apply_text.ensures.never_falls c.apply_text.ensures.complete
    (λ told. c.apply_text.ensures.stays error.OutOfMemory is memory_failed told)

pub returns-in-Err-Damaged-clause-on_disk : goal.returns-in-Err-Damaged-clause-on_disk
returns-in-Err-Damaged-clause-on_disk g c =
    let is = c.in-Err-Damaged.is ∙ ap Err c.in-Err-Damaged.field-0-is in
    apply_errs g.D.Disk.tells
    (streams (g.S.Source.left c.args.source.now) (g.S.Source.faults c.args.source.now) (g.K.Sink.taken c.args.sink.now) (g.K.Sink.flushed c.args.sink.now) (g.K.Sink.faults c.args.sink.now))
    (streams (g.S.Source.left c.read_charter.new.source) (g.S.Source.faults c.read_charter.new.source) (g.K.Sink.taken c.args.sink.now) (g.K.Sink.flushed c.args.sink.now) (g.K.Sink.faults c.args.sink.now))
    (platter (g.D.Disk.content c.args.disk.now) (g.D.Disk.images c.args.disk.now) (g.D.Disk.faults c.args.disk.now))
    (platter (g.D.Disk.content c.apply_text.new.disk) (g.D.Disk.images c.apply_text.new.disk) (g.D.Disk.faults c.apply_text.new.disk))
    c.in-Ok.charter (status.LogDamaged c.in-Err-Damaged.at) c.apply_text.result (error.Damaged c.in-Err-Damaged.at) c.in-Ok.ensures.script refl is (damaged_memory c.in-Err-Damaged.at) c.apply_text.ensures.any_moment c.apply_text.ensures.never_falls c.apply_text.ensures.complete
    (λ told. c.apply_text.ensures.damaged c.in-Err-Damaged.at is told, refl, record { content_stays = λ told. c.apply_text.ensures.content (error.Damaged c.in-Err-Damaged.at) is tt told; stays = λ told. c.apply_text.ensures.stays (error.Damaged c.in-Err-Damaged.at) is (damaged_failed c.in-Err-Damaged.at) told })

pub returns-clause-on_disk : goal.returns-clause-on_disk
returns-clause-on_disk g c =
    let is = c.in-Err-Foreign.is ∙ ap Err c.in-Err-Foreign.field-0-is in
    apply_errs g.D.Disk.tells
    (streams (g.S.Source.left c.args.source.now) (g.S.Source.faults c.args.source.now) (g.K.Sink.taken c.args.sink.now) (g.K.Sink.flushed c.args.sink.now) (g.K.Sink.faults c.args.sink.now))
    (streams (g.S.Source.left c.read_charter.new.source) (g.S.Source.faults c.read_charter.new.source) (g.K.Sink.taken c.args.sink.now) (g.K.Sink.flushed c.args.sink.now) (g.K.Sink.faults c.args.sink.now))
    (platter (g.D.Disk.content c.args.disk.now) (g.D.Disk.images c.args.disk.now) (g.D.Disk.faults c.args.disk.now))
    (platter (g.D.Disk.content c.apply_text.new.disk) (g.D.Disk.images c.apply_text.new.disk) (g.D.Disk.faults c.apply_text.new.disk))
    c.in-Ok.charter (status.LogForeign c.in-Err-Foreign.batch) c.apply_text.result (error.Foreign c.in-Err-Foreign.batch) c.in-Ok.ensures.script refl is (foreign_memory c.in-Err-Foreign.batch) c.apply_text.ensures.any_moment c.apply_text.ensures.never_falls c.apply_text.ensures.complete
    ((c.in-Ok.charter, c.in-Ok.ensures.script, c.apply_text.ensures.foreign c.in-Err-Foreign.batch is), refl, record { content_stays = λ told. c.apply_text.ensures.content (error.Foreign c.in-Err-Foreign.batch) is tt told; stays = λ told. c.apply_text.ensures.stays (error.Foreign c.in-Err-Foreign.batch) is (foreign_failed c.in-Err-Foreign.batch) told })
