use Rattle.std.proofs.Common.{◌∙◌, ap, refl}
use Rattle.yard_top.specs.Disks.{platter}
use Rattle.yard_top.specs.Ends.{streams}
use Rattle.yard_top.proofs.DiskLaws.{if_no_script, resume_ends, script_there}
use Rattle.yard_io.specs.Told.{followed_by}
use Rattle.yard_top.proofs.disk.run_resume.Goals as goal

pub returns-in-Ok-resume_text-clause-on_disk : goal.returns-in-Ok-resume_text-clause-on_disk
returns-in-Ok-resume_text-clause-on_disk g c = resume_ends g.D.Disk.tells
    (streams (g.S.Source.left c.args.source.now) (g.S.Source.faults c.args.source.now) (g.K.Sink.taken c.args.sink.now) (g.K.Sink.flushed c.args.sink.now) (g.K.Sink.faults c.args.sink.now))
    (streams (g.S.Source.left c.read_charter.new.source) (g.S.Source.faults c.read_charter.new.source) (g.K.Sink.taken c.write_text.new.sink) (g.K.Sink.flushed c.write_text.new.sink) (g.K.Sink.faults c.write_text.new.sink))
    (platter (g.D.Disk.content c.args.disk.now) (g.D.Disk.images c.args.disk.now) (g.D.Disk.faults c.args.disk.now))
    (platter (g.D.Disk.content c.resume_text.new.disk) (g.D.Disk.images c.resume_text.new.disk) (g.D.Disk.faults c.resume_text.new.disk))
    c.write_text.result c.write_text.ensures.either
    (λ ok. record {
      script = c.in-Ok.charter;
      came = c.in-Ok.ensures.script;
      text = c.in-Ok-resume_text.text.items;
      is_text = c.in-Ok-resume_text.ensures.resumes;
      written = (c.write_text.ensures.ok ok).0 ∙ ap (followed_by (g.K.Sink.taken c.args.sink.now)) c.as_slice.ensures.value;
    })
    (λ failed. (c.write_text.ensures.failed failed).0)
    c.resume_text.ensures.untouched.bytes c.resume_text.ensures.untouched.now c.resume_text.ensures.never_falls

pub returns-in-Ok-resume_text-clause-untouched : goal.returns-in-Ok-resume_text-clause-untouched
returns-in-Ok-resume_text-clause-untouched g c = script_there _ c.write_text.result c.write_text.ensures.either

pub returns-in-Err-clause-untouched : goal.returns-in-Err-clause-untouched
returns-in-Err-clause-untouched g c = if_no_script c.in-Err.status refl
