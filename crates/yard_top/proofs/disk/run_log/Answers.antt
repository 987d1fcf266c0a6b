use Rattle.std.proofs.Common.{◌≡◌, ◌∙◌, ◌<◌, ◌≤◌, ap, arith, inr, refl, subst, sym}
use Rattle.std.specs.Prelude.{ℕ, Option, Err}
use Rattle.yard_io.proofs.ToldLemmas.{front_whole}
use Rattle.yard_model.specs.Replay.{replay_text}
use Rattle.program_words.specs.declared.forms.Form.TheVariants as form
use Rattle.logged_lines.specs.Logged.{LogEnds}
use Rattle.logged_lines.specs.Told.{WritesLog}
use Rattle.run_parts.specs.Writing.{Sunk}
use Rattle.yard_top.specs.Disks.{platter}
use Rattle.yard_top.specs.Ends.{streams}
use Rattle.yard_top.proofs.DiskLaws.{all_logged, all_there, all_without_memory, if_no_script, log_ended, script_ended}
use Rattle.yard_top.proofs.WrittenLaws.{written}
use Rattle.yard_top.proofs.disk.run_log.Goals as goal

pub returns-in-Ok-flush-clause-ends : goal.returns-in-Ok-flush-clause-ends
returns-in-Ok-flush-clause-ends g c =
    written form.Log c.in-Ok.charter c.in-Ok-write_log.stop (replay_text c.in-Ok.charter)
    (streams (g.S.Source.left c.args.source.now) (g.S.Source.faults c.args.source.now) (g.K.Sink.taken c.args.sink.now) (g.K.Sink.flushed c.args.sink.now) (g.K.Sink.faults c.args.sink.now))
    (streams (g.S.Source.left c.read_charter.new.source) (g.S.Source.faults c.read_charter.new.source) (g.K.Sink.taken c.flush.new.self) (g.K.Sink.flushed c.flush.new.self) (g.K.Sink.faults c.flush.new.self))
    c.end_of.result c.in-Ok.ensures.script c.in-Ok-write_log.ensures.stop refl (c.in-Ok-flush.ensures.kept ∙ c.in-Ok-write_log.ensures.wrote.taken_is) c.in-Ok-flush.ensures.flushed (c.log_holds.ensures.safely, c.log_holds.ensures.safe, c.log_holds.ensures.settles) c.end_of.ensures

pub returns-in-Err-flush-clause-ends : goal.returns-in-Err-flush-clause-ends
returns-in-Err-flush-clause-ends g c =
    let wrote : g.K.Sink.faults c.args.sink.now ≤ g.K.Sink.faults c.write_log.new.sink = c.in-Ok-write_log.ensures.wrote.faults_are in
    let failed : g.K.Sink.faults c.write_log.new.sink < g.K.Sink.faults c.flush.new.self = c.in-Err-flush.ensures.cause in (
      omega (arith, wrote, failed),
      record {
        script = c.in-Ok.charter;
        came = c.in-Ok.ensures.script;
        text = replay_text c.in-Ok.charter;
        is_text = refl;
        begun = front_whole _ _ _ (c.in-Err-flush.ensures.kept ∙ c.in-Ok-write_log.ensures.wrote.taken_is);
      },
    )

pub returns-in-Ok-flush-clause-on_disk : goal.returns-in-Ok-flush-clause-on_disk
returns-in-Ok-flush-clause-on_disk g c = record {
  any_moment = λ told only. inr (c.in-Ok.charter, c.in-Ok.ensures.script, c.write_log.ensures.any_moment told only);
  at_exit = λ told fresh. inr (
    c.in-Ok.charter,
    c.in-Ok.ensures.script,
    subst (λ t. LogEnds c.in-Ok.charter (g.K.Sink.taken c.args.sink.now) t (g.D.Disk.images c.write_log.new.disk)) (sym c.in-Ok-flush.ensures.kept) (c.write_log.ensures.at_exit told fresh),
  );
  ends = log_ended g.D.Disk.tells
      (streams (g.S.Source.left c.args.source.now) (g.S.Source.faults c.args.source.now) (g.K.Sink.taken c.args.sink.now) (g.K.Sink.flushed c.args.sink.now) (g.K.Sink.faults c.args.sink.now))
      (streams (g.S.Source.left c.read_charter.new.source) (g.S.Source.faults c.read_charter.new.source) (g.K.Sink.taken c.flush.new.self) (g.K.Sink.flushed c.flush.new.self) (g.K.Sink.faults c.flush.new.self))
      (platter (g.D.Disk.content c.args.disk.now) (g.D.Disk.images c.args.disk.now) (g.D.Disk.faults c.args.disk.now))
      (platter (g.D.Disk.content c.write_log.new.disk) (g.D.Disk.images c.write_log.new.disk) (g.D.Disk.faults c.write_log.new.disk)) c.in-Ok-write_log.stop c.end_of.result c.end_of.ensures;
  never_falls = c.write_log.ensures.disk_faults;
  complete = λ none same told.
      all_logged (g.S.Source.left c.args.source.now) _ c.in-Ok.charter (g.D.Disk.content c.args.disk.now) c.end_of.result c.in-Ok-write_log.stop c.in-Ok.ensures.script
      (c.in-Ok-write_log.ensures.not_there told) c.in-Ok-write_log.ensures.stop c.end_of.ensures;
}

pub returns-in-Err-There-clause-on_disk : goal.returns-in-Err-There-clause-on_disk
returns-in-Err-There-clause-on_disk g c =
    let old : Sunk = record { taken = g.K.Sink.taken c.args.sink.now; flushed = g.K.Sink.flushed c.args.sink.now; faults = g.K.Sink.faults c.args.sink.now } in
    let new : Sunk = record { taken = g.K.Sink.taken c.write_log.new.sink; flushed = g.K.Sink.flushed c.write_log.new.sink; faults = g.K.Sink.faults c.write_log.new.sink } in
    let is = c.in-Err-There.is ∙ ap Err c.in-Err-There.field-0-is in
    let same : old ≡ new = subst (λ e. WritesLog {A = Option ℕ} (replay_text c.in-Ok.charter) (Err e) old new) c.in-Err-There.field-0-is c.in-Err-There.ensures.wrote in record {
      any_moment = λ told only. inr (c.in-Ok.charter, c.in-Ok.ensures.script, c.write_log.ensures.any_moment told only);
      at_exit = λ told fresh. inr (c.in-Ok.charter, c.in-Ok.ensures.script, c.write_log.ensures.at_exit told fresh);
      ends = (
        λ told. c.write_log.ensures.there is told,
        ap (λ (s : Sunk). record { bytes = s.taken; flushed = s.flushed }) (sym same),
        record { content_stays = (c.write_log.ensures.untouched is).bytes; images_stay = (c.write_log.ensures.untouched is).now },
      );
      never_falls = c.write_log.ensures.disk_faults;
      complete = λ none level told. all_there (g.S.Source.left c.args.source.now) (g.D.Disk.content c.args.disk.now) (c.write_log.ensures.there is told);
    }

pub returns-in-Err-OutOfMemory-clause-on_disk : goal.returns-in-Err-OutOfMemory-clause-on_disk
returns-in-Err-OutOfMemory-clause-on_disk g c = record {
  any_moment = λ told only. inr (c.in-Ok.charter, c.in-Ok.ensures.script, c.write_log.ensures.any_moment told only);
  at_exit = λ told fresh. inr (c.in-Ok.charter, c.in-Ok.ensures.script, c.write_log.ensures.at_exit told fresh);
  ends = tt;
  never_falls = c.write_log.ensures.disk_faults;
  complete = λ none same told. all_without_memory (g.S.Source.left c.args.source.now) (g.D.Disk.content c.args.disk.now);
}

pub returns-in-Ok-flush-clause-untouched : goal.returns-in-Ok-flush-clause-untouched
returns-in-Ok-flush-clause-untouched g c = script_ended _ c.in-Ok-write_log.stop c.end_of.result c.end_of.ensures

pub returns-in-Err-clause-untouched : goal.returns-in-Err-clause-untouched
returns-in-Err-clause-untouched g c = if_no_script c.in-Err.status refl
