use Rattle.std.proofs.Common.{◌∙◌, ◌<◌, ◌≤◌, arith, subst}
use Rattle.std.specs.Prelude.{ℕ, Option, Err}
use Rattle.yard_io.proofs.ToldLemmas.{front_whole}
use Rattle.program_words.specs.declared.forms.ScriptFrom.{ScriptFrom}
use Rattle.run_parts.specs.Writing.{Sunk}
use Rattle.yard_top.specs.Ends.{HasScript}
use Rattle.yard_top.specs.Texts.{Gives, RanOut}
use Rattle.yard_top.proofs.TextLaws.{flushed_stays, wrote_front}
use Rattle.yard_top.proofs.WrittenLaws.{answered}
use Rattle.yard_top.proofs.top.run.Goals as goal

pub returns-in-Ok-flush-clause-complete : goal.returns-in-Ok-flush-clause-complete
returns-in-Ok-flush-clause-complete g c none =
    answered c.args.form _ c.in-Ok.charter (g.S.Source.left c.args.source.now) (g.S.Source.left c.charter_of.new.source) c.end_of.result _
    (subst (λ (x : ScriptFrom). HasScript x (g.S.Source.left c.args.source.now) (g.S.Source.left c.charter_of.new.source) c.in-Ok.charter) c.script_from.ensures c.in-Ok.ensures.script)
    c.in-Ok-write_form.ensures.stop c.end_of.ensures

pub returns-in-Err-flush-clause-ends : goal.returns-in-Err-flush-clause-ends
returns-in-Err-flush-clause-ends g c =
    let written : g.K.Sink.faults c.args.sink.now ≤ g.K.Sink.faults c.write_form.new.sink = c.in-Ok-write_form.ensures.wrote.took.faults_are in
    let failed : g.K.Sink.faults c.write_form.new.sink < g.K.Sink.faults c.flush.new.self = c.in-Err-flush.ensures.cause in (
      omega (arith, written, failed),
      record {
        script = c.in-Ok.charter;
        came = subst (λ (x : ScriptFrom). HasScript x (g.S.Source.left c.args.source.now) (g.S.Source.left c.charter_of.new.source) c.in-Ok.charter) c.script_from.ensures c.in-Ok.ensures.script;
        text = c.in-Ok-write_form.ensures.wrote.text;
        is_text = c.in-Ok-write_form.ensures.wrote.is_text;
        begun = front_whole _ _ _ (c.in-Err-flush.ensures.kept ∙ c.in-Ok-write_form.ensures.wrote.took.taken_is);
      },
    )

pub returns-in-Err-OutOfMemory-clause-ends : goal.returns-in-Err-OutOfMemory-clause-ends
returns-in-Err-OutOfMemory-clause-ends g c =
    let old : Sunk = record { taken = g.K.Sink.taken c.args.sink.now; flushed = g.K.Sink.flushed c.args.sink.now; faults = g.K.Sink.faults c.args.sink.now } in
    let new : Sunk = record { taken = g.K.Sink.taken c.write_form.new.sink; flushed = g.K.Sink.flushed c.write_form.new.sink; faults = g.K.Sink.faults c.write_form.new.sink } in
    let ran : RanOut c.args.form c.in-Ok.charter old new = subst (λ e. Gives {A = Option ℕ} c.args.form c.in-Ok.charter (Err e) old new) c.in-Err-OutOfMemory.field-0-is c.in-Err-OutOfMemory.ensures.wrote in (
      wrote_front c.args.form c.in-Ok.charter (g.S.Source.left c.args.source.now) (g.S.Source.left c.charter_of.new.source) old new
          (subst (λ (x : ScriptFrom). HasScript x (g.S.Source.left c.args.source.now) (g.S.Source.left c.charter_of.new.source) c.in-Ok.charter) c.script_from.ensures c.in-Ok.ensures.script) ran,
      flushed_stays c.args.form c.in-Ok.charter old new ran,
    )
