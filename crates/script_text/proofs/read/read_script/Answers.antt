use Rattle.std.proofs.Common.{◌≡◌, ◌+◌, subst, sym, ◌∙◌, arith, IfOk, IfErr}
use Rattle.script_text.specs.Reading.{Spelled, TellsFault, reading, ended}
use Rattle.script_text.proofs.FitLaws.{within_more}
use Rattle.script_text.proofs.Steps.{reading_long, reading_short, lines_more, lines_stop, lines_end}
use Rattle.script_text.proofs.read.read_script.Goals as goal

pub returns-then-bytes-gt-MOST_BYTES-clause-at : goal.returns-then-bytes-gt-MOST_BYTES-clause-at
returns-then-bytes-gt-MOST_BYTES-clause-at c = reading_long c.args.mode c.args.bytes.now (omega arith)

pub loop-cut-preserved : goal.loop-cut-preserved
loop-cut-preserved c = record {
  read = sym (lines_more c.args.mode c.loop-cut.draft c.read_line.new.draft (c.loop-cut.number + 1) c.in-Some.cut.line.now c.loop-cut.rest.now c.in-Some.cut.more.now c.in-Some.ensures.lines c.in-Ok.ensures.value) ∙ c.loop-cut.invariant.read;
  within = c.in-Ok.ensures.within c.loop-cut.number c.loop-cut.invariant.within;
  early = omega (arith, c.in-Ok.ensures.early);
}

pub returns-in-Err-clause-at : goal.returns-in-Err-clause-at
returns-in-Err-clause-at c =
    subst (λ e. TellsFault e (reading c.args.mode c.args.bytes.now)) (sym c.stopped_at.ensures)
    (lines_stop c.args.mode c.loop-cut.draft (c.loop-cut.number + 1) c.in-Some.cut.line.now c.loop-cut.rest.now c.in-Some.cut.more.now (reading c.args.mode c.args.bytes.now) c.in-Err.stop c.in-Some.ensures.lines c.in-Err.ensures.value
    (reading_short c.args.mode c.args.bytes.now (omega arith) ∙ sym c.loop-cut.invariant.read))

pub returns-clause-ok : goal.returns-clause-ok
returns-clause-ok c =
    let whole : reading c.args.mode c.args.bytes.now ≡ ended c.loop-cut.draft = reading_short c.args.mode c.args.bytes.now (omega arith) ∙ (sym c.loop-cut.invariant.read ∙ lines_end c.args.mode c.loop-cut.draft (c.loop-cut.number + 1) c.loop-cut.rest.now c.in_default.ensures.lines) in
    subst (λ r. IfOk c.finish.result (λ x. r ≡ Spelled x)) (sym whole) c.finish.ensures.ok

pub returns-clause-at : goal.returns-clause-at
returns-clause-at c =
    let whole : reading c.args.mode c.args.bytes.now ≡ ended c.loop-cut.draft = reading_short c.args.mode c.args.bytes.now (omega arith) ∙ (sym c.loop-cut.invariant.read ∙ lines_end c.args.mode c.loop-cut.draft (c.loop-cut.number + 1) c.loop-cut.rest.now c.in_default.ensures.lines) in
    subst (λ r. IfErr c.finish.result (λ e. TellsFault e r)) (sym whole) c.finish.ensures.at

pub finish-requires : goal.finish-requires
finish-requires c = within_more c.args.mode c.loop-cut.number 20000 c.loop-cut.draft c.loop-cut.invariant.early c.loop-cut.invariant.within
