use Rattle.std.proofs.Common.{◌<◌, ◌≡◌, length, ap, arith}
use Rattle.yard_model.specs.Script.{names_in}
use Rattle.run_parts.specs.declared.writing.WriteError.TheVariants as write_error
use Rattle.run_parts.proofs.WritingLaws.{front_same, took_same}
use Rattle.trace_text.specs.Places.{tally_of}
use Rattle.trace_text.specs.Rows.{tally_text}
use Rattle.live_run.proofs.PuttingLaws.{lines_all, puts_err}
use Rattle.live_run.proofs.ReportLaws.{each_began, each_next, pair_is}
use Rattle.live_run.proofs.reporting.write_each_pair.Goals as goal

pub queued_at-requires : goal.queued_at-requires
queued_at-requires g c = let same : length c.args.names.now ≡ length (names_in c.args.store.now.script.orders) = ap length c.requires in omega (arith, same)

pub confirmed_at-requires : goal.confirmed_at-requires
confirmed_at-requires g c = let same : length c.args.names.now ≡ length (names_in c.args.store.now.script.orders) = ap length c.requires in omega (arith, same)

pub loop-i-preserved : goal.loop-i-preserved
loop-i-preserved g c =
    let h : c.loop-i.i < length c.args.names.now = omega arith in
    record {
      took = each_next (λ e. tally_text c.args.p e (tally_of c.args.store.now.entries e)) c.args.names.now c.loop-i.i c.index-names-i.result _ _ _ h c.index-names-i.is c.loop-i.invariant.took
          (took_same _ _ _ _ (pair_is c.args.store.now.script c.args.p c.args.store.now.entries c.args.names.now c.loop-i.i c.index-names-i.result c.queued_at.result c.confirmed_at.result c.requires h c.index-names-i.is c.queued_at.ensures c.confirmed_at.ensures) c.in_ok-write_pair.ensures);
      within = omega arith;
    }

pub returns : goal.returns
returns g c = lines_all (λ e. tally_text c.args.p e (tally_of c.args.store.now.entries e)) c.args.names.now c.loop-i.i _ _ (omega arith) c.loop-i.invariant.took

pub returns-in_err-write_pair : goal.returns-in_err-write_pair
returns-in_err-write_pair g c =
    let h : c.loop-i.i < length c.args.names.now = omega arith in
    puts_err c.from_residual.result _ _ _ c.from_residual.ensures.0
    (each_began (λ e. tally_text c.args.p e (tally_of c.args.store.now.entries e)) c.args.names.now c.loop-i.i c.index-names-i.result _ _ _ h c.index-names-i.is c.loop-i.invariant.took
    (front_same _ _ write_error.Failed _ _ (pair_is c.args.store.now.script c.args.p c.args.store.now.entries c.args.names.now c.loop-i.i c.index-names-i.result c.queued_at.result c.confirmed_at.result c.requires h c.index-names-i.is c.queued_at.ensures c.confirmed_at.ensures) c.in_err-write_pair.ensures))
