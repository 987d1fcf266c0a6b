use Rattle.std.proofs.Common.{◌<◌, ◌∙◌, List, ℕ, [], length, subst, sym, arith}
use Rattle.std.specs.Prelude.{IsTrue}
use Rattle.std.proofs.lemmas.List.{get_or_default}
use Rattle.yard_model.specs.Lawful.{is_of_shard}
use Rattle.yard_model.specs.Script.{setting}
use Rattle.yard_model.specs.SlotReads.{journal}
use Rattle.yard_model.specs.Text.{entity_lines}
use Rattle.trace_text.specs.Foldable.{is_foldable}
use Rattle.live_run.proofs.PuttingLaws.{lines_all, puts_err}
use Rattle.live_run.proofs.ReportLaws.{each_began, each_next}
use Rattle.live_run.proofs.reporting.write_each_entity.Goals as goal

pub write_kept_entity-requires-clause-own : goal.write_kept_entity-requires-clause-own
write_kept_entity-requires-clause-own g c =
    let h : c.loop-i.i < length c.args.names.now = omega arith in
    subst (λ (n : List ℕ). IsTrue (is_of_shard c.args.charter.now c.args.s n)) (sym (c.index-names-i.is ∙ get_or_default c.args.names.now c.loop-i.i c.index-names-i.result [] h)) (c.requires.own c.loop-i.i h)

pub write_kept_entity-requires-clause-foldable : goal.write_kept_entity-requires-clause-foldable
write_kept_entity-requires-clause-foldable g c =
    let h : c.loop-i.i < length c.args.names.now = omega arith in
    subst (λ (n : List ℕ). IsTrue (is_foldable c.args.charter.now.config.kind c.args.store.now.entries n)) (sym (c.index-names-i.is ∙ get_or_default c.args.names.now c.loop-i.i c.index-names-i.result [] h)) (c.requires.foldable c.loop-i.i h)

pub loop-i-preserved : goal.loop-i-preserved
loop-i-preserved g c = record {
  took = each_next (λ e. entity_lines (setting c.args.charter.now) e (journal e c.args.store.now.entries)) c.args.names.now c.loop-i.i c.index-names-i.result _ _ _ (omega arith) c.index-names-i.is c.loop-i.invariant.took c.in_ok-write_kept_entity.ensures;
  within = omega arith;
}

pub returns : goal.returns
returns g c = lines_all (λ e. entity_lines (setting c.args.charter.now) e (journal e c.args.store.now.entries)) c.args.names.now c.loop-i.i _ _ (omega arith) c.loop-i.invariant.took

pub returns-in_err-write_kept_entity : goal.returns-in_err-write_kept_entity
returns-in_err-write_kept_entity g c =
    puts_err c.from_residual.result _ _ _ c.from_residual.ensures.0
    (each_began (λ e. entity_lines (setting c.args.charter.now) e (journal e c.args.store.now.entries)) c.args.names.now c.loop-i.i c.index-names-i.result _ _ _ (omega arith) c.index-names-i.is c.loop-i.invariant.took c.in_err-write_kept_entity.ensures)
