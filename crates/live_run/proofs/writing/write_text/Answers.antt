use Rattle.std.proofs.Common.{◌∙◌, List, ap, subst, sym}
use Rattle.std.specs.Prelude.{IsTrue, Option}
use Rattle.yard_model.specs.Script.{Script, setting}
use Rattle.yard_model.specs.SlotLists.{SlotLists}
use Rattle.yard_model.specs.Text.{report}
use Rattle.shard_store.specs.declared.store.Store.{Store}
use Rattle.shard_store.specs.Stores.{AreHomes}
use Rattle.run_parts.proofs.WritingLaws.{front_more}
use Rattle.trace_text.specs.Foldable.{is_foldable_in_all}
use Rattle.live_run.proofs.PuttingLaws.{puts_err, puts_on, puts_same}
use Rattle.live_run.proofs.ReportLaws.{same_lists}
use Rattle.live_run.proofs.writing.write_text.Goals as goal

pub write_report-requires-clause-homes : goal.write_report-requires-clause-homes
write_report-requires-clause-homes g c =
    subst (λ (x : Script). AreHomes x c.as_slice.result.now) (c.into_parts-parts.ensures.script ∙ c.requires.script)
    (subst (λ (p : List (Option Store)). AreHomes c.into_parts-parts.result.script.value p) (sym c.as_slice.ensures.value) c.into_parts-parts.ensures.homes)

pub write_report-requires-clause-foldable : goal.write_report-requires-clause-foldable
write_report-requires-clause-foldable g c =
    subst (λ (l : SlotLists). IsTrue (is_foldable_in_all (setting c.args.charter.now) l))
    (sym (same_lists c.args.charter.now c.args.stores.script c.as_slice.result.now c.args.stores.places c.requires.script (c.as_slice.ensures.value ∙ c.into_parts-parts.ensures.places))) c.requires.foldable

pub returns : goal.returns
returns g c =
    puts_on c.write_report.result _ _ _ _ _ c.in_ok-write_lists.ensures
    (puts_same c.write_report.result _ _ _ _
    (ap (report (setting c.args.charter.now)) (same_lists c.args.charter.now c.args.stores.script c.as_slice.result.now c.args.stores.places c.requires.script (c.as_slice.ensures.value ∙ c.into_parts-parts.ensures.places)))
    c.write_report.ensures)

pub returns-in_err-write_lists : goal.returns-in_err-write_lists
returns-in_err-write_lists g c = puts_err c.from_residual.result _ _ _ c.from_residual.ensures.0 (front_more _ _ _ _ _ c.in_err-write_lists.ensures)
