use Rattle.std.proofs.Common.{◌≡◌, ap, sym, ◌∙◌, subst}
use Rattle.std.specs.Prelude.{true, ◌++◌}
use Rattle.yard_model.specs.Script.{setting}
use Rattle.yard_model.specs.SlotLists.{SlotLists}
use Rattle.yard_model.specs.Text.{report}
use Rattle.trace_text.specs.Foldable.{is_foldable_in_all}
use Rattle.solo_run.specs.Facts.{facts_of, lists_of}
use Rattle.solo_run.proofs.SoloLaws.{solo_foldable}
use Rattle.solo_run.proofs.solo.solo_report.Goals as goal

pub push_report-requires : goal.push_report-requires
push_report-requires c =
    subst (λ (l : SlotLists). is_foldable_in_all (setting c.args.charter.now) l ≡ true) (sym c.new-played.ensures)
    (solo_foldable c.args.charter.now (c.journals_are_sound.ensures c.args.charter.now c.config.ensures.script))

pub returns-clause-text : goal.returns-clause-text
returns-clause-text c =
    let lists : SlotLists = lists_of c.new-played.result.charter.now.config (facts_of c.new-played.result.lists.items) in
    c.in_ok-push_report.ensures ∙ (ap (λ l. l ++ report (setting c.args.charter.now) lists) c.in_ok-text.ensures ∙ ap (report (setting c.args.charter.now)) c.new-played.ensures)
