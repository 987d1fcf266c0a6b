use Rattle.std.proofs.Common.{◌≡◌, ◌++◌, [], ap, ◌∙◌}
use Rattle.yard_model.specs.Script.{Script, setting}
use Rattle.yard_model.specs.Text.{report}
use Rattle.shard_store.specs.Stores.{lists_at}
use Rattle.resume_run.proofs.ResumeLaws.{lawful_folds}
use Rattle.apply_run.proofs.apply.report_of.Goals as goal

pub push_report-requires : goal.push_report-requires
push_report-requires c =
    lawful_folds c.args.charter.now c.args.stores.now c.requires.script (record { commands = c.command_law.ensures; decisions = c.decision_law.ensures; applies = c.decided_law.ensures }) c.config.ensures.script c.requires.lawful

pub returns : goal.returns
returns c =
    c.in_ok-push_report.ensures ∙ (ap (λ t. t ++ report (setting c.args.charter.now) (lists_at c.args.stores.now.script.config c.args.stores.now.places)) c.new-text.ensures.items
    ∙ ap (λ (d : Script). report (setting c.args.charter.now) (lists_at d.config c.args.stores.now.places)) c.requires.script)
