use Rattle.std.proofs.Common.{◌++◌, ap, ◌∙◌}
use Rattle.std.proofs.lemmas.Result.{on_ok_weaker}
use Rattle.yard_model.specs.Script.{Script, setting}
use Rattle.yard_model.specs.Text.{report}
use Rattle.shard_store.specs.Stores.{lists_at}
use Rattle.serve_answers.proofs.ShownLaws.{appended, lawful_folds}
use Rattle.serve_answers.proofs.answers.push_whole.Goals as goal

pub push_report-requires : goal.push_report-requires
push_report-requires c =
    lawful_folds c.args.charter.now c.args.stores.now c.requires.script (record { commands = c.command_law.ensures; decisions = c.decision_law.ensures; applies = c.decided_law.ensures }) c.config.ensures.script c.requires.lawful

pub returns : goal.returns
returns c = on_ok_weaker c.push_report.result
    (λ pushed. pushed ∙ ap (λ (d : Script). c.args.text.now.items ++ report (setting c.args.charter.now) (lists_at d.config c.args.stores.now.places)) c.requires.script)
    (appended c.push_report.result c.args.text.now.items c.push_report.new.text.items (report (setting c.args.charter.now) (lists_at c.args.stores.now.script.config c.args.stores.now.places)) c.push_report.ensures)
