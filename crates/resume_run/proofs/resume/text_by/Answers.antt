use Rattle.std.proofs.Common.{◌≡◌, subst, sym}
use Rattle.std.specs.Prelude.{true}
use Rattle.yard_model.specs.Lawful.{lawful}
use Rattle.yard_model.specs.Script.{Script}
use Rattle.shard_store.specs.Stores.{lists_at}
use Rattle.resume_run.proofs.ResumeLaws.{gone_on, lawful_folds}
use Rattle.resume_run.proofs.resume.text_by.Goals as goal

pub push_report-requires : goal.push_report-requires
push_report-requires g c =
    lawful_folds c.args.charter.now c.args.stores c.requires.script (record { commands = c.command_law.ensures; decisions = c.decision_law.ensures; applies = c.decided_law.ensures }) c.config.ensures.script c.requires.go_on.lawful_is

pub look_at_lists-requires : goal.look_at_lists-requires
look_at_lists-requires g c =
    subst (λ (d : Script). lawful c.args.charter.now (lists_at d.config c.in_ok-settled.settled.places) ≡ true) (sym c.in_ok-settled.ensures.script) c.in_ok-settled.ensures.settled.lawful_is

pub push_report-requires-2 : goal.push_report-requires-2
push_report-requires-2 g c =
    lawful_folds c.args.charter.now c.in_ok-settled.settled c.in_ok-settled.ensures.script (record { commands = c.command_law.ensures; decisions = c.decision_law.ensures; applies = c.decided_law.ensures }) c.config.ensures.script
    c.in_ok-settled.ensures.settled.lawful_is

pub returns : goal.returns
returns g c =
    gone_on c.args.charter.now c.args.stores c.in_ok-settled.settled c.new-text.result.items c.push_report.new.text.items c.push_lists.new.text.items c.push_report-2.new.text.items c.requires.script
    c.in_ok-settled.ensures.script c.in_ok-settled.ensures.settled c.new-text.ensures.items c.in_ok-push_report.ensures c.in_ok-push_lists.ensures c.in_ok-push_report-2.ensures c.look_at_lists.ensures
