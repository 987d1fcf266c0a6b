use Rattle.std.proofs.Common.{◌≡◌, ◌∙◌, ap}
use Rattle.std.proofs.lemmas.Result.{err_from_is_err_and}
use Rattle.yard_model.specs.Script.{setting}
use Rattle.yard_model.specs.Text.{report}
use Rattle.apply_run.proofs.ApplyLaws.{report_behind}
use Rattle.apply_run.proofs.apply.text_behind.Goals as goal

pub returns-in_err-stores-clause-foreign : goal.returns-in_err-stores-clause-foreign
returns-in_err-stores-clause-foreign c k is =
    let p = err_from_is_err_and c.from_residual.result c.from_residual.ensures.1 in
    let one = p.1 in
    let two = p.2 in
    c.in_err-stores.ensures.foreign k (cc)

pub returns-clause-text : goal.returns-clause-text
returns-clause-text c =
    c.in_ok-text.ensures ∙ (ap (report (setting c.args.charter.now)) c.in_ok-stores.ensures.lists ∙ report_behind c.applied_lists.ensures c.args.charter.now c.args.batches.now c.config.ensures.script c.in_ok-stores.ensures.taken)
