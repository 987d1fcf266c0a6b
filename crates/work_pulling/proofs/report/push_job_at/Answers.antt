use Rattle.std.proofs.Common.{◌≡◌, ◌++◌, ◌∙◌, ap, sym}
use Rattle.std.specs.Prelude.{Some}
use Rattle.std.specs.List.{slice_get}
use Rattle.std.specs.Option.{option_map}
use Rattle.plain_laws.proofs.Lists.{some_is}
use Rattle.yard_model.specs.declared.charter.Sending.{Sending}
use Rattle.pull_laws.specs.Pulled.{jobs}
use Rattle.pull_laws.specs.PullText.{job_line}
use Rattle.job_text.specs.JobText.{job_line as line_of}
use Rattle.pull_cluster.specs.Cluster.{name_at}
use Rattle.work_pulling.proofs.ReportLaws.{line_is}
use Rattle.work_pulling.proofs.TellLaws.{on_ok}
use Rattle.work_pulling.proofs.report.push_job_at.Goals as goal

pub returns : goal.returns
returns c =
    let t = c.args.cluster.now.pulling.told in
    on_ok c.push_job.result (c.push_job.new.text.items ≡ c.args.text.now.items ++ line_of c.name-name.result c.command-command.result c.state.result c.dids.result)
    ((j : Sending) → slice_get (jobs t) c.args.job ≡ Some j → c.push_job.new.text.items ≡ c.args.text.now.items ++ job_line t j)
    (λ e j g. e ∙ ap (λ l. c.args.text.now.items ++ l) (line_is t j c.name-name.result (name_at c.args.cluster.now.script c.args.job) c.command-command.result c.state.result c.dids.result
    (some_is c.name-name.result j.entity (sym c.name-name.ensures.job ∙ ap (option_map (λ (s : Sending). s.entity)) g)) c.name-name.ensures.value (some_is c.command-command.result j.command (sym c.command-command.ensures ∙ ap (option_map (λ (s : Sending). s.command)) g))
    c.state.ensures.value c.state.ensures.queued c.dids.ensures)) c.push_job.ensures
