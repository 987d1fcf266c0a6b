use Rattle.std.proofs.Common.{◌∙◌, ◌++◌, ap}
use Rattle.replay_run.proofs.json.push_end.Goals as goal

pub returns : goal.returns
returns g c = c.in_ok-push_json.ensures ∙ ap (λ l. c.args.text.now.items ++ l) c.in_ok-last.ensures.json
