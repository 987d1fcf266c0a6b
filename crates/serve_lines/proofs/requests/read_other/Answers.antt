use Rattle.std.proofs.Common.{◌∷◌, ◌∙◌}
use Rattle.script_text.specs.Words.{words}
use Rattle.serve_lines.proofs.AskingLaws.{known_asked}
use Rattle.serve_lines.proofs.requests.read_other.Goals as goal

pub returns-in-Some-clause-asked : goal.returns-in-Some-clause-asked
returns-in-Some-clause-asked c so e = known_asked so c.in-Some.config (c.args.word.now ∷ words c.args.rest.now) c.read_known.result (e ∙ c.in-Some.is) c.read_known.ensures.value
