use Rattle.std.proofs.Common.{sym, ◌∷◌, ◌∙◌}
use Rattle.script_text.specs.Words.{words}
use Rattle.serve_laws.specs.Hearing.{ask}
use Rattle.serve_lines.proofs.AskingLaws.{words_refused}
use Rattle.serve_lines.proofs.requests.read_known.Goals as goal

pub returns-in-Err-clause-value : goal.returns-in-Err-clause-value
returns-in-Err-clause-value c = words_refused (ask c.args.config.now (c.args.word.now ∷ words c.args.rest.now)) c.in-Err.why (sym c.read_ask.ensures.value ∙ c.in-Err.is)
