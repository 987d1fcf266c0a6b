use Rattle.serve_lines.proofs.requests.read_words.Goals as goal

pub returns-then-is-clause-valid : goal.returns-then-is-clause-valid
returns-then-is-clause-valid c = c.read_config.ensures.valid c.args.settings
