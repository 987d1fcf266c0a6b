use Rattle.std.proofs.Common.{rules}
use Rattle.serve_run.proofs.WindowLaws.{last_past, none_behind_past, none_in_past}
use Rattle.serve_run.proofs.window.last_end.Goals as goal

pub returns-in-Some-clause-some : goal.returns-in-Some-clause-some
returns-in-Some-clause-some c = last_past c.args.bytes.now c.args.plain c.in-Some.place (search rules) (search rules)

pub returns-in-Some-clause-rest : goal.returns-in-Some-clause-rest
returns-in-Some-clause-rest c = none_behind_past c.args.bytes.now c.args.plain c.in-Some.place (search rules)

pub returns-in-None-clause-none : goal.returns-in-None-clause-none
returns-in-None-clause-none c = none_in_past c.args.bytes.now c.args.plain c.requires (search rules)
