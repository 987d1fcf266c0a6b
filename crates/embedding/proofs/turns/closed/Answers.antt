use Rattle.std.proofs.Common.{sym, subst}
use Rattle.yard_model.specs.Script.{Script}
use Rattle.lease_table.specs.Leasing.{Closes, Closed}
use Rattle.embedding.proofs.HoldLaws.{all_free}
use Rattle.embedding.proofs.turns.closed.Goals as goal

pub close-requires-clause-all : goal.close-requires-clause-all
close-requires-clause-all c = subst (λ (s : Script). Closes s c.args.pass.view) (sym c.requires.script) c.requires.closes

pub returns : goal.returns
returns c = all_free c.args.pass.view c.close.result.places (subst (λ (s : Script). Closed s c.args.pass.view c.close.result.places) c.requires.script c.close.ensures.closed)
