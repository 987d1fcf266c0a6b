use Rattle.yard_laws.proofs.WordsLaws.{played_folds, line_folds, order_folds}
use Rattle.yard_laws.proofs.trace.words_are_folds.Goals as goal

pub returns-clause-played : goal.returns-clause-played
returns-clause-played c = played_folds

pub returns-clause-line : goal.returns-clause-line
returns-clause-line c = line_folds

pub returns-clause-order : goal.returns-clause-order
returns-clause-order c = order_folds
