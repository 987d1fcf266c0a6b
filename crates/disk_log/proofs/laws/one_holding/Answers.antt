use Rattle.disk_log.proofs.OnceLaws.{batches_told, holds_once, texts_of}
use Rattle.disk_log.proofs.laws.one_holding.Goals as goal

pub returns-clause-texts : goal.returns-clause-texts
returns-clause-texts c = holds_once

pub returns-clause-batches : goal.returns-clause-batches
returns-clause-batches c = batches_told

pub returns-clause-lines : goal.returns-clause-lines
returns-clause-lines c = texts_of
