use Rattle.disk_log.proofs.WholeLaws.{short_head, whole_log}
use Rattle.disk_log.proofs.laws.one_head.Goals as goal

pub returns-clause-damaged : goal.returns-clause-damaged
returns-clause-damaged c = whole_log

pub returns-clause-long_head : goal.returns-clause-long_head
returns-clause-long_head c = short_head
