use Rattle.std.proofs.Common.{◌+◌}
use Rattle.script_text.proofs.read.read_text.Goals as goal

pub returns-clause-within : goal.returns-clause-within
returns-clause-within c n w = c.in_ok-read_first.ensures.within (n + 1)
