use Rattle.std.proofs.Common.{◌∙◌, sym}
use Rattle.daemon_process.proofs.MovedLaws.{none_moved}
use Rattle.daemon_process.proofs.lines.rows_since.Goals as goal

pub returns-then-is_still : goal.returns-then-is_still
returns-then-is_still c = c.new.ensures.items ∙ sym (none_moved c.args.watch.now (c.is_still.ensures c.if-is_still.true))
