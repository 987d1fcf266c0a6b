use Rattle.settle_laws.proofs.Lasting as lasting
use Rattle.settle_laws.proofs.worlds.settles_leave_none.Goals as goal

pub returns : goal.returns
returns c = lasting.settles_leave_none c.settle_line_settles.ensures
