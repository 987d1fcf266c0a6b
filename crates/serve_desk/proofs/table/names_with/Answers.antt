use Rattle.std.proofs.Common.{sym, ap}
use Rattle.std.specs.Prelude.{is_some}
use Rattle.serve_desk.proofs.RowLaws.{names_found, names_absent}
use Rattle.serve_desk.proofs.table.names_with.Goals as goal

pub returns-in-Some : goal.returns-in-Some
returns-in-Some c = names_found c.args.table.now c.args.entity.now c.len.result c.len.ensures.ordered c.len.ensures.len (ap is_some (sym c.in-Some.ensures.value))

pub returns-in-None : goal.returns-in-None
returns-in-None c = names_absent c.args.table.now c.args.entity.now c.len-in-None.result c.len-in-None.ensures.len (ap is_some (sym c.in-None.ensures.value))
