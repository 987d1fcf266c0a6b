use Rattle.std.proofs.Common.{[], length, List, subst, sym}
use Rattle.daemon_process.specs.declared.rows.Row.{Row}
use Rattle.daemon_process.specs.Lines.{IsDrawnOf}
use Rattle.daemon_process.proofs.DrawnLaws.{drawn_none}
use Rattle.daemon_process.proofs.lines.DaemonLines.new.Goals as goal

pub returns : goal.returns
returns c =
    let w = c.in_ok-watch.watch in
    subst (λ (rows : List Row). IsDrawnOf (length w.here) (record { watch = w; rows = rows }) []) (sym c.new-2.ensures.items) (drawn_none w c.in_ok-watch.ensures.of_nothing)
