use Rattle.serve_laws.proofs.SeriesLaws as laws
use Rattle.serve_laws.proofs.series.runs_are_one.Goals as goal

pub returns : goal.returns
returns c = laws.runs_are_one (record { hear = c.alike_hear_alike.ensures; serve = c.alike_serve_alike.ensures; restart = c.restart_is_same.ensures; found = c.found_is_desk.ensures; grouped = c.grouped_is_desk.ensures })
