use Rattle.serve_laws.proofs.SeriesLaws as laws
use Rattle.serve_laws.proofs.series.series_is_exact.Goals as goal

pub returns : goal.returns
returns c = laws.series_is_exact (record { hear = c.alike_hear_alike.ensures; serve = c.alike_serve_alike.ensures; restart = c.restart_is_same.ensures; found = c.found_is_desk.ensures; grouped = c.grouped_is_desk.ensures }) c.served_series.ensures
