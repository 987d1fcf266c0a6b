-- What a script's replay prints.
use Rattle.std.specs.Prelude.{ℕ, ◌++◌}
use Rattle.std.specs.List.{flat_map}
use Rattle.yard_model.specs.Script.{Script}
use Rattle.yard_model.specs.Text.{Bytes, fact_line, report}
use Rattle.yard_model.specs.World.{Made, played, wire_limit}

-- the lines of the facts, and the report of the lists, where so many packets can be posted
abbrev pub replay_within : ℕ → Script → Bytes
replay_within limit c = let m : Made = played c limit in flat_map fact_line m.facts ++ report m.world.set m.world.lists

-- Text(script)
abbrev pub replay_text : Script → Bytes
replay_text c = replay_within wire_limit c
