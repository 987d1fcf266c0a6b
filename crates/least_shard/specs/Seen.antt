-- What stands for a share in the course of a round.
use Rattle.std.specs.Prelude.{List, map}
use Rattle.yard_model.specs.Coordinator.{Share}
use Rattle.least_shard.specs.Spread.{members}
use Rattle.least_shard.specs.declared.tally.Tally.{Tally}

-- the share that it stands for
abbrev pub seen : Tally → Share
seen t = record { region = t.region; rest = members t.rest; count = t.count }

abbrev pub seen_all : List Tally → List Share
seen_all ts = map seen ts
