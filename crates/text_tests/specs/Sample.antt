-- A counter that was told to add 5: what the report's test prints.
use Rattle.std.specs.Prelude.{false, List, [], ◌∷◌, codes}
use Rattle.yard_model.specs.declared.charter.Config.{Config}
use Rattle.yard_model.specs.declared.charter.Line.{Line}
use Rattle.yard_model.specs.declared.charter.Order.TheVariants as order
use Rattle.yard_model.specs.declared.entry.ShardEntry.{ShardEntry}
use Rattle.yard_model.specs.declared.entry.ShardEntry.TheVariants as entry
use Rattle.yard_model.specs.declared.event.Command.TheVariants as command
use Rattle.yard_model.specs.declared.event.Event.TheVariants as event
use Rattle.yard_model.specs.declared.event.Kind.TheVariants as kind
use Rattle.yard_model.specs.declared.event.Reply.TheVariants as reply
use Rattle.yard_model.specs.declared.packet.Record.{Record}
use Rattle.yard_model.specs.Script.{Script}

abbrev pub sample_config : Config
sample_config = record { nodes = 3; shards = 1; producers = 2; buffer = 100; window = 50; snapshot = 100; keep = 2; remember = false; kind = kind.Counter }

-- the order that it is told by
abbrev pub sample_orders : List Line
sample_orders = record { number = 2; order = order.Send 1 (codes "c1") (command.Add 5) } ∷ []

abbrev pub sample_script : Script
sample_script = record { config = sample_config; orders = sample_orders }

-- its record
abbrev pub sample_record : Record
sample_record = record { number = 1; epoch = 1; producer = 1; place = 1; command = command.Add 5; events = event.Added 5 ∷ []; reply = reply.Value 5 }

-- the list of its shard
abbrev pub sample_list : List ShardEntry
sample_list = entry.Wrote (codes "c1") sample_record ∷ []
