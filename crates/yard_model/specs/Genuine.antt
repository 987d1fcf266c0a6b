-- What can come from a script: its nodes, shards, producers and names, the messages of its sends, and packets made of these.
use Rattle.std.specs.Prelude.{ℕ, ◌+◌, ◌-◌, Bool, true, false, ◌==◌, ◌&&◌, nat_lt, List}
use Rattle.std.specs.List.{list_any, list_all, slice_get}
use Rattle.std.specs.Option.{option_map_or}
use Rattle.yard_model.specs.declared.packet.Body.{Body}
use Rattle.yard_model.specs.declared.packet.Body.TheVariants as body
use Rattle.yard_model.specs.declared.packet.Message.{Message}
use Rattle.yard_model.specs.declared.packet.Packet.{Packet}
use Rattle.yard_model.specs.declared.event.Command.{Command}
use Rattle.yard_model.specs.declared.incarnation.Incarnation.{Incarnation}
use Rattle.yard_model.specs.declared.incarnation.Slot.{Slot}
use Rattle.yard_model.specs.declared.incarnation.Slot.TheVariants as slot
use Rattle.yard_model.specs.Behaviour.{is_in}
use Rattle.yard_model.specs.Script.{Script, is_name, names_in, plan}
use Rattle.yard_model.specs.Equal.{is_command}

-- it is of one of the script's nodes
abbrev pub is_node : Script → Incarnation → Bool
is_node c x = is_in 1 c.config.nodes x.node

abbrev pub is_shard : Script → ℕ → Bool
is_shard c s = nat_lt s c.config.shards

abbrev pub is_producer : Script → ℕ → Bool
is_producer c p = is_in 1 c.config.producers p

-- the script brings this name
abbrev pub is_brought : Script → List ℕ → Bool
is_brought c e = list_any (is_name e) (names_in c.orders)

abbrev pub is_slot_of : Script → Slot → Bool
is_slot_of c (slot.Shard s) = is_shard c s
is_slot_of c slot.Coordinator = true
is_slot_of c (slot.Queue p) = is_producer c p

-- the command is number n of Plan(p, e)
abbrev pub is_planned : Script → ℕ → List ℕ → ℕ → Command → Bool
is_planned c p e n k = nat_lt 0 n && option_map_or (is_command k) (slice_get (plan c p e) (n - 1)) false

-- a genuine message
abbrev pub is_genuine : Script → Message → Bool
is_genuine c m = is_planned c m.producer m.entity m.number m.command && is_node c m.origin

abbrev pub is_genuine_body : Script → Body → Bool
is_genuine_body c (body.View v xs) = list_all (is_node c) xs
is_genuine_body c (body.GetShardHome s) = is_shard c s
is_genuine_body c (body.ShardHome s h stamp) = is_shard c s && is_node c h
is_genuine_body c (body.HostShard s stamp) = is_shard c s
is_genuine_body c (body.ShardStarted s) = is_shard c s
is_genuine_body c (body.BeginHandOff s stamp) = is_shard c s
is_genuine_body c (body.BeginHandOffAck s stamp) = is_shard c s
is_genuine_body c (body.HandOff s stamp) = is_shard c s
is_genuine_body c (body.ShardStopped s stamp) = is_shard c s
is_genuine_body c (body.StopEntity e) = is_brought c e
is_genuine_body c (body.Recovered e) = is_brought c e
is_genuine_body c (body.Passivate e) = is_brought c e
is_genuine_body c (body.Sequenced m) = is_genuine c m
is_genuine_body c (body.Request p e n u) = is_producer c p && is_brought c e && (u == n + c.config.window)
is_genuine_body c (body.Resend p e n) = is_producer c p && is_brought c e
is_genuine_body c (body.Ack p e n) = is_producer c p && is_brought c e
is_genuine_body c b = true

-- a genuine packet
abbrev pub is_genuine_packet : Script → Packet → Bool
is_genuine_packet c p = is_node c p.from && is_node c p.to && is_genuine_body c p.body
