-- The region's part of a packet and of a message, and what the node is to do then.
use Rattle.std.specs.Prelude.{Bool, true, ◌&&◌, nat_le, List, [], if◌then◌else◌}
use Rattle.yard_model.specs.declared.incarnation.Incarnation.{Incarnation}
use Rattle.yard_model.specs.declared.packet.Body.{Body}
use Rattle.yard_model.specs.declared.packet.Body.TheVariants as body
use Rattle.yard_model.specs.declared.packet.Message.{Message}
use Rattle.yard_model.specs.Genuine.{is_node, is_shard}
use Rattle.yard_model.specs.Move.{Move}
use Rattle.yard_model.specs.Region.{Region, take_view, registered_by, takes_home, takes_host, learn, begin_hand_off, takes_hand_off, is_home, is_some_home, route_away, post_oldest}
use Rattle.yard_model.specs.Script.{Script}
use Rattle.yard_model.specs.Setting.{shard_of}
use Rattle.yard_model.specs.Words.{is_same}
use Rattle.region_actor.specs.declared.answers.Route.{Route}
use Rattle.region_actor.specs.declared.answers.Route.TheVariants as route
use Rattle.region_actor.specs.declared.answers.Todo.{Todo}
use Rattle.region_actor.specs.declared.answers.Todo.TheVariants as todo

-- what the region does at a packet from this one that says this
abbrev pub handled : Incarnation → Body → Region → List Move
handled from (body.View v xs) st = if nat_le v st.version then [] else take_view v xs st
handled from body.RegisterAck st = registered_by from st
handled from (body.ShardHome s h stamp) st = if takes_home s h stamp st then learn s h stamp st else []
handled from (body.HostShard s stamp) st = if takes_host s stamp st then learn s st.who stamp st else []
handled from (body.BeginHandOff s stamp) st = begin_hand_off s stamp from st
handled from b st = []

-- what the node is to do: start a shard whose home is now this node, at a HostShard or a ShardHome that is taken; stop one that is handed off, at a HandOff that is taken; else nothing
abbrev pub to_do : Incarnation → Body → Region → Todo
to_do from (body.ShardHome s h stamp) st = if takes_home s h stamp st && is_same h st.who then todo.Start s else todo.Nothing
to_do from (body.HostShard s stamp) st = if takes_host s stamp st then todo.Start s else todo.Nothing
to_do from (body.HandOff s stamp) st = if takes_hand_off s stamp st then todo.HandOff s stamp from else todo.Nothing
to_do from b st = todo.Nothing

-- it names a shard and a node of the script, where it names any
abbrev pub is_genuine_todo : Script → Todo → Bool
is_genuine_todo c (todo.Start s) = is_shard c s
is_genuine_todo c (todo.HandOff s stamp x) = is_shard c s && is_node c x
is_genuine_todo c todo.Nothing = true

-- Route of a message: delivered here where its shard's home is this node and the shard is running; else routed away
abbrev pub is_local : Message → Bool → Region → Bool
is_local m running st = is_home st (shard_of st.set m.entity) && running

abbrev pub routed : Message → Bool → Region → List Move
routed m running st = if is_local m running st then [] else route_away m st

abbrev pub route_of : Message → Bool → Region → Route
route_of m running st = if is_local m running st then route.Local m else route.Gone

-- the second part of the tick
abbrev pub ask_to_leave : Region → List Move
ask_to_leave st = if st.leaving && is_some_home st then post_oldest body.GracefulShutdownReq st else []

-- P of the message that is to be delivered here, if it is
abbrev pub IfLocal : Route → (Message → Type 0) → Type 0
IfLocal (route.Local m) P = P m
IfLocal route.Gone P = Unit {0}
