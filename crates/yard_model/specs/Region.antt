-- The shard region of a node (Akka 2.6, Cluster Sharding concepts): what the node knows of the members and of the homes of shards, and the messages that it keeps until a home is known. Marks, and asking only once, are own.
use Rattle.std.specs.Prelude.{ℕ, Bool, true, false, ◌&&◌, ◌||◌, nat_lt, not, List, [], ◌∷◌, ◌++◌, length, sum_by, drop, replicate, Option, Some, None, is_none, slice_index_or, slice_set, if◌then◌else◌}
use Rattle.std.specs.List.{list_any, flat_map, slice_get}
use Rattle.yard_model.specs.declared.fact.Fact.TheVariants as fact
use Rattle.yard_model.specs.declared.out.Item.TheVariants as item
use Rattle.yard_model.specs.declared.packet.Body.{Body}
use Rattle.yard_model.specs.declared.packet.Body.TheVariants as body
use Rattle.yard_model.specs.declared.packet.Message.{Message}
use Rattle.yard_model.specs.declared.incarnation.Incarnation.{Incarnation}
use Rattle.yard_model.specs.declared.incarnation.Stamp.{Stamp}
use Rattle.yard_model.specs.Script.{Setting}
use Rattle.yard_model.specs.Setting.{shards, shard_of}
use Rattle.yard_model.specs.Words.{is_same, is_at, is_among, is_below, is_empty, at}
use Rattle.yard_model.specs.Turns.{where_some}
use Rattle.yard_model.specs.Move.{Move, made, viewed, registered_with, leaves, marked, released, told, post}

pub record Region : Type 0 where
  pub who : Incarnation
  pub set : Setting
  pub version : ℕ  -- of the view, 0 at first
  pub view : List Incarnation  -- the members, oldest first; empty at first
  pub registered : Option Incarnation  -- the coordinator that it is registered with
  pub leaving : Bool
  pub homes : List (Option Incarnation)  -- per shard
  pub marks : List Stamp  -- per shard: the greatest stamp that was taken, 0/0 at first
  pub asked : List Bool  -- per shard: its home was asked for
  pub kept : List (List Message)  -- per shard, oldest first

abbrev pub no_stamp : Stamp
no_stamp = record { epoch = 0; round = 0 }

-- of a node that comes up
abbrev pub new_region : Setting → Incarnation → Region
new_region set who = record {
  who = who;
  set = set;
  version = 0;
  view = [];
  registered = None;
  leaving = false;
  homes = replicate set.config.shards None;
  marks = replicate set.config.shards no_stamp;
  asked = replicate set.config.shards false;
  kept = replicate set.config.shards [];
}

-- What is read.

-- the oldest member of the node's own view
abbrev pub oldest : Region → Option Incarnation
oldest st = slice_get st.view 0

abbrev pub home : Region → ℕ → Option Incarnation
home st s = at st.homes s

abbrev pub mark : Region → ℕ → Stamp
mark st s = slice_index_or st.marks s no_stamp

abbrev pub kept_of : List (List Message) → ℕ → List Message
kept_of kept s = slice_index_or kept s []

-- the home of s is this node
abbrev pub is_home : Region → ℕ → Bool
is_home st s = is_at st.who (home st s)

-- the home of s is another node, or is this node where s is Running
abbrev pub is_routable : Region → ℕ → Bool → Bool
is_routable st s running = if is_none (home st s) then false else not (is_home st s) || running

-- What a move changes, word by word.

abbrev pub version_step : ℕ → Move → ℕ
version_step old (made (item.Fact (fact.View x v))) = v
version_step old m = old

abbrev pub view_step : List Incarnation → Move → List Incarnation
view_step old (viewed xs) = xs
view_step old m = old

abbrev pub registered_step : Option Incarnation → Move → Option Incarnation
registered_step old (registered_with x) = Some x
registered_step old m = old

abbrev pub leaving_step : Bool → Move → Bool
leaving_step old leaves = true
leaving_step old m = old

abbrev pub homes_step : List (Option Incarnation) → Move → List (Option Incarnation)
homes_step old (made (item.Fact (fact.Home x s h))) = slice_set old s (Some h)
homes_step old (made (item.Fact (fact.Forget x s))) = slice_set old s None
homes_step old m = old

abbrev pub marks_step : List Stamp → Move → List Stamp
marks_step old (marked s stamp) = slice_set old s stamp
marks_step old m = old

abbrev pub asked_by_post : List Bool → Body → List Bool
asked_by_post old (body.GetShardHome s) = slice_set old s true
asked_by_post old b = old

abbrev pub asked_step : List Bool → Move → List Bool
asked_step old (marked s stamp) = slice_set old s false
asked_step old (made (item.Post p)) = asked_by_post old p.body
asked_step old m = old

abbrev pub kept_step : Setting → List (List Message) → Move → List (List Message)
kept_step set old (made (item.Fact (fact.Kept x m))) = slice_set old (shard_of set m.entity) (kept_of old (shard_of set m.entity) ++ m ∷ [])
kept_step set old (released s) = slice_set old s (drop 1 (kept_of old s))
kept_step set old m = old

abbrev pub region_after : Region → Move → Region
region_after st m = record {
  who = st.who;
  set = st.set;
  version = version_step st.version m;
  view = view_step st.view m;
  registered = registered_step st.registered m;
  leaving = leaving_step st.leaving m;
  homes = homes_step st.homes m;
  marks = marks_step st.marks m;
  asked = asked_step st.asked m;
  kept = kept_step st.set st.kept m;
}

-- Messages.

-- post to the oldest, where the view isn't empty
abbrev pub post_oldest : Body → Region → List Move
post_oldest b st = where_some (λ x. post st.who x b ∷ []) (oldest st)

-- where fewer than `buffer` messages are kept in all, it is kept; else it is dropped
abbrev pub keep : Message → Region → List Move
keep m st = if nat_lt (sum_by length st.kept) st.set.config.buffer then told (fact.Kept st.who m) ∷ [] else told (fact.Dropped st.who m) ∷ []

-- where asked is no: post GetShardHome to the oldest, which sets asked
abbrev pub ask : ℕ → Region → List Move
ask s st = if slice_index_or st.asked s false then [] else post_oldest (body.GetShardHome s) st

abbrev pub route_by : Message → Region → Option Incarnation → List Move
route_by m st None = keep m st ++ ask (shard_of st.set m.entity) st
route_by m st (Some h) = if is_same h st.who then keep m st else post st.who h (body.Sequenced m) ∷ []

-- Route of a message that isn't delivered here: it is sent to its shard's home, where that is another node; else it is kept or dropped, and then, where no home is known, asked for
abbrev pub route_away : Message → Region → List Move
route_away m st = route_by m st (home st (shard_of st.set m.entity))

-- Members.

-- where the region is registered with another than the oldest, or with none: post Register to the oldest
abbrev pub register : Region → List Move
register st = where_some (λ x. if is_at x st.registered then [] else post st.who x body.Register ∷ []) (oldest st)

-- RegisterAck: it is registered with the sender
abbrev pub registered_by : Incarnation → Region → List Move
registered_by from st = registered_with from ∷ []

-- drop the home of s, if one is known
abbrev pub forget : ℕ → Region → List Move
forget s st = if is_none (home st s) then [] else told (fact.Forget st.who s) ∷ []

-- drop the home of s where it isn't among these
abbrev pub forget_lost : List Incarnation → Region → ℕ → List Move
forget_lost xs st s = where_some (λ h. if is_among h xs then [] else forget s st) (home st s)

-- the first part of View: the view is taken; each home that isn't in it is dropped, shards rising
abbrev pub take_view : ℕ → List Incarnation → Region → List Move
take_view v xs st = viewed xs ∷ told (fact.View st.who v) ∷ flat_map (forget_lost xs st) (shards st.set)

-- Leave: leaving is set, and GracefulShutdownReq is posted to the oldest
abbrev pub leave : Region → List Move
leave st = leaves ∷ post_oldest body.GracefulShutdownReq st

-- Homes.

-- ShardHome is taken where its stamp isn't below the mark and the home is in the view
abbrev pub takes_home : ℕ → Incarnation → Stamp → Region → Bool
takes_home s h stamp st = not (is_below stamp (mark st s)) && is_among h st.view

-- HostShard is taken where its stamp isn't below the mark
abbrev pub takes_host : ℕ → Stamp → Region → Bool
takes_host s stamp st = not (is_below stamp (mark st s))

-- the mark is the stamp and asked is no; where the home differs, it is h
abbrev pub learn : ℕ → Incarnation → Stamp → Region → List Move
learn s h stamp st = marked s stamp ∷ (if is_at h (home st s) then [] else told (fact.Home st.who s h) ∷ [])

-- BeginHandOff. Where its stamp is below the mark: nothing. Where it is above: the mark is the stamp, asked is no, and the home, if known, is dropped. In both cases that are left, BeginHandOffAck is posted to the sender
abbrev pub begin_hand_off : ℕ → Stamp → Incarnation → Region → List Move
begin_hand_off s stamp from st =
    if is_below stamp (mark st s) then []
    else (if is_below (mark st s) stamp then marked s stamp ∷ forget s st else []) ++ post st.who from (body.BeginHandOffAck s stamp) ∷ []

-- HandOff is taken where its stamp isn't below the mark and the home isn't this node
abbrev pub takes_hand_off : ℕ → Stamp → Region → Bool
takes_hand_off s stamp st = not (is_below stamp (mark st s)) && not (is_home st s)

-- The tick.

-- some home is this node
abbrev pub is_some_home : Region → Bool
is_some_home st = list_any (is_at st.who) st.homes

-- where messages of s are kept and no home is known: post GetShardHome to the oldest, which sets asked
abbrev pub ask_again : Region → ℕ → List Move
ask_again st s = if is_none (home st s) && not (is_empty (kept_of st.kept s)) then post_oldest (body.GetShardHome s) st else []

-- the region's part of the tick, where the view isn't empty: register; where it leaves and some home is this node, GracefulShutdownReq again; ask again for the home of each shard, rising
abbrev pub tick_region : Region → List Move
tick_region st = register st
    ++ (if st.leaving && is_some_home st then post_oldest body.GracefulShutdownReq st else [])
    ++ flat_map (ask_again st) (shards st.set)
