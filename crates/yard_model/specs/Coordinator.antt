-- The shard coordinator (Akka 2.6, Cluster Sharding concepts: allocation of shards, rebalancing by handoff, graceful shutdown of a region). The list of its slot, the regions that leave, the shards that are started, and the round of handoffs that is open. Stamps, and that a round moves several shards at once, are own.
use Rattle.std.specs.Prelude.{ℕ, zero, suc, ◌+◌, ◌-◌, Bool, true, false, ◌==◌, ◌&&◌, ◌||◌, nat_lt, nat_le, not, List, [], ◌∷◌, ◌++◌, length, map, filter, find, fold, drop, replicate, Option, Some, None, is_none, unwrap_or, slice_index_or, slice_set, if◌then◌else◌}
use Rattle.std.specs.List.{list_any, flat_map}
use Rattle.yard_model.specs.declared.fact.Fact.{Fact}
use Rattle.yard_model.specs.declared.fact.Fact.TheVariants as fact
use Rattle.yard_model.specs.declared.out.Item.TheVariants as item
use Rattle.yard_model.specs.declared.packet.Body.{Body}
use Rattle.yard_model.specs.declared.packet.Body.TheVariants as body
use Rattle.yard_model.specs.declared.incarnation.Incarnation.{Incarnation}
use Rattle.yard_model.specs.declared.incarnation.Stamp.{Stamp}
use Rattle.yard_model.specs.Script.{Setting}
use Rattle.yard_model.specs.Setting.{shards}
use Rattle.yard_model.specs.Words.{is_same, is_at, is_among, is_stamp, is_empty, without}
use Rattle.yard_model.specs.SlotReads.{epoch, regions, allocation}
use Rattle.yard_model.specs.Turns.{in_turn, for_each, where_some}
use Rattle.yard_model.specs.Move.{Move, made, quits, started, acknowledged, told, post}

-- a shard of the open round that isn't done
pub record Moving : Type 0 where
  pub shard : ℕ
  pub owner : Option Incarnation  -- its home when the round began
  pub awaited : List Incarnation  -- the regions that haven't acknowledged, in order of registration

pub record Coordinator : Type 0 where
  pub who : Incarnation
  pub set : Setting
  pub entries : List Fact
  pub quitting : List Incarnation  -- the regions that leave
  pub started : List Bool  -- per shard
  pub moving : List Moving  -- by rising shard; the round is open while there is one
  pub begun : ℕ  -- the number of rounds

-- once the slot is granted
abbrev pub new_coordinator : Setting → Incarnation → List Fact → Coordinator
new_coordinator set who list = record { who = who; set = set; entries = list; quitting = []; started = replicate set.config.shards false; moving = []; begun = 0 }

-- the stamp of its words: the epoch of its lease, and how many rounds have begun
abbrev pub stamp_of : List Fact → ℕ → Stamp
stamp_of list begun = record { epoch = epoch list; round = begun }

-- What a move changes, word by word.

abbrev pub coordinator_step : List Fact → Move → List Fact
coordinator_step old (made (item.Fact (fact.Registered r))) = old ++ fact.Registered r ∷ []
coordinator_step old (made (item.Fact (fact.Terminated r))) = old ++ fact.Terminated r ∷ []
coordinator_step old (made (item.Fact (fact.Allocated s r))) = old ++ fact.Allocated s r ∷ []
coordinator_step old (made (item.Fact (fact.Deallocated s))) = old ++ fact.Deallocated s ∷ []
coordinator_step old m = old

abbrev pub quitting_step : List Incarnation → Move → List Incarnation
quitting_step old (quits r) = if is_among r old then old else old ++ r ∷ []
quitting_step old m = old

abbrev pub started_step : List Bool → Move → List Bool
started_step old (started s) = slice_set old s true
started_step old (made (item.Fact (fact.Allocated s r))) = slice_set old s false
started_step old (made (item.Fact (fact.Deallocated s))) = slice_set old s false
started_step old m = old

-- it isn't awaited any more
abbrev pub not_awaited : Incarnation → Moving → Moving
not_awaited r x = record { shard = x.shard; owner = x.owner; awaited = without r x.awaited }

-- a shard joins the round of its stamp, or begins the next; its home is its owner, and all registered regions are awaited. It is done when its owner is terminated, or when it is deallocated
abbrev pub moving_step : Coordinator → Move → List Moving
moving_step st (made (item.Fact (fact.Moving s stamp))) =
    (if is_stamp stamp (stamp_of st.entries st.begun) then st.moving else []) ++ record { shard = s; owner = allocation s st.entries; awaited = regions st.entries } ∷ []
moving_step st (made (item.Fact (fact.Terminated r))) = map (not_awaited r) (filter (λ x. not (is_at r x.owner)) st.moving)
moving_step st (made (item.Fact (fact.Deallocated s))) = filter (λ x. not (x.shard == s)) st.moving
moving_step st (acknowledged s r) = map (λ x. if x.shard == s then not_awaited r x else x) st.moving
moving_step st m = st.moving

abbrev pub begun_step : Coordinator → Move → ℕ
begun_step st (made (item.Fact (fact.Moving s stamp))) = if is_stamp stamp (stamp_of st.entries st.begun) then st.begun else st.begun + 1
begun_step st m = st.begun

abbrev pub coordinator_after : Coordinator → Move → Coordinator
coordinator_after st m = record {
  who = st.who;
  set = st.set;
  entries = coordinator_step st.entries m;
  quitting = quitting_step st.quitting m;
  started = started_step st.started m;
  moving = moving_step st m;
  begun = begun_step st m;
}

-- What is read.

abbrev pub stamp : Coordinator → Stamp
stamp st = stamp_of st.entries st.begun

-- the registered regions, in order of registration
abbrev pub registered : Coordinator → List Incarnation
registered st = regions st.entries

-- the home of s
abbrev pub home_of : Coordinator → ℕ → Option Incarnation
home_of st s = allocation s st.entries

-- the shards whose home is this region, rising
abbrev pub homes_at : Coordinator → Incarnation → List ℕ
homes_at st r = filter (λ s. is_at r (home_of st s)) (shards st.set)

-- the registered regions that don't leave
abbrev pub staying : Coordinator → List Incarnation
staying st = filter (λ r. not (is_among r st.quitting)) (registered st)

abbrev pub is_moving : Coordinator → ℕ → Bool
is_moving st s = list_any (λ x. x.shard == s) st.moving

-- Allocation, and which shards a round moves (Akka's least-shard strategy, in this project's own form).

-- a region's share of the shards
pub record Share : Type 0 where
  pub region : Incarnation
  pub rest : List ℕ  -- its shards that aren't picked, rising
  pub count : ℕ

-- of the registered regions that don't leave, in order of registration
abbrev pub shares : Coordinator → List Share
shares st = map (λ r. record { region = r; rest = homes_at st r; count = length (homes_at st r) }) (staying st)

-- the first that none beats
abbrev pub best : (Share → Share → Bool) → List Share → Option Share
best beats [] = None
best beats (x ∷ xs) = Some (fold (λ best y. if beats y best then y else best) x xs)

-- the first with the fewest shards
abbrev pub smallest : List Share → Option Share
smallest xs = best (λ y x. nat_lt y.count x.count) xs

-- the first with the most shards
abbrev pub largest : List Share → Option Share
largest xs = best (λ y x. nat_lt x.count y.count) xs

-- the lowest shard of x that isn't picked is picked, and counts to y
abbrev pub with_pick : Share → Share → Share → Share
with_pick x y z =
    if is_same z.region x.region then record { region = z.region; rest = drop 1 z.rest; count = z.count - 1 }
    else if is_same z.region y.region then record { region = z.region; rest = z.rest; count = z.count + 1 }
    else z

-- at most so many picks, while the largest share is by two or more above the smallest: the lowest shard of the largest that isn't picked, which then counts to the smallest
abbrev pub picks : ℕ → List Share → List ℕ
picks zero xs = []
picks (suc n) xs = elim (largest xs) as (λ o. List ℕ) [
  | None ↦ []
  | Some x ↦ elim (smallest xs) as (λ o. List ℕ) [
    | None ↦ []
    | Some y ↦ elim (nat_le (y.count + 2) x.count) as (λ b. List ℕ) [
      | true ↦ slice_index_or x.rest 0 0 ∷ picks n (map (with_pick x y) xs)
      | false ↦ []
    ]
  ]
]

-- the shards that a rebalancing of at most so many picks, rising
abbrev pub picked : ℕ → Coordinator → List ℕ
picked limit st = let ps : List ℕ = picks limit (shares st) in filter (λ s. list_any (λ p. p == s) ps) (shards st.set)

-- Allocate: the first of the registered regions that don't leave with the fewest shards becomes the home of s, which isn't started; post HostShard to it. Where all leave: nothing
abbrev pub allocate : ℕ → Coordinator → List Move
allocate s st = where_some (λ x. told (fact.Allocated s x.region) ∷ post st.who x.region (body.HostShard s (stamp st)) ∷ []) (smallest (shares st))

-- Rounds.

-- Begin: the next round. For each of these shards, rising: `moving` with the stamp of that round, and BeginHandOff to every registered region, in order
abbrev pub begin : List ℕ → Coordinator → List Move
begin ss st = let next : Stamp = stamp_of st.entries (st.begun + 1) in
    flat_map (λ s. told (fact.Moving s next) ∷ map (λ r. post st.who r (body.BeginHandOff s next)) (registered st)) ss

-- post HandOff to the owner
abbrev pub hand_off : Coordinator → Moving → List Move
hand_off st x = where_some (λ o. post st.who o (body.HandOff x.shard (stamp st)) ∷ []) x.owner

-- HandOff, where this region is the last that is awaited
abbrev pub hand_off_if_last : Incarnation → Coordinator → Moving → List Move
hand_off_if_last r st x = if is_among r x.awaited && is_empty (without r x.awaited) then hand_off st x else []

-- of the third part of Lead, one region: `terminated`; then, for each shard of the round, rising, where it isn't the owner but the last that is awaited: HandOff
abbrev pub terminate : Incarnation → Coordinator → List Move
terminate r st = told (fact.Terminated r) ∷ flat_map (λ x. if is_at r x.owner then [] else hand_off_if_last r st x) st.moving

-- the third part of Lead: each registered region that isn't in the view is terminated, in order of registration
abbrev pub terminate_lost : List Incarnation → Coordinator → List Move
terminate_lost view st = for_each coordinator_after terminate (filter (λ r. not (is_among r view)) (registered st)) st

-- Rebalance: where a round is open, or nothing is picked: `nothing`. Else the picked shards begin to move
abbrev pub rebalance : ℕ → Coordinator → List Move
rebalance limit st = if not (is_empty st.moving) || is_empty (picked limit st) then told fact.Nothing ∷ [] else begin (picked limit st) st

-- The tick.

-- of a shard of the round: BeginHandOff again to those awaited, or HandOff again to the owner where none is
abbrev pub hand_off_again : Coordinator → Moving → List Move
hand_off_again st x = if is_empty x.awaited then hand_off st x else map (λ r. post st.who r (body.BeginHandOff x.shard (stamp st))) x.awaited

-- where some registered region doesn't leave: the shards of the first leaving one with a home begin to move
abbrev pub begin_quitting : Coordinator → List Move
begin_quitting st =
    if is_empty (staying st) then []
    else begin (unwrap_or (find (λ ss. not (is_empty ss)) (map (homes_at st) (filter (λ r. is_among r st.quitting) (registered st)))) []) st

-- where s has a home, isn't moving and isn't started: HostShard again to its home
abbrev pub host_again : Coordinator → ℕ → List Move
host_again st s = where_some (λ h. if is_moving st s || slice_index_or st.started s false then [] else post st.who h (body.HostShard s (stamp st)) ∷ []) (home_of st s)

-- the coordinator's part of the tick: a round that is open is gone on with, else one may begin; then HostShard again for each shard, rising
abbrev pub tick_coordinator : Coordinator → List Move
tick_coordinator = in_turn coordinator_after
    (λ st. if is_empty st.moving then begin_quitting st else flat_map (hand_off_again st) st.moving)
    (λ st. flat_map (host_again st) (shards st.set))

-- Packets.

-- Register, where the sender is in the view: it is registered, unless it is so already; post RegisterAck to it
abbrev pub register_from : Incarnation → List Incarnation → Coordinator → List Move
register_from from view st =
    if is_among from view then (if is_among from (registered st) then [] else told (fact.Registered from) ∷ []) ++ post st.who from body.RegisterAck ∷ []
    else []

-- post ShardHome to the sender, where s has a home
abbrev pub tell_home : Incarnation → ℕ → Coordinator → List Move
tell_home from s st = where_some (λ h. post st.who from (body.ShardHome s h (stamp st)) ∷ []) (home_of st s)

-- GetShardHome, where the sender is registered and s isn't moving: s is allocated where it has no home; then the sender is told its home, if it has one now
abbrev pub get_home : Incarnation → ℕ → Coordinator → List Move
get_home from s st =
    if is_among from (registered st) && not (is_moving st s)
    then in_turn coordinator_after (λ st. if is_none (home_of st s) then allocate s st else []) (tell_home from s) st
    else []

-- ShardStarted, where the sender is the home: s is started
abbrev pub shard_started : Incarnation → ℕ → Coordinator → List Move
shard_started from s st = if is_at from (home_of st s) then started s ∷ [] else []

-- GracefulShutdownReq, where the sender is registered: it leaves; where no round is open and some registered region doesn't leave, its shards begin to move
abbrev pub quit : Incarnation → Coordinator → List Move
quit from st =
    if is_among from (registered st)
    then in_turn coordinator_after (λ st. quits from ∷ []) (λ st. if is_empty st.moving && not (is_empty (staying st)) then begin (homes_at st from) st else []) st
    else []

-- the shard s of the open round, where this is its stamp
abbrev pub moving_at : ℕ → Stamp → Coordinator → List Moving
moving_at s given st = if is_stamp given (stamp st) then filter (λ x. x.shard == s) st.moving else []

-- BeginHandOffAck, where the stamp is the round's and the sender is awaited for s: it is so no longer; where it was the last, HandOff is posted to the owner
abbrev pub acknowledge : Incarnation → ℕ → Stamp → Coordinator → List Move
acknowledge from s given st = flat_map (λ x. if is_among from x.awaited then acknowledged s from ∷ hand_off_if_last from st x else []) (moving_at s given st)

-- ShardStopped, where the stamp is the round's, nobody is awaited for s and the sender is its owner: s is deallocated, and so done, and allocated anew
abbrev pub shard_stopped : Incarnation → ℕ → Stamp → Coordinator → List Move
shard_stopped from s given st =
    if list_any (λ x. is_empty x.awaited && is_at from x.owner) (moving_at s given st)
    then in_turn coordinator_after (λ st. told (fact.Deallocated s) ∷ []) (allocate s) st
    else []

-- the packets for the coordinator; the node's view is at hand
abbrev pub coordinate : Incarnation → Body → List Incarnation → Coordinator → List Move
coordinate from body.Register view st = register_from from view st
coordinate from (body.GetShardHome s) view st = get_home from s st
coordinate from (body.ShardStarted s) view st = shard_started from s st
coordinate from body.GracefulShutdownReq view st = quit from st
coordinate from (body.BeginHandOffAck s given) view st = acknowledge from s given st
coordinate from (body.ShardStopped s given) view st = shard_stopped from s given st
coordinate from b view st = []
