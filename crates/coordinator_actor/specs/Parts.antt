-- Parts of the rules that the code has functions for.
use Rattle.std.specs.Prelude.{ℕ, ◌+◌, ◌==◌, ◌&&◌, Bool, false, not, List, [], ◌∷◌, slice_index_or, ◌||◌, map, filter, find, Option, is_none, unwrap_or, if◌then◌else◌}
use Rattle.std.specs.List.{flat_map, list_any}
use Rattle.yard_model.specs.declared.fact.Fact.TheVariants as fact
use Rattle.yard_model.specs.declared.packet.Body.TheVariants as body
use Rattle.yard_model.specs.declared.incarnation.Incarnation.{Incarnation}
use Rattle.yard_model.specs.declared.incarnation.Stamp.{Stamp}
use Rattle.yard_model.specs.declared.load.Load.{Load}
use Rattle.handoff_steps.specs.declared.step.Step.{Step}
use Rattle.handoff_steps.specs.declared.step.Step.TheVariants as step
use Rattle.yard_model.specs.Coordinator.{Coordinator, Moving, not_awaited, coordinator_after, tell_home, registered, home_of, is_moving, moving_at, stamp, stamp_of, staying, homes_at, begin, begin_quitting, hand_off_again, host_again, terminate, allocate}
use Rattle.yard_model.specs.Move.{Move, told, post, quits}
use Rattle.yard_model.specs.Setting.{shards}
use Rattle.yard_model.specs.ShardSet.{has}
use Rattle.yard_model.specs.Turns.{in_turn, where_some}
use Rattle.yard_model.specs.Words.{is_at, is_among, is_empty, without}

-- it is registered, unless it is so already
abbrev pub enter_new : Incarnation → Coordinator → List Move
enter_new r st = if is_among r (registered st) then [] else told (fact.Registered r) ∷ []

-- the stamp is the round's, nobody is awaited for s, and this region is its owner
abbrev pub is_stopped_by : Incarnation → ℕ → Stamp → Coordinator → Bool
is_stopped_by from s given st = list_any (λ x. is_empty x.awaited && is_at from x.owner) (moving_at s given st)

-- HandOff to the owner of a shard of the round, where it has one
abbrev pub hand_off_by : Incarnation → Stamp → ℕ → Option Incarnation → List Move
hand_off_by who stamp s owner = where_some (λ o. post who o (body.HandOff s stamp) ∷ []) owner

-- of a shard of the round, as r is lost: where r isn't the owner but the last that is awaited, HandOff
abbrev pub lost_posts : Incarnation → Stamp → Incarnation → Moving → List Move
lost_posts who stamp r x = if is_at r x.owner then [] else if is_among r x.awaited && is_empty (without r x.awaited) then hand_off_by who stamp x.shard x.owner else []

abbrev pub hand_off_without : Incarnation → Coordinator → Moving → List Move
hand_off_without r st x = lost_posts st.who (stamp st) r x

-- what comes of a step for a shard: HandOff to its owner, where it says so
abbrev pub step_posts : Incarnation → Stamp → ℕ → Step → List Move
step_posts who stamp s (step.HandOff o) = post who o (body.HandOff s stamp) ∷ []
step_posts who stamp s x = []

-- the shard s among those of the round
abbrev pub at_shard : ℕ → List Moving → List Moving
at_shard s moving = filter (λ x. x.shard == s) moving

-- of all that are lost
abbrev pub lost_all : Incarnation → List Moving → List Moving
lost_all r moving = map (not_awaited r) (filter (λ x. not (is_at r x.owner)) moving)

-- it is terminated, unless it is in the view
abbrev pub terminate_if_lost : List Incarnation → Incarnation → Coordinator → List Move
terminate_if_lost view r st = if is_among r view then [] else terminate r st

-- the registered regions that stay as r is looked at
abbrev pub stay : List Incarnation → Incarnation → List Incarnation → List Incarnation
stay view r regions = if is_among r view then regions else without r regions

-- each of these regions is asked to keep the shard's messages
abbrev pub ask : ℕ → Stamp → List Incarnation → Coordinator → List Move
ask s given rs st = map (λ r. post st.who r (body.BeginHandOff s given)) rs

-- a shard begins to move in the round of this stamp, and every registered region is asked to let it go
abbrev pub begin_one : ℕ → Stamp → Coordinator → List Move
begin_one s next st = told (fact.Moving s next) ∷ ask s next (registered st) st

-- the loads of the regions that stay, with these that leave
abbrev pub staying_of : List Incarnation → List Load → List Load
staying_of quitting loads = filter (λ (l : Load). not (is_among l.region quitting)) loads

-- the shard is allocated to that region, if there is one
abbrev pub allocate_to : ℕ → Option Incarnation → Coordinator → List Move
allocate_to s o st = where_some (λ r. told (fact.Allocated s r) ∷ post st.who r (body.HostShard s (stamp st)) ∷ []) o

-- it is allocated, where it has no home
abbrev pub allocate_new : ℕ → Coordinator → List Move
allocate_new s st = if is_none (home_of st s) then allocate s st else []

-- then this region is told its home, if it has one now
abbrev pub allocate_and_tell : Incarnation → ℕ → Coordinator → List Move
allocate_and_tell from s st = in_turn coordinator_after (allocate_new s) (tell_home from s) st

-- the stamp of the next round
abbrev pub next_stamp : Coordinator → Stamp
next_stamp st = stamp_of st.entries (st.begun + 1)

-- the shards of a set, rising
abbrev pub shards_in : ℕ → Coordinator → List ℕ
shards_in set st = filter (has set) (shards st.set)

-- it begins to move, where it is in the set
abbrev pub begin_if : ℕ → Stamp → Coordinator → ℕ → List Move
begin_if set next st s = if has set s then begin_one s next st else []

-- each shard of the set begins to move
abbrev pub begin_each : ℕ → Stamp → Coordinator → List Move
begin_each set next st = flat_map (begin_if set next st) (shards st.set)

-- with a round of these shards begun
abbrev pub opened : List ℕ → Coordinator → Coordinator
opened ss st = record {
  who = st.who;
  set = st.set;
  entries = st.entries;
  quitting = st.quitting;
  started = st.started;
  moving = map (λ s. record { shard = s; owner = home_of st s; awaited = registered st }) ss;
  begun = st.begun + 1;
}

-- no round is open, and some registered region doesn't leave
abbrev pub may_begin : Coordinator → Bool
may_begin st = is_empty st.moving && not (is_empty (staying st))

-- the shards of this region begin to move, where they may
abbrev pub begin_leaving : Incarnation → Coordinator → List Move
begin_leaving from st = if may_begin st then begin (homes_at st from) st else []

-- a registered region leaves
abbrev pub quit_registered : Incarnation → Coordinator → List Move
quit_registered from st = in_turn coordinator_after (λ st. quits from ∷ []) (begin_leaving from) st

-- these shards begin to move, where there are any and no round is open
abbrev pub begin_picked : List ℕ → Coordinator → List Move
begin_picked ss st = if not (is_empty st.moving) || is_empty ss then told fact.Nothing ∷ [] else begin ss st

-- the shards of a region, where it leaves
abbrev pub leaving_homes : Coordinator → Incarnation → List ℕ
leaving_homes st r = if is_among r st.quitting then homes_at st r else []

-- of the first of these regions that leaves and has any
abbrev pub first_homes : Coordinator → List Incarnation → List ℕ
first_homes st rs = unwrap_or (find (λ ss. not (is_empty ss)) (map (homes_at st) (filter (λ r. is_among r st.quitting) rs))) []

-- of the tick, what becomes of the round
abbrev pub go_on : Coordinator → List Move
go_on st = if is_empty st.moving then begin_quitting st else flat_map (hand_off_again st) st.moving

-- of the shard s of the round: those awaited are asked again, or its owner is told again
abbrev pub go_on_at : ℕ → List Incarnation → Option Incarnation → Coordinator → List Move
go_on_at s awaited owner st = if is_empty awaited then hand_off_by st.who (stamp st) s owner else ask s (stamp st) awaited st

-- HostShard again to this region
abbrev pub host_at : Coordinator → ℕ → Incarnation → List Move
host_at st s h = if is_moving st s || slice_index_or st.started s false then [] else post st.who h (body.HostShard s (stamp st)) ∷ []

-- for each shard
abbrev pub host_all : Coordinator → List Move
host_all st = flat_map (host_again st) (shards st.set)
