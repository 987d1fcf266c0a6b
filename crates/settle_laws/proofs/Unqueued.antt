-- What a turn tells that isn't told to send: nothing that is queued.
use Rattle.std.proofs.Common.{◌≡◌, ℕ, ◌+◌, ◌-◌, List, [], ◌∷◌, ◌++◌, map, sym, refl, true, false, true≢false}
use Rattle.std.specs.Prelude.{Bool, ◌&&◌, not, nat_le, nat_lt, filter, fold, Option, Some, None, is_none, slice_index_or, if◌then◌else◌}
use Rattle.std.specs.List.{list_all, list_any, flat_map}
use Rattle.std.specs.Option.{option_and_then}
use Rattle.yard_model.specs.declared.fact.Fact.{Fact}
use Rattle.yard_model.specs.declared.fact.Fact.TheVariants as fact
use Rattle.yard_model.specs.declared.out.Item.{Item}
use Rattle.yard_model.specs.declared.out.Item.TheVariants as item
use Rattle.yard_model.specs.declared.input.Input.{Input}
use Rattle.yard_model.specs.declared.input.Input.TheVariants as input
use Rattle.yard_model.specs.declared.input.Phase.{Phase}
use Rattle.yard_model.specs.declared.input.Phase.TheVariants as phase
use Rattle.yard_model.specs.declared.packet.Body.{Body}
use Rattle.yard_model.specs.declared.packet.Body.TheVariants as body
use Rattle.yard_model.specs.declared.packet.Message.{Message}
use Rattle.yard_model.specs.declared.packet.Record.{Record}
use Rattle.yard_model.specs.declared.incarnation.Incarnation.{Incarnation}
use Rattle.yard_model.specs.declared.incarnation.Stamp.{Stamp}
use Rattle.yard_model.specs.declared.incarnation.Slot.{Slot}
use Rattle.yard_model.specs.declared.incarnation.Slot.TheVariants as slot
use Rattle.yard_model.specs.declared.incarnation.Keep.{Keep}
use Rattle.yard_model.specs.declared.incarnation.Keep.TheVariants as keep
use Rattle.yard_model.specs.declared.charter.Sending.{Sending}
use Rattle.yard_model.specs.Setting.{shards, producers, shard_of, names_of}
use Rattle.yard_model.specs.SlotLists.{SlotLists, shard_list, queue_list}
use Rattle.yard_model.specs.SlotReads.{holder, is_remembered}
use Rattle.yard_model.specs.Turns.{in_turn, for_each}
use Rattle.yard_model.specs.Words.{is_at, is_among, is_same, is_empty, without, is_below, at}
use Rattle.yard_model.specs.Move.{Move, made, marked, released, handed_off, passivates, demanded, pushed, quits, started, acknowledged, told, post, item_of}
use Rattle.yard_model.specs.Region as region
use Rattle.yard_model.specs.Region.{Region}
use Rattle.yard_model.specs.Entities as entities
use Rattle.yard_model.specs.Entities.{Entities, Hosted, Stopping, entities_after}
use Rattle.yard_model.specs.Producer as producer
use Rattle.yard_model.specs.Producer.{Producer}
use Rattle.yard_model.specs.Coordinator as coordinator
use Rattle.yard_model.specs.Coordinator.{Coordinator, Moving, Share, coordinator_after}
use Rattle.yard_model.specs.Node as node
use Rattle.yard_model.specs.Node.{Node, Act, Rule, by_region, by_entities, by_producer, by_coordinator, move_of, after, items_of, of_region, of_entities, of_producer, of_coordinator, all_in_turn}
use Rattle.plain_laws.proofs.Booleans.{and_both, both}
use Rattle.plain_laws.proofs.Lists.{all_join, all_if, all_some, all_each}

abbrev pub is_unqueued : Fact → Bool
is_unqueued (fact.Queued p e n k) = false
is_unqueued f = true

abbrev pub is_unqueued_item : Item → Bool
is_unqueued_item (item.Fact f) = is_unqueued f
is_unqueued_item (item.Post p) = true

abbrev is_unqueued_move : Move → Bool
is_unqueued_move (made i) = is_unqueued_item i
is_unqueued_move m = true

abbrev Tell : List Move → Type 0
Tell ms = list_all is_unqueued_move ms ≡ true

abbrev is_unqueued_act : Act → Bool
is_unqueued_act a = is_unqueued_move (move_of a)

abbrev Act_ : List Act → Type 0
Act_ acts = list_all is_unqueued_act acts ≡ true

-- How rules are put together.

all_mapped : {X Y : Type 0} (q : X → Bool) (p : Y → X) (ys : List Y) → ((y : Y) → q (p y) ≡ true) → list_all q (map p ys) ≡ true
all_mapped q p [] h = refl
all_mapped q p (y ∷ ys) h = both (q (p y)) (list_all q (map p ys)) (h y) (all_mapped q p ys h)

all_turn : {S X : Type 0} (q : X → Bool) (step : S → X → S) (a b : S → List X) (st : S) → ((st : S) → list_all q (a st) ≡ true) → ((st : S) → list_all q (b st) ≡ true) → list_all q (in_turn step a b st) ≡ true
all_turn q step a b st f g = all_join q (a st) (b (fold step st (a st))) (f st) (g (fold step st (a st)))

all_for : {S X Y : Type 0} (q : X → Bool) (step : S → X → S) (p : Y → S → List X) (ys : List Y) (st : S) → ((y : Y) (st : S) → list_all q (p y st) ≡ true) → list_all q (for_each step p ys st) ≡ true
all_for q step p [] st h = refl
all_for q step p (y ∷ ys) st h = all_join q (p y st) (for_each step p ys (fold step st (p y st))) (h y st) (all_for q step p ys (fold step st (p y st)) h)

-- The region.

oldest_tells : (b : Body) (st : Region) → Tell (region.post_oldest b st)
oldest_tells b st = all_some is_unqueued_move (λ x. post st.who x b ∷ []) (region.oldest st) (λ x. refl)

keep_tells : (m : Message) (st : Region) → Tell (region.keep m st)
keep_tells m st = all_if is_unqueued_move _ (told (fact.Kept st.who m) ∷ []) (told (fact.Dropped st.who m) ∷ []) refl refl

ask_tells : (s : ℕ) (st : Region) → Tell (region.ask s st)
ask_tells s st = all_if is_unqueued_move (slice_index_or st.asked s false) [] (region.post_oldest (body.GetShardHome s) st) refl (oldest_tells (body.GetShardHome s) st)

away_tells : (m : Message) (st : Region) → Tell (region.route_away m st)
away_tells m st = by (region.home st (shard_of st.set m.entity))
  where
    by : (o : Option Incarnation) → Tell (region.route_by m st o)
    by None = all_join is_unqueued_move (region.keep m st) (region.ask (shard_of st.set m.entity) st) (keep_tells m st) (ask_tells (shard_of st.set m.entity) st)
    by (Some h) = all_if is_unqueued_move (is_same h st.who) (region.keep m st) (post st.who h (body.Sequenced m) ∷ []) (keep_tells m st) refl

register_tells : (st : Region) → Tell (region.register st)
register_tells st = all_some is_unqueued_move (λ x. if is_at x st.registered then [] else post st.who x body.Register ∷ []) (region.oldest st) (λ x. all_if is_unqueued_move (is_at x st.registered) [] (post st.who x body.Register ∷ []) refl refl)

forget_tells : (s : ℕ) (st : Region) → Tell (region.forget s st)
forget_tells s st = all_if is_unqueued_move (is_none (region.home st s)) [] (told (fact.Forget st.who s) ∷ []) refl refl

view_tells : (v : ℕ) (xs : List Incarnation) (st : Region) → Tell (region.take_view v xs st)
view_tells v xs st = all_each is_unqueued_move (region.forget_lost xs st) (shards st.set) (λ s. all_some is_unqueued_move (λ h. if is_among h xs then [] else region.forget s st) (region.home st s) (λ h. all_if is_unqueued_move (is_among h xs) [] (region.forget s st) refl (forget_tells s st)))

learn_tells : (s : ℕ) (h : Incarnation) (stamp : Stamp) (st : Region) → Tell (region.learn s h stamp st)
learn_tells s h stamp st = all_if is_unqueued_move (is_at h (region.home st s)) [] (told (fact.Home st.who s h) ∷ []) refl refl

begin_hand_tells : (s : ℕ) (stamp : Stamp) (from : Incarnation) (st : Region) → Tell (region.begin_hand_off s stamp from st)
begin_hand_tells s stamp from st = all_if is_unqueued_move (is_below stamp (region.mark st s)) [] _ refl
    (all_join is_unqueued_move (if is_below (region.mark st s) stamp then marked s stamp ∷ region.forget s st else []) (post st.who from (body.BeginHandOffAck s stamp) ∷ [])
    (all_if is_unqueued_move (is_below (region.mark st s) stamp) (marked s stamp ∷ region.forget s st) [] (forget_tells s st) refl) refl)

tick_region_tells : (st : Region) → Tell (region.tick_region st)
tick_region_tells st =
    let a : List Move = region.register st in
    let b : List Move = if st.leaving && region.is_some_home st then region.post_oldest body.GracefulShutdownReq st else [] in
    let d : List Move = flat_map (region.ask_again st) (shards st.set) in
    all_join is_unqueued_move (a ++ b) d (all_join is_unqueued_move a b (register_tells st) (all_if is_unqueued_move (st.leaving && region.is_some_home st) (region.post_oldest body.GracefulShutdownReq st) [] (oldest_tells body.GracefulShutdownReq st) refl))
    (all_each is_unqueued_move (region.ask_again st) (shards st.set) (λ s. all_if is_unqueued_move _ (region.post_oldest (body.GetShardHome s) st) [] (oldest_tells (body.GetShardHome s) st) refl))

-- The entities.

remembered_tell : (s : ℕ) (st : Entities) → Tell (entities.start_remembered s st)
remembered_tell s st = all_if is_unqueued_move st.set.config.remember (flat_map (λ e. entities.start_entity e st) (filter (λ e. is_remembered e (entities.entries st e)) (names_of st.set s))) []
    (all_each is_unqueued_move (λ e. entities.start_entity e st) (filter (λ e. is_remembered e (entities.entries st e)) (names_of st.set s)) (λ e. refl)) refl

stash_tells : (m : Message) (st : Entities) → Tell (entities.stash_message m st)
stash_tells m st = all_if is_unqueued_move _ (told (fact.Stashed st.who m) ∷ []) (told (fact.Dropped st.who m) ∷ []) refl refl

snapshot_tells : (e : List ℕ) (n : ℕ) (st : Entities) → Tell (entities.snapshot_at e n st)
snapshot_tells e n st = all_if is_unqueued_move _ (told (fact.Snapshot e n) ∷ []) [] refl refl

write_tells : (m : Message) (r : Record) (pos : ℕ) (st : Entities) (o : Option Keep) → Tell (entities.write m r pos st o)
write_tells m r pos st (Some keep.Lost) = refl
write_tells m r pos st (Some keep.Kept) = refl
write_tells m r pos st None = all_join is_unqueued_move (entities.snapshot_at m.entity r.number st) (post st.who m.origin (body.Ack m.producer m.entity pos) ∷ entities.ask_more m pos st) (snapshot_tells m.entity r.number st)
    (all_if is_unqueued_move _ (post st.who m.origin (body.Request m.producer m.entity pos (pos + st.set.config.window)) ∷ []) [] refl refl)

deliver_at_tells : (m : Message) (pos : ℕ) (records : List Record) (st : Entities) → Tell (entities.deliver_at m pos records st)
deliver_at_tells m pos records st = all_if is_unqueued_move (nat_le m.number pos) (post st.who m.origin (body.Ack m.producer m.entity pos) ∷ []) _ refl
    (all_if is_unqueued_move (nat_lt (pos + 1) m.number) (post st.who m.origin (body.Resend m.producer m.entity (pos + 1)) ∷ []) (entities.write m (entities.record_of m st records) (pos + 1) st (entities.cell st m.entity).armed) refl
    (write_tells m (entities.record_of m st records) (pos + 1) st (entities.cell st m.entity).armed))

deliver_tells : (m : Message) (st : Entities) → Tell (entities.deliver m st)
deliver_tells m st = by (entities.cell st m.entity).phase
  where
    by : (p : Phase) → Tell (entities.deliver_by m st p)
    by phase.Absent = refl
    by phase.Loading = stash_tells m st
    by phase.Active = deliver_at_tells m _ _ st
    by phase.Stopping = stash_tells m st

recovered_tells : (e : List ℕ) (st : Entities) → Tell (entities.recovered e st)
recovered_tells e st = all_if is_unqueued_move (entities.is_in_phase phase.Loading st e) (in_turn entities_after (entities.activate e) (for_each entities_after entities.deliver (entities.cell st e).stash) st) []
    (all_turn is_unqueued_move entities_after (entities.activate e) (for_each entities_after entities.deliver (entities.cell st e).stash) st
    (λ st. all_if is_unqueued_move _ (told (fact.Remembered e) ∷ []) [] refl refl)
    (λ now. all_for is_unqueued_move entities_after entities.deliver (entities.cell st e).stash now deliver_tells)) refl

ask_to_passivate_tells : (e : List ℕ) (st : Entities) → Tell (entities.ask_to_passivate e st)
ask_to_passivate_tells e st = all_if is_unqueued_move (entities.is_in_phase phase.Active st e) (post st.who st.who (body.Passivate e) ∷ []) [] refl refl

arm_tells : (e : List ℕ) (k : Keep) (st : Entities) → Tell (entities.arm e k st)
arm_tells e k st = all_if is_unqueued_move (entities.is_in_phase phase.Active st e) (told (fact.Armed e k) ∷ []) [] refl refl

passivate_tells : (e : List ℕ) (st : Entities) → Tell (entities.passivate e st)
passivate_tells e st = all_if is_unqueued_move (entities.is_in_phase phase.Active st e) (passivates e ∷ post st.who st.who (body.StopEntity e) ∷ []) [] refl refl

free_tells : (s : ℕ) (st : Entities) → Tell (entities.free_if_left s st)
free_tells s st = all_some is_unqueued_move _ (option_and_then (λ (h : Hosted). h.stopping) (entities.hosted st s)) (λ (k : Stopping). all_if is_unqueued_move (is_empty (entities.entities_of st s)) _ [] refl refl)

hand_off_tells : (s : ℕ) (stamp : Stamp) (from : Incarnation) (st : Entities) → Tell (entities.hand_off s stamp from st)
hand_off_tells s stamp from st = all_turn is_unqueued_move entities_after (λ st. handed_off s stamp from ∷ map (λ e. post st.who st.who (body.StopEntity e)) (entities.entities_of st s)) (entities.free_if_left s) st
    (λ st. all_mapped is_unqueued_move (λ e. post st.who st.who (body.StopEntity e)) (entities.entities_of st s) (λ e. refl)) (free_tells s)

after_stop_tells : (e : List ℕ) (st : Entities) → Tell (entities.after_stop e st)
after_stop_tells e st = all_if is_unqueued_move (entities.is_running st (shard_of st.set e)) _ _ (all_if is_unqueued_move (is_empty (entities.cell st e).stash) [] (entities.start_entity e st) refl refl)
    (all_turn is_unqueued_move entities_after (entities.drop_stash e) (entities.free_if_left (shard_of st.set e)) st (λ now. all_mapped is_unqueued_move (λ m. told (fact.Dropped now.who m)) (entities.cell now e).stash (λ m. refl)) (free_tells (shard_of st.set e)))

stop_tells : (e : List ℕ) (st : Entities) → Tell (entities.stop e st)
stop_tells e st = all_if is_unqueued_move (entities.is_in_phase phase.Stopping st e) (in_turn entities_after (λ st. told (fact.Stop st.who e) ∷ entities.forget_passivated e st) (entities.after_stop e) st) []
    (all_turn is_unqueued_move entities_after (λ st. told (fact.Stop st.who e) ∷ entities.forget_passivated e st) (entities.after_stop e) st (λ st. all_if is_unqueued_move _ (told (fact.Forgotten e) ∷ []) [] refl refl) (after_stop_tells e)) refl

tick_entities_tells : (st : Entities) → Tell (entities.tick_entities st)
tick_entities_tells st = all_each is_unqueued_move (λ s. flat_map (λ e. entities.remind_by e st (entities.cell st e).phase) (entities.entities_of st s)) (shards st.set)
    (λ s. all_each is_unqueued_move (λ e. entities.remind_by e st (entities.cell st e).phase) (entities.entities_of st s) (λ e. by e (entities.cell st e).phase))
  where
    by : (e : List ℕ) (p : Phase) → Tell (entities.remind_by e st p)
    by e phase.Absent = refl
    by e phase.Loading = refl
    by e phase.Active = refl
    by e phase.Stopping = refl

-- The coordinator.

allocate_tells : (s : ℕ) (st : Coordinator) → Tell (coordinator.allocate s st)
allocate_tells s st = all_some is_unqueued_move _ (coordinator.smallest (coordinator.shares st)) (λ (x : Share). refl)

begin_tells : (ss : List ℕ) (st : Coordinator) → Tell (coordinator.begin ss st)
begin_tells ss st = let next : Stamp = coordinator.stamp_of st.entries (st.begun + 1) in
    all_each is_unqueued_move (λ s. told (fact.Moving s next) ∷ map (λ r. post st.who r (body.BeginHandOff s next)) (coordinator.registered st)) ss (λ s. all_mapped is_unqueued_move (λ r. post st.who r (body.BeginHandOff s next)) (coordinator.registered st) (λ r. refl))

off_tells : (st : Coordinator) (x : Moving) → Tell (coordinator.hand_off st x)
off_tells st x = all_some is_unqueued_move (λ o. post st.who o (body.HandOff x.shard (coordinator.stamp st)) ∷ []) x.owner (λ o. refl)

last_tells : (r : Incarnation) (st : Coordinator) (x : Moving) → Tell (coordinator.hand_off_if_last r st x)
last_tells r st x = all_if is_unqueued_move (is_among r x.awaited && is_empty (without r x.awaited)) (coordinator.hand_off st x) [] (off_tells st x) refl

terminate_tells : (r : Incarnation) (st : Coordinator) → Tell (coordinator.terminate r st)
terminate_tells r st = all_each is_unqueued_move (λ (x : Moving). if is_at r x.owner then [] else coordinator.hand_off_if_last r st x) st.moving (λ x. all_if is_unqueued_move (is_at r x.owner) [] (coordinator.hand_off_if_last r st x) refl (last_tells r st x))

lost_tells : (view : List Incarnation) (st : Coordinator) → Tell (coordinator.terminate_lost view st)
lost_tells view st = all_for is_unqueued_move coordinator_after coordinator.terminate (filter (λ r. not (is_among r view)) (coordinator.registered st)) st terminate_tells

rebalance_tells : (n : ℕ) (st : Coordinator) → Tell (coordinator.rebalance n st)
rebalance_tells n st = all_if is_unqueued_move _ (told fact.Nothing ∷ []) (coordinator.begin (coordinator.picked n st) st) refl (begin_tells (coordinator.picked n st) st)

again_tells : (st : Coordinator) (x : Moving) → Tell (coordinator.hand_off_again st x)
again_tells st x = all_if is_unqueued_move (is_empty x.awaited) (coordinator.hand_off st x) _ (off_tells st x) (all_mapped is_unqueued_move (λ r. post st.who r (body.BeginHandOff x.shard (coordinator.stamp st))) x.awaited (λ r. refl))

quitting_tells : (st : Coordinator) → Tell (coordinator.begin_quitting st)
quitting_tells st = all_if is_unqueued_move (is_empty (coordinator.staying st)) [] _ refl (begin_tells _ st)

host_tells : (st : Coordinator) (s : ℕ) → Tell (coordinator.host_again st s)
host_tells st s = all_some is_unqueued_move _ (coordinator.home_of st s) (λ h. all_if is_unqueued_move _ [] (post st.who h (body.HostShard s (coordinator.stamp st)) ∷ []) refl refl)

tick_coordinator_tells : (st : Coordinator) → Tell (coordinator.tick_coordinator st)
tick_coordinator_tells st = all_turn is_unqueued_move coordinator_after (λ st. if is_empty st.moving then coordinator.begin_quitting st else flat_map (coordinator.hand_off_again st) st.moving) (λ st. flat_map (coordinator.host_again st) (shards st.set)) st
    (λ st. all_if is_unqueued_move (is_empty st.moving) (coordinator.begin_quitting st) (flat_map (coordinator.hand_off_again st) st.moving) (quitting_tells st) (all_each is_unqueued_move (coordinator.hand_off_again st) st.moving (again_tells st)))
    (λ st. all_each is_unqueued_move (coordinator.host_again st) (shards st.set) (host_tells st))

home_tells : (from : Incarnation) (s : ℕ) (st : Coordinator) → Tell (coordinator.tell_home from s st)
home_tells from s st = all_some is_unqueued_move (λ h. post st.who from (body.ShardHome s h (coordinator.stamp st)) ∷ []) (coordinator.home_of st s) (λ h. refl)

coordinate_tells : (from : Incarnation) (b : Body) (view : List Incarnation) (st : Coordinator) → Tell (coordinator.coordinate from b view st)
coordinate_tells from body.Register view st = all_if is_unqueued_move (is_among from view) _ [] (all_join is_unqueued_move (if is_among from (coordinator.registered st) then [] else told (fact.Registered from) ∷ []) (post st.who from body.RegisterAck ∷ []) (all_if is_unqueued_move (is_among from (coordinator.registered st)) [] (told (fact.Registered from) ∷ []) refl refl) refl) refl
coordinate_tells from (body.GetShardHome s) view st = all_if is_unqueued_move (is_among from (coordinator.registered st) && not (coordinator.is_moving st s)) (in_turn coordinator_after (λ st. if is_none (coordinator.home_of st s) then coordinator.allocate s st else []) (coordinator.tell_home from s) st) []
    (all_turn is_unqueued_move coordinator_after (λ st. if is_none (coordinator.home_of st s) then coordinator.allocate s st else []) (coordinator.tell_home from s) st (λ st. all_if is_unqueued_move (is_none (coordinator.home_of st s)) (coordinator.allocate s st) [] (allocate_tells s st) refl) (home_tells from s)) refl
coordinate_tells from (body.ShardStarted s) view st = all_if is_unqueued_move (is_at from (coordinator.home_of st s)) (started s ∷ []) [] refl refl
coordinate_tells from body.GracefulShutdownReq view st = all_if is_unqueued_move (is_among from (coordinator.registered st)) _ []
    (all_turn is_unqueued_move coordinator_after (λ st. quits from ∷ []) (λ st. if is_empty st.moving && not (is_empty (coordinator.staying st)) then coordinator.begin (coordinator.homes_at st from) st else []) st (λ st. refl)
    (λ st. all_if is_unqueued_move _ (coordinator.begin (coordinator.homes_at st from) st) [] (begin_tells (coordinator.homes_at st from) st) refl)) refl
coordinate_tells from (body.BeginHandOffAck s given) view st = all_each is_unqueued_move _ (coordinator.moving_at s given st) (λ (x : Moving). all_if is_unqueued_move (is_among from x.awaited) (acknowledged s from ∷ coordinator.hand_off_if_last from st x) [] (last_tells from st x) refl)
coordinate_tells from (body.ShardStopped s given) view st = all_if is_unqueued_move (list_any (λ (x : Moving). is_empty x.awaited && is_at from x.owner) (coordinator.moving_at s given st)) (in_turn coordinator_after (λ st. told (fact.Deallocated s) ∷ []) (coordinator.allocate s) st) []
    (all_turn is_unqueued_move coordinator_after (λ st. told (fact.Deallocated s) ∷ []) (coordinator.allocate s) st (λ st. refl) (allocate_tells s)) refl
coordinate_tells from b view st = refl

-- The node.

region_acts : (ms : List Move) → Tell ms → Act_ (map by_region ms)
region_acts [] h = refl
region_acts (m ∷ ms) h = let n : (is_unqueued_move m ≡ true) × Tell ms = and_both (is_unqueued_move m) (list_all is_unqueued_move ms) h in both (is_unqueued_move m) (list_all is_unqueued_act (map by_region ms)) n.0 (region_acts ms n.1)

entities_acts : (ms : List Move) → Tell ms → Act_ (map by_entities ms)
entities_acts [] h = refl
entities_acts (m ∷ ms) h = let n : (is_unqueued_move m ≡ true) × Tell ms = and_both (is_unqueued_move m) (list_all is_unqueued_move ms) h in both (is_unqueued_move m) (list_all is_unqueued_act (map by_entities ms)) n.0 (entities_acts ms n.1)

producer_acts : (p : ℕ) (ms : List Move) → Tell ms → Act_ (map (by_producer p) ms)
producer_acts p [] h = refl
producer_acts p (m ∷ ms) h = let n : (is_unqueued_move m ≡ true) × Tell ms = and_both (is_unqueued_move m) (list_all is_unqueued_move ms) h in both (is_unqueued_move m) (list_all is_unqueued_act (map (by_producer p) ms)) n.0 (producer_acts p ms n.1)

coordinator_acts : (ms : List Move) → Tell ms → Act_ (map by_coordinator ms)
coordinator_acts [] h = refl
coordinator_acts (m ∷ ms) h = let n : (is_unqueued_move m ≡ true) × Tell ms = and_both (is_unqueued_move m) (list_all is_unqueued_move ms) h in both (is_unqueued_move m) (list_all is_unqueued_act (map by_coordinator ms)) n.0 (coordinator_acts ms n.1)

of_producer_acts : (p : ℕ) (f : Producer → List Move) (st : Node) → ((k : Producer) → Tell (f k)) → Act_ (of_producer p f st)
of_producer_acts p f st h = all_some is_unqueued_act (λ k. map (by_producer p) (f k)) (at st.producers (p - 1)) (λ k. producer_acts p (f k) (h k))

of_coordinator_acts : (f : Coordinator → List Move) (st : Node) → ((k : Coordinator) → Tell (f k)) → Act_ (of_coordinator f st)
of_coordinator_acts f st h = all_some is_unqueued_act (λ k. map by_coordinator (f k)) st.coordinator (λ k. coordinator_acts (f k) (h k))

acquire_tells : (s : Slot) (who : Incarnation) (list : List Fact) → Tell (node.acquire s who list)
acquire_tells s who list = by (holder list)
  where
    by : (o : Option Incarnation) → Tell (node.acquire_by s who list o)
    by None = refl
    by (Some h) = refl

route_acts : (m : Message) (st : Node) → Act_ (node.route m st)
route_acts m st = all_if is_unqueued_act _ (of_entities (entities.deliver m) st) (of_region (region.route_away m) st) (entities_acts (entities.deliver m st.entities) (deliver_tells m st.entities)) (region_acts (region.route_away m st.region) (away_tells m st.region))

release_acts : (s : ℕ) (st : Node) → Act_ (node.release s st)
release_acts s st = all_if is_unqueued_act (region.is_routable st.region s (node.is_running st s)) _ []
    (all_for is_unqueued_act after (λ m. in_turn after (λ st. by_region (released s) ∷ []) (node.route m)) (region.kept_of st.region.kept s) st (λ m st. all_turn is_unqueued_act after (λ st. by_region (released s) ∷ []) (node.route m) st (λ st. refl) (route_acts m))) refl

start_acts : (lists : SlotLists) (s : ℕ) (st : Node) → Act_ (node.start lists s st)
start_acts lists s st = all_if is_unqueued_act (entities.is_hosted st.entities s) [] _ refl
    (all_turn is_unqueued_act after (λ st. map by_entities (node.acquire (slot.Shard s) st.who (shard_list lists s))) (of_entities (entities.start_remembered s)) st
    (λ st. entities_acts (node.acquire (slot.Shard s) st.who (shard_list lists s)) (acquire_tells (slot.Shard s) st.who (shard_list lists s))) (λ st. entities_acts (entities.start_remembered s st.entities) (remembered_tell s st.entities)))

lead_acts : (lists : SlotLists) (st : Node) → Act_ (node.lead lists st)
lead_acts lists st = all_turn is_unqueued_act after (λ st. if is_at st.who (region.oldest st.region) && is_none st.coordinator then map by_coordinator (node.acquire slot.Coordinator st.who lists.coordinator) else [])
    (λ st. of_coordinator (coordinator.terminate_lost st.region.view) st) st
    (λ st. all_if is_unqueued_act _ (map by_coordinator (node.acquire slot.Coordinator st.who lists.coordinator)) [] (coordinator_acts (node.acquire slot.Coordinator st.who lists.coordinator) (acquire_tells slot.Coordinator st.who lists.coordinator)) refl)
    (λ st. of_coordinator_acts (coordinator.terminate_lost st.region.view) st (lost_tells st.region.view))

numbers_acts : (p : ℕ) (e : List ℕ) (f : Producer → List ℕ) (st : Node) → Act_ (node.route_numbers p e f st)
numbers_acts p e f st = all_some is_unqueued_act (λ k. for_each after (λ n. node.route (producer.message_of e k n)) (f k) st) (at st.producers (p - 1)) (λ k. all_for is_unqueued_act after (λ n. node.route (producer.message_of e k n)) (f k) st (λ n st. route_acts (producer.message_of e k n) st))

-- each of the rules
abbrev AllAct : List Rule → Type 0
AllAct [] = Unit {0}
AllAct (r ∷ rs) = ((st : Node) → Act_ (r st)) × AllAct rs

rules_act : (rs : List Rule) (st : Node) → AllAct rs → Act_ (all_in_turn rs st)
rules_act [] st h = refl
rules_act (r ∷ rs) st h = all_join is_unqueued_act (r st) (all_in_turn rs (fold after st (r st))) (h.0 st) (rules_act rs (fold after st (r st)) h.1)

push_acts : (p : ℕ) (e : List ℕ) (st : Node) → Act_ (node.push p e st)
push_acts p e st = all_some is_unqueued_act _ (at st.producers (p - 1)) (λ k. rules_act (of_producer p (producer.push_marks e) ∷ node.route_numbers p e (λ j. producer.to_push e k) ∷ []) st
    ((λ st. of_producer_acts p (producer.push_marks e) st (λ k. refl)), ((λ st. numbers_acts p e (λ j. producer.to_push e k) st), tt)))

confirm_tells : (e : List ℕ) (n : ℕ) (k : Producer) → Tell (producer.confirm e n k)
confirm_tells e n k = all_if is_unqueued_move _ (told (fact.Confirmed k.number e n) ∷ []) [] refl refl

again_acts : (p : ℕ) (e : List ℕ) (st : Node) → Act_ (node.send_again p e st)
again_acts p e st = rules_act (of_producer p (λ k. map (pushed e) (producer.to_repeat e k)) ∷ node.route_numbers p e (producer.to_repeat e) ∷ []) st
    ((λ st. of_producer_acts p (λ k. map (pushed e) (producer.to_repeat e k)) st (λ k. all_mapped is_unqueued_move (pushed e) (producer.to_repeat e k) (λ n. refl))), ((λ st. numbers_acts p e (producer.to_repeat e) st), tt))

start_again_acts : (lists : SlotLists) (s : ℕ) (st : Node) → Act_ (node.start_again lists s st)
start_again_acts lists s st = all_if is_unqueued_act _ (all_in_turn (node.start lists s ∷ node.release s ∷ []) st) [] (rules_act (node.start lists s ∷ node.release s ∷ []) st ((λ st. start_acts lists s st), ((λ st. release_acts s st), tt))) refl

tick_acts : (lists : SlotLists) (st : Node) → Act_ (node.tick lists st)
tick_acts lists st = rules_act (node.lead lists
    ∷ of_coordinator coordinator.tick_coordinator
    ∷ of_region region.tick_region
    ∷ for_each after (node.start_again lists) (shards st.set)
    ∷ of_entities entities.tick_entities
    ∷ for_each after (λ p. for_each after (node.send_again p) st.set.names) (producers st.set)
    ∷ []) st (
      lead_acts lists,
      (
        (λ st. of_coordinator_acts coordinator.tick_coordinator st tick_coordinator_tells),
        (
          (λ st. region_acts (region.tick_region st.region) (tick_region_tells st.region)),
          (
            (λ now. all_for is_unqueued_act after (node.start_again lists) (shards st.set) now (start_again_acts lists)),
            (
              (λ st. entities_acts (entities.tick_entities st.entities) (tick_entities_tells st.entities)),
              ((λ now. all_for is_unqueued_act after (λ p. for_each after (node.send_again p) st.set.names) (producers st.set) now (λ p now. all_for is_unqueued_act after (node.send_again p) st.set.names now (again_acts p))), tt),
            ),
          ),
        ),
      ),
    )

packet_acts : (lists : SlotLists) (from : Incarnation) (b : Body) (st : Node) → Act_ (node.packet lists from b st)
packet_acts lists from (body.View v xs) st = all_if is_unqueued_act (nat_le v st.region.version) [] _ refl (rules_act (of_region (region.take_view v xs) ∷ node.lead lists ∷ of_region region.register ∷ []) st
    ((λ st. region_acts (region.take_view v xs st.region) (view_tells v xs st.region)), (lead_acts lists, ((λ st. region_acts (region.register st.region) (register_tells st.region)), tt))))
packet_acts lists from body.RegisterAck st = refl
packet_acts lists from (body.ShardHome s h stamp) st = all_if is_unqueued_act (region.takes_home s h stamp st.region) _ [] (rules_act (of_region (region.learn s h stamp) ∷ (λ st. if region.is_home st.region s then node.start lists s st else []) ∷ node.release s ∷ []) st
    ((λ st. region_acts (region.learn s h stamp st.region) (learn_tells s h stamp st.region)), ((λ st. all_if is_unqueued_act (region.is_home st.region s) (node.start lists s st) [] (start_acts lists s st) refl), ((λ st. release_acts s st), tt)))) refl
packet_acts lists from (body.HostShard s stamp) st = all_if is_unqueued_act (region.takes_host s stamp st.region) _ [] (rules_act (of_region (region.learn s st.who stamp) ∷ node.start lists s ∷ of_region (λ r. post r.who from (body.ShardStarted s) ∷ []) ∷ node.release s ∷ []) st
    ((λ now. region_acts (region.learn s st.who stamp now.region) (learn_tells s st.who stamp now.region)), ((λ st. start_acts lists s st), ((λ st. refl), ((λ st. release_acts s st), tt))))) refl
packet_acts lists from (body.BeginHandOff s stamp) st = region_acts (region.begin_hand_off s stamp from st.region) (begin_hand_tells s stamp from st.region)
packet_acts lists from (body.HandOff s stamp) st = all_if is_unqueued_act (region.takes_hand_off s stamp st.region) _ []
    (all_if is_unqueued_act (entities.is_hosted st.entities s) (of_entities (entities.hand_off s stamp from) st) (by_region (post st.who from (body.ShardStopped s stamp)) ∷ []) (entities_acts (entities.hand_off s stamp from st.entities) (hand_off_tells s stamp from st.entities)) refl) refl
packet_acts lists from (body.Recovered e) st = entities_acts (entities.recovered e st.entities) (recovered_tells e st.entities)
packet_acts lists from (body.Passivate e) st = entities_acts (entities.passivate e st.entities) (passivate_tells e st.entities)
packet_acts lists from (body.StopEntity e) st = entities_acts (entities.stop e st.entities) (stop_tells e st.entities)
packet_acts lists from (body.Sequenced m) st = route_acts m st
packet_acts lists from (body.Request p e n u) st = rules_act (of_producer p (producer.confirm e n) ∷ of_producer p (λ k. demanded e u ∷ []) ∷ node.push p e ∷ []) st
    ((λ st. of_producer_acts p (producer.confirm e n) st (confirm_tells e n)), ((λ st. of_producer_acts p (λ k. demanded e u ∷ []) st (λ k. refl)), ((λ st. push_acts p e st), tt)))
packet_acts lists from (body.Ack p e n) st = rules_act (of_producer p (producer.confirm e n) ∷ node.push p e ∷ []) st ((λ st. of_producer_acts p (producer.confirm e n) st (confirm_tells e n)), ((λ st. push_acts p e st), tt))
packet_acts lists from (body.Resend p e f) st = numbers_acts p e (producer.to_resend e f) st
packet_acts lists from b st = of_coordinator_acts (coordinator.coordinate from b st.region.view) st (coordinate_tells from b st.region.view)

-- no send
abbrev pub is_no_send : Input → Bool
is_no_send (input.Send p) = false
is_no_send i = true

turn_acts : (sends : List (List Sending)) (lists : SlotLists) (i : Input) (st : Node) → is_no_send i ≡ true → Act_ (node.turn sends lists i st)
turn_acts sends lists (input.Packet p) st h = packet_acts lists p.from p.body st
turn_acts sends lists input.Tick st h = tick_acts lists st
turn_acts sends lists input.Leave st h = region_acts (region.leave st.region) (oldest_tells body.GracefulShutdownReq st.region)
turn_acts sends lists (input.Rebalance n) st h = of_coordinator_acts (coordinator.rebalance n) st (rebalance_tells n)
turn_acts sends lists (input.Produce p) st h = all_if is_unqueued_act _ (map (by_producer p) (node.acquire (slot.Queue p) st.who (queue_list lists p))) [] (producer_acts p (node.acquire (slot.Queue p) st.who (queue_list lists p)) (acquire_tells (slot.Queue p) st.who (queue_list lists p))) refl
turn_acts sends lists (input.Rest p) st h = of_producer_acts p producer.give_back st (λ k. refl)
turn_acts sends lists (input.FailWrite e k) st h = entities_acts (entities.arm e k st.entities) (arm_tells e k st.entities)
turn_acts sends lists (input.Passivate e) st h = entities_acts (entities.ask_to_passivate e st.entities) (ask_to_passivate_tells e st.entities)
turn_acts sends lists (input.Send p) st h = absurd (no h)
  where
    no : false ≡ true → ⊥
    no e = true≢false (sym e)

items_unqueued : (acts : List Act) → Act_ acts → list_all is_unqueued_item (items_of acts) ≡ true
items_unqueued [] h = refl
items_unqueued (a ∷ acts) h =
    let m : (is_unqueued_move (move_of a) ≡ true) × Act_ acts = and_both (is_unqueued_move (move_of a)) (list_all is_unqueued_act acts) h in
    all_join is_unqueued_item (item_of (move_of a)) (items_of acts) (by (move_of a) m.0) (items_unqueued acts m.1)
  where
    by : (m : Move) → is_unqueued_move m ≡ true → list_all is_unqueued_item (item_of m) ≡ true
    by (made i) e = both (is_unqueued_item i) true e refl
    by m e = refl

pub turn_unqueued : (sends : List (List Sending)) (lists : SlotLists) (i : Input) (st : Node) → is_no_send i ≡ true → list_all is_unqueued_item (items_of (node.turn sends lists i st)) ≡ true
turn_unqueued sends lists i st h = items_unqueued (node.turn sends lists i st) (turn_acts sends lists i st h)
