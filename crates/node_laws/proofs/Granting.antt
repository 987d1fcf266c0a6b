-- The rules of a region and of entities grant no slot.
use Rattle.std.proofs.Common.{◌≡◌, ℕ, ◌+◌, List, [], ◌∷◌, ◌++◌, map, sym, refl, true, false, true≢false}
use Rattle.std.specs.Prelude.{Bool, ◌&&◌, nat_le, nat_lt, filter, fold, Option, Some, None, is_none, slice_index_or, if◌then◌else◌}
use Rattle.std.specs.List.{list_all, flat_map}
use Rattle.std.specs.Option.{option_and_then}
use Rattle.yard_model.specs.declared.fact.Fact.TheVariants as fact
use Rattle.yard_model.specs.declared.out.Item.TheVariants as item
use Rattle.yard_model.specs.declared.input.Phase.{Phase}
use Rattle.yard_model.specs.declared.input.Phase.TheVariants as phase
use Rattle.yard_model.specs.declared.packet.Body.{Body}
use Rattle.yard_model.specs.declared.packet.Body.TheVariants as body
use Rattle.yard_model.specs.declared.packet.Message.{Message}
use Rattle.yard_model.specs.declared.packet.Record.{Record}
use Rattle.yard_model.specs.declared.incarnation.Incarnation.{Incarnation}
use Rattle.yard_model.specs.declared.incarnation.Stamp.{Stamp}
use Rattle.yard_model.specs.declared.incarnation.Keep.{Keep}
use Rattle.yard_model.specs.declared.incarnation.Keep.TheVariants as keep
use Rattle.yard_model.specs.Setting.{shards, shard_of, names_of}
use Rattle.yard_model.specs.SlotReads.{is_remembered}
use Rattle.yard_model.specs.Turns.{in_turn, for_each}
use Rattle.yard_model.specs.Words.{is_at, is_same, is_empty, is_below}
use Rattle.yard_model.specs.Move.{Move, made, marked, handed_off, passivates, told, post}
use Rattle.yard_model.specs.Region as region
use Rattle.yard_model.specs.Region.{Region}
use Rattle.yard_model.specs.Entities as entities
use Rattle.yard_model.specs.Entities.{Entities, Hosted, Stopping, entities_after}
use Rattle.plain_laws.proofs.Booleans.{both, all_map}
use Rattle.plain_laws.proofs.Lists.{all_join, all_if, all_some, all_each}
use Rattle.actor_laws.proofs.Rules.{lost_all}
use Rattle.node_laws.proofs.Holding.{grants_none}
use Rattle.node_laws.proofs.NodeCoordinator.{is_calm, Calm}

abbrev pub Grantless : List Move → Type 0
Grantless ms = list_all grants_none ms ≡ true

pub all_mapped : {X Y : Type 0} (q : X → Bool) (p : Y → X) (ys : List Y) → ((y : Y) → q (p y) ≡ true) → list_all q (map p ys) ≡ true
all_mapped q p [] h = refl
all_mapped q p (y ∷ ys) h = both (q (p y)) (list_all q (map p ys)) (h y) (all_mapped q p ys h)

-- The region.

pub oldest_grants : (b : Body) (st : Region) → Grantless (region.post_oldest b st)
oldest_grants b st = all_some grants_none (λ x. post st.who x b ∷ []) (region.oldest st) (λ x. refl)

keep_grants : (m : Message) (st : Region) → Grantless (region.keep m st)
keep_grants m st = all_if grants_none _ (told (fact.Kept st.who m) ∷ []) (told (fact.Dropped st.who m) ∷ []) refl refl

pub away_grants : (m : Message) (st : Region) → Grantless (region.route_away m st)
away_grants m st = by (region.home st (shard_of st.set m.entity))
  where
    by : (o : Option Incarnation) → Grantless (region.route_by m st o)
    by None = all_join grants_none (region.keep m st) (region.ask (shard_of st.set m.entity) st) (keep_grants m st)
        (all_if grants_none (slice_index_or st.asked (shard_of st.set m.entity) false) [] (region.post_oldest (body.GetShardHome (shard_of st.set m.entity)) st) refl (oldest_grants (body.GetShardHome (shard_of st.set m.entity)) st))
    by (Some h) = all_if grants_none (is_same h st.who) (region.keep m st) (post st.who h (body.Sequenced m) ∷ []) (keep_grants m st) refl

pub register_grants : (st : Region) → Grantless (region.register st)
register_grants st = all_some grants_none (λ x. if is_at x st.registered then [] else post st.who x body.Register ∷ []) (region.oldest st) (λ x. all_if grants_none (is_at x st.registered) [] (post st.who x body.Register ∷ []) refl refl)

forget_grants : (s : ℕ) (st : Region) → Grantless (region.forget s st)
forget_grants s st = all_if grants_none (is_none (region.home st s)) [] (told (fact.Forget st.who s) ∷ []) refl refl

pub view_grants : (v : ℕ) (xs : List Incarnation) (st : Region) → Grantless (region.take_view v xs st)
view_grants v xs st = lost_all grants_none (λ x s. refl) xs st

pub learn_grants : (s : ℕ) (h : Incarnation) (stamp : Stamp) (st : Region) → Grantless (region.learn s h stamp st)
learn_grants s h stamp st = all_if grants_none (is_at h (region.home st s)) [] (told (fact.Home st.who s h) ∷ []) refl refl

pub begin_hand_grants : (s : ℕ) (stamp : Stamp) (from : Incarnation) (st : Region) → Grantless (region.begin_hand_off s stamp from st)
begin_hand_grants s stamp from st = all_if grants_none (is_below stamp (region.mark st s)) [] _ refl
    (all_join grants_none (if is_below (region.mark st s) stamp then marked s stamp ∷ region.forget s st else []) (post st.who from (body.BeginHandOffAck s stamp) ∷ [])
    (all_if grants_none (is_below (region.mark st s) stamp) (marked s stamp ∷ region.forget s st) [] (forget_grants s st) refl) refl)

pub tick_region_grants : (st : Region) → Grantless (region.tick_region st)
tick_region_grants st =
    let a : List Move = region.register st in
    let b : List Move = if st.leaving && region.is_some_home st then region.post_oldest body.GracefulShutdownReq st else [] in
    let d : List Move = flat_map (region.ask_again st) (shards st.set) in
    all_join grants_none (a ++ b) d (all_join grants_none a b (register_grants st) (all_if grants_none (st.leaving && region.is_some_home st) (region.post_oldest body.GracefulShutdownReq st) [] (oldest_grants body.GracefulShutdownReq st) refl))
    (all_each grants_none (region.ask_again st) (shards st.set) (λ s. all_if grants_none _ (region.post_oldest (body.GetShardHome s) st) [] (oldest_grants (body.GetShardHome s) st) refl))

-- The entities.

pub remembered_grant : (s : ℕ) (st : Entities) → Grantless (entities.start_remembered s st)
remembered_grant s st = all_if grants_none st.set.config.remember (flat_map (λ e. entities.start_entity e st) (filter (λ e. is_remembered e (entities.entries st e)) (names_of st.set s))) []
    (all_each grants_none (λ e. entities.start_entity e st) (filter (λ e. is_remembered e (entities.entries st e)) (names_of st.set s)) (λ e. refl)) refl

stash_grants : (m : Message) (st : Entities) → Grantless (entities.stash_message m st)
stash_grants m st = all_if grants_none _ (told (fact.Stashed st.who m) ∷ []) (told (fact.Dropped st.who m) ∷ []) refl refl

write_grants : (m : Message) (r : Record) (pos : ℕ) (st : Entities) (o : Option Keep) → Grantless (entities.write m r pos st o)
write_grants m r pos st (Some keep.Lost) = refl
write_grants m r pos st (Some keep.Kept) = refl
write_grants m r pos st None = all_join grants_none (entities.snapshot_at m.entity r.number st) (post st.who m.origin (body.Ack m.producer m.entity pos) ∷ entities.ask_more m pos st) (all_if grants_none _ (told (fact.Snapshot m.entity r.number) ∷ []) [] refl refl)
    (all_if grants_none _ (post st.who m.origin (body.Request m.producer m.entity pos (pos + st.set.config.window)) ∷ []) [] refl refl)

deliver_at_grants : (m : Message) (pos : ℕ) (records : List Record) (st : Entities) → Grantless (entities.deliver_at m pos records st)
deliver_at_grants m pos records st = all_if grants_none (nat_le m.number pos) (post st.who m.origin (body.Ack m.producer m.entity pos) ∷ []) _ refl
    (all_if grants_none (nat_lt (pos + 1) m.number) (post st.who m.origin (body.Resend m.producer m.entity (pos + 1)) ∷ []) (entities.write m (entities.record_of m st records) (pos + 1) st (entities.cell st m.entity).armed) refl
    (write_grants m (entities.record_of m st records) (pos + 1) st (entities.cell st m.entity).armed))

pub deliver_grants : (m : Message) (st : Entities) → Grantless (entities.deliver m st)
deliver_grants m st = by (entities.cell st m.entity).phase
  where
    by : (p : Phase) → Grantless (entities.deliver_by m st p)
    by phase.Absent = refl
    by phase.Loading = stash_grants m st
    by phase.Active = deliver_at_grants m _ _ st
    by phase.Stopping = stash_grants m st

stashed_grants : (ms : List Message) (st : Entities) → Grantless (for_each entities_after entities.deliver ms st)
stashed_grants [] st = refl
stashed_grants (m ∷ ms) st = all_join grants_none (entities.deliver m st) (for_each entities_after entities.deliver ms (fold entities_after st (entities.deliver m st))) (deliver_grants m st) (stashed_grants ms (fold entities_after st (entities.deliver m st)))

-- one and then another
then_grants : (p q : Entities → List Move) (st : Entities) → ((st : Entities) → Grantless (p st)) → ((st : Entities) → Grantless (q st)) → Grantless (in_turn entities_after p q st)
then_grants p q st f g = all_join grants_none (p st) (q (fold entities_after st (p st))) (f st) (g (fold entities_after st (p st)))

pub recovered_grants : (e : List ℕ) (st : Entities) → Grantless (entities.recovered e st)
recovered_grants e st = all_if grants_none (entities.is_in_phase phase.Loading st e) (in_turn entities_after (entities.activate e) (for_each entities_after entities.deliver (entities.cell st e).stash) st) []
    (then_grants (entities.activate e) (for_each entities_after entities.deliver (entities.cell st e).stash) st (λ st. all_if grants_none _ (told (fact.Remembered e) ∷ []) [] refl refl) (stashed_grants (entities.cell st e).stash)) refl

pub ask_to_passivate_grants : (e : List ℕ) (st : Entities) → Grantless (entities.ask_to_passivate e st)
ask_to_passivate_grants e st = all_if grants_none (entities.is_in_phase phase.Active st e) (post st.who st.who (body.Passivate e) ∷ []) [] refl refl

pub arm_grants : (e : List ℕ) (k : Keep) (st : Entities) → Grantless (entities.arm e k st)
arm_grants e k st = all_if grants_none (entities.is_in_phase phase.Active st e) (told (fact.Armed e k) ∷ []) [] refl refl

pub passivate_grants : (e : List ℕ) (st : Entities) → Grantless (entities.passivate e st)
passivate_grants e st = all_if grants_none (entities.is_in_phase phase.Active st e) (passivates e ∷ post st.who st.who (body.StopEntity e) ∷ []) [] refl refl

free_grants : (s : ℕ) (st : Entities) → Grantless (entities.free_if_left s st)
free_grants s st = all_some grants_none _ (option_and_then (λ (h : Hosted). h.stopping) (entities.hosted st s)) (λ (k : Stopping). all_if grants_none (is_empty (entities.entities_of st s)) _ [] refl refl)

pub hand_off_grants : (s : ℕ) (stamp : Stamp) (from : Incarnation) (st : Entities) → Grantless (entities.hand_off s stamp from st)
hand_off_grants s stamp from st = then_grants (λ st. handed_off s stamp from ∷ map (λ e. post st.who st.who (body.StopEntity e)) (entities.entities_of st s)) (entities.free_if_left s) st
    (λ st. all_mapped grants_none (λ e. post st.who st.who (body.StopEntity e)) (entities.entities_of st s) (λ e. refl)) (free_grants s)

after_stop_grants : (e : List ℕ) (st : Entities) → Grantless (entities.after_stop e st)
after_stop_grants e st = all_if grants_none (entities.is_running st (shard_of st.set e)) _ _ (all_if grants_none (is_empty (entities.cell st e).stash) [] (entities.start_entity e st) refl refl)
    (then_grants (entities.drop_stash e) (entities.free_if_left (shard_of st.set e)) st (λ now. all_mapped grants_none (λ m. told (fact.Dropped now.who m)) (entities.cell now e).stash (λ m. refl)) (free_grants (shard_of st.set e)))

pub stop_grants : (e : List ℕ) (st : Entities) → Grantless (entities.stop e st)
stop_grants e st = all_if grants_none (entities.is_in_phase phase.Stopping st e) (in_turn entities_after (λ st. told (fact.Stop st.who e) ∷ entities.forget_passivated e st) (entities.after_stop e) st) []
    (then_grants (λ st. told (fact.Stop st.who e) ∷ entities.forget_passivated e st) (entities.after_stop e) st (λ st. all_if grants_none _ (told (fact.Forgotten e) ∷ []) [] refl refl) (after_stop_grants e)) refl

pub tick_entities_grants : (st : Entities) → Grantless (entities.tick_entities st)
tick_entities_grants st = all_each grants_none (λ s. flat_map (λ e. entities.remind_by e st (entities.cell st e).phase) (entities.entities_of st s)) (shards st.set)
    (λ s. all_each grants_none (λ e. entities.remind_by e st (entities.cell st e).phase) (entities.entities_of st s) (λ e. by e (entities.cell st e).phase))
  where
    by : (e : List ℕ) (p : Phase) → Grantless (entities.remind_by e st p)
    by e phase.Absent = refl
    by e phase.Loading = refl
    by e phase.Active = refl
    by e phase.Stopping = refl

-- The coordinator: a calm move grants none.

pub calm_grants : (v : List Incarnation) (ms : List Move) → Calm v ms → Grantless ms
calm_grants v ms h = all_map (is_calm v) grants_none (one v) ms h
  where
    one : (v : List Incarnation) (m : Move) → is_calm v m ≡ true → grants_none m ≡ true
    one v (made (item.Fact (fact.Granted s n x))) h = absurd (true≢false (sym h))
    one v m h = refl
