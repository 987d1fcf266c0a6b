-- The moves of the entities are still, but for the two by which a shard is freed: they write of the shard of the entity that they are about.
use Rattle.std.proofs.Common.{◌≡◌, ℕ, zero, suc, ◌+◌, List, [], ◌∷◌, ◌++◌, map, ap, sym, subst, ◌∙◌, refl, append_assoc, true, false}
use Rattle.std.specs.Prelude.{Bool, ◌&&◌, ◌||◌, ◌==◌, ◌/◌, ◌%◌, ◌-◌, nat_lt, nat_le, not, fold, filter, length, slice_set, slice_index_or, Option, Some, None, if◌then◌else◌}
use Rattle.std.specs.Option.{option_map, option_and_then}
use Rattle.std.specs.List.{list_all, list_any, flat_map}
use Rattle.std.proofs.lemmas.List.Sums.{fold-append}
use Rattle.yard_model.specs.declared.fact.Fact.{Fact}
use Rattle.yard_model.specs.declared.fact.Fact.TheVariants as fact
use Rattle.yard_model.specs.declared.incarnation.Cause.TheVariants as cause
use Rattle.yard_model.specs.declared.incarnation.Incarnation.{Incarnation}
use Rattle.yard_model.specs.declared.incarnation.Keep.{Keep}
use Rattle.yard_model.specs.declared.incarnation.Keep.TheVariants as keep
use Rattle.yard_model.specs.declared.incarnation.Slot.{Slot}
use Rattle.yard_model.specs.declared.incarnation.Slot.TheVariants as slot
use Rattle.yard_model.specs.declared.incarnation.Stamp.{Stamp}
use Rattle.yard_model.specs.declared.input.Phase.{Phase}
use Rattle.yard_model.specs.declared.input.Phase.TheVariants as phase
use Rattle.yard_model.specs.declared.out.Item.TheVariants as item
use Rattle.yard_model.specs.declared.packet.Body.TheVariants as body
use Rattle.yard_model.specs.declared.packet.Message.{Message}
use Rattle.yard_model.specs.declared.packet.Record.{Record}
use Rattle.yard_model.specs.Genuine.{is_brought, is_genuine, is_producer}
use Rattle.yard_model.specs.Entities.{Entities, Hosted, Stopping, entities_after, cell, hosted, entries_in, entries, entities_of, is_in_phase, is_running, start_entity, start_remembered, stash_message, record_of, snapshot_at, ask_more, write, deliver_at, deliver_by, deliver, activate, recovered, ask_to_passivate, arm, passivate, free_if_left, hand_off, forget_passivated, drop_stash, after_stop, stop, remind_by, tick_entities}
use Rattle.yard_model.specs.Move.{Move, made, took, handed_off, passivates, told, post}
use Rattle.yard_model.specs.Script.{Script, Setting, setting, is_name}
use Rattle.yard_model.specs.Setting.{shards, shard_of, names_of}
use Rattle.yard_model.specs.SlotReads.{epoch, journal, position, is_remembered}
use Rattle.yard_model.specs.Trace.{slot_of}
use Rattle.yard_model.specs.Turns.{for_each, where_some}
use Rattle.yard_model.specs.Words.{is_empty, at}
use Rattle.plain_laws.proofs.Booleans.{true_is_not_false, and_both, both, number_itself, same_name, all_map}
use Rattle.plain_laws.proofs.Lists.{none_is_not_some, some_is, all_join, all_if, all_each}
use Rattle.actor_laws.specs.EntitiesStand.{is_for, IsEntities}
use Rattle.actor_laws.proofs.EntitiesMoves.{set_stays}
use Rattle.shard_lease.specs.Meaning.{Meaning}
use Rattle.node_core.specs.Found.{asks}
use Rattle.shard_entities.specs.Settled.{frees}
use Rattle.node_core.specs.Still.{is_kept_fact, may_enter, is_still_move}
use Rattle.node_core.proofs.StillOffice.{all_posts}

-- a slot asks for itself
itself : (s : ℕ) → asks (slot.Shard s) (slot.Shard s) ≡ true
itself s = number_itself s s refl

-- What may be written of more slots.

enters_more : (may now : Slot → Bool) → ((s : Slot) → may s ≡ true → now s ≡ true) → (o : Option Slot) → may_enter may o ≡ true → may_enter now o ≡ true
enters_more may now more None h = refl
enters_more may now more (Some s) h = more s h

one_more : (c : Script) (m : Meaning) (may now : Slot → Bool) → ((s : Slot) → may s ≡ true → now s ≡ true) → (x : Move) → is_still_move m c may x ≡ true → is_still_move m c now x ≡ true
one_more c m may now more (made (item.Fact f)) h =
    let parts : (is_kept_fact m f ≡ true) × (may_enter may (slot_of (setting c) f) ≡ true) = and_both (is_kept_fact m f) (may_enter may (slot_of (setting c) f)) h in
    both (is_kept_fact m f) (may_enter now (slot_of (setting c) f)) parts.0 (enters_more may now more (slot_of (setting c) f) parts.1)
one_more c m may now more (took s list) h = h
one_more c m may now more x h = refl

pub still_more : (c : Script) (m : Meaning) (may now : Slot → Bool) → ((s : Slot) → may s ≡ true → now s ≡ true) → (ms : List Move) → list_all (is_still_move m c may) ms ≡ true → list_all (is_still_move m c now) ms ≡ true
still_more c m may now more ms h = all_map (is_still_move m c may) (is_still_move m c now) (one_more c m may now more) ms h

-- Which moves free a slot: none that is still.

one_frees : (c : Script) (m : Meaning) (may : Slot → Bool) (x : Move) → is_still_move m c may x ≡ true → frees x ≡ false
one_frees c m may (made (item.Fact (fact.Freed s n why))) h = absurd (true_is_not_false (sym h))
one_frees c m may x h = refl

pub frees_nothing : (c : Script) (m : Meaning) (may : Slot → Bool) (ms : List Move) → list_all (is_still_move m c may) ms ≡ true → list_any frees ms ≡ false
frees_nothing c m may [] h = refl
frees_nothing c m may (x ∷ ms) h =
    let parts : (is_still_move m c may x ≡ true) × (list_all (is_still_move m c may) ms ≡ true) = and_both (is_still_move m c may x) (list_all (is_still_move m c may) ms) h in
    ap (λ b. b || list_any frees ms) (one_frees c m may x parts.0) ∙ frees_nothing c m may ms parts.1

-- what comes after still moves tells whether something is freed
pub frees_later : (c : Script) (m : Meaning) (may : Slot → Bool) (ms more : List Move) → list_all (is_still_move m c may) ms ≡ true → list_any frees (ms ++ more) ≡ list_any frees more
frees_later c m may [] more h = refl
frees_later c m may (x ∷ ms) more h =
    let parts : (is_still_move m c may x ≡ true) × (list_all (is_still_move m c may) ms ≡ true) = and_both (is_still_move m c may x) (list_all (is_still_move m c may) ms) h in
    ap (λ b. b || list_any frees (ms ++ more)) (one_frees c m may x parts.0) ∙ frees_later c m may ms more parts.1

-- Rules that write of no shard.

pub passivate_still : (c : Script) (m : Meaning) (may : Slot → Bool) (e : List ℕ) (st : Entities) → list_all (is_still_move m c may) (passivate e st) ≡ true
passivate_still c m may e st = all_if (is_still_move m c may) (is_in_phase phase.Active st e) (passivates e ∷ post st.who st.who (body.StopEntity e) ∷ []) [] refl refl

pub asks_still : (c : Script) (m : Meaning) (may : Slot → Bool) (e : List ℕ) (st : Entities) → list_all (is_still_move m c may) (ask_to_passivate e st) ≡ true
asks_still c m may e st = all_if (is_still_move m c may) (is_in_phase phase.Active st e) (post st.who st.who (body.Passivate e) ∷ []) [] refl refl

pub arm_still : (c : Script) (m : Meaning) (may : Slot → Bool) (e : List ℕ) (k : Keep) (st : Entities) → list_all (is_still_move m c may) (arm e k st) ≡ true
arm_still c m may e k st = all_if (is_still_move m c may) (is_in_phase phase.Active st e) (told (fact.Armed e k) ∷ []) [] refl refl

pub start_still : (c : Script) (m : Meaning) (may : Slot → Bool) (e : List ℕ) (st : Entities) → list_all (is_still_move m c may) (start_entity e st) ≡ true
start_still c m may e st = refl

pub remembered_still : (c : Script) (m : Meaning) (may : Slot → Bool) (s : ℕ) (st : Entities) → list_all (is_still_move m c may) (start_remembered s st) ≡ true
remembered_still c m may s st =
    let es : List (List ℕ) = filter (λ e. is_remembered e (entries st e)) (names_of st.set s) in
    all_if (is_still_move m c may) st.set.config.remember (flat_map (λ e. start_entity e st) es) [] (all_each (is_still_move m c may) (λ e. start_entity e st) es (λ e. refl)) refl

pub drop_still : (c : Script) (m : Meaning) (may : Slot → Bool) (e : List ℕ) (st : Entities) → list_all (is_still_move m c may) (drop_stash e st) ≡ true
drop_still c m may e st = all_posts (is_still_move m c may) (λ x. told (fact.Dropped st.who x)) (λ x. refl) (cell st e).stash

remind_still : (c : Script) (m : Meaning) (may : Slot → Bool) (e : List ℕ) (st : Entities) (p : Phase) → list_all (is_still_move m c may) (remind_by e st p) ≡ true
remind_still c m may e st phase.Loading = refl
remind_still c m may e st phase.Stopping = refl
remind_still c m may e st p = refl

pub tick_still : (c : Script) (m : Meaning) (may : Slot → Bool) (st : Entities) → list_all (is_still_move m c may) (tick_entities st) ≡ true
tick_still c m may st = all_each (is_still_move m c may) (λ s. flat_map (λ e. remind_by e st (cell st e).phase) (entities_of st s)) (shards st.set)
    (λ s. all_each (is_still_move m c may) (λ e. remind_by e st (cell st e).phase) (entities_of st s) (λ e. remind_still c m may e st (cell st e).phase))

-- Deliver.

snapshot_still : (c : Script) (m : Meaning) (may : Slot → Bool) (e : List ℕ) (n : ℕ) (st : Entities) → may (slot.Shard (shard_of (setting c) e)) ≡ true → list_all (is_still_move m c may) (snapshot_at e n st) ≡ true
snapshot_still c m may e n st own = all_if (is_still_move m c may) (n % st.set.config.snapshot == 0) (told (fact.Snapshot e n) ∷ []) [] (both (may (slot.Shard (shard_of (setting c) e))) true own refl) refl

ask_still : (c : Script) (m : Meaning) (may : Slot → Bool) (x : Message) (pos : ℕ) (st : Entities) → list_all (is_still_move m c may) (ask_more x pos st) ≡ true
ask_still c m may x pos st = all_if (is_still_move m c may) (nat_le (slice_index_or (cell st x.entity).reach (x.producer - 1) 0) (pos + st.set.config.window / 2)) (post st.who x.origin (body.Request x.producer x.entity pos (pos + st.set.config.window)) ∷ []) [] refl refl

write_still : (c : Script) (m : Meaning) (may : Slot → Bool) (x : Message) (r : Record) (pos : ℕ) (st : Entities) (o : Option Keep) → may (slot.Shard (shard_of (setting c) x.entity)) ≡ true → list_all (is_still_move m c may) (write x r pos st o) ≡ true
write_still c m may x r pos st (Some keep.Lost) own = refl
write_still c m may x r pos st (Some keep.Kept) own = both (may (slot.Shard (shard_of (setting c) x.entity))) true own refl
write_still c m may x r pos st None own =
    all_join (is_still_move m c may) (told (fact.Wrote x.entity r) ∷ snapshot_at x.entity r.number st) (post st.who x.origin (body.Ack x.producer x.entity pos) ∷ ask_more x pos st)
    (both (may (slot.Shard (shard_of (setting c) x.entity))) (list_all (is_still_move m c may) (snapshot_at x.entity r.number st)) own (snapshot_still c m may x.entity r.number st own))
    (ask_still c m may x pos st)

at_still : (c : Script) (m : Meaning) (may : Slot → Bool) (x : Message) (pos : ℕ) (records : List Record) (st : Entities) → may (slot.Shard (shard_of (setting c) x.entity)) ≡ true → list_all (is_still_move m c may) (deliver_at x pos records st) ≡ true
at_still c m may x pos records st own =
    let next : List Move = write x (record_of x st records) (pos + 1) st (cell st x.entity).armed in
    all_if (is_still_move m c may) (nat_le x.number pos) (post st.who x.origin (body.Ack x.producer x.entity pos) ∷ []) (if nat_lt (pos + 1) x.number then post st.who x.origin (body.Resend x.producer x.entity (pos + 1)) ∷ [] else next)
    refl
    (all_if (is_still_move m c may) (nat_lt (pos + 1) x.number) (post st.who x.origin (body.Resend x.producer x.entity (pos + 1)) ∷ []) next refl (write_still c m may x (record_of x st records) (pos + 1) st (cell st x.entity).armed own))

stash_still : (c : Script) (m : Meaning) (may : Slot → Bool) (x : Message) (st : Entities) → list_all (is_still_move m c may) (stash_message x st) ≡ true
stash_still c m may x st = all_if (is_still_move m c may) (nat_lt (length (cell st x.entity).stash) st.set.config.window) (told (fact.Stashed st.who x) ∷ []) (told (fact.Dropped st.who x) ∷ []) refl refl

by_still : (c : Script) (m : Meaning) (may : Slot → Bool) (x : Message) (st : Entities) (p : Phase) → may (slot.Shard (shard_of (setting c) x.entity)) ≡ true → list_all (is_still_move m c may) (deliver_by x st p) ≡ true
by_still c m may x st phase.Absent own = refl
by_still c m may x st phase.Active own = at_still c m may x (position x.producer (journal x.entity (entries st x.entity))) (journal x.entity (entries st x.entity)) st own
by_still c m may x st p own = stash_still c m may x st

-- of any slots among which is the shard of the message's entity
pub deliver_within : (c : Script) (m : Meaning) (may : Slot → Bool) (x : Message) (st : Entities) → may (slot.Shard (shard_of (setting c) x.entity)) ≡ true → list_all (is_still_move m c may) (deliver x st) ≡ true
deliver_within c m may x st own = by_still c m may x st (cell st x.entity).phase own

pub deliver_still : (c : Script) (m : Meaning) (x : Message) (st : Entities) → list_all (is_still_move m c (asks (slot.Shard (shard_of (setting c) x.entity)))) (deliver x st) ≡ true
deliver_still c m x st = deliver_within c m (asks (slot.Shard (shard_of (setting c) x.entity))) x st (itself (shard_of (setting c) x.entity))

-- Recovery.

all_delivered : (c : Script) (m : Meaning) (may : Slot → Bool) (e : List ℕ) → may (slot.Shard (shard_of (setting c) e)) ≡ true → (xs : List Message) (st : Entities) → list_all (λ x. is_name x.entity e) xs ≡ true
    → list_all (is_still_move m c may) (for_each entities_after deliver xs st) ≡ true
all_delivered c m may e own [] st h = refl
all_delivered c m may e own (x ∷ xs) st h =
    let parts : (is_name x.entity e ≡ true) × (list_all (λ (y : Message). is_name y.entity e) xs ≡ true) = and_both (is_name x.entity e) (list_all (λ (y : Message). is_name y.entity e) xs) h in
    all_join (is_still_move m c may) (deliver x st) (for_each entities_after deliver xs (fold entities_after st (deliver x st)))
    (deliver_within c m may x st (ap (λ n. may (slot.Shard (shard_of (setting c) n))) (same_name x.entity e parts.0) ∙ own))
    (all_delivered c m may e own xs (fold entities_after st (deliver x st)) parts.1)

activate_still : (c : Script) (m : Meaning) (may : Slot → Bool) (e : List ℕ) (st : Entities) → may (slot.Shard (shard_of (setting c) e)) ≡ true → list_all (is_still_move m c may) (activate e st) ≡ true
activate_still c m may e st own = all_if (is_still_move m c may) (st.set.config.remember && not (is_remembered e (entries st e))) (told (fact.Remembered e) ∷ []) [] (both (may (slot.Shard (shard_of (setting c) e))) true own refl) refl

-- what is stashed for an entity is for it
pub recovered_within : (c : Script) (m : Meaning) (may : Slot → Bool) (e : List ℕ) (st : Entities) → may (slot.Shard (shard_of (setting c) e)) ≡ true → list_all (λ x. is_name x.entity e) (cell st e).stash ≡ true → list_all (is_still_move m c may) (recovered e st) ≡ true
recovered_within c m may e st own stashed =
    let later : Entities = fold entities_after st (activate e st) in
    all_if (is_still_move m c may) (is_in_phase phase.Loading st e) (activate e st ++ for_each entities_after deliver (cell st e).stash later) []
    (all_join (is_still_move m c may) (activate e st) (for_each entities_after deliver (cell st e).stash later) (activate_still c m may e st own) (all_delivered c m may e own (cell st e).stash later stashed))
    refl

pub recovered_still : (c : Script) (m : Meaning) (e : List ℕ) (st : Entities) → list_all (λ x. is_name x.entity e) (cell st e).stash ≡ true → list_all (is_still_move m c (asks (slot.Shard (shard_of (setting c) e)))) (recovered e st) ≡ true
recovered_still c m e st stashed = recovered_within c m (asks (slot.Shard (shard_of (setting c) e))) e st (itself (shard_of (setting c) e)) stashed

-- so it is of entities that stand
pub stashed_for : (c : Script) (e : List ℕ) (st : Entities) → IsEntities c st → is_brought c e ≡ true → list_all (λ x. is_name x.entity e) (cell st e).stash ≡ true
stashed_for c e st is brought = all_map (is_for c e) (λ x. is_name x.entity e) (λ x h. (and_both (is_genuine c x && is_producer c x.producer) (is_name x.entity e) h).1) (cell st e).stash (is.stashed e brought)

-- Stopping.

-- the first moves of a stop
abbrev pub stop_first : List ℕ → Entities → List Move
stop_first e st = told (fact.Stop st.who e) ∷ forget_passivated e st

-- the first moves of a hand off
abbrev pub hand_first : ℕ → Stamp → Incarnation → Entities → List Move
hand_first s stamp from st = handed_off s stamp from ∷ map (λ e. post st.who st.who (body.StopEntity e)) (entities_of st s)

-- the two moves by which a shard is freed
abbrev pub freed_moves : ℕ → Stopping → Entities → List Move
freed_moves s k st = told (fact.Freed (slot.Shard s) (epoch (entries_in (hosted st s))) cause.Released) ∷ post st.who k.to (body.ShardStopped s k.stamp) ∷ []

-- how a shard stops, if it does
abbrev pub stopping_at : Entities → ℕ → Option Stopping
stopping_at st s = option_and_then (λ h. h.stopping) (hosted st s)

pub forgotten_within : (c : Script) (m : Meaning) (may : Slot → Bool) (e : List ℕ) (st : Entities) → may (slot.Shard (shard_of (setting c) e)) ≡ true → list_all (is_still_move m c may) (stop_first e st) ≡ true
forgotten_within c m may e st own = all_if (is_still_move m c may) ((cell st e).passivating && is_remembered e (entries st e)) (told (fact.Forgotten e) ∷ []) [] (both (may (slot.Shard (shard_of (setting c) e))) true own refl) refl

pub forgotten_still : (c : Script) (m : Meaning) (e : List ℕ) (st : Entities) → list_all (is_still_move m c (asks (slot.Shard (shard_of (setting c) e)))) (told (fact.Stop st.who e) ∷ forget_passivated e st) ≡ true
forgotten_still c m e st = forgotten_within c m (asks (slot.Shard (shard_of (setting c) e))) e st (itself (shard_of (setting c) e))

pub handed_still : (c : Script) (m : Meaning) (may : Slot → Bool) (s : ℕ) (stamp : Stamp) (from : Incarnation) (st : Entities) → list_all (is_still_move m c may) (handed_off s stamp from ∷ map (λ e. post st.who st.who (body.StopEntity e)) (entities_of st s)) ≡ true
handed_still c m may s stamp from st = all_posts (is_still_move m c may) (λ e. post st.who st.who (body.StopEntity e)) (λ e. refl) (entities_of st s)

-- How the rules are put together.

pub hand_off_is : (s : ℕ) (stamp : Stamp) (from : Incarnation) (st : Entities) → hand_off s stamp from st ≡ hand_first s stamp from st ++ free_if_left s (fold entities_after st (hand_first s stamp from st))
hand_off_is s stamp from st = refl

pub stop_is : (e : List ℕ) (st : Entities) → is_in_phase phase.Stopping st e ≡ true → stop e st ≡ stop_first e st ++ after_stop e (fold entities_after st (stop_first e st))
stop_is e st h = ap (λ b. if b then stop_first e st ++ after_stop e (fold entities_after st (stop_first e st)) else []) h

pub stop_is_nothing : (e : List ℕ) (st : Entities) → is_in_phase phase.Stopping st e ≡ false → stop e st ≡ []
stop_is_nothing e st h = ap (λ b. if b then stop_first e st ++ after_stop e (fold entities_after st (stop_first e st)) else []) h

-- where the shard is Running the entity starts again, if something is stashed
pub after_running : (e : List ℕ) (st : Entities) → is_running st (shard_of st.set e) ≡ true → after_stop e st ≡ (if is_empty (cell st e).stash then [] else start_entity e st)
after_running e st h = ap (λ b. if b then (if is_empty (cell st e).stash then [] else start_entity e st) else drop_stash e st ++ free_if_left (shard_of st.set e) (fold entities_after st (drop_stash e st))) h

-- else what is stashed is dropped, and the shard is freed if nothing is left
pub after_ending : (e : List ℕ) (st : Entities) → is_running st (shard_of st.set e) ≡ false → after_stop e st ≡ drop_stash e st ++ free_if_left (shard_of st.set e) (fold entities_after st (drop_stash e st))
after_ending e st h = ap (λ b. if b then (if is_empty (cell st e).stash then [] else start_entity e st) else drop_stash e st ++ free_if_left (shard_of st.set e) (fold entities_after st (drop_stash e st))) h

-- What frees a shard.

-- it stops so, no entity is left, and these are the moves that free it
pub record IsFreed (s : ℕ) (st : Entities) (ms : List Move) : Type 0 where
  pub kept : Stopping
  pub kept_is : stopping_at st s ≡ Some kept
  pub none_left : is_empty (entities_of st s) ≡ true
  pub moves_are : ms ≡ freed_moves s kept st

if_freed : (b : Bool) (xs : List Move) → list_any frees (if b then xs else []) ≡ true → b ≡ true
if_freed true xs h = refl
if_freed false xs h = absurd (true_is_not_false (sym h))

pub freed_is : (s : ℕ) (st : Entities) → list_any frees (free_if_left s st) ≡ true → IsFreed s st (free_if_left s st)
freed_is s st h = by (stopping_at st s) refl
  where
    by : (o : Option Stopping) → stopping_at st s ≡ o → IsFreed s st (free_if_left s st)
    by None e = absurd (true_is_not_false (sym h ∙ ap (λ p. list_any frees (where_some (λ k. if is_empty (entities_of st s) then freed_moves s k st else []) p)) e))
    by (Some k) e =
        let same : free_if_left s st ≡ (if is_empty (entities_of st s) then freed_moves s k st else []) = ap (where_some (λ k. if is_empty (entities_of st s) then freed_moves s k st else [])) e in
        let left : is_empty (entities_of st s) ≡ true = if_freed (is_empty (entities_of st s)) (freed_moves s k st) (sym (ap (list_any frees) same) ∙ h) in
        record { kept = k; kept_is = e; none_left = left; moves_are = same ∙ ap (λ b. if b then freed_moves s k st else []) left }

pub not_freed : (s : ℕ) (st : Entities) → list_any frees (free_if_left s st) ≡ false → free_if_left s st ≡ []
not_freed s st h = by (stopping_at st s) (is_empty (entities_of st s)) h
  where
    by : (o : Option Stopping) (b : Bool) → list_any frees (where_some (λ k. if b then freed_moves s k st else []) o) ≡ false → where_some (λ k. if b then freed_moves s k st else []) o ≡ []
    by None b h = refl
    by (Some k) true h = absurd (true_is_not_false h)
    by (Some k) false h = refl

-- moves that end by freeing this shard; those before are still
pub record Ends (c : Script) (m : Meaning) (may : Slot → Bool) (s : ℕ) (st : Entities) (before ms : List Move) : Type 0 where
  pub still : list_all (is_still_move m c may) before ≡ true
  pub freed : IsFreed s (fold entities_after st before) (free_if_left s (fold entities_after st before))
  pub moves_are : ms ≡ before ++ freed_moves s freed.kept (fold entities_after st before)

-- What is kept of how a shard stops, through moves that don't change it.

-- it takes, frees and hands off nothing
abbrev pub is_apart : Move → Bool
is_apart (made (item.Fact (fact.Freed s n why))) = false
is_apart (took s list) = false
is_apart (handed_off s stamp to) = false
is_apart x = true

same_stopping : (old : List (Option Hosted)) (t s : ℕ) (v : Hosted → Hosted) → ((x : Hosted) → (v x).stopping ≡ x.stopping)
    → option_and_then (λ (h : Hosted). h.stopping) (at (slice_set old t (option_map v (at old t))) s) ≡ option_and_then (λ (h : Hosted). h.stopping) (at old s)
same_stopping [] t s v h = refl
same_stopping (x ∷ xs) zero zero v h = by x
  where
    by : (o : Option Hosted) → option_and_then (λ (h : Hosted). h.stopping) (option_map v o) ≡ option_and_then (λ (h : Hosted). h.stopping) o
    by None = refl
    by (Some y) = h y
same_stopping (x ∷ xs) zero (suc s) v h = refl
same_stopping (x ∷ xs) (suc t) zero v h = refl
same_stopping (x ∷ xs) (suc t) (suc s) v h = same_stopping xs t s v h

abbrev with_entry : Fact → Hosted → Hosted
with_entry f h = record { entries = h.entries ++ f ∷ []; stopping = h.stopping }

one_stopping : (st : Entities) (x : Move) (s : ℕ) → is_apart x ≡ true → stopping_at (entities_after st x) s ≡ stopping_at st s
one_stopping st (made (item.Fact (fact.Freed (slot.Shard t) n why))) s h = absurd (true_is_not_false (sym h))
one_stopping st (made (item.Fact (fact.Wrote e r))) s h = same_stopping st.hosted (shard_of st.set e) s (with_entry (fact.Wrote e r)) (λ x. refl)
one_stopping st (made (item.Fact (fact.Snapshot e n))) s h = same_stopping st.hosted (shard_of st.set e) s (with_entry (fact.Snapshot e n)) (λ x. refl)
one_stopping st (made (item.Fact (fact.Remembered e))) s h = same_stopping st.hosted (shard_of st.set e) s (with_entry (fact.Remembered e)) (λ x. refl)
one_stopping st (made (item.Fact (fact.Forgotten e))) s h = same_stopping st.hosted (shard_of st.set e) s (with_entry (fact.Forgotten e)) (λ x. refl)
one_stopping st (took (slot.Shard t) list) s h = absurd (true_is_not_false (sym h))
one_stopping st (handed_off t stamp to) s h = absurd (true_is_not_false (sym h))
one_stopping st x s h = refl

pub stopping_stays : (st : Entities) (ms : List Move) (s : ℕ) → list_all is_apart ms ≡ true → stopping_at (fold entities_after st ms) s ≡ stopping_at st s
stopping_stays st [] s h = refl
stopping_stays st (x ∷ ms) s h =
    let parts : (is_apart x ≡ true) × (list_all is_apart ms ≡ true) = and_both (is_apart x) (list_all is_apart ms) h in
    stopping_stays (entities_after st x) ms s parts.1 ∙ one_stopping st x s parts.0

stop_apart : (e : List ℕ) (st : Entities) → list_all is_apart (stop_first e st) ≡ true
stop_apart e st = all_if is_apart ((cell st e).passivating && is_remembered e (entries st e)) (told (fact.Forgotten e) ∷ []) [] refl refl

drop_apart : (e : List ℕ) (st : Entities) → list_all is_apart (drop_stash e st) ≡ true
drop_apart e st = all_posts is_apart (λ x. told (fact.Dropped st.who x)) (λ x. refl) (cell st e).stash

posts_apart : (who : Incarnation) (es : List (List ℕ)) → list_all is_apart (map (λ e. post who who (body.StopEntity e)) es) ≡ true
posts_apart who es = all_posts is_apart (λ e. post who who (body.StopEntity e)) (λ e. refl) es

handed_stops : (old : List (Option Hosted)) (s : ℕ) (v : Hosted → Hosted) (j k : Stopping) → ((x : Hosted) → (v x).stopping ≡ Some j) → option_and_then (λ (h : Hosted). h.stopping) (at (slice_set old s (option_map v (at old s))) s) ≡ Some k → k ≡ j
handed_stops [] s v j k h e = absurd (none_is_not_some k e)
handed_stops (None ∷ xs) zero v j k h e = absurd (none_is_not_some k e)
handed_stops (Some x ∷ xs) zero v j k h e = some_is k j (sym e ∙ h x)
handed_stops (x ∷ xs) (suc s) v j k h e = handed_stops xs s v j k h e

-- what is dropped leaves the shards as they are
pub drop_leaves : (who : Incarnation) (xs : List Message) (st : Entities) → (fold entities_after st (map (λ x. told (fact.Dropped who x)) xs)).hosted ≡ st.hosted
drop_leaves who [] st = refl
drop_leaves who (x ∷ xs) st = drop_leaves who xs (entities_after st (told (fact.Dropped who x)))

-- Handing off, as a whole.

pub hand_off_stays : (c : Script) (m : Meaning) (may : Slot → Bool) (s : ℕ) (stamp : Stamp) (from : Incarnation) (st : Entities) → list_any frees (hand_off s stamp from st) ≡ false → list_all (is_still_move m c may) (hand_off s stamp from st) ≡ true
hand_off_stays c m may s stamp from st h =
    let first : list_all (is_still_move m c may) (hand_first s stamp from st) ≡ true = handed_still c m may s stamp from st in
    let later : Entities = fold entities_after st (hand_first s stamp from st) in
    let none : free_if_left s later ≡ [] = not_freed s later (sym (frees_later c m may (hand_first s stamp from st) (free_if_left s later) first) ∙ h) in
    all_join (is_still_move m c may) (hand_first s stamp from st) (free_if_left s later) first (ap (list_all (is_still_move m c may)) none)

pub hand_off_ends : (c : Script) (m : Meaning) (may : Slot → Bool) (s : ℕ) (stamp : Stamp) (from : Incarnation) (st : Entities) → list_any frees (hand_off s stamp from st) ≡ true → Ends c m may s st (hand_first s stamp from st) (hand_off s stamp from st)
hand_off_ends c m may s stamp from st h =
    let first : list_all (is_still_move m c may) (hand_first s stamp from st) ≡ true = handed_still c m may s stamp from st in
    let later : Entities = fold entities_after st (hand_first s stamp from st) in
    let is : IsFreed s later (free_if_left s later) = freed_is s later (sym (frees_later c m may (hand_first s stamp from st) (free_if_left s later) first) ∙ h) in
    record { still = first; freed = is; moves_are = ap (λ l. hand_first s stamp from st ++ l) is.moves_are }

-- it is answered with the stamp that came, to whom it came from
pub hand_off_kept : (s : ℕ) (stamp : Stamp) (from : Incarnation) (st : Entities) (k : Stopping) → stopping_at (fold entities_after st (hand_first s stamp from st)) s ≡ Some k → k ≡ record { stamp = stamp; to = from }
hand_off_kept s stamp from st k h = handed_stops st.hosted s (λ x. record { entries = x.entries; stopping = Some (record { stamp = stamp; to = from }) }) (record { stamp = stamp; to = from }) k (λ x. refl)
    (sym (stopping_stays (entities_after st (handed_off s stamp from)) (map (λ e. post st.who st.who (body.StopEntity e)) (entities_of st s)) s (posts_apart st.who (entities_of st s))) ∙ h)

posts_leave : (who : Incarnation) (es : List (List ℕ)) (st : Entities) → (fold entities_after st (map (λ e. post who who (body.StopEntity e)) es)).hosted ≡ st.hosted
posts_leave who [] st = refl
posts_leave who (e ∷ es) st = posts_leave who es (entities_after st (post who who (body.StopEntity e)))

same_entries : (old : List (Option Hosted)) (s : ℕ) (v : Hosted → Hosted) → ((x : Hosted) → (v x).entries ≡ x.entries) → entries_in (at (slice_set old s (option_map v (at old s))) s) ≡ entries_in (at old s)
same_entries [] s v h = refl
same_entries (None ∷ xs) zero v h = refl
same_entries (Some x ∷ xs) zero v h = h x
same_entries (x ∷ xs) (suc s) v h = same_entries xs s v h

-- its list is what it was
pub hand_off_entries : (s : ℕ) (stamp : Stamp) (from : Incarnation) (st : Entities) → entries_in (hosted (fold entities_after st (hand_first s stamp from st)) s) ≡ entries_in (hosted st s)
hand_off_entries s stamp from st = ap (λ l. entries_in (at l s)) (posts_leave st.who (entities_of st s) (entities_after st (handed_off s stamp from)))
    ∙ same_entries st.hosted s (λ x. record { entries = x.entries; stopping = Some (record { stamp = stamp; to = from }) }) (λ x. refl)

-- A stop, as a whole.

-- its moves before it is told whether the shard is freed, where the shard stops
abbrev pub stop_before : List ℕ → Entities → List Move
stop_before e st = stop_first e st ++ drop_stash e (fold entities_after st (stop_first e st))

before_still : (c : Script) (m : Meaning) (may : Slot → Bool) (e : List ℕ) (st : Entities) → may (slot.Shard (shard_of (setting c) e)) ≡ true → list_all (is_still_move m c may) (stop_before e st) ≡ true
before_still c m may e st own = all_join (is_still_move m c may) (stop_first e st) (drop_stash e (fold entities_after st (stop_first e st))) (forgotten_within c m may e st own) (drop_still c m may e (fold entities_after st (stop_first e st)))

ending : (e : List ℕ) (st : Entities) → is_in_phase phase.Stopping st e ≡ true → is_running (fold entities_after st (stop_first e st)) (shard_of (fold entities_after st (stop_first e st)).set e) ≡ false
    → stop e st ≡ stop_before e st ++ free_if_left (shard_of st.set e) (fold entities_after st (stop_before e st))
ending e st h r =
    let mid : Entities = fold entities_after st (stop_first e st) in
    let same : free_if_left (shard_of mid.set e) (fold entities_after mid (drop_stash e mid)) ≡ free_if_left (shard_of st.set e) (fold entities_after st (stop_before e st)) =
    ap (λ (t : Setting). free_if_left (shard_of t e) (fold entities_after mid (drop_stash e mid))) (set_stays st (stop_first e st)) ∙ ap (free_if_left (shard_of st.set e)) (sym (fold-append entities_after st (stop_first e st) (drop_stash e mid))) in
    stop_is e st h ∙ (ap (λ l. stop_first e st ++ l) (after_ending e mid r ∙ ap (λ l. drop_stash e mid ++ l) same)
    ∙ sym (append_assoc (stop_first e st) (drop_stash e mid) (free_if_left (shard_of st.set e) (fold entities_after st (stop_before e st)))))

restarting : (c : Script) (m : Meaning) (may : Slot → Bool) (e : List ℕ) (st : Entities) → may (slot.Shard (shard_of (setting c) e)) ≡ true → is_in_phase phase.Stopping st e ≡ true
    → is_running (fold entities_after st (stop_first e st)) (shard_of (fold entities_after st (stop_first e st)).set e) ≡ true → list_all (is_still_move m c may) (stop e st) ≡ true
restarting c m may e st own h r =
    let mid : Entities = fold entities_after st (stop_first e st) in
    ap (list_all (is_still_move m c may)) (stop_is e st h)
    ∙ all_join (is_still_move m c may) (stop_first e st) (after_stop e mid) (forgotten_within c m may e st own)
    (ap (list_all (is_still_move m c may)) (after_running e mid r) ∙ all_if (is_still_move m c may) (is_empty (cell mid e).stash) [] (start_entity e mid) refl refl)

-- all of a stop is still; or it is as for a shard that stops
stop_ways : (P : Type 0) (c : Script) (m : Meaning) (may : Slot → Bool) (e : List ℕ) (st : Entities) → may (slot.Shard (shard_of (setting c) e)) ≡ true
    → (list_all (is_still_move m c may) (stop e st) ≡ true → P)
    → (stop e st ≡ stop_before e st ++ free_if_left (shard_of st.set e) (fold entities_after st (stop_before e st)) → P) → P
stop_ways P c m may e st own still ends = by (is_in_phase phase.Stopping st e) (is_running (fold entities_after st (stop_first e st)) (shard_of (fold entities_after st (stop_first e st)).set e)) refl refl
  where
    by : (a b : Bool) → is_in_phase phase.Stopping st e ≡ a → is_running (fold entities_after st (stop_first e st)) (shard_of (fold entities_after st (stop_first e st)).set e) ≡ b → P
    by false b h r = still (ap (list_all (is_still_move m c may)) (stop_is_nothing e st h))
    by true true h r = still (restarting c m may e st own h r)
    by true false h r = ends (ending e st h r)

pub stop_within : (c : Script) (m : Meaning) (may : Slot → Bool) (e : List ℕ) (st : Entities) → may (slot.Shard (shard_of (setting c) e)) ≡ true → list_any frees (stop e st) ≡ false → list_all (is_still_move m c may) (stop e st) ≡ true
stop_within c m may e st own h = stop_ways (list_all (is_still_move m c may) (stop e st) ≡ true) c m may e st own (λ all. all) (λ is.
    let later : Entities = fold entities_after st (stop_before e st) in
    let first : list_all (is_still_move m c may) (stop_before e st) ≡ true = before_still c m may e st own in
    let none : free_if_left (shard_of st.set e) later ≡ [] = not_freed (shard_of st.set e) later (sym (ap (list_any frees) is ∙ frees_later c m may (stop_before e st) (free_if_left (shard_of st.set e) later) first) ∙ h) in
    ap (list_all (is_still_move m c may)) is ∙ all_join (is_still_move m c may) (stop_before e st) (free_if_left (shard_of st.set e) later) first (ap (list_all (is_still_move m c may)) none))

-- a stop that frees nothing is still
pub stop_stays : (c : Script) (m : Meaning) (e : List ℕ) (st : Entities) → list_any frees (stop e st) ≡ false → list_all (is_still_move m c (asks (slot.Shard (shard_of (setting c) e)))) (stop e st) ≡ true
stop_stays c m e st h = stop_within c m (asks (slot.Shard (shard_of (setting c) e))) e st (itself (shard_of (setting c) e)) h

pub stop_ends_within : (c : Script) (m : Meaning) (may : Slot → Bool) (e : List ℕ) (st : Entities) → may (slot.Shard (shard_of (setting c) e)) ≡ true → list_any frees (stop e st) ≡ true → Ends c m may (shard_of st.set e) st (stop_before e st) (stop e st)
stop_ends_within c m may e st own h = stop_ways (Ends c m may (shard_of st.set e) st (stop_before e st) (stop e st)) c m may e st own
    (λ all. absurd (true_is_not_false (sym h ∙ frees_nothing c m may (stop e st) all)))
    (λ is.
    let later : Entities = fold entities_after st (stop_before e st) in
    let first : list_all (is_still_move m c may) (stop_before e st) ≡ true = before_still c m may e st own in
    let freed : IsFreed (shard_of st.set e) later (free_if_left (shard_of st.set e) later) = freed_is (shard_of st.set e) later (sym (ap (list_any frees) is ∙ frees_later c m may (stop_before e st) (free_if_left (shard_of st.set e) later) first) ∙ h) in
    record { still = first; freed = freed; moves_are = is ∙ ap (λ l. stop_before e st ++ l) freed.moves_are })

-- a stop that frees the shard: the entity stops, what is stashed is dropped, and the shard is freed
pub stop_ends : (c : Script) (m : Meaning) (e : List ℕ) (st : Entities) → st.set ≡ setting c → list_any frees (stop e st) ≡ true → Ends c m (asks (slot.Shard (shard_of (setting c) e))) (shard_of (setting c) e) st (stop_before e st) (stop e st)
stop_ends c m e st same h = subst (λ (t : Setting). Ends c m (asks (slot.Shard (shard_of (setting c) e))) (shard_of t e) st (stop_before e st) (stop e st)) same
    (stop_ends_within c m (asks (slot.Shard (shard_of (setting c) e))) e st (itself (shard_of (setting c) e)) h)

-- how the shard stops was so before
pub stop_kept : (e : List ℕ) (st : Entities) (s : ℕ) → stopping_at (fold entities_after st (stop_before e st)) s ≡ stopping_at st s
stop_kept e st s = stopping_stays st (stop_before e st) s (all_join is_apart (stop_first e st) (drop_stash e (fold entities_after st (stop_first e st))) (stop_apart e st) (drop_apart e (fold entities_after st (stop_first e st))))

-- and its list is that after the entity stopped
pub stop_hosted : (e : List ℕ) (st : Entities) → (fold entities_after st (stop_before e st)).hosted ≡ (fold entities_after st (stop_first e st)).hosted
stop_hosted e st =
    let mid : Entities = fold entities_after st (stop_first e st) in
    ap (λ (z : Entities). z.hosted) (fold-append entities_after st (stop_first e st) (drop_stash e mid)) ∙ drop_leaves mid.who (cell mid e).stash mid
