-- What stands of entities, rule by rule.
use Rattle.yard_model.specs.SlotLists.{shard_list}
use Rattle.actor_laws.specs.Owes.{has_name}
use Rattle.std.proofs.Common.{◌≡◌, ℕ, ◌+◌, ◌<◌, List, [], ◌∷◌, ◌++◌, length, sym, ap, subst, ◌∙◌, refl, true, false, true≢false, arith}
use Rattle.std.specs.Prelude.{Bool, ◌&&◌, ◌==◌, ◌/◌, ◌%◌, ◌-◌, not, nat_lt, nat_le, fold, Option, Some, None, is_none, is_some, slice_index_or, slice_set, if◌then◌else◌}
use Rattle.std.specs.List.{list_all}
use Rattle.std.specs.Option.{option_map}
use Rattle.std.proofs.lemmas.Bool.Decides.{nat_tests}
use Rattle.std.proofs.lemmas.List.{get_or-set_same, get_or-set_other}
use Rattle.yard_model.specs.declared.fact.Fact.{Fact}
use Rattle.yard_model.specs.declared.fact.Fact.TheVariants as fact
use Rattle.yard_model.specs.declared.input.Phase.{Phase}
use Rattle.yard_model.specs.declared.input.Phase.TheVariants as phase
use Rattle.yard_model.specs.declared.packet.Body.TheVariants as body
use Rattle.yard_model.specs.declared.packet.Message.{Message}
use Rattle.yard_model.specs.declared.packet.Record.{Record}
use Rattle.yard_model.specs.declared.incarnation.Keep.{Keep}
use Rattle.yard_model.specs.declared.incarnation.Keep.TheVariants as keep
use Rattle.yard_model.specs.declared.incarnation.Slot.TheVariants as slot
use Rattle.yard_model.specs.Behaviour.{folded}
use Rattle.yard_model.specs.Entities as entities
use Rattle.yard_model.specs.Entities.{Entities, Hosted, is_phase, cell, hosted, entries, entries_in, is_hosted, is_in_phase, record_of, entities_after}
use Rattle.yard_model.specs.Genuine.{is_node, is_producer, is_brought, is_planned, is_genuine}
use Rattle.yard_model.specs.Lawful.{own, is_held, is_decided}
use Rattle.yard_model.specs.declared.out.Item.TheVariants as item
use Rattle.yard_model.specs.Move.{Move, made, took, handed_off, passivates, told, post}
use Rattle.yard_model.specs.Script.{Script, Setting, is_name, setting}
use Rattle.yard_model.specs.Setting.{shard_of}
use Rattle.yard_model.specs.SlotReads.{journal, position, is_remembered}
use Rattle.yard_model.specs.Turns.{in_turn, for_each}
use Rattle.yard_model.specs.Words.{at}
use Rattle.yard_laws.specs.Entries.{IsHosted, MessageFollows, NextFollows, EntityFollows, EntitiesFollow}
use Rattle.plain_laws.proofs.Booleans.{and_both, both, number_itself, of_not, same_name}
use Rattle.plain_laws.proofs.Lists.{inside, by_place, all_join, all_if}
use Rattle.actor_laws.specs.EntitiesStand.{IsHeldShard, is_for, IsEntities, IsMessage, KeepsEntities}
use Rattle.actor_laws.proofs.EntitiesMoves.{keeps_none, keeps_both, who_stays, set_stays, some_of, start_keeps, failed_keeps, stashed_keeps, dropped_keeps, active_keeps, armed_keeps, list_in_hand}
use Rattle.plain_laws.proofs.Names.{name_itself}
use Rattle.actor_laws.proofs.EntitiesEntries.{still_keeps, own_post, recovered_post_keeps, passivate_post_keeps, stop_post_keeps, request_post_keeps, passivates_keeps, entry_keeps}

-- Choices.

pub keeps_if : (c : Script) (st : Entities) (b : Bool) (xs ys : List Move) → (b ≡ true → KeepsEntities c st xs) → (b ≡ false → KeepsEntities c st ys) → KeepsEntities c st (if b then xs else ys)
keeps_if c st true xs ys f g = f refl
keeps_if c st false xs ys f g = g refl

-- Starting.

pub start_entity_keeps : (c : Script) (st : Entities) (e : List ℕ) → IsEntities c st → is_brought c e ≡ true → is_hosted st (shard_of st.set e) ≡ true → is_in_phase phase.Absent st e ≡ true → KeepsEntities c st (entities.start_entity e st)
start_entity_keeps c st e is brought there absent =
    let first : KeepsEntities c st (told (fact.Start st.who e) ∷ []) = start_keeps c st e is brought there absent in
    keeps_both c st (told (fact.Start st.who e) ∷ []) (post st.who st.who (body.Recovered e) ∷ []) first (recovered_post_keeps c (entities_after st (told (fact.Start st.who e))) e first.stands brought)

-- Messages.

good_for : (c : Script) (m : Message) → IsMessage c m → is_name m.entity m.entity ≡ true → is_for c m.entity m ≡ true
good_for c m g itself = both (is_genuine c m && is_producer c m.producer) (is_name m.entity m.entity) (both (is_genuine c m) (is_producer c m.producer) g.genuine g.producer_is) itself

origin_is : (c : Script) (m : Message) → IsMessage c m → is_node c m.origin ≡ true
origin_is c m g = (and_both (is_planned c m.producer m.entity m.number m.command) (is_node c m.origin) g.genuine).1

pub stash_keeps : (c : Script) (st : Entities) (m : Message) → IsEntities c st → IsMessage c m → KeepsEntities c st (entities.stash_message m st)
stash_keeps c st m is g = keeps_if c st (nat_lt (length (cell st m.entity).stash) st.set.config.window) (told (fact.Stashed st.who m) ∷ []) (told (fact.Dropped st.who m) ∷ [])
    (λ e. stashed_keeps c st m is g.brought (good_for c m g (name_itself m.entity))) (λ e. dropped_keeps c st m is g.brought)

ack_keeps : (c : Script) (st : Entities) (m : Message) (n : ℕ) → IsEntities c st → IsMessage c m → KeepsEntities c st (post st.who m.origin (body.Ack m.producer m.entity n) ∷ [])
ack_keeps c st m n is g = still_keeps c st (post st.who m.origin (body.Ack m.producer m.entity n)) is refl
    (own_post c st.who m.origin (body.Ack m.producer m.entity n) is.who_is (origin_is c m g) (both (is_producer c m.producer) (is_brought c m.entity) g.producer_is g.brought)) refl

resend_keeps : (c : Script) (st : Entities) (m : Message) (n : ℕ) → IsEntities c st → IsMessage c m → KeepsEntities c st (post st.who m.origin (body.Resend m.producer m.entity n) ∷ [])
resend_keeps c st m n is g = still_keeps c st (post st.who m.origin (body.Resend m.producer m.entity n)) is refl
    (own_post c st.who m.origin (body.Resend m.producer m.entity n) is.who_is (origin_is c m g) (both (is_producer c m.producer) (is_brought c m.entity) g.producer_is g.brought)) refl

-- of the posts that ask for more, made of what stood before
ask_keeps : (c : Script) (st now : Entities) (m : Message) (pos : ℕ) → now.who ≡ st.who → st.set ≡ setting c → IsEntities c now → IsMessage c m → KeepsEntities c now (entities.ask_more m pos st)
ask_keeps c st now m pos who set is g =
    let to : ℕ = pos + st.set.config.window in
    let b : Bool = nat_le (slice_index_or (cell st m.entity).reach (m.producer - 1) 0) (pos + st.set.config.window / 2) in
    keeps_if c now b (post st.who m.origin (body.Request m.producer m.entity pos to) ∷ []) []
    (λ e. subst (λ w. KeepsEntities c now (post w m.origin (body.Request m.producer m.entity pos to) ∷ [])) who
    (request_post_keeps c now m.origin m.producer m.entity pos to is g.brought (origin_is c m g)
    (both (is_producer c m.producer && is_brought c m.entity) (to == pos + c.config.window) (both (is_producer c m.producer) (is_brought c m.entity) g.producer_is g.brought)
    (number_itself to (pos + c.config.window) (ap (λ (s : Setting). pos + s.config.window) set)))))
    (λ e. keeps_none c now is)

-- Shards that are hosted.

pub hosted_of : (c : Script) (st : Entities) (e : List ℕ) → IsEntities c st → is_brought c e ≡ true → is_hosted st (shard_of st.set e) ≡ true → IsHosted c st e
hosted_of c st e is brought there =
    let x : (x : Hosted) × (hosted st (shard_of st.set e) ≡ Some x) = some_of (hosted st (shard_of st.set e)) there in
    let k : IsHeldShard c st.who (shard_of st.set e) x.0 = is.hosted_are (shard_of st.set e) x.0 x.1 in
    let same : shard_of st.set e ≡ shard_of (setting c) e = ap (λ (s : Setting). shard_of s e) is.set_is in
    record {
      set_is = is.set_is;
      version_is = is.version_is;
      brought_is = brought;
      own_is = subst (λ n. own c (slot.Shard n) (entries st e) ≡ true) same (ap (λ o. own c (slot.Shard (shard_of st.set e)) (entries_in o)) x.1 ∙ k.own_is);
      held_is = ap (λ o. is_held (entries_in o)) x.1 ∙ ap is_some k.held_is;
    }

-- an entry at the end of a hosted shard's list
entries_more : (st : Entities) (f : Fact) (e : List ℕ) → is_hosted st (shard_of st.set e) ≡ true → entities.hosted_step st.set st.hosted (told f) ≡ entities.entered (shard_of st.set e) f st.hosted → entries (entities_after st (told f)) e ≡ entries st e ++ f ∷ []
entries_more st f e there shards =
    let s : ℕ = shard_of st.set e in
    let x : (x : Hosted) × (hosted st s ≡ Some x) = some_of (hosted st s) there in
    let now : Hosted = record { entries = x.0.entries ++ f ∷ []; stopping = x.0.stopping } in
    let all : entities.hosted_step st.set st.hosted (told f) ≡ slice_set st.hosted s (Some now) = shards ∙ ap (λ o. slice_set st.hosted s (option_map (λ (h : Hosted). record { entries = h.entries ++ f ∷ []; stopping = h.stopping }) o)) x.1 in
    ap (λ l. entries_in (at l s)) all ∙ (ap entries_in (get_or-set_same st.hosted s (Some now) None (inside st.hosted s x.0 x.1)) ∙ ap (λ o. entries_in o ++ f ∷ []) (sym x.1))

hosted_more : (st : Entities) (f : Fact) (e : List ℕ) → is_hosted st (shard_of st.set e) ≡ true → entities.hosted_step st.set st.hosted (told f) ≡ entities.entered (shard_of st.set e) f st.hosted → is_hosted (entities_after st (told f)) (shard_of st.set e) ≡ true
hosted_more st f e there shards =
    let s : ℕ = shard_of st.set e in
    let x : (x : Hosted) × (hosted st s ≡ Some x) = some_of (hosted st s) there in
    let now : Hosted = record { entries = x.0.entries ++ f ∷ []; stopping = x.0.stopping } in
    let all : entities.hosted_step st.set st.hosted (told f) ≡ slice_set st.hosted s (Some now) = shards ∙ ap (λ o. slice_set st.hosted s (option_map (λ (h : Hosted). record { entries = h.entries ++ f ∷ []; stopping = h.stopping }) o)) x.1 in
    ap (λ l. not (is_none (at l s))) all ∙ ap (λ o. not (is_none o)) (get_or-set_same st.hosted s (Some now) None (inside st.hosted s x.0 x.1))

-- The next message.

wrote_keeps : (c : Script) (st : Entities) (m : Message) → NextFollows → IsEntities c st → IsMessage c m → is_hosted st (shard_of st.set m.entity) ≡ true → is_in_phase phase.Absent st m.entity ≡ false
    → m.number ≡ position m.producer (journal m.entity (entries st m.entity)) + 1 → KeepsEntities c st (told (fact.Wrote m.entity (record_of m st (journal m.entity (entries st m.entity)))) ∷ [])
wrote_keeps c st m law is g there live next =
    let r : Record = record_of m st (journal m.entity (entries st m.entity)) in
    let planned : is_planned c m.producer m.entity m.number m.command ≡ true = (and_both (is_planned c m.producer m.entity m.number m.command) (is_node c m.origin) g.genuine).0 in
    let follows : MessageFollows c st m = law c st m (hosted_of c st m.entity is g.brought there) g.producer_is planned next in
    entry_keeps c st (fact.Wrote m.entity r) m.entity is g.brought there refl refl refl refl follows.written (λ o. refl)
    (λ v h i. both (has_name m.entity h.live) (is_decided h.version c (journal m.entity (shard_list h.lists (shard_of (setting c) m.entity))) r) (i.live_are m.entity g.brought ∙ ap not live)
    (subst (λ n. is_decided n c (journal m.entity (shard_list h.lists (shard_of (setting c) m.entity))) r ≡ true) (sym i.version_is)
    (subst (λ l. is_decided st.version c (journal m.entity l) r ≡ true) (sym (list_in_hand c st m.entity h is there i)) follows.decided))) (λ l. refl) refl

saved_keeps : (c : Script) (st : Entities) (m : Message) → NextFollows → IsEntities c st → IsMessage c m → is_hosted st (shard_of st.set m.entity) ≡ true → is_in_phase phase.Absent st m.entity ≡ false
    → m.number ≡ position m.producer (journal m.entity (entries st m.entity)) + 1
    → let f : Fact = fact.Wrote m.entity (record_of m st (journal m.entity (entries st m.entity))) in KeepsEntities c (entities_after st (told f)) (entities.snapshot_at m.entity (length (journal m.entity (entries st m.entity)) + 1) st)
saved_keeps c st m law is g there live next =
    let records : List Record = journal m.entity (entries st m.entity) in
    let f : Fact = fact.Wrote m.entity (record_of m st records) in
    let now : Entities = entities_after st (told f) in
    let n : ℕ = length records + 1 in
    let planned : is_planned c m.producer m.entity m.number m.command ≡ true = (and_both (is_planned c m.producer m.entity m.number m.command) (is_node c m.origin) g.genuine).0 in
    let follows : MessageFollows c st m = law c st m (hosted_of c st m.entity is g.brought there) g.producer_is planned next in
    let wrote : KeepsEntities c st (told f ∷ []) = wrote_keeps c st m law is g there live next in
    keeps_if c now (n % st.set.config.snapshot == 0) (told (fact.Snapshot m.entity n) ∷ []) []
    (λ e. entry_keeps c now (fact.Snapshot m.entity n) m.entity wrote.stands g.brought (hosted_more st f m.entity there refl) refl refl refl refl
    (ap (λ l. own c (slot.Shard (shard_of (setting c) m.entity)) (l ++ fact.Snapshot m.entity n ∷ [])) (entries_more st f m.entity there refl) ∙ follows.saved) (λ o. refl) (λ v h i. refl) (λ l. refl) refl)
    (λ e. keeps_none c now wrote.stands)

next_keeps : (c : Script) (st : Entities) (m : Message) (o : Option Keep) → NextFollows → IsEntities c st → IsMessage c m → is_hosted st (shard_of st.set m.entity) ≡ true → is_in_phase phase.Absent st m.entity ≡ false
    → let records : List Record = journal m.entity (entries st m.entity) in m.number ≡ position m.producer records + 1 → KeepsEntities c st (entities.write m (record_of m st records) (position m.producer records + 1) st o)
next_keeps c st m (Some keep.Lost) law is g there live next = failed_keeps c st m.entity is g.brought
next_keeps c st m (Some keep.Kept) law is g there live next =
    let f : Fact = fact.Wrote m.entity (record_of m st (journal m.entity (entries st m.entity))) in
    let wrote : KeepsEntities c st (told f ∷ []) = wrote_keeps c st m law is g there live next in
    keeps_both c st (told f ∷ []) (told (fact.WriteFailed st.who m.entity) ∷ []) wrote (failed_keeps c (entities_after st (told f)) m.entity wrote.stands g.brought)
next_keeps c st m None law is g there live next =
    let records : List Record = journal m.entity (entries st m.entity) in
    let f : Fact = fact.Wrote m.entity (record_of m st records) in
    let pos : ℕ = position m.producer records + 1 in
    let now : Entities = entities_after st (told f) in
    let saves : List Move = entities.snapshot_at m.entity (length records + 1) st in
    let ack : List Move = post st.who m.origin (body.Ack m.producer m.entity pos) ∷ [] in
    let asks : List Move = entities.ask_more m pos st in
    let later : Entities = fold entities_after now saves in
    let wrote : KeepsEntities c st (told f ∷ []) = wrote_keeps c st m law is g there live next in
    let saved : KeepsEntities c now saves = saved_keeps c st m law is g there live next in
    let same : later.who ≡ st.who = who_stays now saves in
    let acked : KeepsEntities c later ack = subst (λ w. KeepsEntities c later (post w m.origin (body.Ack m.producer m.entity pos) ∷ [])) same (ack_keeps c later m pos saved.stands g) in
    keeps_both c st (told f ∷ []) (saves ++ (ack ++ asks)) wrote
    (keeps_both c now saves (ack ++ asks) saved
    (keeps_both c later ack asks acked (ask_keeps c st (fold entities_after later ack) m pos (who_stays later ack ∙ same) is.set_is acked.stands g)))

-- Deliver.

is_next : (n p : ℕ) → nat_le n p ≡ false → nat_lt (p + 1) n ≡ false → n ≡ p + 1
is_next n p a b = grind (arith, nat_tests)

pub deliver_keeps : (c : Script) (st : Entities) (m : Message) → NextFollows → IsEntities c st → IsMessage c m → is_hosted st (shard_of st.set m.entity) ≡ true → KeepsEntities c st (entities.deliver m st)
deliver_keeps c st m law is g there = by (cell st m.entity).phase refl
  where
    records : List Record
    records = journal m.entity (entries st m.entity)

    pos : ℕ
    pos = position m.producer records

    by : (p : Phase) → (cell st m.entity).phase ≡ p → KeepsEntities c st (entities.deliver_by m st p)
    by phase.Absent e =
        let first : KeepsEntities c st (entities.start_entity m.entity st) = start_entity_keeps c st m.entity is g.brought there (ap (is_phase phase.Absent) e) in
        keeps_both c st (entities.start_entity m.entity st) (told (fact.Stashed st.who m) ∷ []) first
        (stashed_keeps c (fold entities_after st (entities.start_entity m.entity st)) m first.stands g.brought (good_for c m g (name_itself m.entity)))
    by phase.Active e = keeps_if c st (nat_le m.number pos) (post st.who m.origin (body.Ack m.producer m.entity pos) ∷ []) (if nat_lt (pos + 1) m.number then post st.who m.origin (body.Resend m.producer m.entity (pos + 1)) ∷ [] else entities.write m (record_of m st records) (pos + 1) st (cell st m.entity).armed)
        (λ old. ack_keeps c st m pos is g)
        (λ new. keeps_if c st (nat_lt (pos + 1) m.number) (post st.who m.origin (body.Resend m.producer m.entity (pos + 1)) ∷ []) (entities.write m (record_of m st records) (pos + 1) st (cell st m.entity).armed)
        (λ gap. resend_keeps c st m (pos + 1) is g)
        (λ near. next_keeps c st m (cell st m.entity).armed law is g there (ap (is_phase phase.Absent) e) (is_next m.number pos new near)))
    by phase.Loading e = stash_keeps c st m is g
    by phase.Stopping e = stash_keeps c st m is g

-- Shards stay hosted but where one is freed.

abbrev pub is_staying : Move → Bool
is_staying (made (item.Fact (fact.Freed (slot.Shard s) n why))) = false
is_staying m = true

set_stays_there : {A : Type 0} (xs : List (Option A)) (t s : ℕ) (v : Option A) → (not (is_none (at xs t)) ≡ true → not (is_none v) ≡ true) → not (is_none (at xs s)) ≡ true → not (is_none (at (slice_set xs t v) s)) ≡ true
set_stays_there xs t s v h k = by_place (not (is_none (at (slice_set xs t v) s)) ≡ true) s t
    (λ same.
    let x : (x : _) × (at xs s ≡ Some x) = some_of (at xs s) k in
    ap (λ i. not (is_none (at (slice_set xs t v) i))) same ∙ (ap (λ o. not (is_none o)) (get_or-set_same xs t v None (subst (λ i. i < length xs) same (inside xs s x.0 x.1))) ∙ h (ap (λ i. not (is_none (at xs i))) (sym same) ∙ k)))
    (λ ne. ap (λ o. not (is_none o)) (get_or-set_other xs t s v None ne) ∙ k)

mapped_some : {A B : Type 0} (g : A → B) (o : Option A) → not (is_none o) ≡ true → not (is_none (option_map g o)) ≡ true
mapped_some g None h = absurd (true≢false (sym h))
mapped_some g (Some x) h = refl

entered_stays : (old : List (Option Hosted)) (t s : ℕ) (f : Fact) → not (is_none (at old s)) ≡ true → not (is_none (at (entities.entered t f old) s)) ≡ true
entered_stays old t s f k = set_stays_there old t s (option_map (λ (h : Hosted). record { entries = h.entries ++ f ∷ []; stopping = h.stopping }) (at old t)) (mapped_some (λ (h : Hosted). record { entries = h.entries ++ f ∷ []; stopping = h.stopping }) (at old t)) k

one_stays : (st : Entities) (m : Move) (s : ℕ) → is_staying m ≡ true → is_hosted st s ≡ true → is_hosted (entities_after st m) s ≡ true
one_stays st (took (slot.Shard t) list) s h k = set_stays_there st.hosted t s (Some (record { entries = list; stopping = None })) (λ x. refl) k
one_stays st (handed_off t stamp to) s h k = set_stays_there st.hosted t s (option_map (λ (x : Hosted). record { entries = x.entries; stopping = Some (record { stamp = stamp; to = to }) }) (at st.hosted t)) (mapped_some (λ (x : Hosted). record { entries = x.entries; stopping = Some (record { stamp = stamp; to = to }) }) (at st.hosted t)) k
one_stays st (made (item.Fact (fact.Freed (slot.Shard t) n why))) s h k = absurd (true≢false (sym h))
one_stays st (made (item.Fact (fact.Wrote e r))) s h k = entered_stays st.hosted (shard_of st.set e) s (fact.Wrote e r) k
one_stays st (made (item.Fact (fact.Snapshot e n))) s h k = entered_stays st.hosted (shard_of st.set e) s (fact.Snapshot e n) k
one_stays st (made (item.Fact (fact.Remembered e))) s h k = entered_stays st.hosted (shard_of st.set e) s (fact.Remembered e) k
one_stays st (made (item.Fact (fact.Forgotten e))) s h k = entered_stays st.hosted (shard_of st.set e) s (fact.Forgotten e) k
one_stays st m s h k = k

pub all_stay : (st : Entities) (ms : List Move) (s : ℕ) → list_all is_staying ms ≡ true → is_hosted st s ≡ true → is_hosted (fold entities_after st ms) s ≡ true
all_stay st [] s h k = k
all_stay st (m ∷ ms) s h k =
    let n : (is_staying m ≡ true) × (list_all is_staying ms ≡ true) = and_both (is_staying m) (list_all is_staying ms) h in
    all_stay (entities_after st m) ms s n.1 (one_stays st m s n.0 k)

write_stays : (m : Message) (r : Record) (pos : ℕ) (st : Entities) (o : Option Keep) → list_all is_staying (entities.write m r pos st o) ≡ true
write_stays m r pos st (Some keep.Lost) = refl
write_stays m r pos st (Some keep.Kept) = refl
write_stays m r pos st None =
    let saves : List Move = entities.snapshot_at m.entity r.number st in
    all_join is_staying saves (post st.who m.origin (body.Ack m.producer m.entity pos) ∷ entities.ask_more m pos st)
    (all_if is_staying (r.number % st.set.config.snapshot == 0) (told (fact.Snapshot m.entity r.number) ∷ []) [] refl refl)
    (all_if is_staying (nat_le (slice_index_or (cell st m.entity).reach (m.producer - 1) 0) (pos + st.set.config.window / 2)) (post st.who m.origin (body.Request m.producer m.entity pos (pos + st.set.config.window)) ∷ []) [] refl refl)

pub deliver_stays : (m : Message) (st : Entities) (p : Phase) → list_all is_staying (entities.deliver_by m st p) ≡ true
deliver_stays m st phase.Absent = refl
deliver_stays m st phase.Loading = all_if is_staying (nat_lt (length (cell st m.entity).stash) st.set.config.window) (told (fact.Stashed st.who m) ∷ []) (told (fact.Dropped st.who m) ∷ []) refl refl
deliver_stays m st phase.Stopping = all_if is_staying (nat_lt (length (cell st m.entity).stash) st.set.config.window) (told (fact.Stashed st.who m) ∷ []) (told (fact.Dropped st.who m) ∷ []) refl refl
deliver_stays m st phase.Active =
    let records : List Record = journal m.entity (entries st m.entity) in
    let pos : ℕ = position m.producer records in
    all_if is_staying (nat_le m.number pos) (post st.who m.origin (body.Ack m.producer m.entity pos) ∷ []) (if nat_lt (pos + 1) m.number then post st.who m.origin (body.Resend m.producer m.entity (pos + 1)) ∷ [] else entities.write m (record_of m st records) (pos + 1) st (cell st m.entity).armed) refl
    (all_if is_staying (nat_lt (pos + 1) m.number) (post st.who m.origin (body.Resend m.producer m.entity (pos + 1)) ∷ []) (entities.write m (record_of m st records) (pos + 1) st (cell st m.entity).armed) refl (write_stays m (record_of m st records) (pos + 1) st (cell st m.entity).armed))

-- Recovery.

pub activate_keeps : (c : Script) (st : Entities) (e : List ℕ) → EntitiesFollow → IsEntities c st → is_brought c e ≡ true → is_in_phase phase.Absent st e ≡ false → KeepsEntities c st (entities.activate e st)
activate_keeps c st e law is brought live =
    let records : List Record = journal e (entries st e) in
    let f : Fact = fact.Active st.who e (length records) (folded st.set.config.kind records) in
    let now : Entities = entities_after st (told f) in
    let there : is_hosted st (shard_of st.set e) ≡ true = is.at_home e brought live in
    let follows : EntityFollows c st e = law c st e (hosted_of c st e is brought there) in
    let first : KeepsEntities c st (told f ∷ []) = active_keeps c st e (length records) (folded st.set.config.kind records) is brought live follows.active in
    keeps_both c st (told f ∷ []) (entities.remember e st) first
    (keeps_if c now (st.set.config.remember && not (is_remembered e (entries st e))) (told (fact.Remembered e) ∷ []) []
    (λ b. entry_keeps c now (fact.Remembered e) e first.stands brought there refl refl refl refl
    (follows.remembered (of_not (is_remembered e (entries st e)) (and_both st.set.config.remember (not (is_remembered e (entries st e))) b).1)) (λ o. refl) (λ v h i. refl) (λ l. refl) refl)
    (λ b. keeps_none c now first.stands))

pub messages_of : (c : Script) (e : List ℕ) (m : Message) → is_brought c e ≡ true → is_for c e m ≡ true → (m.entity ≡ e) × IsMessage c m
messages_of c e m brought h =
    let parts : ((is_genuine c m && is_producer c m.producer) ≡ true) × (is_name m.entity e ≡ true) = and_both (is_genuine c m && is_producer c m.producer) (is_name m.entity e) h in
    let good : (is_genuine c m ≡ true) × (is_producer c m.producer ≡ true) = and_both (is_genuine c m) (is_producer c m.producer) parts.0 in
    let same : m.entity ≡ e = same_name m.entity e parts.1 in
    (same, record { genuine = good.0; producer_is = good.1; brought = ap (is_brought c) same ∙ brought })

pub deliver_all_keeps : (c : Script) (e : List ℕ) → NextFollows → is_brought c e ≡ true → (ms : List Message) (st : Entities) → IsEntities c st → is_hosted st (shard_of st.set e) ≡ true → list_all (is_for c e) ms ≡ true → KeepsEntities c st (for_each entities_after entities.deliver ms st)
deliver_all_keeps c e law brought [] st is there all = keeps_none c st is
deliver_all_keeps c e law brought (m ∷ ms) st is there all =
    let n : (is_for c e m ≡ true) × (list_all (is_for c e) ms ≡ true) = and_both (is_for c e m) (list_all (is_for c e) ms) all in
    let g : (m.entity ≡ e) × IsMessage c m = messages_of c e m brought n.0 in
    let here : is_hosted st (shard_of st.set m.entity) ≡ true = ap (λ x. is_hosted st (shard_of st.set x)) g.0 ∙ there in
    let first : KeepsEntities c st (entities.deliver m st) = deliver_keeps c st m law is g.1 here in
    let later : Entities = fold entities_after st (entities.deliver m st) in
    keeps_both c st (entities.deliver m st) (for_each entities_after entities.deliver ms later) first
    (deliver_all_keeps c e law brought ms later first.stands
    (ap (λ (s : Setting). is_hosted later (shard_of s e)) (set_stays st (entities.deliver m st)) ∙ all_stay st (entities.deliver m st) (shard_of st.set e) (deliver_stays m st (cell st m.entity).phase) there) n.1)

pub recovered_keeps : (c : Script) (st : Entities) (e : List ℕ) → NextFollows → EntitiesFollow → IsEntities c st → is_brought c e ≡ true → KeepsEntities c st (entities.recovered e st)
recovered_keeps c st e next law is brought = keeps_if c st (is_in_phase phase.Loading st e) (in_turn entities_after (entities.activate e) (for_each entities_after entities.deliver (cell st e).stash) st) []
    (λ b.
    let live : is_in_phase phase.Absent st e ≡ false = loading (cell st e).phase b in
    let first : KeepsEntities c st (entities.activate e st) = activate_keeps c st e law is brought live in
    let later : Entities = fold entities_after st (entities.activate e st) in
    keeps_both c st (entities.activate e st) (for_each entities_after entities.deliver (cell st e).stash later) first
    (deliver_all_keeps c e next brought (cell st e).stash later first.stands
    (ap (λ (s : Setting). is_hosted later (shard_of s e)) (set_stays st (entities.activate e st)) ∙ all_stay st (entities.activate e st) (shard_of st.set e)
    (all_if is_staying (st.set.config.remember && not (is_remembered e (entries st e))) (told (fact.Remembered e) ∷ []) [] refl refl) (is.at_home e brought live)) (is.stashed e brought)))
    (λ b. keeps_none c st is)
  where
    loading : (p : Phase) → is_phase phase.Loading p ≡ true → is_phase phase.Absent p ≡ false
    loading phase.Loading h = refl
    loading p h = absurd (true≢false (sym h))

-- What an order asks.

pub ask_to_passivate_keeps : (c : Script) (st : Entities) (e : List ℕ) → IsEntities c st → is_brought c e ≡ true → KeepsEntities c st (entities.ask_to_passivate e st)
ask_to_passivate_keeps c st e is brought = keeps_if c st (is_in_phase phase.Active st e) (post st.who st.who (body.Passivate e) ∷ []) [] (λ b. passivate_post_keeps c st e is brought) (λ b. keeps_none c st is)

pub arm_keeps : (c : Script) (st : Entities) (e : List ℕ) (k : Keep) → IsEntities c st → is_brought c e ≡ true → KeepsEntities c st (entities.arm e k st)
arm_keeps c st e k is brought = keeps_if c st (is_in_phase phase.Active st e) (told (fact.Armed e k) ∷ []) [] (λ b. armed_keeps c st e k is brought) (λ b. keeps_none c st is)

-- Passivation.

pub passivate_keeps : (c : Script) (st : Entities) (e : List ℕ) → IsEntities c st → is_brought c e ≡ true → KeepsEntities c st (entities.passivate e st)
passivate_keeps c st e is brought = keeps_if c st (is_in_phase phase.Active st e) (passivates e ∷ post st.who st.who (body.StopEntity e) ∷ []) []
    (λ b. let first : KeepsEntities c st (passivates e ∷ []) = passivates_keeps c st e is brought in
    keeps_both c st (passivates e ∷ []) (post st.who st.who (body.StopEntity e) ∷ []) first (stop_post_keeps c (entities_after st (passivates e)) e first.stands brought))
    (λ b. keeps_none c st is)
