-- What a node does at one shard leaves every other shard as it is, in the node and in its hand.
use Rattle.std.proofs.Common.{◌≡◌, ℕ, List, [], ◌∷◌, ◌++◌, length, map, sym, ap, subst, ◌∙◌, refl, true, false, true≢false}
use Rattle.std.specs.Prelude.{Bool, ◌&&◌, ◌==◌, not, nat_le, nat_lt, ◌%◌, ◌/◌, ◌+◌, ◌-◌, filter, fold, Option, Some, None, slice_index_or, slice_set, if◌then◌else◌}
use Rattle.std.specs.Option.{option_map}
use Rattle.std.specs.List.{list_all, flat_map}
use Rattle.std.proofs.lemmas.List.{get_or-set_other}
use Rattle.std.proofs.lemmas.List.Sums.{fold-append}
use Rattle.yard_model.specs.declared.incarnation.Keep.{Keep}
use Rattle.yard_model.specs.declared.incarnation.Keep.TheVariants as keep
use Rattle.yard_model.specs.declared.fact.Fact.{Fact}
use Rattle.yard_model.specs.declared.fact.Fact.TheVariants as fact
use Rattle.yard_model.specs.declared.packet.Record.{Record}
use Rattle.yard_model.specs.declared.input.Phase.{Phase}
use Rattle.yard_model.specs.declared.input.Phase.TheVariants as phase
use Rattle.yard_model.specs.declared.out.Item.TheVariants as item
use Rattle.yard_model.specs.declared.packet.Body.TheVariants as body
use Rattle.yard_model.specs.declared.packet.Message.{Message}
use Rattle.yard_model.specs.declared.incarnation.Incarnation.{Incarnation}
use Rattle.yard_model.specs.declared.incarnation.Slot.{Slot}
use Rattle.yard_model.specs.declared.incarnation.Slot.TheVariants as slot
use Rattle.yard_model.specs.Entities as entities
use Rattle.yard_model.specs.Entities.{Entities, Hosted, hosted, hosted_step, hosted_by_fact, entities_after}
use Rattle.yard_model.specs.Move.{Move, made, took, told, post, handed_off}
use Rattle.yard_model.specs.Node.{Node, Act, by_region, by_entities, by_coordinator, after, items_of, acquire_by}
use Rattle.yard_model.specs.Script.{Script, Setting, setting}
use Rattle.yard_model.specs.Setting.{shard_of, names_of}
use Rattle.yard_model.specs.SlotLists.{SlotLists, shard_list}
use Rattle.yard_model.specs.SlotReads.{journal, position, is_remembered}
use Rattle.yard_model.specs.Trace.{slot_of, with_entry}
use Rattle.yard_model.specs.Words.{at}
use Rattle.yard_laws.specs.Free.{is_free_move}
use Rattle.plain_laws.proofs.Booleans.{and_both, both, of_not, number_itself}
use Rattle.yard_laws.proofs.PartsLaws.{region_alone, entities_alone, coordinator_alone, entities_items, coordinator_items}
use Rattle.actor_laws.specs.Owes.{Hand, facts_in, hand_after}
use Rattle.plain_laws.proofs.Lists.{all_join, all_if, all_each}
use Rattle.actor_laws.specs.Moves.{facts_of}
use Rattle.actor_laws.specs.CoordinatorStands.{is_coordinator_fact}
use Rattle.node_laws.proofs.NodeCoordinator.{coordinator_in_hand}
use Rattle.node_laws.proofs.NodeLeases.{region_hand}
use Rattle.node_laws.proofs.NodeParts.{facts_both}

pub record Beside (c : Script) (s : ℕ) (st : Node) (acts : List Act) : Type 0 where
  pub hosted_is : hosted (fold after st acts).entities s ≡ hosted st.entities s
  pub hand_is : (h : Hand) → shard_list (fold (hand_after c) h (facts_in (items_of acts))).lists s ≡ shard_list h.lists s

pub beside_none : (c : Script) (s : ℕ) (st : Node) → Beside c s st []
beside_none c s st = record { hosted_is = refl; hand_is = λ h. refl }

pub beside_both : (c : Script) (s : ℕ) (st : Node) (xs ys : List Act) → Beside c s st xs → Beside c s (fold after st xs) ys → Beside c s st (xs ++ ys)
beside_both c s st xs ys f g = record {
  hosted_is = ap (λ (x : Node). hosted x.entities s) (fold-append after st xs ys) ∙ (g.hosted_is ∙ f.hosted_is);
  hand_is = λ h. ap (λ (x : Hand). shard_list x.lists s) (ap (fold (hand_after c) h) (facts_both xs ys) ∙ fold-append (hand_after c) h (facts_in (items_of xs)) (facts_in (items_of ys)))
      ∙ (g.hand_is (fold (hand_after c) h (facts_in (items_of xs))) ∙ f.hand_is h);
}

pub beside_if : (c : Script) (s : ℕ) (st : Node) (b : Bool) (xs ys : List Act) → (b ≡ true → Beside c s st xs) → (b ≡ false → Beside c s st ys) → Beside c s st (if b then xs else ys)
beside_if c s st true xs ys f g = f refl
beside_if c s st false xs ys f g = g refl

-- The region and the coordinator.

pub region_beside : (c : Script) (s : ℕ) (st : Node) (ms : List Move) → list_all is_free_move ms ≡ true → Beside c s st (map by_region ms)
region_beside c s st ms free = record {
  hosted_is = ap (λ (x : Node). hosted x.entities s) (region_alone st ms);
  hand_is = λ h. ap (λ (x : Hand). shard_list x.lists s) (region_hand c st ms h free);
}

pub coordinator_beside : (c : Script) (s : ℕ) (st : Node) (ms : List Move) → list_all is_coordinator_fact (facts_of ms) ≡ true → Beside c s st (map by_coordinator ms)
coordinator_beside c s st ms its = record {
  hosted_is = ap (λ (x : Node). hosted x.entities s) (coordinator_alone st ms);
  hand_is = λ h. ap (λ (x : Hand). shard_list x.lists s) (ap (λ is. fold (hand_after c) h (facts_in is)) (coordinator_items ms) ∙ coordinator_in_hand c h (facts_of ms) its);
}

pub office_beside : (c : Script) (s : ℕ) (st : Node) (list : List Fact) (o : Option Incarnation) → Beside c s st (map by_coordinator (acquire_by slot.Coordinator st.who list o))
office_beside c s st list None = record { hosted_is = refl; hand_is = λ h. refl }
office_beside c s st list (Some x) = record { hosted_is = refl; hand_is = λ h. refl }

-- Entities of other shards.

abbrev is_slot_beside : ℕ → Option Slot → Bool
is_slot_beside s (Some (slot.Shard t)) = not (t == s)
is_slot_beside s o = true

-- a move that leaves shard s as it is
abbrev pub is_beside : Setting → ℕ → Move → Bool
is_beside set s (took (slot.Shard t) list) = not (t == s)
is_beside set s (handed_off t stamp to) = not (t == s)
is_beside set s (made (item.Fact f)) = is_slot_beside s (slot_of set f)
is_beside set s m = true

apart : (s t : ℕ) → not (t == s) ≡ true → s ≡ t → ⊥
apart s t other same = true≢false (sym (number_itself t s (sym same)) ∙ of_not (t == s) other)

set_beside : (s t : ℕ) (old : List (Option Hosted)) (x : Option Hosted) → not (t == s) ≡ true → at (slice_set old t x) s ≡ at old s
set_beside s t old x other = get_or-set_other old t s x None (apart s t other)

fact_beside : (set : Setting) (s : ℕ) (old : List (Option Hosted)) (f : Fact) → is_slot_beside s (slot_of set f) ≡ true → at (hosted_by_fact set old f) s ≡ at old s
fact_beside set s old (fact.Freed (slot.Shard t) n why) h = set_beside s t old None h
fact_beside set s old (fact.Wrote e r) h = set_beside s (shard_of set e) old (option_map (λ (x : Hosted). record { entries = x.entries ++ fact.Wrote e r ∷ []; stopping = x.stopping }) (at old (shard_of set e))) h
fact_beside set s old (fact.Snapshot e n) h = set_beside s (shard_of set e) old (option_map (λ (x : Hosted). record { entries = x.entries ++ fact.Snapshot e n ∷ []; stopping = x.stopping }) (at old (shard_of set e))) h
fact_beside set s old (fact.Remembered e) h = set_beside s (shard_of set e) old (option_map (λ (x : Hosted). record { entries = x.entries ++ fact.Remembered e ∷ []; stopping = x.stopping }) (at old (shard_of set e))) h
fact_beside set s old (fact.Forgotten e) h = set_beside s (shard_of set e) old (option_map (λ (x : Hosted). record { entries = x.entries ++ fact.Forgotten e ∷ []; stopping = x.stopping }) (at old (shard_of set e))) h
fact_beside set s old f h = refl

move_beside : (set : Setting) (s : ℕ) (old : List (Option Hosted)) (m : Move) → is_beside set s m ≡ true → at (hosted_step set old m) s ≡ at old s
move_beside set s old (took (slot.Shard t) list) h = set_beside s t old (Some (record { entries = list; stopping = None })) h
move_beside set s old (handed_off t stamp to) h = set_beside s t old (option_map (λ (x : Hosted). record { entries = x.entries; stopping = Some (record { stamp = stamp; to = to }) }) (at old t)) h
move_beside set s old (made (item.Fact f)) h = fact_beside set s old f h
move_beside set s old m h = refl

moves_beside : (set : Setting) (s : ℕ) (st : Entities) (ms : List Move) → st.set ≡ set → list_all (is_beside set s) ms ≡ true → hosted (fold entities_after st ms) s ≡ hosted st s
moves_beside set s st [] same h = refl
moves_beside set s st (m ∷ ms) same h =
    let n : (is_beside set s m ≡ true) × (list_all (is_beside set s) ms ≡ true) = and_both (is_beside set s m) (list_all (is_beside set s) ms) h in
    moves_beside set s (entities_after st m) ms same n.1 ∙ subst (λ x. at (hosted_step x st.hosted m) s ≡ at st.hosted s) (sym same) (move_beside set s st.hosted m n.0)

entry_beside : (s : ℕ) (f : Fact) (lists : SlotLists) (o : Option Slot) → is_slot_beside s o ≡ true → shard_list (with_entry f lists o) s ≡ shard_list lists s
entry_beside s f lists (Some (slot.Shard t)) h = get_or-set_other lists.shards t s (shard_list lists t ++ f ∷ []) [] (apart s t h)
entry_beside s f lists (Some slot.Coordinator) h = refl
entry_beside s f lists (Some (slot.Queue p)) h = refl
entry_beside s f lists None h = refl

hand_beside : (c : Script) (s : ℕ) (h : Hand) (ms : List Move) → list_all (is_beside (setting c) s) ms ≡ true → shard_list (fold (hand_after c) h (facts_of ms)).lists s ≡ shard_list h.lists s
hand_beside c s h [] k = refl
hand_beside c s h (made (item.Fact f) ∷ ms) k =
    let n : (is_slot_beside s (slot_of (setting c) f) ≡ true) × (list_all (is_beside (setting c) s) ms ≡ true) = and_both (is_slot_beside s (slot_of (setting c) f)) (list_all (is_beside (setting c) s) ms) k in
    hand_beside c s (hand_after c h f) ms n.1 ∙ entry_beside s f h.lists (slot_of (setting c) f) n.0
hand_beside c s h (made (item.Post p) ∷ ms) k = hand_beside c s h ms k
hand_beside c s h (m ∷ ms) k = hand_beside c s h ms (and_both (is_beside (setting c) s m) (list_all (is_beside (setting c) s) ms) k).1

pub entities_beside : (c : Script) (s : ℕ) (st : Node) (ms : List Move) → st.entities.set ≡ setting c → list_all (is_beside (setting c) s) ms ≡ true → Beside c s st (map by_entities ms)
entities_beside c s st ms same h = record {
  hosted_is = ap (λ (x : Node). hosted x.entities s) (entities_alone st ms) ∙ moves_beside (setting c) s st.entities ms same h;
  hand_is = λ x. ap (λ is. shard_list (fold (hand_after c) x (facts_in is)).lists s) (entities_items ms) ∙ hand_beside c s x ms h;
}

-- The rules.

pub acquire_beside : (set : Setting) (s t : ℕ) (who : Incarnation) (list : List Fact) (o : Option Incarnation) → not (t == s) ≡ true → list_all (is_beside set s) (acquire_by (slot.Shard t) who list o) ≡ true
acquire_beside set s t who list None other = both (not (t == s)) (not (t == s) && true) other (both (not (t == s)) true other refl)
acquire_beside set s t who list (Some x) other = refl

pub remembered_beside : (set : Setting) (s t : ℕ) (st : Entities) → list_all (is_beside set s) (entities.start_remembered t st) ≡ true
remembered_beside set s t st = all_if (is_beside set s) st.set.config.remember (flat_map (λ e. entities.start_entity e st) (filter (λ e. is_remembered e (entities.entries st e)) (names_of st.set t))) []
    (all_each (is_beside set s) (λ e. entities.start_entity e st) (filter (λ e. is_remembered e (entities.entries st e)) (names_of st.set t)) (λ e. refl)) refl

-- a message to an entity of another shard
pub deliver_beside : (set : Setting) (s : ℕ) (m : Message) (st : Entities) → not (shard_of set m.entity == s) ≡ true → list_all (is_beside set s) (entities.deliver m st) ≡ true
deliver_beside set s m st other = by (entities.cell st m.entity).phase
  where
    stashes : list_all (is_beside set s) (entities.stash_message m st) ≡ true
    stashes = all_if (is_beside set s) (nat_lt (length (entities.cell st m.entity).stash) st.set.config.window) (told (fact.Stashed st.who m) ∷ []) (told (fact.Dropped st.who m) ∷ []) refl refl

    snapshots : (n : ℕ) → list_all (is_beside set s) (entities.snapshot_at m.entity n st) ≡ true
    snapshots n = all_if (is_beside set s) (n % st.set.config.snapshot == 0) (told (fact.Snapshot m.entity n) ∷ []) [] (both (not (shard_of set m.entity == s)) true other refl) refl

    asks : (pos : ℕ) → list_all (is_beside set s) (entities.ask_more m pos st) ≡ true
    asks pos = all_if (is_beside set s) (nat_le (slice_index_or (entities.cell st m.entity).reach (m.producer - 1) 0) (pos + st.set.config.window / 2)) (post st.who m.origin (body.Request m.producer m.entity pos (pos + st.set.config.window)) ∷ []) [] refl refl

    writes : (r : Record) (pos : ℕ) (o : Option Keep) → list_all (is_beside set s) (entities.write m r pos st o) ≡ true
    writes r pos (Some keep.Lost) = refl
    writes r pos (Some keep.Kept) = both (not (shard_of set m.entity == s)) true other refl
    writes r pos None =
        let rest : List Move = post st.who m.origin (body.Ack m.producer m.entity pos) ∷ entities.ask_more m pos st in
        both (not (shard_of set m.entity == s)) (list_all (is_beside set s) (entities.snapshot_at m.entity r.number st ++ rest)) other
        (all_join (is_beside set s) (entities.snapshot_at m.entity r.number st) rest (snapshots r.number) (asks pos))

    delivers : (pos : ℕ) (records : List Record) → list_all (is_beside set s) (entities.deliver_at m pos records st) ≡ true
    delivers pos records =
        let last : List Move = entities.write m (entities.record_of m st records) (pos + 1) st (entities.cell st m.entity).armed in
        let resends : List Move = if nat_lt (pos + 1) m.number then post st.who m.origin (body.Resend m.producer m.entity (pos + 1)) ∷ [] else last in
        all_if (is_beside set s) (nat_le m.number pos) (post st.who m.origin (body.Ack m.producer m.entity pos) ∷ []) resends refl
        (all_if (is_beside set s) (nat_lt (pos + 1) m.number) (post st.who m.origin (body.Resend m.producer m.entity (pos + 1)) ∷ []) last refl (writes (entities.record_of m st records) (pos + 1) (entities.cell st m.entity).armed))

    by : (p : Phase) → list_all (is_beside set s) (entities.deliver_by m st p) ≡ true
    by phase.Absent = refl
    by phase.Active = let records : List Record = journal m.entity (entities.entries st m.entity) in delivers (position m.producer records) records
    by phase.Loading = stashes
    by phase.Stopping = stashes
