-- The messages that were kept of a shard, routed one after another: what a step leaves, and that together they are Release.
use Rattle.std.proofs.Common.{◌≡◌, ◌≢◌, ℕ, zero, suc, ◌+◌, ◌-◌, ◌*◌, ◌≤◌, ◌<◌, List, [], ◌∷◌, ◌++◌, length, map, sym, ap, subst, ◌∙◌, refl, append-nil, append_assoc, true, false, true≢false, arith}
use Rattle.std.specs.Prelude.{Bool, ◌&&◌, ◌||◌, ◌==◌, ◌/◌, ◌%◌, not, drop, fold, nat_lt, nat_le, Option, Some, None, is_none, is_some, slice_index_or, slice_set, sum_by, if◌then◌else◌}
use Rattle.std.specs.List.{list_all}
use Rattle.std.specs.Option.{option_map}
use Rattle.std.proofs.lemmas.List.{length-append, get_or-set_other}
use Rattle.std.proofs.lemmas.List.Sums.{fold-append}
use Rattle.yard_model.specs.declared.fact.Fact.{Fact}
use Rattle.yard_model.specs.declared.fact.Fact.TheVariants as fact
use Rattle.yard_model.specs.declared.incarnation.Incarnation.{Incarnation}
use Rattle.yard_model.specs.declared.incarnation.Keep.{Keep}
use Rattle.yard_model.specs.declared.incarnation.Keep.TheVariants as keep
use Rattle.yard_model.specs.declared.incarnation.Slot.TheVariants as slot
use Rattle.yard_model.specs.declared.input.Phase.{Phase}
use Rattle.yard_model.specs.declared.input.Phase.TheVariants as phase
use Rattle.yard_model.specs.declared.out.Item.{Item}
use Rattle.yard_model.specs.declared.out.Item.TheVariants as item
use Rattle.yard_model.specs.declared.packet.Body.{Body}
use Rattle.yard_model.specs.declared.packet.Body.TheVariants as body
use Rattle.yard_model.specs.declared.packet.Message.{Message}
use Rattle.yard_model.specs.declared.packet.Record.{Record}
use Rattle.yard_model.specs.Entities as entities
use Rattle.yard_model.specs.Entities.{Entities, Cell, Hosted, Stopping, hosted, entries, entered, is_in_phase, is_phase, phase_step, phase_by_post, cell, cell_in, cell_after, cells_by, new_cell, entity_of, entities_after, is_running_in, record_of}
use Rattle.yard_model.specs.Genuine.{is_brought}
use Rattle.yard_model.specs.Move.{Move, made, took, handed_off, released, told, post}
use Rattle.yard_model.specs.Node.{Node, Act, by_region, by_entities, after, items_of, of_entities, of_region, route, release, is_running}
use Rattle.yard_model.specs.Region.{Region, region_after, kept_of, home, is_home, is_routable, route_away, route_by, keep as keep_message}
use Rattle.yard_model.specs.Script.{Script, Setting, setting}
use Rattle.yard_model.specs.Setting.{shard_of, place}
use Rattle.yard_model.specs.SlotReads.{journal, position}
use Rattle.yard_model.specs.Spared.{Spared}
use Rattle.yard_model.specs.Words.{at, is_at, is_same}
use Rattle.yard_laws.proofs.PartsLaws.{region_alone, region_items, entities_alone, entities_items}
use Rattle.plain_laws.proofs.Booleans.{and_both, both, number_itself, same_number}
use Rattle.plain_laws.proofs.Lists.{of_write, all_join, all_if}
use Rattle.plain_laws.proofs.Members.{same_is, itself_is}
use Rattle.shard_entities.specs.Lodged.{less, rooms_step}
use Rattle.node_core.specs.Releasing.{release_first, release_one, release_each, TookRoom, HasReleaseRoom, LeavesRoom, IsNext, IsOneLess, Releasing}
use Rattle.node_core.specs.Standing.{Standing}
use Rattle.node_core.specs.Went.{Went, rooms_after, queues_after}
use Rattle.node_core.proofs.GaveLaws.{items_append}
use Rattle.node_core.proofs.StepLaws.{region_rooms, went_nothing}
use Rattle.room_laws.proofs.EntitiesRoom.{deliver_room}
use Rattle.room_laws.proofs.RegionRoom.{away_room, released_room}

-- One step after another.

pub went_both : {v w z : Standing} {before late last : Spared Item} (xs ys : List Act) → Went v w before late xs → Went w z late last ys → Went v z before last (xs ++ ys)
went_both {v} {w} {z} {before} {late} {last} xs ys f g = record {
  script_is = g.script_is ∙ f.script_is;
  node_is = g.node_is ∙ (ap (λ st. fold after st ys) f.node_is ∙ sym (fold-append after v.state xs ys));
  items_are = g.items_are ∙ (ap (λ is. is ++ items_of ys) f.items_are ∙ (append_assoc before.items (items_of xs) (items_of ys) ∙ ap (λ is. before.items ++ is) (sym (items_append xs ys))));
  spare_is =
      let first : late.spare ≡ before.spare - length (items_of xs) = f.spare_is in
      let second : last.spare ≡ late.spare - length (items_of ys) = g.spare_is in
      let all : length (items_of (xs ++ ys)) ≡ length (items_of xs) + length (items_of ys) = ap length (items_append xs ys) ∙ length-append (items_of xs) (items_of ys) in
      omega (arith, first, second, all);
  rooms_are = g.rooms_are ∙ (ap (λ (c : Script). fold (rooms_after (setting c)) w.rooms ys) f.script_is
      ∙ (ap (λ rs. fold (rooms_after (setting v.script)) rs ys) f.rooms_are ∙ sym (fold-append (rooms_after (setting v.script)) v.rooms xs ys)));
  queues_are = g.queues_are ∙ (ap (λ qs. fold queues_after qs ys) f.queues_are ∙ sym (fold-append queues_after v.queues xs ys));
  office_is = let first = f.office_is in let second = g.office_is in omega (arith, first, second);
}

-- Where messages of a shard can be routed, none of them is kept.

routable_is : (n ih runs : Bool) → (if n then false else not ih || runs) ≡ true → (ih && runs) ≡ false → (n ≡ false) × (ih ≡ false)
routable_is true ih runs h k = absurd (true≢false (sym h))
routable_is false true true h k = absurd (true≢false k)
routable_is false true false h k = absurd (true≢false (sym h))
routable_is false false runs h k = (refl, refl)

sent_away : (r : Region) (m : Message) (o : Option Incarnation) → is_none o ≡ false → is_at r.who o ≡ false → fold region_after r (route_by m r o) ≡ r
sent_away r m None none other = absurd (true≢false none)
sent_away r m (Some h) none other = another (is_same h r.who) (same_back h r.who other)
  where
    another : (b : Bool) → b ≡ false → fold region_after r (if b then keep_message m r else post r.who h (body.Sequenced m) ∷ []) ≡ r
    another false e = refl
    another true e = absurd (true≢false e)

    same_back : (x y : Incarnation) → is_same y x ≡ false → is_same x y ≡ false
    same_back x y e = both_ways (is_same x y) refl
      where
        both_ways : (b : Bool) → is_same x y ≡ b → b ≡ false
        both_ways false h = refl
        both_ways true h = absurd (true≢false (sym (itself_is y x (sym (same_is x y h))) ∙ e))

-- What a delivery gives: no shard is taken, let go or handed off, no entity takes commands that didn't, and entries are of one shard.

abbrev pub is_delivering : Setting → ℕ → Move → Bool
is_delivering set s (took (slot.Shard t) list) = false
is_delivering set s (handed_off t stamp to) = false
is_delivering set s (made (item.Fact (fact.Freed (slot.Shard t) n why))) = false
is_delivering set s (made (item.Fact (fact.Active x e n st))) = false
is_delivering set s (made (item.Fact (fact.Wrote e r))) = shard_of set e == s
is_delivering set s (made (item.Fact (fact.Snapshot e n))) = shard_of set e == s
is_delivering set s (made (item.Fact (fact.Remembered e))) = shard_of set e == s
is_delivering set s (made (item.Fact (fact.Forgotten e))) = shard_of set e == s
is_delivering set s m = true

write_delivers : (set : Setting) (s : ℕ) (m : Message) (r : Record) (pos : ℕ) (st : Entities) (o : Option Keep) → (shard_of set m.entity == s) ≡ true → list_all (is_delivering set s) (entities.write m r pos st o) ≡ true
write_delivers set s m r pos st (Some keep.Lost) its = refl
write_delivers set s m r pos st (Some keep.Kept) its = both (shard_of set m.entity == s) true its refl
write_delivers set s m r pos st None its =
    let saves : List Move = entities.snapshot_at m.entity r.number st in
    let acks : List Move = post st.who m.origin (body.Ack m.producer m.entity pos) ∷ entities.ask_more m pos st in
    both (shard_of set m.entity == s) (list_all (is_delivering set s) (saves ++ acks)) its
    (all_join (is_delivering set s) saves acks
    (all_if (is_delivering set s) (r.number % st.set.config.snapshot == 0) (told (fact.Snapshot m.entity r.number) ∷ []) [] (both (shard_of set m.entity == s) true its refl) refl)
    (all_if (is_delivering set s) (nat_le (slice_index_or (cell st m.entity).reach (m.producer - 1) 0) (pos + st.set.config.window / 2)) (post st.who m.origin (body.Request m.producer m.entity pos (pos + st.set.config.window)) ∷ []) [] refl refl))

pub phase_delivers : (set : Setting) (s : ℕ) (m : Message) (st : Entities) (p : Phase) → (shard_of set m.entity == s) ≡ true → list_all (is_delivering set s) (entities.deliver_by m st p) ≡ true
phase_delivers set s m st phase.Absent its = refl
phase_delivers set s m st phase.Loading its = all_if (is_delivering set s) (nat_lt (length (cell st m.entity).stash) st.set.config.window) (told (fact.Stashed st.who m) ∷ []) (told (fact.Dropped st.who m) ∷ []) refl refl
phase_delivers set s m st phase.Stopping its = all_if (is_delivering set s) (nat_lt (length (cell st m.entity).stash) st.set.config.window) (told (fact.Stashed st.who m) ∷ []) (told (fact.Dropped st.who m) ∷ []) refl refl
phase_delivers set s m st phase.Active its =
    let records : List Record = journal m.entity (entries st m.entity) in
    let pos : ℕ = position m.producer records in
    all_if (is_delivering set s) (nat_le m.number pos) (post st.who m.origin (body.Ack m.producer m.entity pos) ∷ []) (if nat_lt (pos + 1) m.number then post st.who m.origin (body.Resend m.producer m.entity (pos + 1)) ∷ [] else entities.write m (record_of m st records) (pos + 1) st (cell st m.entity).armed) refl
    (all_if (is_delivering set s) (nat_lt (pos + 1) m.number) (post st.who m.origin (body.Resend m.producer m.entity (pos + 1)) ∷ []) (entities.write m (record_of m st records) (pos + 1) st (cell st m.entity).armed) refl (write_delivers set s m (record_of m st records) (pos + 1) st (cell st m.entity).armed its))

-- whether a hosted shard is being handed off, if it is hosted
abbrev pub ending_in : Option Hosted → Option (Option Stopping)
ending_in o = option_map (λ (h : Hosted). h.stopping) o

more_entries : (f : Fact) (o : Option Hosted) → ending_in (option_map (λ (h : Hosted). record { entries = h.entries ++ f ∷ []; stopping = h.stopping }) o) ≡ ending_in o
more_entries f None = refl
more_entries f (Some h) = refl

entered_same : (xs : List (Option Hosted)) (t s : ℕ) (f : Fact) → ending_in (at (entered t f xs) s) ≡ ending_in (at xs s)
entered_same xs t s f = of_write (λ o. ending_in o ≡ ending_in (at xs s)) xs t s (option_map (λ (h : Hosted). record { entries = h.entries ++ f ∷ []; stopping = h.stopping }) (at xs t)) None
    (λ same. more_entries f (at xs t) ∙ ap (λ i. ending_in (at xs i)) (sym same)) refl

one_ending : (set : Setting) (k : ℕ) (st : Entities) (m : Move) (s : ℕ) → is_delivering set k m ≡ true → ending_in (hosted (entities_after st m) s) ≡ ending_in (hosted st s)
one_ending set k st (took (slot.Shard t) list) s h = absurd (true≢false (sym h))
one_ending set k st (handed_off t stamp to) s h = absurd (true≢false (sym h))
one_ending set k st (made (item.Fact (fact.Freed (slot.Shard t) n why))) s h = absurd (true≢false (sym h))
one_ending set k st (made (item.Fact (fact.Wrote e r))) s h = entered_same st.hosted (shard_of st.set e) s (fact.Wrote e r)
one_ending set k st (made (item.Fact (fact.Snapshot e n))) s h = entered_same st.hosted (shard_of st.set e) s (fact.Snapshot e n)
one_ending set k st (made (item.Fact (fact.Remembered e))) s h = entered_same st.hosted (shard_of st.set e) s (fact.Remembered e)
one_ending set k st (made (item.Fact (fact.Forgotten e))) s h = entered_same st.hosted (shard_of st.set e) s (fact.Forgotten e)
one_ending set k st m s h = refl

pub all_ending : (set : Setting) (k : ℕ) (st : Entities) (ms : List Move) (s : ℕ) → list_all (is_delivering set k) ms ≡ true → ending_in (hosted (fold entities_after st ms) s) ≡ ending_in (hosted st s)
all_ending set k st [] s h = refl
all_ending set k st (m ∷ ms) s h =
    let n : (is_delivering set k m ≡ true) × (list_all (is_delivering set k) ms ≡ true) = and_both (is_delivering set k m) (list_all (is_delivering set k) ms) h in
    all_ending set k (entities_after st m) ms s n.1 ∙ one_ending set k st m s n.0

posted : (p : Phase) (b : Body) → is_phase phase.Active (phase_by_post p b) ≡ true → is_phase phase.Active p ≡ true
posted phase.Absent b k = k
posted phase.Loading (body.StopEntity e) k = absurd (true≢false (sym k))
posted phase.Loading b k = k
posted phase.Active b k = refl
posted phase.Stopping (body.StopEntity e) k = k
posted phase.Stopping b k = k

active_step : (set : Setting) (s : ℕ) (p : Phase) (m : Move) → is_delivering set s m ≡ true → is_phase phase.Active (phase_step p m) ≡ true → is_phase phase.Active p ≡ true
active_step set s p (made (item.Fact (fact.Start x e))) h k = absurd (true≢false (sym k))
active_step set s p (made (item.Fact (fact.Active x e n st))) h k = absurd (true≢false (sym h))
active_step set s p (made (item.Fact (fact.Stop x e))) h k = absurd (true≢false (sym k))
active_step set s p (made (item.Fact (fact.WriteFailed x e))) h k = absurd (true≢false (sym k))
active_step set s p (made (item.Post q)) h k = posted p q.body k
active_step set s p m h k = k

active_by : (to : Setting) (s : ℕ) (set : Setting) (cells : List Cell) (m : Move) (o : Option (List ℕ)) (e : List ℕ) → is_delivering to s m ≡ true → is_phase phase.Active (cell_in set (cells_by set cells m o) e).phase ≡ true → is_phase phase.Active (cell_in set cells e).phase ≡ true
active_by to s set cells m None e h k = k
active_by to s set cells m (Some x) e h k =
    of_write (λ (c : Cell). is_phase phase.Active c.phase ≡ true → is_phase phase.Active (cell_in set cells e).phase ≡ true) cells (place set x) (place set e) (cell_after (cell_in set cells x) m) (new_cell set)
    (λ same now. subst (λ i. is_phase phase.Active (slice_index_or cells i (new_cell set)).phase ≡ true) (sym same) (active_step to s (cell_in set cells x).phase m h now)) (λ now. now) k

pub active_before : (set : Setting) (s : ℕ) (st : Entities) (ms : List Move) (e : List ℕ) → list_all (is_delivering set s) ms ≡ true → is_in_phase phase.Active (fold entities_after st ms) e ≡ true → is_in_phase phase.Active st e ≡ true
active_before set s st [] e h k = k
active_before set s st (m ∷ ms) e h k =
    let n : (is_delivering set s m ≡ true) × (list_all (is_delivering set s) ms ≡ true) = and_both (is_delivering set s m) (list_all (is_delivering set s) ms) h in
    active_by set s st.set st.cells m (entity_of m) e n.0 (active_before set s (entities_after st m) ms e n.1 k)

-- the room of every other shard stays
less_beside : (set : Setting) (s t : ℕ) (rooms : List ℕ) (e : List ℕ) → t ≢ s → (shard_of set e == s) ≡ true → slice_index_or (less (shard_of set e) rooms) t 0 ≡ slice_index_or rooms t 0
less_beside set s t rooms e other h = get_or-set_other rooms (shard_of set e) t (slice_index_or rooms (shard_of set e) 0 - 1) 0 (λ same. other (same ∙ same_number (shard_of set e) s h))

one_beside : (set : Setting) (s t : ℕ) (rooms : List ℕ) (m : Move) → t ≢ s → is_delivering set s m ≡ true → slice_index_or (rooms_step set rooms m) t 0 ≡ slice_index_or rooms t 0
one_beside set s t rooms (made (item.Fact (fact.Wrote e r))) other h = less_beside set s t rooms e other h
one_beside set s t rooms (made (item.Fact (fact.Snapshot e n))) other h = less_beside set s t rooms e other h
one_beside set s t rooms (made (item.Fact (fact.Remembered e))) other h = less_beside set s t rooms e other h
one_beside set s t rooms (made (item.Fact (fact.Forgotten e))) other h = less_beside set s t rooms e other h
one_beside set s t rooms (made (item.Fact (fact.Freed (slot.Shard u) n why))) other h = absurd (true≢false (sym h))
one_beside set s t rooms m other h = refl

pub rooms_beside : (set : Setting) (s t : ℕ) (rooms : List ℕ) (ms : List Move) → t ≢ s → list_all (is_delivering set s) ms ≡ true → slice_index_or (fold (rooms_after set) rooms (map by_entities ms)) t 0 ≡ slice_index_or rooms t 0
rooms_beside set s t rooms [] other h = refl
rooms_beside set s t rooms (m ∷ ms) other h =
    let n : (is_delivering set s m ≡ true) × (list_all (is_delivering set s) ms ≡ true) = and_both (is_delivering set s m) (list_all (is_delivering set s) ms) h in
    rooms_beside set s t (rooms_step set rooms m) ms other n.1 ∙ one_beside set s t rooms m other n.0

-- no act changes the setting
set_along_acts : (st : Node) (acts : List Act) → (fold after st acts).set ≡ st.set
set_along_acts st [] = refl
set_along_acts st (a ∷ acts) = set_along_acts (after st a) acts

some_is_not_none : {A : Type 0} {x : A} → Some x ≡ None → ⊥
some_is_not_none e = true≢false (ap is_some e)

some_same : {A : Type 0} {x y : A} → Some x ≡ Some y → x ≡ y
some_same e = cc

-- What routing a message leaves of the entities; and of the region, where messages of its shard can be routed.

pub record IsRouted (old new : Node) : Type 0 where
  pub set_is : new.set ≡ old.set
  pub ending_is : (s : ℕ) → ending_in (hosted new.entities s) ≡ ending_in (hosted old.entities s)
  pub active : (e : List ℕ) → is_in_phase phase.Active new.entities e ≡ true → is_in_phase phase.Active old.entities e ≡ true

abbrev pub shard_in : Node → Message → ℕ
shard_in st m = shard_of st.set m.entity

pub routed_leaves : (st : Node) (m : Message) → IsRouted st (fold after st (route m st))
routed_leaves st m = by (is_home st.region (shard_in st m) && is_running st (shard_in st m))
  where
    by : (b : Bool) → IsRouted st (fold after st (if b then of_entities (entities.deliver m) st else of_region (route_away m) st))
    by true =
        let ms : List Move = entities.deliver m st.entities in
        let fits : list_all (is_delivering st.set (shard_in st m)) ms ≡ true = phase_delivers st.set (shard_in st m) m st.entities (cell st.entities m.entity).phase (number_itself (shard_in st m) (shard_in st m) refl) in
        subst (λ (n : Node). IsRouted st n) (sym (entities_alone st ms))
        (record { set_is = refl; ending_is = λ s. all_ending st.set (shard_in st m) st.entities ms s fits; active = λ x k. active_before st.set (shard_in st m) st.entities ms x fits k })
    by false = subst (λ (n : Node). IsRouted st n) (sym (region_alone st (route_away m st.region))) (record { set_is = refl; ending_is = λ s. refl; active = λ x k. k })

region_kept : (st : Node) (m : Message) → st.region.set ≡ st.set → is_routable st.region (shard_in st m) (is_running st (shard_in st m)) ≡ true → (fold after st (route m st)).region ≡ st.region
region_kept st m set_is ready = by (is_home st.region (shard_in st m) && is_running st (shard_in st m)) refl
  where
    by : (b : Bool) → (is_home st.region (shard_in st m) && is_running st (shard_in st m)) ≡ b → (fold after st (if b then of_entities (entities.deliver m) st else of_region (route_away m) st)).region ≡ st.region
    by true e = ap (λ (n : Node). n.region) (entities_alone st (entities.deliver m st.entities))
    by false e =
        let k : (is_none (home st.region (shard_in st m)) ≡ false) × (is_home st.region (shard_in st m) ≡ false) = routable_is (is_none (home st.region (shard_in st m))) (is_home st.region (shard_in st m)) (is_running st (shard_in st m)) ready e in
        ap (λ (n : Node). n.region) (region_alone st (route_away m st.region))
        ∙ sent_away st.region m (home st.region (shard_of st.region.set m.entity))
        (subst (λ (z : Setting). is_none (home st.region (shard_of z m.entity)) ≡ false) (sym set_is) k.0)
        (subst (λ (z : Setting). is_home st.region (shard_of z m.entity) ≡ false) (sym set_is) k.1)

region_stays : (st : Node) (m : Message) (s : ℕ) → st.region.set ≡ st.set → shard_in st m ≡ s → is_routable st.region s (is_running st s) ≡ true → (fold after st (route m st)).region ≡ st.region
region_stays st m s set_is its ready = region_kept st m set_is (subst (λ t. is_routable st.region t (is_running st t) ≡ true) (sym its) ready)

-- Room that stays.

ending_running : (o : Option Hosted) (p : Option Hosted) → ending_in o ≡ ending_in p → is_running_in o ≡ is_running_in p
ending_running None None e = refl
ending_running None (Some h) e = absurd (some_is_not_none (sym e))
ending_running (Some h) None e = absurd (some_is_not_none e)
ending_running (Some h) (Some k) e = ap is_none (some_same e)

pub ending_none : (o : Option Hosted) (p : Option Hosted) → ending_in o ≡ ending_in p → p ≡ None → o ≡ None
ending_none None p e none = refl
ending_none (Some h) p e none = absurd (some_is_not_none (subst (λ (x : Option Hosted). Some h.stopping ≡ ending_in x) none e))

-- where no entity takes commands that didn't
pub record IsCalmer (t : ℕ) (old new : Standing) : Type 0 where
  pub script_is : new.script ≡ old.script
  pub set_is : new.state.set ≡ old.state.set
  pub ending_is : ending_in (hosted new.state.entities t) ≡ ending_in (hosted old.state.entities t)
  pub active : (e : List ℕ) → is_in_phase phase.Active new.state.entities e ≡ true → is_in_phase phase.Active old.state.entities e ≡ true

pub room_stays : {v w : Standing} {t : ℕ} (n : ℕ) → IsCalmer t v w → slice_index_or w.rooms t 0 ≡ slice_index_or v.rooms t 0 → HasReleaseRoom n v t → HasReleaseRoom n w t
room_stays {v} {w} {t} n calm same room = record {
  some = λ there. let wide = room.some (λ none. there (ending_none (hosted w.state.entities t) (hosted v.state.entities t) calm.ending_is none)) in omega (arith, wide, same);
  active = λ e named its active.
      let wide = room.active e (subst (λ (c : Script). is_brought c e ≡ true) calm.script_is named) (subst (λ (z : Setting). shard_of z e ≡ t) calm.set_is its) (calm.active e active) in
      omega (arith, wide, same);
}

-- moves of the region
pub region_rooms_stay : {v w : Standing} {before late : Spared Item} (ms : List Move) → Went v w before late (map by_region ms) → (t n : ℕ) → HasReleaseRoom n v t → HasReleaseRoom n w t
region_rooms_stay {v} {w} {before} {late} ms went t n room =
    let goes : w.state ≡ record v.state { region = fold region_after v.state.region ms } = went.node_is ∙ region_alone v.state ms in
    room_stays n
    (record {
      script_is = went.script_is;
      set_is = ap (λ (x : Node). x.set) goes;
      ending_is = ap (λ (x : Node). ending_in (hosted x.entities t)) goes;
      active = λ e k. subst (λ (x : Node). is_in_phase phase.Active x.entities e ≡ true) goes k;
    })
    (ap (λ rs. slice_index_or rs t 0) (went.rooms_are ∙ sym (region_rooms (setting v.script) v.rooms ms))) room

-- A message that is routed takes room for two in its shard, where its entity takes commands, and none in another.
pub routed_rooms : {v w : Standing} (m : Message) {before late : Spared Item} → is_brought v.script m.entity ≡ true → v.state.set ≡ setting v.script → Went v w before late (route m v.state)
    → TookRoom (shard_in v.state m) (if is_in_phase phase.Active v.state.entities m.entity then 2 else 0) v w → LeavesRoom (shard_in v.state m) 1 v w
routed_rooms {v} {w} m {before} {late} brought set_is went taken = record {
  here = λ n room. record {
    some = λ there. some_by n room there (is_in_phase phase.Active v.state.entities m.entity) refl;
    active = λ e named its active. active_by n (room.active e (subst (λ (c : Script). is_brought c e ≡ true) went.script_is named) (subst (λ (z : Setting). shard_of z e ≡ shard_in v.state m) node_set its) (now_active e active))
        (is_in_phase phase.Active v.state.entities m.entity) refl;
  };
  others = λ t n other room. room_stays n (record { script_is = went.script_is; set_is = node_set; ending_is = ending t; active = now_active }) (beside t other) room;
}
  where
    leaves : IsRouted v.state (fold after v.state (route m v.state))
    leaves = routed_leaves v.state m

    node_set : w.state.set ≡ v.state.set
    node_set = ap (λ (x : Node). x.set) went.node_is ∙ leaves.set_is

    ending : (t : ℕ) → ending_in (hosted w.state.entities t) ≡ ending_in (hosted v.state.entities t)
    ending t = ap (λ (x : Node). ending_in (hosted x.entities t)) went.node_is ∙ leaves.ending_is t

    now_active : (e : List ℕ) → is_in_phase phase.Active w.state.entities e ≡ true → is_in_phase phase.Active v.state.entities e ≡ true
    now_active e k = leaves.active e (subst (λ (x : Node). is_in_phase phase.Active x.entities e ≡ true) went.node_is k)

    beside : (t : ℕ) → t ≢ shard_in v.state m → slice_index_or w.rooms t 0 ≡ slice_index_or v.rooms t 0
    beside t other = ap (λ rs. slice_index_or rs t 0) went.rooms_are ∙ by (is_home v.state.region (shard_in v.state m) && is_running v.state (shard_in v.state m))
      where
        by : (b : Bool) → slice_index_or (fold (rooms_after (setting v.script)) v.rooms (if b then of_entities (entities.deliver m) v.state else of_region (route_away m) v.state)) t 0 ≡ slice_index_or v.rooms t 0
        by true = rooms_beside (setting v.script) (shard_in v.state m) t v.rooms (entities.deliver m v.state.entities) other
            (phase_delivers (setting v.script) (shard_in v.state m) m v.state.entities (cell v.state.entities m.entity).phase (number_itself (shard_of (setting v.script) m.entity) (shard_in v.state m) (ap (λ (z : Setting). shard_of z m.entity) (sym set_is))))
        by false = ap (λ rs. slice_index_or rs t 0) (sym (region_rooms (setting v.script) v.rooms (route_away m v.state.region)))

    took : (b : Bool) → is_in_phase phase.Active v.state.entities m.entity ≡ b → slice_index_or v.rooms (shard_in v.state m) 0 ≤ slice_index_or w.rooms (shard_in v.state m) 0 + (if b then 2 else 0)
    took b e = subst (λ x. slice_index_or v.rooms (shard_in v.state m) 0 ≤ slice_index_or w.rooms (shard_in v.state m) 0 + (if x then 2 else 0)) e taken

    some_by : (n : ℕ) → HasReleaseRoom (2 + (n + 2)) v (shard_in v.state m) → (hosted w.state.entities (shard_in v.state m) ≡ None → ⊥) → (b : Bool) → is_in_phase phase.Active v.state.entities m.entity ≡ b → 2 ≤ slice_index_or w.rooms (shard_in v.state m) 0
    some_by n room there true e = let wide = room.active m.entity brought refl e in let less = took true e in omega (arith, wide, less)
    some_by n room there false e =
        let wide = room.some (λ none. there (ending_none (hosted w.state.entities (shard_in v.state m)) (hosted v.state.entities (shard_in v.state m)) (ending (shard_in v.state m)) none)) in
        let less = took false e in
        omega (arith, wide, less)

    active_by : (n : ℕ) → 2 + (n + 2) ≤ slice_index_or v.rooms (shard_in v.state m) 0 → (b : Bool) → is_in_phase phase.Active v.state.entities m.entity ≡ b → 2 + n ≤ slice_index_or w.rooms (shard_in v.state m) 0
    active_by n wide true e = let less = took true e in omega (arith, wide, less)
    active_by n wide false e = let less = took false e in omega (arith, wide, less)

-- One after another.

pub leaves_nothing : (v : Standing) (s : ℕ) → LeavesRoom s 0 v v
leaves_nothing v s = record { here = λ n room. subst (λ k. HasReleaseRoom k v s) (let e : 2 + (n + 2 * 0) ≡ 2 + n = omega arith in e) room; others = λ t n other room. room }

pub leaves_next : {v w x : Standing} {s i : ℕ} → LeavesRoom s i v w → LeavesRoom s 1 w x → LeavesRoom s (i + 1) v x
leaves_next {v} {w} {x} {s} {i} f g = record {
  here = λ n room. g.here n (f.here (n + 2) (subst (λ k. HasReleaseRoom k v s) (let e : 2 + (n + 2 * (i + 1)) ≡ 2 + ((n + 2) + 2 * i) = omega arith in e) room));
  others = λ t n other room. g.others t n other (f.others t n other room);
}

-- At most four items.
pub routed_room : (m : Message) (st : Node) → length (items_of (route m st)) ≤ 4
routed_room m st = by (is_home st.region (shard_of st.set m.entity) && is_running st (shard_of st.set m.entity))
  where
    by : (b : Bool) → length (items_of (if b then of_entities (entities.deliver m) st else of_region (route_away m) st)) ≤ 4
    by true = subst (λ is. length is ≤ 4) (sym (entities_items (entities.deliver m st.entities))) (deliver_room m st.entities)
    by false = let few : length (items_of (of_region (route_away m) st)) ≤ 2 = subst (λ is. length is ≤ 2) (sym (region_items (route_away m st.region))) (away_room m st.region) in omega (arith, few)

-- The oldest is taken out.

dropped : (kept : List (List Message)) (s : ℕ) → kept_of (slice_set kept s (drop 1 (kept_of kept s))) s ≡ drop 1 (kept_of kept s)
dropped [] s = refl
dropped (ms ∷ kept) zero = refl
dropped (ms ∷ kept) (suc s) = dropped kept s

pub taken_went : {v w : Standing} {s : ℕ} {m : Message} (before : Spared Item) → IsNext s m v w → Went v w before before (by_region (released s) ∷ [])
taken_went {v} {w} {s} {m} before is = subst (λ (x : Standing). Went v x before before (by_region (released s) ∷ [])) (sym is.goes) (record {
  script_is = refl;
  node_is = refl;
  items_are = sym (append-nil before.items);
  spare_is = omega arith;
  rooms_are = refl;
  queues_are = refl;
  office_is = refl;
})

-- One is taken out and routed.

first_is : (s : ℕ) (m : Message) (ms : List Message) (st : Node) → ms ≡ m ∷ drop 1 ms → release_first s ms st ≡ by_region (released s) ∷ route m (after st (by_region (released s)))
first_is s m ms st e = subst (λ (xs : List Message). release_first s xs st ≡ by_region (released s) ∷ route m (after st (by_region (released s)))) (sym e) refl

pub one_went : {v mid w : Standing} {s : ℕ} {m : Message} {before late : Spared Item} → IsNext s m v mid → Went mid w before late (route m mid.state) → Went v w before late (release_one s v.state)
one_went {v} {mid} {w} {s} {m} {before} {late} is went =
    subst (λ acts. Went v w before late acts)
    (ap (λ (x : Standing). by_region (released s) ∷ route m x.state) is.goes ∙ sym (first_is s m (kept_of v.state.region.kept s) v.state is.kept_is))
    (went_both (by_region (released s) ∷ []) (route m mid.state) (taken_went before is) went)

pub one_less : {v mid w : Standing} {s : ℕ} {m : Message} {before late : Spared Item}
    → v.state.region.set ≡ v.state.set → v.state.set ≡ setting v.script → is_brought v.script m.entity ≡ true → is_routable v.state.region s (is_running v.state s) ≡ true → IsNext s m v mid
    → Went mid w before late (route m mid.state) → TookRoom (shard_of mid.state.set m.entity) (if is_in_phase phase.Active mid.state.entities m.entity then 2 else 0) mid w → IsOneLess s v w
one_less {v} {mid} {w} {s} {m} {before} {late} region_set set_is brought ready is went taken = record {
  kept_is = ap (λ (r : Region). kept_of r.kept s) region_is ∙ dropped v.state.region.kept s;
  routable = ap (λ (r : Region). is_routable r s (is_running w.state s)) region_is ∙ (ap (is_routable v.state.region s) running_is ∙ ready);
  leaves = record { here = λ n room. routed.here n (first s (2 + (n + 2)) room); others = λ t n other room. routed.others t n other (first t n room) };
  fewer = ap (λ (r : Region). sum_by length r.kept + 1) region_is ∙ released_room v.state.region s m is.kept_is;
}
  where
    between : Node
    between = after v.state (by_region (released s))

    mid_is : mid.state ≡ between
    mid_is = ap (λ (x : Standing). x.state) is.goes

    goes : w.state ≡ fold after between (route m between)
    goes = went.node_is ∙ ap (λ (x : Node). fold after x (route m x)) mid_is

    region_is : w.state.region ≡ region_after v.state.region (released s)
    region_is = ap (λ (x : Node). x.region) goes ∙ region_stays between m s region_set is.shard_is ready

    running_is : is_running w.state s ≡ is_running v.state s
    running_is = ap (λ (x : Node). is_running x s) goes ∙ ending_running (hosted (fold after between (route m between)).entities s) (hosted v.state.entities s) ((routed_leaves between m).ending_is s)

    first : (t n : ℕ) → HasReleaseRoom n v t → HasReleaseRoom n mid t
    first = region_rooms_stay (released s ∷ []) (taken_went before is)

    routed : LeavesRoom s 1 mid w
    routed = subst (λ t. LeavesRoom t 1 mid w) (ap (λ (x : Standing). shard_of x.state.set m.entity) is.goes ∙ is.shard_is)
        (routed_rooms m (subst (λ (x : Standing). is_brought x.script m.entity ≡ true) (sym is.goes) brought) (subst (λ (x : Standing). x.state.set ≡ setting x.script) (sym is.goes) set_is) went taken)

-- All of them, one after another.

each_first : (s : ℕ) (ms : List Message) (st : Node) → 0 < length ms → release_first s ms st ++ release_each s (drop 1 ms) (fold after st (release_first s ms st)) ≡ release_each s ms st
each_first s [] st h = absurd (let e : 0 < 0 = h in omega (arith, e))
each_first s (m ∷ ms) st h = refl

fewer : {A : Type 0} (xs : List A) → 0 < length xs → length (drop 1 xs) + 1 ≡ length xs
fewer [] h = absurd (let e : 0 < 0 = h in omega (arith, e))
fewer (x ∷ xs) h = omega arith

pub releasing_first : {v : Standing} {s : ℕ} (before : Spared Item) → is_routable v.state.region s (is_running v.state s) ≡ true → HasReleaseRoom (2 + 2 * length (kept_of v.state.region.kept s)) v s
    → 4 * length (kept_of v.state.region.kept s) ≤ before.spare → Releasing s 0 v v before before
releasing_first {v} {s} before ready rooms room = record {
  acts = [];
  went = went_nothing v before;
  rest = refl;
  count = omega arith;
  routable = ready;
  rooms = rooms;
  room = room;
  leaves = leaves_nothing v s;
  spent = omega arith;
}

pub releasing_next : {v w x : Standing} {s i : ℕ} {before mid late : Spared Item} → i < length (kept_of v.state.region.kept s) → Releasing s i v w before mid → Went w x mid late (release_one s w.state) → IsOneLess s w x
    → mid.spare ≤ late.spare + 4 → Releasing s (i + 1) v x before late
releasing_next {v} {w} {x} {s} {i} {before} {mid} {late} within r went less spent =
    let kept : List Message = kept_of w.state.region.kept s in
    let some : 0 < length kept = let count = r.count in omega (arith, within, count) in
    let few : length (drop 1 kept) + 1 ≡ length kept = fewer kept some in
    let left : length (kept_of x.state.region.kept s) ≡ length (drop 1 kept) = ap length less.kept_is in
    record {
      acts = r.acts ++ release_one s w.state;
      went = went_both r.acts (release_one s w.state) r.went went;
      rest =
          append_assoc r.acts (release_one s w.state) (release_each s (kept_of x.state.region.kept s) x.state)
          ∙ (ap (λ acts. r.acts ++ (release_one s w.state ++ acts)) (ap (λ ms. release_each s ms x.state) less.kept_is ∙ ap (release_each s (drop 1 kept)) went.node_is)
          ∙ (ap (λ acts. r.acts ++ acts) (each_first s kept w.state some) ∙ r.rest));
      count = let count = r.count in omega (arith, count, few, left);
      routable = less.routable;
      rooms = let narrow : HasReleaseRoom (2 + 2 * length (drop 1 kept)) x s = less.leaves.here (2 * length (drop 1 kept)) (subst (λ n. HasReleaseRoom n w s) (let e : 2 + 2 * length kept ≡ 2 + (2 * length (drop 1 kept) + 2) = omega (arith, few) in e) r.rooms) in
          subst (λ n. HasReleaseRoom (2 + 2 * n) x s) (sym left) narrow;
      room = let wide = r.room in omega (arith, wide, few, left, spent);
      leaves = leaves_next r.leaves less.leaves;
      spent = let all = r.spent in let fewer_kept = less.fewer in omega (arith, all, fewer_kept, spent);
    }

none_left : {A : Type 0} (xs : List A) → length xs ≡ 0 → xs ≡ []
none_left [] e = refl
none_left (x ∷ xs) e = absurd (let h : suc (length xs) ≡ 0 = e in omega (arith, h))

pub released_all : {v w : Standing} {s i : ℕ} {before late : Spared Item} → i ≡ length (kept_of v.state.region.kept s) → is_routable v.state.region s (is_running v.state s) ≡ true → Releasing s i v w before late
    → Went v w before late (release s v.state)
released_all {v} {w} {s} {i} {before} {late} past ready r =
    let none : kept_of w.state.region.kept s ≡ [] = none_left (kept_of w.state.region.kept s) (let count = r.count in omega (arith, count, past)) in
    subst (λ acts. Went v w before late acts)
    (sym (append-nil r.acts) ∙ (ap (λ ms. r.acts ++ release_each s ms w.state) (sym none) ∙ (r.rest ∙ ap (λ b. if b then release_each s (kept_of v.state.region.kept s) v.state else []) (sym ready)))) r.went

pub not_released : (v : Standing) (s : ℕ) (before : Spared Item) → is_routable v.state.region s (is_running v.state s) ≡ false → Went v v before before (release s v.state)
not_released v s before e = subst (λ acts. Went v v before before acts) (ap (λ b. if b then release_each s (kept_of v.state.region.kept s) v.state else []) (sym e)) (went_nothing v before)

-- While some are left there is one to route, and room for it.

pub some_left : {v w : Standing} {s i : ℕ} {before late : Spared Item} → i < length (kept_of v.state.region.kept s) → Releasing s i v w before late → kept_of w.state.region.kept s ≡ [] → ⊥
some_left {v} {w} {s} {i} within r none = let count = r.count in let empty : length (kept_of w.state.region.kept s) ≡ 0 = ap length none in absurd (let e : 0 < 0 = omega (arith, count, within, empty) in omega (arith, e))

pub room_left : {v w : Standing} {s i : ℕ} {before late : Spared Item} → i < length (kept_of v.state.region.kept s) → Releasing s i v w before late → HasReleaseRoom 4 w s × (4 ≤ late.spare)
room_left {v} {w} {s} {i} {before} {late} within r =
    let count = r.count in
    let room = r.room in
    (record { some = r.rooms.some; active = λ e named its active. let wide = r.rooms.active e named its active in omega (arith, count, within, wide) }, omega (arith, count, within, room))
