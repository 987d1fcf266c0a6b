-- What stands of entities, move by move.
use Rattle.std.proofs.Common.{◌≡◌, ℕ, List, [], ◌∷◌, ◌++◌, length, sym, ap, subst, ◌∙◌, refl, true, false, true≢false}
use Rattle.std.specs.Prelude.{Bool, ◌&&◌, ◌||◌, not, drop, fold, Option, Some, None, is_none, if◌then◌else◌}
use Rattle.std.specs.List.{list_all, list_any, flat_map}
use Rattle.std.proofs.lemmas.Grind.{flat_map-append}
use Rattle.std.proofs.lemmas.List.Sums.{fold-append}
use Rattle.yard_model.specs.declared.fact.Fact.{Fact}
use Rattle.yard_model.specs.declared.fact.Fact.TheVariants as fact
use Rattle.yard_model.specs.declared.out.Item.{Item}
use Rattle.yard_model.specs.declared.out.Item.TheVariants as item
use Rattle.yard_model.specs.declared.input.Phase.{Phase}
use Rattle.yard_model.specs.declared.input.Phase.TheVariants as phase
use Rattle.yard_model.specs.declared.packet.Message.{Message}
use Rattle.yard_model.specs.declared.incarnation.Incarnation.{Incarnation}
use Rattle.yard_model.specs.declared.incarnation.Keep.{Keep}
use Rattle.yard_model.specs.declared.incarnation.Slot.{Slot}
use Rattle.yard_model.specs.declared.state.State.{State}
use Rattle.yard_model.specs.Entities.{Cell, Entities, Hosted, is_phase, stash_step, cell_after, cell, hosted, entries_in, entries, is_hosted, is_in_phase, entity_of, hosted_step, entities_after}
use Rattle.yard_model.specs.Safe.{is_journal_state}
use Rattle.yard_model.specs.Genuine.{is_brought}
use Rattle.yard_model.specs.Move.{Move, told, item_of}
use Rattle.yard_model.specs.Script.{Script, Setting, is_name, setting}
use Rattle.yard_model.specs.Setting.{shard_of}
use Rattle.yard_model.specs.SlotLists.{shard_list}
use Rattle.yard_model.specs.SlotReads.{holder, journal}
use Rattle.yard_model.specs.Trace.{slot_of, with_entry}
use Rattle.yard_model.specs.Words.{is_at, is_same, at}
use Rattle.plain_laws.proofs.Booleans.{and_both, both, same_name, right_of}
use Rattle.plain_laws.proofs.Members.{itself_is}
use Rattle.plain_laws.proofs.Lists.{none_is_not_some, all_join}
use Rattle.plain_laws.proofs.Names.{name_itself}
use Rattle.actor_laws.specs.Owes.{Hand, has_name, without_name, live_after, hand_after, follows_in_hand, lives_in_hand, guard_in_hand, guarded_in_hand, facts_in}
use Rattle.actor_laws.specs.Held.{slot_told, is_grant, is_slot_held, held_in_hand}
use Rattle.actor_laws.specs.Moves.{is_own_move, facts_of}
use Rattle.actor_laws.specs.EntitiesStand.{IsHeldShard, is_for, is_entity_fact, IsEntities, InHand, KeepsEntities}
use Rattle.actor_laws.proofs.EntitiesCells.{own_cell, other_cell, cells_count}

-- Moves in turn.

pub facts_append : (xs ys : List Item) → facts_in (xs ++ ys) ≡ facts_in xs ++ facts_in ys
facts_append [] ys = refl
facts_append (item.Fact f ∷ is) ys = ap (λ fs. f ∷ fs) (facts_append is ys)
facts_append (item.Post p ∷ is) ys = facts_append is ys

pub facts_both : (xs ys : List Move) → facts_of (xs ++ ys) ≡ facts_of xs ++ facts_of ys
facts_both xs ys = ap facts_in (flat_map-append item_of xs ys) ∙ facts_append (flat_map item_of xs) (flat_map item_of ys)

pub guarded_both : (c : Script) (vouches : List ℕ → ℕ → ℕ → Bool) (who : Incarnation) (h : Hand) (xs ys : List Fact) → guarded_in_hand c vouches who h xs ≡ true → guarded_in_hand c vouches who (fold (hand_after c) h xs) ys ≡ true → guarded_in_hand c vouches who h (xs ++ ys) ≡ true
guarded_both c vouches who h [] ys f g = g
guarded_both c vouches who h (x ∷ xs) ys f g =
    let m : (guard_in_hand c vouches who h x ≡ true) × (guarded_in_hand c vouches who (hand_after c h x) xs ≡ true) = and_both (guard_in_hand c vouches who h x) (guarded_in_hand c vouches who (hand_after c h x) xs) f in
    both (guard_in_hand c vouches who h x) (guarded_in_hand c vouches who (hand_after c h x) (xs ++ ys)) m.0 (guarded_both c vouches who (hand_after c h x) xs ys m.1 g)

pub held_both : (c : Script) (who : Incarnation) (h : Hand) (xs ys : List Fact) → held_in_hand c who h xs ≡ true → held_in_hand c who (fold (hand_after c) h xs) ys ≡ true → held_in_hand c who h (xs ++ ys) ≡ true
held_both c who h [] ys f g = g
held_both c who h (x ∷ xs) ys f g =
    let m : ((is_grant x || is_slot_held who h (slot_told (setting c) x)) ≡ true) × (held_in_hand c who (hand_after c h x) xs ≡ true) = and_both (is_grant x || is_slot_held who h (slot_told (setting c) x)) (held_in_hand c who (hand_after c h x) xs) f in
    both (is_grant x || is_slot_held who h (slot_told (setting c) x)) (held_in_hand c who (hand_after c h x) (xs ++ ys)) m.0 (held_both c who (hand_after c h x) xs ys m.1 g)

pub who_stays : (st : Entities) (ms : List Move) → (fold entities_after st ms).who ≡ st.who
who_stays st [] = refl
who_stays st (m ∷ ms) = who_stays (entities_after st m) ms

pub set_stays : (st : Entities) (ms : List Move) → (fold entities_after st ms).set ≡ st.set
set_stays st [] = refl
set_stays st (m ∷ ms) = set_stays (entities_after st m) ms

pub keeps_none : (c : Script) (st : Entities) → IsEntities c st → KeepsEntities c st []
keeps_none c st is = record { stands = is; posts_are = refl; facts_are = refl; held_are = λ h i. refl; guarded_are = λ v h i. refl; goes_along = λ h i. i }

pub keeps_both : (c : Script) (st : Entities) (xs ys : List Move) → KeepsEntities c st xs → KeepsEntities c (fold entities_after st xs) ys → KeepsEntities c st (xs ++ ys)
keeps_both c st xs ys f g =
    let mid : Entities = fold entities_after st xs in
    record {
      stands = subst (IsEntities c) (sym (fold-append entities_after st xs ys)) g.stands;
      posts_are = all_join (is_own_move c st.who) xs ys f.posts_are (subst (λ w. list_all (is_own_move c w) ys ≡ true) (who_stays st xs) g.posts_are);
      facts_are = ap (list_all (is_entity_fact st.who)) (facts_both xs ys) ∙ all_join (is_entity_fact st.who) (facts_of xs) (facts_of ys) f.facts_are (subst (λ w. list_all (is_entity_fact w) (facts_of ys) ≡ true) (who_stays st xs) g.facts_are);
      held_are = λ h i. ap (held_in_hand c st.who h) (facts_both xs ys)
          ∙ held_both c st.who h (facts_of xs) (facts_of ys) (f.held_are h i)
          (subst (λ w. held_in_hand c w (fold (hand_after c) h (facts_of xs)) (facts_of ys) ≡ true) (who_stays st xs) (g.held_are (fold (hand_after c) h (facts_of xs)) (f.goes_along h i)));
      guarded_are = λ v h i. ap (guarded_in_hand c v st.who h) (facts_both xs ys)
          ∙ guarded_both c v st.who h (facts_of xs) (facts_of ys) (f.guarded_are v h i)
          (subst (λ w. guarded_in_hand c v w (fold (hand_after c) h (facts_of xs)) (facts_of ys) ≡ true) (who_stays st xs) (g.guarded_are v (fold (hand_after c) h (facts_of xs)) (f.goes_along h i)));
      goes_along = λ h i. subst (λ x. InHand c (fold (hand_after c) h (facts_of (xs ++ ys))) x) (sym (fold-append entities_after st xs ys))
          (subst (λ x. InHand c x (fold entities_after mid ys)) (sym (ap (fold (hand_after c) h) (facts_both xs ys) ∙ fold-append (hand_after c) h (facts_of xs) (facts_of ys)))
          (g.goes_along (fold (hand_after c) h (facts_of xs)) (f.goes_along h i)));
    }

-- A move of one entity, which leaves the shards.

pub by_name : (P : Type 0) (e f : List ℕ) → (e ≡ f → P) → (is_name e f ≡ false → P) → P
by_name P e f same other = by (is_name e f) refl
  where
    by : (b : Bool) → is_name e f ≡ b → P
    by true k = same (same_name e f k)
    by false k = other k

-- the phase of an entity after a move of e
own_phase : (c : Script) (st : Entities) (m : Move) (e : List ℕ) → IsEntities c st → is_brought c e ≡ true → entity_of m ≡ Some e → is_in_phase phase.Absent (entities_after st m) e ≡ is_phase phase.Absent (cell_after (cell st e) m).phase
own_phase c st m e is brought of = ap (λ (x : Cell). is_phase phase.Absent x.phase) (own_cell c st m e is brought of)

other_phase : (c : Script) (st : Entities) (m : Move) (e f : List ℕ) → IsEntities c st → is_brought c e ≡ true → is_brought c f ≡ true → entity_of m ≡ Some e → is_name e f ≡ false → is_in_phase phase.Absent (entities_after st m) f ≡ is_in_phase phase.Absent st f
other_phase c st m e f is he hf of other = ap (λ (x : Cell). is_phase phase.Absent x.phase) (other_cell c st m e f is he hf of other)

pub stands_cell : (c : Script) (st : Entities) (m : Move) (e : List ℕ) → IsEntities c st → is_brought c e ≡ true → entity_of m ≡ Some e → hosted_step st.set st.hosted m ≡ st.hosted
    → (is_phase phase.Absent (cell_after (cell st e) m).phase ≡ false → is_hosted st (shard_of st.set e) ≡ true)
    → list_all (is_for c e) (cell_after (cell st e) m).stash ≡ true
    → IsEntities c (entities_after st m)
stands_cell c st m e is brought of shards home stash = record {
  who_is = is.who_is;
  set_is = is.set_is;
  version_is = is.version_is;
  shards_there = ap length shards ∙ is.shards_there;
  cells_there = cells_count st m ∙ is.cells_there;
  hosted_are = λ s h k. is.hosted_are s h (sym (ap (λ l. at l s) shards) ∙ k);
  at_home = λ f hf k. there f (by_name (is_hosted st (shard_of st.set f) ≡ true) e f
      (λ same. subst (λ x. is_hosted st (shard_of st.set x) ≡ true) same (home (sym (own_phase c st m e is brought of) ∙ (ap (is_in_phase phase.Absent (entities_after st m)) same ∙ k))))
      (λ other. is.at_home f hf (sym (other_phase c st m e f is brought hf of other) ∙ k)));
  stashed = λ f hf. by_name (list_all (is_for c f) (cell (entities_after st m) f).stash ≡ true) e f
      (λ same. subst (λ x. list_all (is_for c x) (cell (entities_after st m) x).stash ≡ true) same (ap (λ (x : Cell). list_all (is_for c e) x.stash) (own_cell c st m e is brought of) ∙ stash))
      (λ other. ap (λ (x : Cell). list_all (is_for c f) x.stash) (other_cell c st m e f is brought hf of other) ∙ is.stashed f hf);
}
  where
    there : (f : List ℕ) → is_hosted st (shard_of st.set f) ≡ true → is_hosted (entities_after st m) (shard_of st.set f) ≡ true
    there f k = ap (λ l. not (is_none (at l (shard_of st.set f)))) shards ∙ k

-- what is in hand goes along, where the live names do
pub along_cell : (c : Script) (st : Entities) (m : Move) (e : List ℕ) (h g : Hand) → IsEntities c st → is_brought c e ≡ true → entity_of m ≡ Some e → hosted_step st.set st.hosted m ≡ st.hosted
    → InHand c h st → g.lists ≡ h.lists → g.version ≡ h.version
    → has_name e g.live ≡ not (is_phase phase.Absent (cell_after (cell st e) m).phase)
    → ((f : List ℕ) → is_name e f ≡ false → has_name f g.live ≡ has_name f h.live)
    → InHand c g (entities_after st m)
along_cell c st m e h g is brought of shards i lists version live others = record {
  there = ap (λ l. length l.shards) lists ∙ i.there;
  lists_are = λ s x k. ap (λ l. shard_list l s) lists ∙ i.lists_are s x (sym (ap (λ l. at l s) shards) ∙ k);
  version_is = version ∙ i.version_is;
  live_are = λ f hf. by_name (has_name f g.live ≡ not (is_in_phase phase.Absent (entities_after st m) f)) e f
      (λ same. subst (λ x. has_name x g.live ≡ not (is_in_phase phase.Absent (entities_after st m) x)) same (live ∙ ap not (sym (own_phase c st m e is brought of))))
      (λ other. others f other ∙ (i.live_are f hf ∙ ap not (sym (other_phase c st m e f is brought hf of other))));
}

-- Live names.

turned : (e f : List ℕ) → is_name e f ≡ false → is_name f e ≡ false
turned e f other = by (is_name f e) refl
  where
    by : (b : Bool) → is_name f e ≡ b → is_name f e ≡ false
    by false k = k
    by true k = absurd (true≢false (sym (name_itself e) ∙ (ap (is_name e) (sym (same_name f e k)) ∙ other)))

pub any_more : {A : Type 0} (p : A → Bool) (xs : List A) (x : A) → list_any p (xs ++ x ∷ []) ≡ (list_any p xs || p x)
any_more p [] x = by (p x)
  where
    by : (b : Bool) → (b || false) ≡ b
    by true = refl
    by false = refl
any_more p (y ∷ ys) x = ap (λ b. p y || b) (any_more p ys x) ∙ assoc (p y) (list_any p ys) (p x)
  where
    assoc : (a b d : Bool) → (a || (b || d)) ≡ ((a || b) || d)
    assoc true b d = refl
    assoc false b d = refl

pub or_true : (a : Bool) → (a || true) ≡ true
or_true true = refl
or_true false = refl

or_false : (a : Bool) → (a || false) ≡ a
or_false true = refl
or_false false = refl

pub name_added : (e : List ℕ) (live : List (List ℕ)) → has_name e (live ++ e ∷ []) ≡ true
name_added e live = any_more (is_name e) live e ∙ (ap (λ b. list_any (is_name e) live || b) (name_itself e) ∙ or_true (list_any (is_name e) live))

pub name_beside : (e f : List ℕ) (live : List (List ℕ)) → is_name e f ≡ false → has_name f (live ++ e ∷ []) ≡ has_name f live
name_beside e f live other = any_more (is_name f) live e ∙ (ap (λ b. list_any (is_name f) live || b) (turned e f other) ∙ or_false (list_any (is_name f) live))

pub name_gone : (e : List ℕ) (live : List (List ℕ)) → has_name e (without_name e live) ≡ false
name_gone e [] = refl
name_gone e (x ∷ xs) = by (is_name e x) refl (name_gone e xs)
  where
    by : (b : Bool) → is_name e x ≡ b → has_name e (without_name e xs) ≡ false → has_name e (if not b then x ∷ without_name e xs else without_name e xs) ≡ false
    by true k rest = rest
    by false k rest = ap (λ b. b || has_name e (without_name e xs)) k ∙ rest

pub name_stays : (e f : List ℕ) (live : List (List ℕ)) → is_name e f ≡ false → has_name f (without_name e live) ≡ has_name f live
name_stays e f [] other = refl
name_stays e f (x ∷ xs) other = by (is_name e x) refl (name_stays e f xs other)
  where
    by : (b : Bool) → is_name e x ≡ b → has_name f (without_name e xs) ≡ has_name f xs → has_name f (if not b then x ∷ without_name e xs else without_name e xs) ≡ has_name f (x ∷ xs)
    by true k rest = rest ∙ ap (λ b. b || has_name f xs) (sym (ap (is_name f) (sym (same_name e x k)) ∙ turned e f other))
    by false k rest = ap (λ b. is_name f x || b) rest

-- The slot whose holder tells a fact.

entity_told : (set : Setting) (who : Incarnation) (f : Fact) → is_entity_fact who f ≡ true → slot_told set f ≡ slot_of set f
entity_told set who (fact.Moving s stamp) h = absurd (true≢false (sym h))
entity_told set who f h = refl

pub entry_told : (set : Setting) (f : Fact) (s : Slot) → slot_of set f ≡ Some s → slot_told set f ≡ Some s
entry_told set (fact.Moving t stamp) s h = absurd (none_is_not_some s h)
entry_told set f s h = h

-- A fact of an entity, which is no entry.

keeps_told : (c : Script) (st : Entities) (f : Fact) (e : List ℕ) → IsEntities c st → is_brought c e ≡ true → entity_of (told f) ≡ Some e → hosted_step st.set st.hosted (told f) ≡ st.hosted
    → slot_of (setting c) f ≡ None → is_entity_fact st.who f ≡ true
    → (is_phase phase.Absent (cell_after (cell st e) (told f)).phase ≡ false → is_hosted st (shard_of st.set e) ≡ true)
    → list_all (is_for c e) (cell_after (cell st e) (told f)).stash ≡ true
    → ((v : List ℕ → ℕ → ℕ → Bool) (h : Hand) → InHand c h st → lives_in_hand c v st.who h f ≡ true)
    → ((h : Hand) → InHand c h st → has_name e (live_after h.live f) ≡ not (is_phase phase.Absent (cell_after (cell st e) (told f)).phase))
    → ((h : Hand) (g : List ℕ) → is_name e g ≡ false → has_name g (live_after h.live f) ≡ has_name g h.live)
    → KeepsEntities c st (told f ∷ [])
keeps_told c st f e is brought of shards none ours home stash guard live others = record {
  stands = stands_cell c st (told f) e is brought of shards home stash;
  posts_are = refl;
  facts_are = both (is_entity_fact st.who f) true ours refl;
  held_are = λ h i. both (is_grant f || is_slot_held st.who h (slot_told (setting c) f)) true (right_of (is_grant f) (is_slot_held st.who h (slot_told (setting c) f)) (ap (is_slot_held st.who h) (entity_told (setting c) st.who f ours ∙ none))) refl;
  guarded_are = λ v h i. both (guard_in_hand c v st.who h f) true (both (follows_in_hand c h.lists f (slot_of (setting c) f)) (lives_in_hand c v st.who h f) (ap (follows_in_hand c h.lists f) none) (guard v h i)) refl;
  goes_along = λ h i. along_cell c st (told f) e h (hand_after c h f) is brought of shards i (ap (with_entry f h.lists) none) refl (live h i) (others h);
}

pub some_of : {A : Type 0} (o : Option A) → not (is_none o) ≡ true → (x : A) × (o ≡ Some x)
some_of None h = absurd (true≢false (sym h))
some_of (Some x) h = (x, refl)

-- the shard of an entity is in hand, and its holder is the node
pub holder_in_hand : (c : Script) (st : Entities) (e : List ℕ) (h : Hand) → IsEntities c st → is_hosted st (shard_of st.set e) ≡ true → InHand c h st → holder (shard_list h.lists (shard_of (setting c) e)) ≡ Some st.who
holder_in_hand c st e h is there i =
    let x : (x : Hosted) × (hosted st (shard_of st.set e) ≡ Some x) = some_of (hosted st (shard_of st.set e)) there in
    let k : IsHeldShard c st.who (shard_of st.set e) x.0 = is.hosted_are (shard_of st.set e) x.0 x.1 in
    ap (λ (s : Setting). holder (shard_list h.lists (shard_of s e))) (sym is.set_is) ∙ (ap holder (i.lists_are (shard_of st.set e) x.0 x.1) ∙ k.held_is)

-- and its list is the hosted one
pub list_in_hand : (c : Script) (st : Entities) (e : List ℕ) (h : Hand) → IsEntities c st → is_hosted st (shard_of st.set e) ≡ true → InHand c h st → shard_list h.lists (shard_of (setting c) e) ≡ entries st e
list_in_hand c st e h is there i =
    let x : (x : Hosted) × (hosted st (shard_of st.set e) ≡ Some x) = some_of (hosted st (shard_of st.set e)) there in
    ap (λ (s : Setting). shard_list h.lists (shard_of s e)) (sym is.set_is) ∙ (i.lists_are (shard_of st.set e) x.0 x.1 ∙ sym (ap entries_in x.1))

pub start_keeps : (c : Script) (st : Entities) (e : List ℕ) → IsEntities c st → is_brought c e ≡ true → is_hosted st (shard_of st.set e) ≡ true → is_in_phase phase.Absent st e ≡ true → KeepsEntities c st (told (fact.Start st.who e) ∷ [])
start_keeps c st e is brought there absent = keeps_told c st (fact.Start st.who e) e is brought refl refl refl (itself_is st.who st.who refl) (λ k. there) (is.stashed e brought)
    (λ v h i. both (is_brought c e && is_same st.who st.who && is_at st.who (holder (shard_list h.lists (shard_of (setting c) e)))) (not (has_name e h.live))
    (both (is_brought c e && is_same st.who st.who) (is_at st.who (holder (shard_list h.lists (shard_of (setting c) e))))
    (both (is_brought c e) (is_same st.who st.who) brought (itself_is st.who st.who refl))
    (ap (is_at st.who) (holder_in_hand c st e h is there i) ∙ itself_is st.who st.who refl))
    (ap not (i.live_are e brought ∙ ap not absent)))
    (λ h i. name_added e h.live) (λ h g other. name_beside e g h.live other)

pub stop_keeps : (c : Script) (st : Entities) (e : List ℕ) → IsEntities c st → is_brought c e ≡ true → KeepsEntities c st (told (fact.Stop st.who e) ∷ [])
stop_keeps c st e is brought = keeps_told c st (fact.Stop st.who e) e is brought refl refl refl (itself_is st.who st.who refl) (λ k. absurd (true≢false k)) (is.stashed e brought) (λ v h i. refl)
    (λ h i. name_gone e h.live) (λ h g other. name_stays e g h.live other)

pub failed_keeps : (c : Script) (st : Entities) (e : List ℕ) → IsEntities c st → is_brought c e ≡ true → KeepsEntities c st (told (fact.WriteFailed st.who e) ∷ [])
failed_keeps c st e is brought = keeps_told c st (fact.WriteFailed st.who e) e is brought refl refl refl (itself_is st.who st.who refl) (λ k. absurd (true≢false k)) (is.stashed e brought) (λ v h i. refl)
    (λ h i. name_gone e h.live) (λ h g other. name_stays e g h.live other)

pub stashed_keeps : (c : Script) (st : Entities) (m : Message) → IsEntities c st → is_brought c m.entity ≡ true → is_for c m.entity m ≡ true → KeepsEntities c st (told (fact.Stashed st.who m) ∷ [])
stashed_keeps c st m is brought good = keeps_told c st (fact.Stashed st.who m) m.entity is brought refl refl refl (itself_is st.who st.who refl) (is.at_home m.entity brought)
    (all_join (is_for c m.entity) (cell st m.entity).stash (m ∷ []) (is.stashed m.entity brought) (both (is_for c m.entity m) true good refl))
    (λ v h i. refl) (λ h i. i.live_are m.entity brought) (λ h g other. refl)

drop_all : {A : Type 0} (p : A → Bool) (xs : List A) → list_all p xs ≡ true → list_all p (drop 1 xs) ≡ true
drop_all p [] h = refl
drop_all p (x ∷ xs) h = (and_both (p x) (list_all p xs) h).1

pub dropped_keeps : (c : Script) (st : Entities) (m : Message) → IsEntities c st → is_brought c m.entity ≡ true → KeepsEntities c st (told (fact.Dropped st.who m) ∷ [])
dropped_keeps c st m is brought = keeps_told c st (fact.Dropped st.who m) m.entity is brought refl refl refl (itself_is st.who st.who refl) (is.at_home m.entity brought)
    (stash (cell st m.entity).phase (cell st m.entity).stash (is.stashed m.entity brought)) (λ v h i. refl) (λ h i. i.live_are m.entity brought) (λ h g other. refl)
  where
    stash : (p : Phase) (xs : List Message) → list_all (is_for c m.entity) xs ≡ true → list_all (is_for c m.entity) (stash_step p xs (told (fact.Dropped st.who m))) ≡ true
    stash phase.Absent xs h = drop_all (is_for c m.entity) xs h
    stash phase.Loading xs h = h
    stash phase.Active xs h = h
    stash phase.Stopping xs h = h

pub active_keeps : (c : Script) (st : Entities) (e : List ℕ) (n : ℕ) (s : State) → IsEntities c st → is_brought c e ≡ true → is_in_phase phase.Absent st e ≡ false
    → is_journal_state c n s (journal e (entries st e)) ≡ true → KeepsEntities c st (told (fact.Active st.who e n s) ∷ [])
active_keeps c st e n s is brought there shows = keeps_told c st (fact.Active st.who e n s) e is brought refl refl refl (itself_is st.who st.who refl) (λ k. is.at_home e brought there) refl
    (λ v h i. ap (λ l. is_journal_state c n s (journal e l)) (list_in_hand c st e h is (is.at_home e brought there) i) ∙ shows)
    (λ h i. i.live_are e brought ∙ ap not there) (λ h g other. refl)

pub armed_keeps : (c : Script) (st : Entities) (e : List ℕ) (k : Keep) → IsEntities c st → is_brought c e ≡ true → KeepsEntities c st (told (fact.Armed e k) ∷ [])
armed_keeps c st e k is brought = keeps_told c st (fact.Armed e k) e is brought refl refl refl refl (is.at_home e brought) (is.stashed e brought) (λ v h i. refl) (λ h i. i.live_are e brought) (λ h g other. refl)
