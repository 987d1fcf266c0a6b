-- What stands of entities, at entries, posts and silent moves.
use Rattle.yard_model.specs.Opening.{begins}
use Rattle.std.proofs.Common.{◌≡◌, ℕ, ◌<◌, List, [], ◌∷◌, ◌++◌, length, sym, ap, subst, ◌∙◌, refl, true, arith}
use Rattle.std.specs.Prelude.{Bool, ◌||◌, ◌&&◌, not, nat_lt, fold, Option, Some, None, is_none, slice_set, slice_index_or, false}
use Rattle.std.specs.List.{list_all}
use Rattle.std.specs.Option.{option_map}
use Rattle.std.proofs.lemmas.Bool.Decides.{nat_tests}
use Rattle.std.proofs.lemmas.List.{get_or-set_same, get_or-set_other, length-set}
use Rattle.std.proofs.lemmas.List.Sums.{fold-append}
use Rattle.yard_model.specs.declared.fact.Fact.{Fact}
use Rattle.yard_model.specs.declared.input.Phase.{Phase}
use Rattle.yard_model.specs.declared.input.Phase.TheVariants as phase
use Rattle.yard_model.specs.declared.packet.Body.{Body}
use Rattle.yard_model.specs.declared.packet.Body.TheVariants as body
use Rattle.yard_model.specs.declared.incarnation.Incarnation.{Incarnation}
use Rattle.yard_model.specs.declared.incarnation.Slot.{Slot}
use Rattle.yard_model.specs.declared.incarnation.Slot.TheVariants as slot
use Rattle.yard_model.specs.Entities.{Entities, Hosted, is_phase, phase_step, stash_step, cell_after, cell_in, cell, entered, hosted, entries_in, entries, is_hosted, is_in_phase, entity_of, hosted_step, entities_after}
use Rattle.yard_model.specs.Genuine.{is_node, is_shard, is_brought, is_genuine_body}
use Rattle.yard_model.specs.Lawful.{own, may_follow}
use Rattle.yard_model.specs.Move.{Move, passivates, told, post}
use Rattle.yard_model.specs.Script.{Script, Setting, setting}
use Rattle.yard_model.specs.Setting.{shard_of}
use Rattle.yard_model.specs.SlotLists.{shard_list}
use Rattle.yard_model.specs.SlotReads.{holder, holder_step}
use Rattle.yard_model.specs.Trace.{slot_of, with_entry}
use Rattle.yard_model.specs.Words.{is_at, at, is_same}
use Rattle.yard_model.proofs.FollowLaws.{own_grows}
use Rattle.plain_laws.proofs.Booleans.{and_both, both, right_of}
use Rattle.actor_laws.specs.Owes.{Hand, live_after, hand_after, follows_in_hand, lives_in_hand, guard_in_hand, guarded_in_hand}
use Rattle.plain_laws.proofs.Members.{itself_is}
use Rattle.plain_laws.proofs.Lists.{some_is, inside, by_place}
use Rattle.actor_laws.proofs.EntitiesMoves.{entry_told, holder_in_hand, stands_cell, along_cell, some_of, list_in_hand}
use Rattle.actor_laws.specs.Held.{slot_told, is_grant, is_slot_held, held_in_hand}
use Rattle.actor_laws.specs.Moves.{is_own_move, facts_of}
use Rattle.actor_laws.specs.EntitiesStand.{IsHeldShard, is_for, is_entity_fact, IsEntities, InHand, KeepsEntities}
use Rattle.actor_laws.proofs.EntitiesCells.{same_cells, cells_count}

-- Posts and silent moves.

-- a move that changes nothing
pub still_keeps : (c : Script) (st : Entities) (m : Move) → IsEntities c st → entities_after st m ≡ st → is_own_move c st.who m ≡ true → facts_of (m ∷ []) ≡ [] → KeepsEntities c st (m ∷ [])
still_keeps c st m is same own none = record {
  stands = subst (IsEntities c) (sym same) is;
  posts_are = both (is_own_move c st.who m) true own refl;
  facts_are = ap (list_all (is_entity_fact st.who)) none;
  held_are = λ h i. ap (held_in_hand c st.who h) none;
  guarded_are = λ v h i. ap (λ fs. guarded_by v h fs) none;
  goes_along = λ h i. subst (λ x. InHand c (fold (hand_after c) h (facts_of (m ∷ []))) x) (sym same) (subst (λ fs. InHand c (fold (hand_after c) h fs) st) (sym none) i);
}
  where
    guarded_by : (List ℕ → ℕ → ℕ → Bool) → Hand → List Fact → Bool
    guarded_by v h fs = guarded_in_hand c v st.who h fs

-- a move of one entity that tells nothing, leaves its stash, and leaves it there or away
pub cell_keeps : (c : Script) (st : Entities) (m : Move) (e : List ℕ) → IsEntities c st → is_brought c e ≡ true → entity_of m ≡ Some e → hosted_step st.set st.hosted m ≡ st.hosted → is_own_move c st.who m ≡ true → facts_of (m ∷ []) ≡ []
    → is_phase phase.Absent (cell_after (cell st e) m).phase ≡ is_in_phase phase.Absent st e → (cell_after (cell st e) m).stash ≡ (cell st e).stash
    → KeepsEntities c st (m ∷ [])
cell_keeps c st m e is brought of shards own none there stash = record {
  stands = stands_cell c st m e is brought of shards (λ k. is.at_home e brought (sym there ∙ k)) (ap (list_all (is_for c e)) stash ∙ is.stashed e brought);
  posts_are = both (is_own_move c st.who m) true own refl;
  facts_are = ap (list_all (is_entity_fact st.who)) none;
  held_are = λ h i. ap (held_in_hand c st.who h) none;
  guarded_are = λ v h i. ap (guarded_by v h) none;
  goes_along = λ h i. subst (λ fs. InHand c (fold (hand_after c) h fs) (entities_after st m)) (sym none)
      (along_cell c st m e h h is brought of shards i refl refl (i.live_are e brought ∙ ap not (sym there)) (λ f other. refl));
}
  where
    guarded_by : (List ℕ → ℕ → ℕ → Bool) → Hand → List Fact → Bool
    guarded_by v h fs = guarded_in_hand c v st.who h fs

pub own_post : (c : Script) (who to : Incarnation) (b : Body) → is_node c who ≡ true → is_node c to ≡ true → is_genuine_body c b ≡ true → is_own_move c who (post who to b) ≡ true
own_post c who to b from there genuine =
    both (is_same who who && (is_node c who && is_node c to && is_genuine_body c b)) true
    (both (is_same who who) (is_node c who && is_node c to && is_genuine_body c b) (itself_is who who refl)
    (both (is_node c who && is_node c to) (is_genuine_body c b) (both (is_node c who) (is_node c to) from there) genuine)) refl

pub recovered_post_keeps : (c : Script) (st : Entities) (e : List ℕ) → IsEntities c st → is_brought c e ≡ true → KeepsEntities c st (post st.who st.who (body.Recovered e) ∷ [])
recovered_post_keeps c st e is brought = still_keeps c st (post st.who st.who (body.Recovered e)) is refl (own_post c st.who st.who (body.Recovered e) is.who_is is.who_is brought) refl

pub passivate_post_keeps : (c : Script) (st : Entities) (e : List ℕ) → IsEntities c st → is_brought c e ≡ true → KeepsEntities c st (post st.who st.who (body.Passivate e) ∷ [])
passivate_post_keeps c st e is brought = still_keeps c st (post st.who st.who (body.Passivate e)) is refl (own_post c st.who st.who (body.Passivate e) is.who_is is.who_is brought) refl

pub stop_post_keeps : (c : Script) (st : Entities) (e : List ℕ) → IsEntities c st → is_brought c e ≡ true → KeepsEntities c st (post st.who st.who (body.StopEntity e) ∷ [])
stop_post_keeps c st e is brought = cell_keeps c st (post st.who st.who (body.StopEntity e)) e is brought refl refl (own_post c st.who st.who (body.StopEntity e) is.who_is is.who_is brought) refl
    (there (cell st e).phase) (stash (cell st e).phase)
  where
    there : (p : Phase) → is_phase phase.Absent (phase_step p (post st.who st.who (body.StopEntity e))) ≡ is_phase phase.Absent p
    there phase.Absent = refl
    there phase.Loading = refl
    there phase.Active = refl
    there phase.Stopping = refl

    stash : (p : Phase) → stash_step p (cell st e).stash (post st.who st.who (body.StopEntity e)) ≡ (cell st e).stash
    stash phase.Absent = refl
    stash phase.Loading = refl
    stash phase.Active = refl
    stash phase.Stopping = refl

pub request_post_keeps : (c : Script) (st : Entities) (to : Incarnation) (p : ℕ) (e : List ℕ) (n u : ℕ) → IsEntities c st → is_brought c e ≡ true → is_node c to ≡ true → is_genuine_body c (body.Request p e n u) ≡ true
    → KeepsEntities c st (post st.who to (body.Request p e n u) ∷ [])
request_post_keeps c st to p e n u is brought there genuine = cell_keeps c st (post st.who to (body.Request p e n u)) e is brought refl refl (own_post c st.who to (body.Request p e n u) is.who_is there genuine) refl
    (same (cell st e).phase) (stash (cell st e).phase)
  where
    same : (q : Phase) → is_phase phase.Absent (phase_step q (post st.who to (body.Request p e n u))) ≡ is_phase phase.Absent q
    same phase.Absent = refl
    same phase.Loading = refl
    same phase.Active = refl
    same phase.Stopping = refl

    stash : (q : Phase) → stash_step q (cell st e).stash (post st.who to (body.Request p e n u)) ≡ (cell st e).stash
    stash phase.Absent = refl
    stash phase.Loading = refl
    stash phase.Active = refl
    stash phase.Stopping = refl

pub passivates_keeps : (c : Script) (st : Entities) (e : List ℕ) → IsEntities c st → is_brought c e ≡ true → KeepsEntities c st (passivates e ∷ [])
passivates_keeps c st e is brought = cell_keeps c st (passivates e) e is brought refl refl refl refl refl (stash (cell st e).phase)
  where
    stash : (q : Phase) → stash_step q (cell st e).stash (passivates e) ≡ (cell st e).stash
    stash phase.Absent = refl
    stash phase.Loading = refl
    stash phase.Active = refl
    stash phase.Stopping = refl

-- Entries.

may_of : (c : Script) (s : Slot) (list : List Fact) (f : Fact) → begins f ≡ false → own c s (list ++ f ∷ []) ≡ true → may_follow c s list f ≡ true
may_of c s list f within o = (and_both (own c s list) (may_follow c s list f) (sym (own_grows c s list f within) ∙ o)).1

pub entry_keeps : (c : Script) (st : Entities) (f : Fact) (e : List ℕ) → IsEntities c st → is_brought c e ≡ true → is_hosted st (shard_of st.set e) ≡ true
    → hosted_step st.set st.hosted (told f) ≡ entered (shard_of st.set e) f st.hosted → entity_of (told f) ≡ None → slot_of (setting c) f ≡ Some (slot.Shard (shard_of (setting c) e))
    → begins f ≡ false → own c (slot.Shard (shard_of (setting c) e)) (entries st e ++ f ∷ []) ≡ true
    → ((o : Option Incarnation) → holder_step o f ≡ o)
    → ((v : List ℕ → ℕ → ℕ → Bool) (h : Hand) → InHand c h st → lives_in_hand c v st.who h f ≡ true)
    → ((live : List (List ℕ)) → live_after live f ≡ live) → is_entity_fact st.who f ≡ true
    → KeepsEntities c st (told f ∷ [])
entry_keeps c st f e is brought there shards none of within own_is still guard live ours = record {
  stands = record {
    who_is = is.who_is;
    set_is = is.set_is;
    version_is = is.version_is;
    shards_there = ap length shards_now ∙ (length-set st.hosted s (Some now) ∙ is.shards_there);
    cells_there = cells_count st (told f) ∙ is.cells_there;
    hosted_are = λ t k e. at_shard t k (sym (ap (λ l. at l t) shards_now) ∙ e);
    at_home = λ g hg k. hosted_still (shard_of st.set g) (is.at_home g hg (sym (same_phase g) ∙ k));
    stashed = λ g hg. ap (λ l. list_all (is_for c g) (cell_in st.set l g).stash) (same_cells st (told f) none) ∙ is.stashed g hg;
  };
  posts_are = refl;
  facts_are = both (is_entity_fact st.who f) true ours refl;
  held_are = λ h i. both (is_grant f || is_slot_held st.who h (slot_told (setting c) f)) true (right_of (is_grant f) (is_slot_held st.who h (slot_told (setting c) f))
      (ap (is_slot_held st.who h) (entry_told (setting c) f (slot.Shard (shard_of (setting c) e)) of) ∙ (ap (is_at st.who) (holder_in_hand c st e h is there i) ∙ itself_is st.who st.who refl))) refl;
  guarded_are = λ v h i. both (guard_in_hand c v st.who h f) true (both (follows_in_hand c h.lists f (slot_of (setting c) f)) (lives_in_hand c v st.who h f)
      (ap (follows_in_hand c h.lists f) of ∙ both (is_shard c (shard_of (setting c) e)) (may_follow c (slot.Shard (shard_of (setting c) e)) (shard_list h.lists (shard_of (setting c) e)) f) shard_is
      (ap (λ l. may_follow c (slot.Shard (shard_of (setting c) e)) l f) (list_in_hand c st e h is there i) ∙ may_of c (slot.Shard (shard_of (setting c) e)) (entries st e) f within own_is)) (guard v h i)) refl;
  goes_along = λ h i. subst (λ l. InHand c (record { lists = l; live = live_after h.live f; version = h.version }) (entities_after st (told f))) (sym (ap (with_entry f h.lists) of))
      (subst (λ l. InHand c (record { lists = with_entry f h.lists (Some (slot.Shard (shard_of (setting c) e))); live = l; version = h.version }) (entities_after st (told f))) (sym (live h.live)) (along h i));
}
  where
    s : ℕ
    s = shard_of st.set e

    x : (x : Hosted) × (hosted st s ≡ Some x)
    x = some_of (hosted st s) there

    now : Hosted
    now = record { entries = x.0.entries ++ f ∷ []; stopping = x.0.stopping }

    shards_now : hosted_step st.set st.hosted (told f) ≡ slice_set st.hosted s (Some now)
    shards_now = shards ∙ ap (λ o. slice_set st.hosted s (option_map (λ (h : Hosted). record { entries = h.entries ++ f ∷ []; stopping = h.stopping }) o)) x.1

    held : IsHeldShard c st.who s x.0
    held = is.hosted_are s x.0 x.1

    inside_is : s < length st.hosted
    inside_is = inside st.hosted s x.0 x.1

    lt_is : (a b : ℕ) → a < b → nat_lt a b ≡ true
    lt_is a b h = grind (arith, nat_tests)

    same_shard : s ≡ shard_of (setting c) e
    same_shard = ap (λ (set : Setting). shard_of set e) is.set_is

    shard_is : is_shard c (shard_of (setting c) e) ≡ true
    shard_is = ap (λ n. nat_lt n c.config.shards) (sym same_shard) ∙ lt_is s c.config.shards (subst (λ n. s < n) is.shards_there inside_is)

    same_phase : (g : List ℕ) → is_in_phase phase.Absent (entities_after st (told f)) g ≡ is_in_phase phase.Absent st g
    same_phase g = ap (λ l. is_phase phase.Absent (cell_in st.set l g).phase) (same_cells st (told f) none)

    hosted_still : (t : ℕ) → is_hosted st t ≡ true → is_hosted (entities_after st (told f)) t ≡ true
    hosted_still t k = ap (λ l. not (is_none (at l t))) shards_now
        ∙ by_place (not (is_none (at (slice_set st.hosted s (Some now)) t)) ≡ true) t s
        (λ e. ap (λ i. not (is_none (at (slice_set st.hosted s (Some now)) i))) e ∙ ap (λ o. not (is_none o)) (get_or-set_same st.hosted s (Some now) None inside_is))
        (λ ne. ap (λ o. not (is_none o)) (get_or-set_other st.hosted s t (Some now) None ne) ∙ k)

    now_held : IsHeldShard c st.who s now
    now_held = record {
      own_is = subst (λ n. own c (slot.Shard n) (x.0.entries ++ f ∷ []) ≡ true) (sym same_shard) (ap (λ l. own c (slot.Shard (shard_of (setting c) e)) (l ++ f ∷ [])) (sym (ap entries_in x.1)) ∙ own_is);
      held_is = fold-append holder_step None x.0.entries (f ∷ []) ∙ (still (holder x.0.entries) ∙ held.held_is);
      told_is = held.told_is;
    }

    at_shard : (t : ℕ) (k : Hosted) → at (slice_set st.hosted s (Some now)) t ≡ Some k → IsHeldShard c st.who t k
    at_shard t k e = by_place (IsHeldShard c st.who t k) t s
        (λ same. subst (λ n. IsHeldShard c st.who n k) (sym same)
        (subst (IsHeldShard c st.who s) (some_is now k (sym (get_or-set_same st.hosted s (Some now) None inside_is) ∙ (ap (at (slice_set st.hosted s (Some now))) (sym same) ∙ e))) now_held))
        (λ ne. is.hosted_are t k (sym (get_or-set_other st.hosted s t (Some now) None ne) ∙ e))

    along : (h : Hand) → InHand c h st → InHand c (record { lists = with_entry f h.lists (Some (slot.Shard (shard_of (setting c) e))); live = h.live; version = h.version }) (entities_after st (told f))
    along h i = record {
      there = length-set h.lists.shards (shard_of (setting c) e) (shard_list h.lists (shard_of (setting c) e) ++ f ∷ []) ∙ i.there;
      lists_are = λ t k e. listed t k (sym (ap (λ l. at l t) shards_now) ∙ e);
      version_is = i.version_is;
      live_are = λ g hg. i.live_are g hg ∙ ap not (sym (same_phase g));
    }
      where
        r : ℕ
        r = shard_of (setting c) e

        below : r < length h.lists.shards
        below = subst (λ n. r < n) (sym i.there) (subst (λ n. n < c.config.shards) same_shard (subst (λ n. s < n) is.shards_there inside_is))

        listed : (t : ℕ) (k : Hosted) → at (slice_set st.hosted s (Some now)) t ≡ Some k → slice_index_or (slice_set h.lists.shards r (shard_list h.lists r ++ f ∷ [])) t [] ≡ k.entries
        listed t k e = by_place (slice_index_or (slice_set h.lists.shards r (shard_list h.lists r ++ f ∷ [])) t [] ≡ k.entries) t s
            (λ same.
            ap (λ n. slice_index_or (slice_set h.lists.shards r (shard_list h.lists r ++ f ∷ [])) n []) (same ∙ same_shard)
            ∙ (get_or-set_same h.lists.shards r (shard_list h.lists r ++ f ∷ []) [] below
            ∙ (ap (λ l. l ++ f ∷ []) (ap (shard_list h.lists) (sym same_shard) ∙ i.lists_are s x.0 x.1)
            ∙ ap (λ (y : Hosted). y.entries) (some_is now k (sym (get_or-set_same st.hosted s (Some now) None inside_is) ∙ (ap (at (slice_set st.hosted s (Some now))) (sym same) ∙ e))))))
            (λ ne. get_or-set_other h.lists.shards r t (shard_list h.lists r ++ f ∷ []) [] (λ z. ne (z ∙ sym same_shard)) ∙ i.lists_are t k (sym (get_or-set_other st.hosted s t (Some now) None ne) ∙ e))
