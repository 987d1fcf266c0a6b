-- What stands of entities, at the start of a shard.
use Rattle.std.proofs.Common.{◌≡◌, ℕ, ◌+◌, ◌<◌, List, [], ◌∷◌, ◌++◌, length, sym, ap, subst, ◌∙◌, refl, true, false, true≢false}
use Rattle.std.specs.Prelude.{Bool, ◌&&◌, ◌==◌, not, filter, fold, Option, Some, None, is_none, is_some, slice_set, slice_index_or, if◌then◌else◌}
use Rattle.std.specs.List.{list_all, flat_map}
use Rattle.std.proofs.lemmas.List.{get_or-set_same, get_or-set_other, length-set}
use Rattle.std.proofs.lemmas.List.Sums.{fold-append}
use Rattle.yard_model.specs.declared.fact.Fact.{Fact}
use Rattle.yard_model.specs.declared.fact.Fact.TheVariants as fact
use Rattle.yard_model.specs.declared.input.Phase.TheVariants as phase
use Rattle.yard_model.specs.declared.packet.Body.TheVariants as body
use Rattle.yard_model.specs.declared.incarnation.Incarnation.{Incarnation}
use Rattle.yard_model.specs.declared.incarnation.Slot.TheVariants as slot
use Rattle.yard_model.specs.Entities as entities
use Rattle.yard_model.specs.Entities.{Entities, Cell, Hosted, is_phase, hosted, entries_in, entries, is_hosted, is_in_phase, entities_after}
use Rattle.yard_model.specs.Equal.{is_slot}
use Rattle.yard_model.specs.Genuine.{is_node, is_shard, is_brought}
use Rattle.yard_model.specs.Lawful.{own, is_held, is_leased, is_entry, may_follow}
use Rattle.yard_model.specs.Move.{Move, took, told, post}
use Rattle.yard_model.specs.Node.{acquire_by}
use Rattle.yard_model.specs.Script.{Script, Setting, is_name, names_in, setting}
use Rattle.yard_model.specs.Setting.{shard_of, names_of}
use Rattle.yard_model.specs.SlotLists.{shard_list}
use Rattle.yard_model.specs.SlotReads.{holder, holder_step, epoch, is_remembered}
use Rattle.yard_model.specs.Trace.{slot_of}
use Rattle.yard_model.specs.Turns.{in_turn}
use Rattle.yard_model.specs.Words.{at, is_same}
use Rattle.yard_model.proofs.FollowLaws.{own_more}
use Rattle.plain_laws.proofs.Booleans.{and_both, both, below, number_itself, of_not, same_number}
use Rattle.plain_laws.proofs.Members.{itself_is}
use Rattle.plain_laws.proofs.Lists.{some_is, by_place, all_join}
use Rattle.plain_laws.proofs.Names.{left_differ, all_names}
use Rattle.plain_laws.specs.Names.{AllDiffer}
use Rattle.actor_laws.specs.Owes.{hand_after, follows_in_hand, lives_in_hand, guard_in_hand, guarded_in_hand}
use Rattle.actor_laws.specs.Held.{held_in_hand}
use Rattle.actor_laws.specs.Moves.{is_own_move, facts_of}
use Rattle.actor_laws.specs.EntitiesStand.{IsHeldShard, IsEntities, InHand, is_entity_fact, KeepsEntities}
use Rattle.actor_laws.specs.ShardStart.{KeepsFound, ShardStarts}
use Rattle.actor_laws.proofs.EntitiesCells.{other_cell}
use Rattle.actor_laws.proofs.EntitiesMoves.{held_both, facts_both, guarded_both, keeps_none, keeps_both, who_stays}
use Rattle.actor_laws.proofs.EntitiesRules.{keeps_if, start_entity_keeps}
use Rattle.actor_laws.proofs.NameLaws.{names_differ}

-- Moves in turn, the first by the list that was found.

-- and then moves that need no list
found_then : (c : Script) (s : ℕ) (list : List Fact) (st : Entities) (xs ys : List Move) → KeepsFound c s list st xs → KeepsEntities c (fold entities_after st xs) ys → KeepsFound c s list st (xs ++ ys)
found_then c s list st xs ys f g =
    let mid : Entities = fold entities_after st xs in
    record {
      stands = subst (IsEntities c) (sym (fold-append entities_after st xs ys)) g.stands;
      posts_are = all_join (is_own_move c st.who) xs ys f.posts_are (subst (λ w. list_all (is_own_move c w) ys ≡ true) (who_stays st xs) g.posts_are);
      facts_are = ap (list_all (is_entity_fact st.who)) (facts_both xs ys) ∙ all_join (is_entity_fact st.who) (facts_of xs) (facts_of ys) f.facts_are (subst (λ w. list_all (is_entity_fact w) (facts_of ys) ≡ true) (who_stays st xs) g.facts_are);
      held_are = λ h i found. ap (held_in_hand c st.who h) (facts_both xs ys)
          ∙ held_both c st.who h (facts_of xs) (facts_of ys) (f.held_are h i found)
          (subst (λ w. held_in_hand c w (fold (hand_after c) h (facts_of xs)) (facts_of ys) ≡ true) (who_stays st xs) (g.held_are (fold (hand_after c) h (facts_of xs)) (f.goes_along h i found)));
      guarded_are = λ v h i found. ap (guarded_in_hand c v st.who h) (facts_both xs ys)
          ∙ guarded_both c v st.who h (facts_of xs) (facts_of ys) (f.guarded_are v h i found)
          (subst (λ w. guarded_in_hand c v w (fold (hand_after c) h (facts_of xs)) (facts_of ys) ≡ true) (who_stays st xs) (g.guarded_are v (fold (hand_after c) h (facts_of xs)) (f.goes_along h i found)));
      goes_along = λ h i found. subst (λ x. InHand c (fold (hand_after c) h (facts_of (xs ++ ys))) x) (sym (fold-append entities_after st xs ys))
          (subst (λ x. InHand c x (fold entities_after mid ys)) (sym (ap (fold (hand_after c) h) (facts_both xs ys) ∙ fold-append (hand_after c) h (facts_of xs) (facts_of ys)))
          (g.goes_along (fold (hand_after c) h (facts_of xs)) (f.goes_along h i found)));
    }

-- The lease.

-- another node holds it
held_keeps : (c : Script) (st : Entities) (s : ℕ) (list : List Fact) (n : ℕ) → IsEntities c st → KeepsFound c s list st (told (fact.Held (slot.Shard s) st.who n) ∷ [])
held_keeps c st s list n is = record { stands = is; posts_are = refl; facts_are = both (is_same st.who st.who) true (itself_is st.who st.who refl) refl; held_are = λ h i found. refl; guarded_are = λ v h i found. refl; goes_along = λ h i found. i }

-- it is granted, and its store is taken
granted_keeps : (c : Script) (st : Entities) (s : ℕ) (list : List Fact) → IsEntities c st → is_shard c s ≡ true → own c (slot.Shard s) list ≡ true → holder list ≡ None
    → let f : Fact = fact.Granted (slot.Shard s) (epoch list + 1) st.who in KeepsFound c s list st (told f ∷ took (slot.Shard s) (list ++ f ∷ []) ∷ [])
granted_keeps c st s list is shard own_is free = record {
  stands = record {
    who_is = is.who_is;
    set_is = is.set_is;
    version_is = is.version_is;
    shards_there = length-set st.hosted s (Some now) ∙ is.shards_there;
    cells_there = is.cells_there;
    hosted_are = λ t k e. by_place (IsHeldShard c st.who t k) t s
        (λ same. subst (λ n. IsHeldShard c st.who n k) (sym same) (subst (IsHeldShard c st.who s) (at_same t k same e) now_held))
        (λ ne. is.hosted_are t k (sym (get_or-set_other st.hosted s t (Some now) None ne) ∙ e));
    at_home = λ e he k. by_place (not (is_none (at (slice_set st.hosted s (Some now)) (shard_of st.set e))) ≡ true) (shard_of st.set e) s
        (λ same. ap (λ n. not (is_none (at (slice_set st.hosted s (Some now)) n))) same ∙ ap (λ o. not (is_none o)) (get_or-set_same st.hosted s (Some now) None inside_is))
        (λ ne. ap (λ o. not (is_none o)) (get_or-set_other st.hosted s (shard_of st.set e) (Some now) None ne) ∙ is.at_home e he k);
    stashed = is.stashed;
  };
  posts_are = refl;
  facts_are = both (is_same st.who st.who) true (itself_is st.who st.who refl) refl;
  held_are = λ h i found. refl;
  guarded_are = λ v h i found. both (guard_in_hand c v st.who h f) true (both (follows_in_hand c h.lists f (slot_of (setting c) f)) (lives_in_hand c v st.who h f)
      (both (is_shard c s) (may_follow c (slot.Shard s) (shard_list h.lists s) f) shard (ap (λ l. may_follow c (slot.Shard s) l f) found ∙ follows)) refl) refl;
  goes_along = λ h i found. record {
    there = length-set h.lists.shards s (shard_list h.lists s ++ f ∷ []) ∙ i.there;
    lists_are = λ t k e. by_place (slice_index_or (slice_set h.lists.shards s (shard_list h.lists s ++ f ∷ [])) t [] ≡ k.entries) t s
        (λ same.
        ap (λ n. slice_index_or (slice_set h.lists.shards s (shard_list h.lists s ++ f ∷ [])) n []) same
        ∙ (get_or-set_same h.lists.shards s (shard_list h.lists s ++ f ∷ []) [] (subst (λ n. s < n) (sym i.there) below_is)
        ∙ (ap (λ l. l ++ f ∷ []) found ∙ ap (λ (y : Hosted). y.entries) (at_same t k same e))))
        (λ ne. get_or-set_other h.lists.shards s t (shard_list h.lists s ++ f ∷ []) [] ne ∙ i.lists_are t k (sym (get_or-set_other st.hosted s t (Some now) None ne) ∙ e));
    version_is = i.version_is;
    live_are = i.live_are;
  };
}
  where
    f : Fact
    f = fact.Granted (slot.Shard s) (epoch list + 1) st.who

    now : Hosted
    now = record { entries = list ++ f ∷ []; stopping = None }

    below_is : s < c.config.shards
    below_is = below s c.config.shards shard

    inside_is : s < length st.hosted
    inside_is = subst (λ n. s < n) (sym is.shards_there) below_is

    follows : may_follow c (slot.Shard s) list f ≡ true
    follows = both (is_leased list f) (is_entry c (slot.Shard s) list f)
        (both (not (is_held list)) (epoch list + 1 == epoch list + 1) (ap (λ o. not (is_some o)) free) (number_itself (epoch list + 1) (epoch list + 1) refl))
        (both (is_slot (slot.Shard s) (slot.Shard s)) (is_node c st.who) (number_itself s s refl) is.who_is)

    now_held : IsHeldShard c st.who s now
    now_held = record { own_is = own_more c (slot.Shard s) list f own_is follows; held_is = fold-append holder_step None list (f ∷ []); told_is = tt }

    at_same : (t : ℕ) (k : Hosted) → t ≡ s → at (slice_set st.hosted s (Some now)) t ≡ Some k → now ≡ k
    at_same t k same e = some_is now k (sym (get_or-set_same st.hosted s (Some now) None inside_is) ∙ (ap (at (slice_set st.hosted s (Some now))) (sym same) ∙ e))

-- Starts, one after the other.

-- a name of the script's that may start now
abbrev is_ready : Script → Entities → List ℕ → Bool
is_ready c st e = is_brought c e && is_hosted st (shard_of st.set e) && is_in_phase phase.Absent st e

-- the start of a name leaves every other ready
still_ready : (c : Script) (st : Entities) (who : Incarnation) (e : List ℕ) → IsEntities c st → is_brought c e ≡ true → (fs : List (List ℕ)) → list_all (λ f. not (is_name e f)) fs ≡ true
    → list_all (is_ready c st) fs ≡ true → list_all (is_ready c (entities_after st (told (fact.Start who e)))) fs ≡ true
still_ready c st who e is brought [] others ready = refl
still_ready c st who e is brought (f ∷ fs) others ready =
    let later : Entities = entities_after st (told (fact.Start who e)) in
    let other : (not (is_name e f) ≡ true) × (list_all (λ f. not (is_name e f)) fs ≡ true) = and_both (not (is_name e f)) (list_all (λ f. not (is_name e f)) fs) others in
    let both_are : (is_ready c st f ≡ true) × (list_all (is_ready c st) fs ≡ true) = and_both (is_ready c st f) (list_all (is_ready c st) fs) ready in
    let one : ((is_brought c f && is_hosted st (shard_of st.set f)) ≡ true) × (is_in_phase phase.Absent st f ≡ true) = and_both (is_brought c f && is_hosted st (shard_of st.set f)) (is_in_phase phase.Absent st f) both_are.0 in
    let there : (is_brought c f ≡ true) × (is_hosted st (shard_of st.set f) ≡ true) = and_both (is_brought c f) (is_hosted st (shard_of st.set f)) one.0 in
    both (is_ready c later f) (list_all (is_ready c later) fs)
    (both (is_brought c f && is_hosted st (shard_of st.set f)) (is_in_phase phase.Absent later f) one.0
    (ap (λ (x : Cell). is_phase phase.Absent x.phase) (other_cell c st (told (fact.Start who e)) e f is brought there.0 refl (of_not (is_name e f) other.0)) ∙ one.1))
    (still_ready c st who e is brought fs other.1 both_are.1)

-- different names that may start now, each started in turn
starts_keep : (c : Script) (first now : Entities) (es : List (List ℕ)) → IsEntities c now → now.who ≡ first.who → AllDiffer es → list_all (is_ready c now) es ≡ true → KeepsEntities c now (flat_map (λ e. entities.start_entity e first) es)
starts_keep c first now [] is who differ ready = keeps_none c now is
starts_keep c first now (e ∷ es) is who differ ready =
    let starts : List Move = entities.start_entity e first in
    let both_are : (is_ready c now e ≡ true) × (list_all (is_ready c now) es ≡ true) = and_both (is_ready c now e) (list_all (is_ready c now) es) ready in
    let one : ((is_brought c e && is_hosted now (shard_of now.set e)) ≡ true) × (is_in_phase phase.Absent now e ≡ true) = and_both (is_brought c e && is_hosted now (shard_of now.set e)) (is_in_phase phase.Absent now e) both_are.0 in
    let there : (is_brought c e ≡ true) × (is_hosted now (shard_of now.set e) ≡ true) = and_both (is_brought c e) (is_hosted now (shard_of now.set e)) one.0 in
    let started : KeepsEntities c now starts = subst (λ w. KeepsEntities c now (told (fact.Start w e) ∷ post w w (body.Recovered e) ∷ [])) who (start_entity_keeps c now e is there.0 there.1 one.1) in
    keeps_both c now starts (flat_map (λ e. entities.start_entity e first) es) started
    (starts_keep c first (fold entities_after now starts) es started.stands who differ.1 (still_ready c now first.who e is there.0 es differ.0 both_are.1))

-- Names of a shard.

-- what holds of those that are left, by what holds of all
all_passed : (p q z : List ℕ → Bool) → ((x : List ℕ) → p x ≡ true → q x ≡ true → z x ≡ true) → (xs : List (List ℕ)) → list_all p xs ≡ true → list_all z (filter q xs) ≡ true
all_passed p q z h [] a = refl
all_passed p q z h (x ∷ xs) a =
    let m : (p x ≡ true) × (list_all p xs ≡ true) = and_both (p x) (list_all p xs) a in
    by (q x) refl m.0 (all_passed p q z h xs m.1)
  where
    by : (b : Bool) → q x ≡ b → p x ≡ true → list_all z (filter q xs) ≡ true → list_all z (if b then x ∷ filter q xs else filter q xs) ≡ true
    by true k g rest = both (z x) (list_all z (filter q xs)) (h x g k) rest
    by false k g rest = rest

-- nothing is left of those that pass one test where these fail another
none_passes : (q r : List ℕ → Bool) → ((x : List ℕ) → q x ≡ true → r x ≡ false) → (xs : List (List ℕ)) → filter r (filter q xs) ≡ []
none_passes q r h [] = refl
none_passes q r h (x ∷ xs) = by (q x) refl (none_passes q r h xs)
  where
    by : (b : Bool) → q x ≡ b → filter r (filter q xs) ≡ [] → filter r (if b then x ∷ filter q xs else filter q xs) ≡ []
    by true k rest = ap (λ b. if b then x ∷ filter r (filter q xs) else filter r (filter q xs)) (h x k) ∙ rest
    by false k rest = rest

-- The remembered names.

-- of a shard that isn't hosted none starts
none_start : (c : Script) (st : Entities) (s : ℕ) → IsEntities c st → hosted st s ≡ None → KeepsEntities c st (entities.start_remembered s st)
none_start c st s is away =
    let r : List ℕ → Bool = λ e. is_remembered e (entries st e) in
    let q : List ℕ → Bool = λ e. shard_of st.set e == s in
    let none : filter r (filter q st.set.names) ≡ [] = none_passes q r (λ e of. ap (λ n. is_remembered e (entries_in (hosted st n))) (same_number (shard_of st.set e) s of) ∙ ap (λ o. is_remembered e (entries_in o)) away) st.set.names in
    keeps_if c st st.set.config.remember (flat_map (λ e. entities.start_entity e st) (filter r (names_of st.set s))) []
    (λ b. subst (λ l. KeepsEntities c st (flat_map (λ e. entities.start_entity e st) l)) (sym none) (keeps_none c st is))
    (λ b. keeps_none c st is)

-- of a shard that is hosted now, and of which no name exists
remembered_start : (c : Script) (st : Entities) (s : ℕ) → IsEntities c st → is_hosted st s ≡ true → ((e : List ℕ) → is_brought c e ≡ true → shard_of st.set e ≡ s → is_in_phase phase.Absent st e ≡ true) → KeepsEntities c st (entities.start_remembered s st)
remembered_start c st s is there absent =
    let r : List ℕ → Bool = λ e. is_remembered e (entries st e) in
    let q : List ℕ → Bool = λ e. shard_of st.set e == s in
    let brought : list_all (is_brought c) st.set.names ≡ true = ap (λ (set : Setting). list_all (is_brought c) set.names) is.set_is ∙ all_names (is_brought c) (names_in c.orders) (λ e h. h) in
    let ready : list_all (is_ready c st) (filter q st.set.names) ≡ true = all_passed (is_brought c) q (is_ready c st)
    (λ e b of.
    let home : shard_of st.set e ≡ s = same_number (shard_of st.set e) s of in
    both (is_brought c e && is_hosted st (shard_of st.set e)) (is_in_phase phase.Absent st e) (both (is_brought c e) (is_hosted st (shard_of st.set e)) b (ap (is_hosted st) home ∙ there)) (absent e b home)) st.set.names brought in
    let differ : AllDiffer st.set.names = subst (λ (set : Setting). AllDiffer set.names) (sym is.set_is) (names_differ c.orders) in
    keeps_if c st st.set.config.remember (flat_map (λ e. entities.start_entity e st) (filter r (names_of st.set s))) []
    (λ b. starts_keep c st st (filter r (filter q st.set.names)) is refl (left_differ r (filter q st.set.names) (left_differ q st.set.names differ))
    (all_passed (is_ready c st) r (is_ready c st) (λ e k p. k) (filter q st.set.names) ready))
    (λ b. keeps_none c st is)

-- The start.

-- the shard is granted or held, and then its remembered names start or none does
pub shard_starts : ShardStarts
shard_starts c st s list is away shard own_is = by (holder list) refl
  where
    f : Fact
    f = fact.Granted (slot.Shard s) (epoch list + 1) st.who

    grants : List Move
    grants = told f ∷ took (slot.Shard s) (list ++ f ∷ []) ∷ []

    mid : Entities
    mid = fold entities_after st grants

    inside_is : s < length st.hosted
    inside_is = subst (λ n. s < n) (sym is.shards_there) (below s c.config.shards shard)

    there : is_hosted mid s ≡ true
    there = ap (λ o. not (is_none o)) (get_or-set_same st.hosted s (Some (record { entries = list ++ f ∷ []; stopping = None })) None inside_is)

    absent : (e : List ℕ) → is_brought c e ≡ true → shard_of st.set e ≡ s → is_in_phase phase.Absent st e ≡ true
    absent e brought home = away_is (is_in_phase phase.Absent st e) refl
      where
        away_is : (b : Bool) → is_in_phase phase.Absent st e ≡ b → is_in_phase phase.Absent st e ≡ true
        away_is true k = k
        away_is false k = absurd (true≢false (sym (is.at_home e brought k) ∙ (ap (is_hosted st) home ∙ ap (λ o. not (is_none o)) away)))

    by : (o : Option Incarnation) → holder list ≡ o → KeepsFound c s list st (in_turn entities_after (λ st. acquire_by (slot.Shard s) st.who list o) (entities.start_remembered s) st)
    by None free =
        let first : KeepsFound c s list st grants = granted_keeps c st s list is shard own_is free in
        found_then c s list st grants (entities.start_remembered s mid) first (remembered_start c mid s first.stands there absent)
    by (Some h) held = found_then c s list st (told (fact.Held (slot.Shard s) st.who h.node) ∷ []) (entities.start_remembered s st) (held_keeps c st s list h.node is) (none_start c st s is away)
