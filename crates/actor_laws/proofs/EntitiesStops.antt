-- What stands of entities as they stop: shards that are handed off and freed, and the tick.
use Rattle.std.proofs.Common.{◌≡◌, ℕ, ◌<◌, List, [], ◌∷◌, ◌++◌, length, map, sym, ap, subst, ◌∙◌, refl, true, false, true≢false, arith}
use Rattle.std.specs.Prelude.{Bool, ◌&&◌, ◌||◌, ◌==◌, not, filter, fold, Option, Some, None, is_none, is_some, slice_set, slice_index_or, IfSome, if◌then◌else◌}
use Rattle.std.specs.List.{list_all, list_any, flat_map}
use Rattle.std.specs.Option.{option_map, option_and_then}
use Rattle.std.proofs.lemmas.Bool.Decides.{nat_tests}
use Rattle.std.proofs.lemmas.List.{get_or-set_same, get_or-set_other, length-set}
use Rattle.yard_model.specs.declared.fact.Fact.{Fact}
use Rattle.yard_model.specs.declared.fact.Fact.TheVariants as fact
use Rattle.yard_model.specs.declared.input.Phase.{Phase}
use Rattle.yard_model.specs.declared.input.Phase.TheVariants as phase
use Rattle.yard_model.specs.declared.packet.Body.TheVariants as body
use Rattle.yard_model.specs.declared.packet.Message.{Message}
use Rattle.yard_model.specs.declared.incarnation.Incarnation.{Incarnation}
use Rattle.yard_model.specs.declared.incarnation.Stamp.{Stamp}
use Rattle.yard_model.specs.declared.incarnation.Cause.TheVariants as cause
use Rattle.yard_model.specs.declared.incarnation.Slot.TheVariants as slot
use Rattle.yard_model.specs.Entities as entities
use Rattle.yard_model.specs.Entities.{Entities, Cell, Hosted, Stopping, is_phase, cell, hosted, entries_in, entries, is_hosted, is_in_phase, entities_of, entities_after}
use Rattle.yard_model.specs.Equal.{is_slot}
use Rattle.yard_model.specs.Genuine.{is_node, is_shard, is_brought}
use Rattle.yard_model.specs.Lawful.{is_held, may_follow}
use Rattle.yard_model.specs.Move.{Move, handed_off, told, post}
use Rattle.yard_model.specs.Script.{Script, Setting, is_name, setting}
use Rattle.yard_model.specs.Setting.{shard_of, shards, names_of}
use Rattle.yard_model.specs.SlotLists.{shard_list}
use Rattle.yard_model.specs.SlotReads.{holder, epoch, is_remembered}
use Rattle.yard_model.specs.Turns.{in_turn, where_some}
use Rattle.yard_model.specs.Words.{at, is_at, is_empty}
use Rattle.plain_laws.proofs.Booleans.{and_both, both, number_itself, same_name, is_below}
use Rattle.plain_laws.proofs.Members.{itself_is}
use Rattle.plain_laws.proofs.Lists.{some_is, inside, by_place}
use Rattle.plain_laws.proofs.Names.{all_names, any_more}
use Rattle.yard_laws.specs.Entries.{EntityFollows, EntitiesFollow}
use Rattle.actor_laws.specs.Owes.{has_name, guard_in_hand}
use Rattle.actor_laws.specs.EntitiesStand.{IsHeldShard, is_for, IsEntities, IsMessage, KeepsEntities}
use Rattle.actor_laws.proofs.EntitiesCells.{own_cell}
use Rattle.actor_laws.proofs.EntitiesMoves.{some_of, keeps_none, keeps_both, stop_keeps, dropped_keeps}
use Rattle.actor_laws.proofs.EntitiesEntries.{still_keeps, own_post, recovered_post_keeps, stop_post_keeps, entry_keeps}
use Rattle.actor_laws.proofs.EntitiesRules.{keeps_if, start_entity_keeps, messages_of, hosted_of}

-- Moves that may stand in any order.

abbrev Kept : Script → Incarnation → Move → Type 0
Kept c who m = (st : Entities) → IsEntities c st → st.who ≡ who → KeepsEntities c st (m ∷ [])

abbrev AllKept : Script → Incarnation → List Move → Type 0
AllKept c who [] = Unit {0}
AllKept c who (m ∷ ms) = Kept c who m × AllKept c who ms

all_keep : (c : Script) (who : Incarnation) (ms : List Move) (st : Entities) → AllKept c who ms → IsEntities c st → st.who ≡ who → KeepsEntities c st ms
all_keep c who [] st a is same = keeps_none c st is
all_keep c who (m ∷ ms) st a is same =
    let first : KeepsEntities c st (m ∷ []) = a.0 st is same in
    keeps_both c st (m ∷ []) ms first (all_keep c who ms (entities_after st m) a.1 first.stands same)

kept_both : (c : Script) (who : Incarnation) (xs ys : List Move) → AllKept c who xs → AllKept c who ys → AllKept c who (xs ++ ys)
kept_both c who [] ys a b = b
kept_both c who (x ∷ xs) ys a b = (a.0, kept_both c who xs ys a.1 b)

stop_post_kept : (c : Script) (who : Incarnation) (e : List ℕ) → is_brought c e ≡ true → Kept c who (post who who (body.StopEntity e))
stop_post_kept c who e brought = λ st is same. subst (λ w. KeepsEntities c st (post w w (body.StopEntity e) ∷ [])) same (stop_post_keeps c st e is brought)

recovered_post_kept : (c : Script) (who : Incarnation) (e : List ℕ) → is_brought c e ≡ true → Kept c who (post who who (body.Recovered e))
recovered_post_kept c who e brought = λ st is same. subst (λ w. KeepsEntities c st (post w w (body.Recovered e) ∷ [])) same (recovered_post_keeps c st e is brought)

dropped_kept : (c : Script) (who : Incarnation) (m : Message) → is_brought c m.entity ≡ true → Kept c who (told (fact.Dropped who m))
dropped_kept c who m brought = λ st is same. subst (λ w. KeepsEntities c st (told (fact.Dropped w m) ∷ [])) same (dropped_keeps c st m is brought)

-- Names.

-- what is left of names was among them, and passes
left_names : (q : List ℕ → Bool) (xs : List (List ℕ)) (e : List ℕ) → list_any (is_name e) (filter q xs) ≡ true → (list_any (is_name e) xs ≡ true) × (q e ≡ true)
left_names q [] e h = absurd (true≢false (sym h))
left_names q (x ∷ xs) e h = by (q x) refl h (left_names q xs e)
  where
    first : (b : Bool) → is_name e x ≡ b → q x ≡ true → (b || list_any (is_name e) (filter q xs)) ≡ true → (list_any (is_name e) (filter q xs) ≡ true → (list_any (is_name e) xs ≡ true) × (q e ≡ true)) → (list_any (is_name e) (x ∷ xs) ≡ true) × (q e ≡ true)
    first true k p t rest = (ap (λ b. b || list_any (is_name e) xs) k, ap q (same_name e x k) ∙ p)
    first false k p t rest = let r : (list_any (is_name e) xs ≡ true) × (q e ≡ true) = rest t in (any_more e x xs r.0, r.1)

    by : (b : Bool) → q x ≡ b → list_any (is_name e) (if b then x ∷ filter q xs else filter q xs) ≡ true → (list_any (is_name e) (filter q xs) ≡ true → (list_any (is_name e) xs ≡ true) × (q e ≡ true)) → (list_any (is_name e) (x ∷ xs) ≡ true) × (q e ≡ true)
    by true k t rest = first (is_name e x) refl k t rest
    by false k t rest = let r : (list_any (is_name e) xs ≡ true) × (q e ≡ true) = rest t in (any_more e x xs r.0, r.1)

-- where nothing is left of names, none passes
none_left : (q : List ℕ → Bool) (xs : List (List ℕ)) (e : List ℕ) → is_empty (filter q xs) ≡ true → list_any (is_name e) xs ≡ true → q e ≡ false
none_left q [] e h k = absurd (true≢false (sym k))
none_left q (x ∷ xs) e h k = by (q x) refl h (none_left q xs e)
  where
    by : (b : Bool) → q x ≡ b → is_empty (if b then x ∷ filter q xs else filter q xs) ≡ true → (is_empty (filter q xs) ≡ true → list_any (is_name e) xs ≡ true → q e ≡ false) → q e ≡ false
    by true p t rest = absurd (true≢false (sym t))
    by false p t rest = at (is_name e x) refl k
      where
        at : (b : Bool) → is_name e x ≡ b → (b || list_any (is_name e) xs) ≡ true → q e ≡ false
        at true s u = ap q (same_name e x s) ∙ p
        at false s u = rest t u

brought_of : (c : Script) (st : Entities) (e : List ℕ) → IsEntities c st → list_any (is_name e) st.set.names ≡ true → is_brought c e ≡ true
brought_of c st e is h = ap (λ (s : Setting). list_any (is_name e) s.names) (sym is.set_is) ∙ h

names_brought : (c : Script) (st : Entities) (e : List ℕ) → IsEntities c st → is_brought c e ≡ true → list_any (is_name e) st.set.names ≡ true
names_brought c st e is h = ap (λ (s : Setting). list_any (is_name e) s.names) is.set_is ∙ h

-- an entity of a shard is one of the script's names
entities_brought : (c : Script) (st : Entities) (s : ℕ) → IsEntities c st → list_all (is_brought c) (entities_of st s) ≡ true
entities_brought c st s is = all_names (is_brought c) (entities_of st s) (λ e h. brought_of c st e is (left_names (λ x. shard_of st.set x == s) st.set.names e (left_names (λ x. not (is_in_phase phase.Absent st x)) (names_of st.set s) e h).0).0)

-- a name that passes stays
names_kept : (q : List ℕ → Bool) (xs : List (List ℕ)) (e : List ℕ) → q e ≡ true → list_any (is_name e) xs ≡ true → list_any (is_name e) (filter q xs) ≡ true
names_kept q [] e p h = absurd (true≢false (sym h))
names_kept q (x ∷ xs) e p h = at (is_name e x) refl h (names_kept q xs e p)
  where
    by : (b : Bool) → list_any (is_name e) (filter q xs) ≡ true → list_any (is_name e) (if b then x ∷ filter q xs else filter q xs) ≡ true
    by true r = any_more e x (filter q xs) r
    by false r = r

    at : (b : Bool) → is_name e x ≡ b → (b || list_any (is_name e) xs) ≡ true → (list_any (is_name e) xs ≡ true → list_any (is_name e) (filter q xs) ≡ true) → list_any (is_name e) (filter q (x ∷ xs)) ≡ true
    at true k t rest = ap (λ b. list_any (is_name e) (if b then x ∷ filter q xs else filter q xs)) (ap q (sym (same_name e x k)) ∙ p) ∙ ap (λ b. b || list_any (is_name e) (filter q xs)) k
    at false k t rest = by (q x) (rest t)

-- where a shard has no entity left, none of its names is there
none_there : (c : Script) (st : Entities) (s : ℕ) (e : List ℕ) → IsEntities c st → is_empty (entities_of st s) ≡ true → is_brought c e ≡ true → shard_of st.set e ≡ s → is_in_phase phase.Absent st e ≡ true
none_there c st s e is none brought of = from_not (is_in_phase phase.Absent st e) (none_left (λ x. not (is_in_phase phase.Absent st x)) (names_of st.set s) e none (names_kept (λ x. shard_of st.set x == s) st.set.names e (number_itself (shard_of st.set e) s of) (names_brought c st e is brought)))
  where
    from_not : (b : Bool) → not b ≡ false → b ≡ true
    from_not true h = refl
    from_not false h = absurd (true≢false h)

-- A shard is freed.

shard_itself : (s : ℕ) → is_slot (slot.Shard s) (slot.Shard s) ≡ true
shard_itself s = number_itself s s refl

free_keeps : (c : Script) (st : Entities) (s : ℕ) (x : Hosted) → IsEntities c st → hosted st s ≡ Some x → is_empty (entities_of st s) ≡ true → KeepsEntities c st (told (fact.Freed (slot.Shard s) (epoch (entries_in (hosted st s))) cause.Released) ∷ [])
free_keeps c st s x is at_s none = record {
  stands = record {
    who_is = is.who_is;
    set_is = is.set_is;
    version_is = is.version_is;
    shards_there = length-set st.hosted s None ∙ is.shards_there;
    cells_there = is.cells_there;
    hosted_are = λ t k e. by_place (IsHeldShard c st.who t k) t s
        (λ same. absurd (none_some k (sym gone ∙ (ap (at (slice_set st.hosted s None)) (sym same) ∙ e))))
        (λ ne. is.hosted_are t k (sym (get_or-set_other st.hosted s t None None ne) ∙ e));
    at_home = λ e he k. by_place (is_hosted now (shard_of st.set e) ≡ true) (shard_of st.set e) s
        (λ same. absurd (true≢false (sym (none_there c st s e is none he same) ∙ k)))
        (λ ne. ap (λ o. not (is_none o)) (get_or-set_other st.hosted s (shard_of st.set e) None None ne) ∙ is.at_home e he k);
    stashed = is.stashed;
  };
  posts_are = refl;
  facts_are = refl;
  held_are = λ h i. both (is_at st.who (holder (shard_list h.lists s))) true (ap (λ l. is_at st.who (holder l)) (i.lists_are s x at_s) ∙ (ap (is_at st.who) held.held_is ∙ itself_is st.who st.who refl)) refl;
  guarded_are = λ v h i. both (guard_in_hand c v st.who h f) true
      (both (is_shard c s && may_follow c (slot.Shard s) (shard_list h.lists s) f) (is_at st.who (holder (shard_list h.lists s)) && list_all (λ e. not (has_name e h.live)) (names_of (setting c) s))
      (both (is_shard c s) (may_follow c (slot.Shard s) (shard_list h.lists s) f) shard_is (ap (λ l. may_follow c (slot.Shard s) l f) (i.lists_are s x at_s) ∙ follows))
      (both (is_at st.who (holder (shard_list h.lists s))) (list_all (λ e. not (has_name e h.live)) (names_of (setting c) s))
      (ap (λ l. is_at st.who (holder l)) (i.lists_are s x at_s) ∙ (ap (is_at st.who) held.held_is ∙ itself_is st.who st.who refl))
      (all_names (λ e. not (has_name e h.live)) (names_of (setting c) s) (λ e k.
      let of : (list_any (is_name e) (setting c).names ≡ true) × ((shard_of (setting c) e == s) ≡ true) = left_names (λ y. shard_of (setting c) y == s) (setting c).names e k in
      ap not (i.live_are e of.0 ∙ ap not (none_there c st s e is none of.0 (ap (λ (set : Setting). shard_of set e) is.set_is ∙ same_number (shard_of (setting c) e) s of.1))))))) refl;
  goes_along = λ h i. record {
    there = length-set h.lists.shards s (shard_list h.lists s ++ f ∷ []) ∙ i.there;
    lists_are = λ t k e. by_place (slice_index_or (slice_set h.lists.shards s (shard_list h.lists s ++ f ∷ [])) t [] ≡ k.entries) t s
        (λ same. absurd (none_some k (sym gone ∙ (ap (at (slice_set st.hosted s None)) (sym same) ∙ e))))
        (λ ne. get_or-set_other h.lists.shards s t (shard_list h.lists s ++ f ∷ []) [] ne ∙ i.lists_are t k (sym (get_or-set_other st.hosted s t None None ne) ∙ e));
    version_is = i.version_is;
    live_are = i.live_are;
  };
}
  where
    f : Fact
    f = fact.Freed (slot.Shard s) (epoch (entries_in (hosted st s))) cause.Released

    now : Entities
    now = entities_after st (told f)

    held : IsHeldShard c st.who s x
    held = is.hosted_are s x at_s

    inside_is : s < length st.hosted
    inside_is = inside st.hosted s x at_s

    shard_is : is_shard c s ≡ true
    shard_is = is_below s c.config.shards (subst (λ n. s < n) is.shards_there inside_is)

    gone : at (slice_set st.hosted s None) s ≡ None
    gone = get_or-set_same st.hosted s None None inside_is

    none_some : (k : Hosted) → None ≡ Some k → ⊥
    none_some k e = true≢false (ap is_none e)

    same_number : (a b : ℕ) → (a == b) ≡ true → a ≡ b
    same_number a b h = grind (arith, nat_tests)

    follows : may_follow c (slot.Shard s) x.entries f ≡ true
    follows = both (is_held x.entries && (epoch (entries_in (hosted st s)) == epoch x.entries)) (is_slot (slot.Shard s) (slot.Shard s))
        (both (is_held x.entries) (epoch (entries_in (hosted st s)) == epoch x.entries) (ap is_some held.held_is) (number_itself (epoch (entries_in (hosted st s))) (epoch x.entries) (ap (λ o. epoch (entries_in o)) at_s))) (shard_itself s)

pub free_if_left_keeps : (c : Script) (st : Entities) (s : ℕ) → IsEntities c st → KeepsEntities c st (entities.free_if_left s st)
free_if_left_keeps c st s is = by (hosted st s) refl
  where
    frees : Stopping → List Move
    frees k = if is_empty (entities_of st s) then told (fact.Freed (slot.Shard s) (epoch (entries_in (hosted st s))) cause.Released) ∷ post st.who k.to (body.ShardStopped s k.stamp) ∷ [] else []

    stopping : (x : Hosted) → hosted st s ≡ Some x → (o : Option Stopping) → IfSome o (λ k. is_node c k.to ≡ true) → KeepsEntities c st (where_some frees o)
    stopping x e None h = keeps_none c st is
    stopping x e (Some k) h = keeps_if c st (is_empty (entities_of st s)) (told (fact.Freed (slot.Shard s) (epoch (entries_in (hosted st s))) cause.Released) ∷ post st.who k.to (body.ShardStopped s k.stamp) ∷ []) []
        (λ none.
        let first : KeepsEntities c st (told (fact.Freed (slot.Shard s) (epoch (entries_in (hosted st s))) cause.Released) ∷ []) = free_keeps c st s x is e none in
        keeps_both c st (told (fact.Freed (slot.Shard s) (epoch (entries_in (hosted st s))) cause.Released) ∷ []) (post st.who k.to (body.ShardStopped s k.stamp) ∷ []) first
        (still_keeps c (entities_after st (told (fact.Freed (slot.Shard s) (epoch (entries_in (hosted st s))) cause.Released))) (post st.who k.to (body.ShardStopped s k.stamp)) first.stands refl
        (own_post c st.who k.to (body.ShardStopped s k.stamp) is.who_is h (is_below s c.config.shards (subst (λ n. s < n) is.shards_there (inside st.hosted s x e)))) refl))
        (λ some. keeps_none c st is)

    by : (o : Option Hosted) → hosted st s ≡ o → KeepsEntities c st (where_some frees (option_and_then (λ (h : Hosted). h.stopping) o))
    by None e = keeps_none c st is
    by (Some x) e = let k : IsHeldShard c st.who s x = is.hosted_are s x e in stopping x e x.stopping k.told_is

-- Handing off.

handed_keeps : (c : Script) (st : Entities) (s : ℕ) (stamp : Stamp) (to : Incarnation) (x : Hosted) → IsEntities c st → hosted st s ≡ Some x → is_node c to ≡ true → KeepsEntities c st (handed_off s stamp to ∷ [])
handed_keeps c st s stamp to x is at_s there = record {
  stands = record {
    who_is = is.who_is;
    set_is = is.set_is;
    version_is = is.version_is;
    shards_there = ap length now_is ∙ (length-set st.hosted s (Some now) ∙ is.shards_there);
    cells_there = is.cells_there;
    hosted_are = λ t k e. by_place (IsHeldShard c st.who t k) t s
        (λ same. subst (λ n. IsHeldShard c st.who n k) (sym same) (subst (IsHeldShard c st.who s) (at_same t k same (sym (ap (λ l. at l t) now_is) ∙ e)) (record { own_is = held.own_is; held_is = held.held_is; told_is = there })))
        (λ ne. is.hosted_are t k (sym (get_or-set_other st.hosted s t (Some now) None ne) ∙ (sym (ap (λ l. at l t) now_is) ∙ e)));
    at_home = λ e he k. ap (λ l. not (is_none (at l (shard_of st.set e)))) now_is
        ∙ by_place (not (is_none (at (slice_set st.hosted s (Some now)) (shard_of st.set e))) ≡ true) (shard_of st.set e) s
        (λ same. ap (λ n. not (is_none (at (slice_set st.hosted s (Some now)) n))) same ∙ ap (λ o. not (is_none o)) (get_or-set_same st.hosted s (Some now) None inside_is))
        (λ ne. ap (λ o. not (is_none o)) (get_or-set_other st.hosted s (shard_of st.set e) (Some now) None ne) ∙ is.at_home e he k);
    stashed = is.stashed;
  };
  posts_are = refl;
  facts_are = refl;
  held_are = λ h i. refl;
  guarded_are = λ v h i. refl;
  goes_along = λ h i. record {
    there = i.there;
    lists_are = λ t k e. by_place (shard_list h.lists t ≡ k.entries) t s
        (λ same. ap (shard_list h.lists) same ∙ (i.lists_are s x at_s ∙ ap (λ (y : Hosted). y.entries) (at_same t k same (sym (ap (λ l. at l t) now_is) ∙ e))))
        (λ ne. i.lists_are t k (sym (get_or-set_other st.hosted s t (Some now) None ne) ∙ (sym (ap (λ l. at l t) now_is) ∙ e)));
    version_is = i.version_is;
    live_are = i.live_are;
  };
}
  where
    now : Hosted
    now = record { entries = x.entries; stopping = Some (record { stamp = stamp; to = to }) }

    held : IsHeldShard c st.who s x
    held = is.hosted_are s x at_s

    inside_is : s < length st.hosted
    inside_is = inside st.hosted s x at_s

    now_is : entities.hosted_step st.set st.hosted (handed_off s stamp to) ≡ slice_set st.hosted s (Some now)
    now_is = ap (λ o. slice_set st.hosted s (option_map (λ (h : Hosted). record { entries = h.entries; stopping = Some (record { stamp = stamp; to = to }) }) o)) at_s

    at_same : (t : ℕ) (k : Hosted) → t ≡ s → at (slice_set st.hosted s (Some now)) t ≡ Some k → now ≡ k
    at_same t k same e = some_is now k (sym (get_or-set_same st.hosted s (Some now) None inside_is) ∙ (ap (at (slice_set st.hosted s (Some now))) (sym same) ∙ e))

stop_posts_kept : (c : Script) (who : Incarnation) (es : List (List ℕ)) → list_all (is_brought c) es ≡ true → AllKept c who (map (λ e. post who who (body.StopEntity e)) es)
stop_posts_kept c who [] h = tt
stop_posts_kept c who (e ∷ es) h =
    let m : (is_brought c e ≡ true) × (list_all (is_brought c) es ≡ true) = and_both (is_brought c e) (list_all (is_brought c) es) h in
    (stop_post_kept c who e m.0, stop_posts_kept c who es m.1)

pub hand_off_keeps : (c : Script) (st : Entities) (s : ℕ) (stamp : Stamp) (from : Incarnation) → IsEntities c st → is_hosted st s ≡ true → is_node c from ≡ true → KeepsEntities c st (entities.hand_off s stamp from st)
hand_off_keeps c st s stamp from is there node =
    let x : (x : Hosted) × (hosted st s ≡ Some x) = some_of (hosted st s) there in
    let first : KeepsEntities c st (handed_off s stamp from ∷ []) = handed_keeps c st s stamp from x.0 is x.1 node in
    let mid : Entities = entities_after st (handed_off s stamp from) in
    let posts : List Move = map (λ e. post st.who st.who (body.StopEntity e)) (entities_of st s) in
    let stops : KeepsEntities c st (handed_off s stamp from ∷ posts) = keeps_both c st (handed_off s stamp from ∷ []) posts first (all_keep c st.who posts mid (stop_posts_kept c st.who (entities_of st s) (entities_brought c st s is)) first.stands refl) in
    keeps_both c st (handed_off s stamp from ∷ posts) (entities.free_if_left s (fold entities_after mid posts)) stops (free_if_left_keeps c (fold entities_after mid posts) s stops.stands)

-- After the stop.

drops_kept : (c : Script) (who : Incarnation) (e : List ℕ) → is_brought c e ≡ true → (ms : List Message) → list_all (is_for c e) ms ≡ true → AllKept c who (map (λ m. told (fact.Dropped who m)) ms)
drops_kept c who e brought [] h = tt
drops_kept c who e brought (m ∷ ms) h =
    let n : (is_for c e m ≡ true) × (list_all (is_for c e) ms ≡ true) = and_both (is_for c e m) (list_all (is_for c e) ms) h in
    let g : (m.entity ≡ e) × IsMessage c m = messages_of c e m brought n.0 in
    (dropped_kept c who m (ap (is_brought c) g.0 ∙ brought), drops_kept c who e brought ms n.1)

pub running_hosted : (o : Option Hosted) → entities.is_running_in o ≡ true → not (is_none o) ≡ true
running_hosted None h = absurd (true≢false (sym h))
running_hosted (Some x) h = refl

after_stop_keeps : (c : Script) (st : Entities) (e : List ℕ) → IsEntities c st → is_brought c e ≡ true → is_in_phase phase.Absent st e ≡ true → KeepsEntities c st (entities.after_stop e st)
after_stop_keeps c st e is brought absent =
    let s : ℕ = shard_of st.set e in
    keeps_if c st (entities.is_running st s) (if is_empty (cell st e).stash then [] else entities.start_entity e st) (in_turn entities_after (entities.drop_stash e) (entities.free_if_left s) st)
    (λ runs. keeps_if c st (is_empty (cell st e).stash) [] (entities.start_entity e st) (λ b. keeps_none c st is) (λ b. start_entity_keeps c st e is brought (running_hosted (hosted st s) runs) absent))
    (λ stops.
    let drops : List Move = entities.drop_stash e st in
    let first : KeepsEntities c st drops = all_keep c st.who drops st (drops_kept c st.who e brought (cell st e).stash (is.stashed e brought)) is refl in
    keeps_both c st drops (entities.free_if_left s (fold entities_after st drops)) first (free_if_left_keeps c (fold entities_after st drops) s first.stands))

pub stop_rule_keeps : (c : Script) (st : Entities) (e : List ℕ) → EntitiesFollow → IsEntities c st → is_brought c e ≡ true → KeepsEntities c st (entities.stop e st)
stop_rule_keeps c st e law is brought = keeps_if c st (is_in_phase phase.Stopping st e) (in_turn entities_after (λ st. told (fact.Stop st.who e) ∷ entities.forget_passivated e st) (entities.after_stop e) st) []
    (λ b.
    let live : is_in_phase phase.Absent st e ≡ false = stopping (cell st e).phase b in
    let there : is_hosted st (shard_of st.set e) ≡ true = is.at_home e brought live in
    let first : KeepsEntities c st (told (fact.Stop st.who e) ∷ []) = stop_keeps c st e is brought in
    let mid : Entities = entities_after st (told (fact.Stop st.who e)) in
    let gone : is_in_phase phase.Absent mid e ≡ true = ap (λ (x : Cell). is_phase phase.Absent x.phase) (own_cell c st (told (fact.Stop st.who e)) e is brought refl) in
    let follows : EntityFollows c st e = law c st e (hosted_of c st e is brought there) in
    let forgets : List Move = entities.forget_passivated e st in
    let second : KeepsEntities c mid forgets = keeps_if c mid ((cell st e).passivating && is_remembered e (entries st e)) (told (fact.Forgotten e) ∷ []) []
    (λ k. entry_keeps c mid (fact.Forgotten e) e first.stands brought there refl refl refl refl (follows.forgotten (and_both (cell st e).passivating (is_remembered e (entries st e)) k).1) (λ o. refl) (λ v h i. refl) (λ l. refl) refl)
    (λ k. keeps_none c mid first.stands) in
    let all : List Move = told (fact.Stop st.who e) ∷ forgets in
    let both_are : KeepsEntities c st all = keeps_both c st (told (fact.Stop st.who e) ∷ []) forgets first second in
    let later : Entities = fold entities_after st all in
    let still_gone : is_in_phase phase.Absent later e ≡ true = forgotten_same mid ((cell st e).passivating && is_remembered e (entries st e)) ∙ gone in
    keeps_both c st all (entities.after_stop e later) both_are (after_stop_keeps c later e both_are.stands brought still_gone))
    (λ b. keeps_none c st is)
  where
    stopping : (p : Phase) → is_phase phase.Stopping p ≡ true → is_phase phase.Absent p ≡ false
    stopping phase.Stopping h = refl
    stopping p h = absurd (true≢false (sym h))

    forgotten_same : (mid : Entities) (b : Bool) → is_in_phase phase.Absent (fold entities_after mid (if b then told (fact.Forgotten e) ∷ [] else [])) e ≡ is_in_phase phase.Absent mid e
    forgotten_same mid true = refl
    forgotten_same mid false = refl

-- The tick.

reminds_kept : (c : Script) (st : Entities) (es : List (List ℕ)) → list_all (is_brought c) es ≡ true → AllKept c st.who (flat_map (λ e. entities.remind_by e st (cell st e).phase) es)
reminds_kept c st [] h = tt
reminds_kept c st (e ∷ es) h =
    let m : (is_brought c e ≡ true) × (list_all (is_brought c) es ≡ true) = and_both (is_brought c e) (list_all (is_brought c) es) h in
    kept_both c st.who (entities.remind_by e st (cell st e).phase) (flat_map (λ e. entities.remind_by e st (cell st e).phase) es) (one (cell st e).phase m.0) (reminds_kept c st es m.1)
  where
    one : (p : Phase) → is_brought c e ≡ true → AllKept c st.who (entities.remind_by e st p)
    one phase.Absent b = tt
    one phase.Loading b = (recovered_post_kept c st.who e b, tt)
    one phase.Active b = tt
    one phase.Stopping b = (stop_post_kept c st.who e b, tt)

ticks_kept : (c : Script) (st : Entities) → IsEntities c st → (ss : List ℕ) → AllKept c st.who (flat_map (λ s. flat_map (λ e. entities.remind_by e st (cell st e).phase) (entities_of st s)) ss)
ticks_kept c st is [] = tt
ticks_kept c st is (s ∷ ss) = kept_both c st.who (flat_map (λ e. entities.remind_by e st (cell st e).phase) (entities_of st s)) (flat_map (λ s. flat_map (λ e. entities.remind_by e st (cell st e).phase) (entities_of st s)) ss)
    (reminds_kept c st (entities_of st s) (entities_brought c st s is)) (ticks_kept c st is ss)

pub tick_keeps : (c : Script) (st : Entities) → IsEntities c st → KeepsEntities c st (entities.tick_entities st)
tick_keeps c st is = all_keep c st.who (entities.tick_entities st) st (ticks_kept c st is (shards st.set)) is refl
