-- A turn that tells no entry of a slot leaves the list of it that its node has.
use Rattle.std.proofs.Common.{◌≡◌, ◌≢◌, ℕ, zero, suc, ◌+◌, ◌-◌, ◌<◌, ◌≤◌, ◌⊎◌, inl, inr, ⊎_elim, true, false, ◌&&◌, List, [], ◌∷◌, ◌++◌, length, filter, fold, refl, sym, ap, ◌∙◌, subst, arith, append-nil, length-append, get_or-set_other}
use Rattle.std.specs.Prelude.{Bool, ◌||◌, cond, not, nat_le, Option, None, Some, is_some, IfSome, slice_set}
use Rattle.std.specs.List.{list_all, list_any}
use Rattle.std.specs.Option.{option_map}
use Rattle.atomic_table.specs.Seated.{TableId}
use Rattle.plain_laws.proofs.Booleans.{true_is_not_false, and_both, both, at_most, within, is_below, same_name}
use Rattle.plain_laws.proofs.Lists.{none_is_not_some, some_is, inside}
use Rattle.yard_model.specs.declared.fact.Fact.{Fact}
use Rattle.yard_model.specs.declared.incarnation.Incarnation.{Incarnation}
use Rattle.yard_model.specs.declared.incarnation.Slot.{Slot}
use Rattle.yard_model.specs.declared.incarnation.Slot.TheVariants as slot
use Rattle.yard_model.specs.declared.input.Phase.TheVariants as phase
use Rattle.yard_model.specs.declared.out.Item.{Item}
use Rattle.yard_model.specs.declared.out.Item.TheVariants as item
use Rattle.yard_model.specs.declared.packet.Packet.{Packet}
use Rattle.yard_model.specs.Coordinator.{Coordinator}
use Rattle.yard_model.specs.Entities.{Hosted, hosted, is_in_phase}
use Rattle.yard_model.specs.Genuine.{is_slot_of, is_shard, is_producer, is_brought}
use Rattle.yard_model.specs.Lawful.{may_follow}
use Rattle.yard_model.specs.Node.{Node, Act, items_of}
use Rattle.yard_model.specs.Producer.{Producer}
use Rattle.yard_model.specs.Script.{Script, Setting, setting, is_name}
use Rattle.yard_model.specs.SlotLists.{SlotLists, shard_list, queue_list}
use Rattle.yard_model.specs.SlotReads.{holder}
use Rattle.yard_model.specs.Trace.{slot_of, list_at, with_entry}
use Rattle.yard_model.specs.Words.{at}
use Rattle.actor_laws.specs.Hands.{held_list, AreInHand}
use Rattle.actor_laws.specs.Owes.{Hand, facts_in, hand_after, live_names, follows_in_hand, lives_in_hand, guard_in_hand, guarded_in_hand}
use Rattle.node_laws.specs.NodeFound.{Finds, NodeKeepsIf}
use Rattle.node_laws.specs.NodeStands.{IsSoundNode, NodeInHand}
use Rattle.shard_lease.specs.Meaning.{Meaning, Begins}
use Rattle.shard_store.specs.Stores.{place_of}
use Rattle.node_core.specs.Found.{AreThere}
use Rattle.node_core.specs.Gave.{moment}
use Rattle.node_core.specs.Leased.{IsHandOf, Rests}
use Rattle.node_core.specs.Standing.{Standing}
use Rattle.node_core.specs.Turned.{Turned}
use Rattle.node_core.proofs.PartLaws.{holds_it, hand_of}
use Rattle.lease_table.specs.declared.View.{View}
use Rattle.lease_table.specs.Leasing.{Pass}
use Rattle.lease_table.specs.Lists.{seen_at}
use Rattle.lease_table.proofs.Meant.{held_there, told_here, told_by, same_pass}
use Rattle.lease_table.proofs.Places.{same_or_not, begins_length}
use Rattle.node_runner.specs.Rested.{Rested, ArePublished, means}
use Rattle.node_runner.specs.Whole.{SeesHeld}
use Rattle.node_runner.specs.Told.{IsTold, IsShownAt, AreShownBut, StayShown, AreToldShown}
use Rattle.node_runner.proofs.Queueing.{sees_at}

-- What a node has in hand, of lists that it has so.

none_kept : (q : List ℕ → Bool) (e : List ℕ) (xs : List (List ℕ)) → q e ≡ false → list_any (is_name e) (filter q xs) ≡ false
none_kept q e [] h = refl
none_kept q e (x ∷ xs) h = by (q x) refl (none_kept q e xs h)
  where
    first : (d : Bool) → is_name e x ≡ d → q x ≡ true → list_any (is_name e) (filter q xs) ≡ false → (d || list_any (is_name e) (filter q xs)) ≡ false
    first true s k r = absurd (true_is_not_false (sym k ∙ (ap q (sym (same_name e x s)) ∙ h)))
    first false s k r = r

    by : (b : Bool) → q x ≡ b → list_any (is_name e) (filter q xs) ≡ false → list_any (is_name e) (cond b (x ∷ filter q xs) (filter q xs)) ≡ false
    by false k r = r
    by true k r = first (is_name e x) refl k r

kept_name : (q : List ℕ → Bool) (e : List ℕ) (xs : List (List ℕ)) → list_any (is_name e) xs ≡ true → list_any (is_name e) (filter q xs) ≡ q e
kept_name q e [] h = absurd (true_is_not_false (sym h))
kept_name q e (x ∷ xs) h = by (is_name e x) refl (kept_name q e xs) (none_kept q e (x ∷ xs))
  where
    later : (b : Bool) → is_name e x ≡ false → list_any (is_name e) (filter q xs) ≡ q e → list_any (is_name e) (cond b (x ∷ filter q xs) (filter q xs)) ≡ q e
    later false n r = r
    later true n r = ap (λ d. d || list_any (is_name e) (filter q xs)) n ∙ r

    first : (b : Bool) → q e ≡ b → is_name e x ≡ true → (q e ≡ false → list_any (is_name e) (filter q (x ∷ xs)) ≡ false) → list_any (is_name e) (filter q (x ∷ xs)) ≡ q e
    first false k s none = none k ∙ sym k
    first true k s none =
        let same : q x ≡ true = ap q (sym (same_name e x s)) ∙ k in
        ap (λ d. list_any (is_name e) (cond d (x ∷ filter q xs) (filter q xs))) same ∙ (ap (λ d. d || list_any (is_name e) (filter q xs)) s ∙ sym k)

    by : (d : Bool) → is_name e x ≡ d → (list_any (is_name e) xs ≡ true → list_any (is_name e) (filter q xs) ≡ q e) → (q e ≡ false → list_any (is_name e) (filter q (x ∷ xs)) ≡ false) → list_any (is_name e) (filter q (x ∷ xs)) ≡ q e
    by true s r none = first (q e) refl s none
    by false s r none = later (q x) s (r (ap (λ d. d || list_any (is_name e) xs) (sym s) ∙ h))

-- the hand of a node that has these lists
abbrev pub hand_with : SlotLists → Node → Hand
hand_with lists st = record { lists = lists; live = live_names st; version = st.entities.version }

in_lists : (c : Script) (lists : SlotLists) (st : Node) (s : Slot) (list : List Fact) → AreInHand c lists st → is_slot_of c s ≡ true → held_list s st ≡ Some list → list_at lists s ≡ list
in_lists c lists st s list hands here e = subst (λ o. IfSome o (λ l. list_at lists s ≡ l)) e (hands s here)

pub hand_of_lists : (c : Script) (lists : SlotLists) (st : Node) → IsSoundNode c st → AreThere c lists → AreInHand c lists st → NodeInHand c (hand_with lists st) st
hand_of_lists c lists st sound there hands = record {
  entities = record {
    there = there.shards;
    lists_are = λ s x e. in_lists c lists st (slot.Shard s) x.entries hands (is_below s c.config.shards (subst (λ n. s < n) sound.entities.shards_there (inside st.entities.hosted s x e))) (ap (option_map (λ (h : Hosted). h.entries)) e);
    version_is = refl;
    live_are = λ e here. kept_name (λ f. not (is_in_phase phase.Absent st.entities f)) e st.set.names (ap (λ (y : Setting). list_any (is_name e) y.names) sound.set_is ∙ here);
  };
  queues_there = there.queues;
  producers = λ p k above e. in_lists c lists st (slot.Queue p) k.entries hands (number p (subst (λ n. p - 1 < n) sound.producers_full (inside st.producers (p - 1) k e)) above) (ap (option_map (λ (x : Producer). x.entries)) e);
  coordinator = office st.coordinator (hands slot.Coordinator refl);
}
  where
    number : (p : ℕ) → p - 1 < c.config.producers → 0 < p → is_producer c p ≡ true
    number p less above = both (nat_le 1 p) (nat_le p c.config.producers) (within 1 p (omega (arith, above))) (within p c.config.producers (omega (arith, less, above)))

    office : (o : Option Coordinator) → IfSome (option_map (λ (k : Coordinator). k.entries) o) (λ l. lists.coordinator ≡ l) → IfSome o (λ k. lists.coordinator ≡ k.entries)
    office None h = tt
    office (Some k) h = h

-- and of a node the lists that are in its hand
pub hand_has : (c : Script) (h : Hand) (st : Node) (s : Slot) (list : List Fact) → NodeInHand c h st → is_slot_of c s ≡ true → held_list s st ≡ Some list → list_at h.lists s ≡ list
hand_has c h st (slot.Shard s) list i here e = by (at st.entities.hosted s) refl e
  where
    by : (o : Option Hosted) → at st.entities.hosted s ≡ o → option_map (λ (x : Hosted). x.entries) o ≡ Some list → shard_list h.lists s ≡ list
    by None there same = absurd (none_is_not_some list same)
    by (Some x) there same = i.entities.lists_are s x there ∙ some_is x.entries list same
hand_has c h st slot.Coordinator list i here e = by st.coordinator i.coordinator e
  where
    by : (o : Option Coordinator) → IfSome o (λ k. h.lists.coordinator ≡ k.entries) → option_map (λ (k : Coordinator). k.entries) o ≡ Some list → h.lists.coordinator ≡ list
    by None there same = absurd (none_is_not_some list same)
    by (Some k) there same = there ∙ some_is k.entries list same
hand_has c h st (slot.Queue p) list i here e = by (at st.producers (p - 1)) refl e
  where
    above : 0 < p
    above = let some : 1 ≤ p = at_most 1 p (and_both (nat_le 1 p) (nat_le p c.config.producers) here).0 in omega (arith, some)

    by : (o : Option Producer) → at st.producers (p - 1) ≡ o → option_map (λ (k : Producer). k.entries) o ≡ Some list → queue_list h.lists p ≡ list
    by None there same = absurd (none_is_not_some list same)
    by (Some k) there same = i.producers p k above there ∙ some_is k.entries list same

-- A slot of which no entry is told.

entry_beside : (c : Script) (lists : SlotLists) (f : Fact) (t s : Slot) → is_slot_of c t ≡ true → is_slot_of c s ≡ true → (Some t ≡ Some s) ⊎ (list_at (with_entry f lists (Some t)) s ≡ list_at lists s)
entry_beside c lists f (slot.Shard a) (slot.Shard b) ha hb = ⊎_elim (λ (e : a ≡ b). inl (ap (λ i. Some (slot.Shard i)) e)) (λ (ne : a ≢ b). inr (get_or-set_other lists.shards a b (shard_list lists a ++ f ∷ []) [] (λ e. ne (sym e)))) (same_or_not a b)
entry_beside c lists f (slot.Shard a) slot.Coordinator ha hb = inr refl
entry_beside c lists f (slot.Shard a) (slot.Queue q) ha hb = inr refl
entry_beside c lists f slot.Coordinator (slot.Shard b) ha hb = inr refl
entry_beside c lists f slot.Coordinator slot.Coordinator ha hb = inl refl
entry_beside c lists f slot.Coordinator (slot.Queue q) ha hb = inr refl
entry_beside c lists f (slot.Queue p) (slot.Shard b) ha hb = inr refl
entry_beside c lists f (slot.Queue p) slot.Coordinator ha hb = inr refl
entry_beside c lists f (slot.Queue p) (slot.Queue q) ha hb = ⊎_elim
    (λ (e : p - 1 ≡ q - 1). let a : 1 ≤ p = low p ha in let b : 1 ≤ q = low q hb in let same : p ≡ q = omega (arith, a, b, e) in inl (ap (λ i. Some (slot.Queue i)) same))
    (λ (ne : p - 1 ≢ q - 1). inr (get_or-set_other lists.queues (p - 1) (q - 1) (queue_list lists p ++ f ∷ []) [] (λ e. ne (sym e)))) (same_or_not (p - 1) (q - 1))
  where
    low : (i : ℕ) → is_producer c i ≡ true → 1 ≤ i
    low i h = at_most 1 i (and_both (nat_le 1 i) (nat_le i c.config.producers) h).0

fact_beside : (c : Script) (lists : SlotLists) (f : Fact) (s : Slot) (o : Option Slot) → is_slot_of c s ≡ true → follows_in_hand c lists f o ≡ true → (o ≡ Some s) ⊎ (list_at (with_entry f lists o) s ≡ list_at lists s)
fact_beside c lists f s None here g = inr refl
fact_beside c lists f s (Some t) here g = entry_beside c lists f t s (and_both (is_slot_of c t) (may_follow c t (list_at lists t) f) g).0 here

pub told_or_same : (c : Script) (vouches : List ℕ → ℕ → ℕ → Bool) (who : Incarnation) (s : Slot) (items : List Item) (h : Hand) → is_slot_of c s ≡ true → guarded_in_hand c vouches who h (facts_in items) ≡ true
    → IsTold (setting c) s items ⊎ (list_at (fold (hand_after c) h (facts_in items)).lists s ≡ list_at h.lists s)
told_or_same c vouches who s [] h here g = inr refl
told_or_same c vouches who s (item.Post p ∷ is) h here g = told_or_same c vouches who s is h here g
told_or_same c vouches who s (item.Fact f ∷ is) h here g =
    let t : (guard_in_hand c vouches who h f ≡ true) × (guarded_in_hand c vouches who (hand_after c h f) (facts_in is) ≡ true) = and_both (guard_in_hand c vouches who h f) (guarded_in_hand c vouches who (hand_after c h f) (facts_in is)) g in
    let follows : follows_in_hand c h.lists f (slot_of (setting c) f) ≡ true = (and_both (follows_in_hand c h.lists f (slot_of (setting c) f)) (lives_in_hand c vouches who h f) t.0).0 in
    ⊎_elim (λ told. inl (inl told)) (λ same. ⊎_elim (λ told. inl (inr told)) (λ rest. inr (rest ∙ same)) (told_or_same c vouches who s is (hand_after c h f) here t.1)) (fact_beside c h.lists f s (slot_of (setting c) f) here follows)

told_behind : (set : Setting) (s : Slot) (old items : List Item) → IsTold set s items → IsTold set s (old ++ items)
told_behind set s [] items t = t
told_behind set s (item.Fact f ∷ is) items t = inr (told_behind set s is items t)
told_behind set s (item.Post p ∷ is) items t = told_behind set s is items t

-- What others may see after a turn.

none_left : (xs rest : List Fact) → length (xs ++ rest) ≤ length xs → rest ≡ []
none_left xs [] h = refl
none_left xs (f ∷ fs) h = absurd (never (length xs) (length fs) (subst (λ n. n ≤ length xs) (length-append xs (f ∷ fs)) h))
  where
    never : (n k : ℕ) → n + suc k ≤ n → ⊥
    never n k h = omega (arith, h)

begins_same : (xs ys : List Fact) → Begins xs ys → Begins ys xs → xs ≡ ys
begins_same xs ys a b =
    let few : length ys ≤ length xs = begins_length ys xs b in
    let none : a.rest ≡ [] = none_left xs a.rest (subst (λ (l : List Fact). length l ≤ length xs) a.is few) in
    sym (a.is ∙ (ap (λ l. xs ++ l) none ∙ append-nil xs))

-- of a slot that is held with the list that it was held with
still_shown : (z : TableId) (c : Script) (me : ℕ) (p q : Pass) (v w : Standing) (s : Slot) (list : List Fact) → Rested z c me p v → Rested z c me q w → Begins (seen_at p.view.seen (place_of c.config s)) (seen_at q.view.seen (place_of c.config s))
    → is_slot_of c s ≡ true → held_list s w.state ≡ Some list → seen_at p.view.seen (place_of c.config s) ≡ list → seen_at q.view.seen (place_of c.config s) ≡ list
still_shown z c me p q v w s list before after on here held shown =
    let k : ℕ = place_of c.config s in
    let same : q.view.charter ≡ c = after.charter in
    let holds : (means me q).holds w.state.who.node s ≡ true = holds_it c (means me q) w.state s list here held after.rests in
    let h = held_there q.table q.view me w.state.who.node s holds in
    let whole : seen_at q.view.seen k ≡ h.list = subst (λ (y : Script). seen_at q.view.seen (place_of y.config s) ≡ h.list) same (after.whole (place_of q.view.charter.config s) h.list h.is) in
    let told_is : told_by q.view q.view.charter s ≡ h.list = told_here q.view s h.list (ap (λ (y : Script). is_slot_of y s) same ∙ here) h.is in
    let hand : IsHandOf (means me q) s list = hand_of c (means me q) w.state s list here held after.rests in
    let up : Begins (seen_at q.view.seen k) list = subst (λ l. Begins l list) (sym whole) (subst (λ (l : List Fact). Begins l list) told_is hand.extends) in
    let low : Begins list (seen_at q.view.seen k) = subst (λ l. Begins l (seen_at q.view.seen k)) shown on in
    begins_same (seen_at q.view.seen k) list up low

pub turned_but : (z : TableId) (c : Script) (acts : SlotLists → List Act) (me : ℕ) (p q : Pass) (v w : Standing) (old new : List Item) → Rested z c me p v → IsSoundNode c v.state → ArePublished c p v.state → Rested z c me q w
    → Turned c acts (moment (means me p) v.state old) (moment (means me q) w.state new) → AreShownBut c q w.state new
turned_but z c acts me p q v w old new before sound published after t s list here held =
    let h : Hand = hand_with t.lists v.state in
    let now : Hand = fold (hand_after c) h (facts_in (items_of t.told)) in
    let k : NodeKeepsIf (Finds t.lists v.state) c (means me p).vouches v.state t.told = t.keeps t.lists t.found.lawful t.found_acts in
    let mine : NodeInHand c h v.state = hand_of_lists c t.lists v.state sound t.found.there t.found.hands_are in
    let finds : Finds t.lists v.state h = record { office = λ e. refl; shards = λ i e. refl; queues = λ i e. refl } in
    let along : NodeInHand c now w.state = subst (NodeInHand c now) (sym t.node_is) (k.goes_along h mine finds) in
    let has : list_at now.lists s ≡ list = hand_has c now w.state s list along here held in
    ⊎_elim (λ told. inr (subst (IsTold (setting c) s) (sym t.items_are) (told_behind (setting c) s old (items_of t.told) told)))
    (λ same. inl (by (sym same ∙ has) (held_list s v.state) refl))
    (told_or_same c (means me p).vouches v.state.who s (items_of t.told) h here (k.guarded_are h mine finds))
  where
    by : list_at t.lists s ≡ list → (o : Option (List Fact)) → held_list s v.state ≡ o → seen_at q.view.seen (place_of c.config s) ≡ list
    by is None e =
        let leased : holder list ≡ Some w.state.who = subst (λ o. IfSome o (λ l. holder l ≡ Some w.state.who)) held (after.rests.leased_are s here) in
        let other = subst (λ (o : Option Incarnation). IfSome o (λ x. (x.node ≢ v.state.who.node) × ((means me p).admits x.node s ≡ true))) (ap holder is ∙ leased) (t.found.others_are s here e) in
        absurd (other.0 (after.who ∙ sym before.who))
    by is (Some l) e =
        let first : list_at t.lists s ≡ l = in_lists c t.lists v.state s l t.found.hands_are here e in
        let shown : seen_at p.view.seen (place_of c.config s) ≡ l = subst (λ o. IfSome o (λ x. seen_at p.view.seen (place_of c.config s) ≡ x)) e (published s here) in
        still_shown z c me p q v w s list before after (sees_at me p q c s before.charter after.charter here t.stays) here held (shown ∙ (sym first ∙ is))

-- One item after the other.

one_told : (set : Setting) (s : Slot) (x : Item) (rest : List Item) → IsTold set s (x ∷ rest) → IsTold set s (x ∷ []) ⊎ IsTold set s rest
one_told set s (item.Fact f) rest t = ⊎_elim (λ e. inl (inl e)) (λ h. inr h) t
one_told set s (item.Post p) rest t = inr t

pub but_next : (c : Script) (p q : Pass) (st : Node) (items rest : List Item) (x : Item) → AreShownBut c p st items → items ≡ x ∷ rest → StayShown c p q st → AreToldShown c q st (x ∷ []) → AreShownBut c q st rest
but_next c p q st items rest x but is stay told s list here held = ⊎_elim (λ e. inl (stay s list here held e))
    (λ t. ⊎_elim (λ one. inl (told s one list here held)) (λ h. inr h) (one_told (setting c) s x rest (subst (IsTold (setting c) s) is t))) (but s list here held)

pub but_none : (c : Script) (p : Pass) (st : Node) (items : List Item) → AreShownBut c p st items → items ≡ [] → ArePublished c p st
but_none c p st items but is s here = by (held_list s st) refl
  where
    by : (o : Option (List Fact)) → held_list s st ≡ o → IfSome o (λ list. seen_at p.view.seen (place_of c.config s) ≡ list)
    by None e = tt
    by (Some list) e = ⊎_elim (λ h. h) (λ t. absurd (subst (IsTold (setting c) s) is t)) (but s list here e)

-- One fact.

pub told_one : (c : Script) (p : Pass) (st : Node) (f : Fact) (t : Slot) → slot_of (setting c) f ≡ Some t → IsShownAt c p st t → AreToldShown c p st (item.Fact f ∷ [])
told_one c p st f t is shown s told = ⊎_elim (λ e. subst (IsShownAt c p st) (some_is t s (sym is ∙ e)) shown) (λ n. absurd n) told

pub told_none : (c : Script) (p : Pass) (st : Node) (f : Fact) → slot_of (setting c) f ≡ None → AreToldShown c p st (item.Fact f ∷ [])
told_none c p st f is s told = ⊎_elim (λ e. absurd (none_is_not_some s (sym is ∙ e))) (λ n. absurd n) told

-- a post tells nothing
pub told_post : (c : Script) (p : Pass) (st : Node) (x : Item) (packet : Packet) → x ≡ item.Post packet → AreToldShown c p st (x ∷ [])
told_post c p st x packet is s told = absurd (subst (λ (y : Item). IsTold (setting c) s (y ∷ [])) is told)

-- The same node with other room.

pub rested_same : (z : TableId) (c : Script) (me : ℕ) (p : Pass) (v u : Standing) → u.script ≡ v.script → u.state ≡ v.state → Rested z c me p v → Rested z c me p u
rested_same z c me p v u script state r = record {
  table = r.table;
  charter = r.charter;
  numbers = r.numbers;
  script = script ∙ r.script;
  who = ap (λ (st : Node). st.who.node) state ∙ r.who;
  rests = subst (Rests (means me p) c) (sym state) r.rests;
  whole = r.whole;
}

-- A pass after a turn is of the same table and node.

pub turned_me : (c : Script) (acts : SlotLists → List Act) (me n : ℕ) (p q : Pass) (st w : Node) (old new : List Item) → Turned c acts (moment (means me p) st old) (moment (means n q) w new) → Turned c acts (moment (means me p) st old) (moment (means me q) w new)
turned_me c acts me n p q st w old new t = subst (λ (i : ℕ). Turned c acts (moment (means me p) st old) (moment (means i q) w new)) (same_pass p.table q.table p.view q.view me n t.stays).2 t

pub turned_rested : (z : TableId) (c : Script) (acts : SlotLists → List Act) (me n : ℕ) (p q : Pass) (v w : Standing) (old new : List Item) → Rested z c me p v → w.script ≡ v.script → w.state.who ≡ v.state.who
    → Turned c acts (moment (means me p) v.state old) (moment (means n q) w.state new) → q.view.numbers ≡ n ∷ [] → SeesHeld q.view → Rested z c me q w
turned_rested z c acts me n p q v w old new r script who t numbers whole =
    let same = same_pass p.table q.table p.view q.view me n t.stays in record {
      table = same.0 ∙ r.table;
      charter = same.1 ∙ r.charter;
      numbers = numbers ∙ ap (λ (i : ℕ). i ∷ []) same.2;
      script = script ∙ r.script;
      who = ap (λ (x : Incarnation). x.node) who ∙ r.who;
      rests = subst (λ (i : ℕ). Rests (means i q) c w.state) same.2 t.rests;
      whole = whole;
    }
