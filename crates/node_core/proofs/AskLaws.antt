-- Asking for a slot, whichever it is.
use Rattle.std.proofs.Common.{◌≡◌, ◌≢◌, ◌⊎◌, inl, inr, ℕ, ◌+◌, ◌-◌, ◌<◌, ◌≤◌, List, [], ◌∷◌, ◌++◌, length, map, sym, ap, ap₂, subst, ◌∙◌, refl, true, false, true≢false, arith}
use Rattle.std.specs.Prelude.{Bool, ◌&&◌, nat_le, fold, Option, Some, None, is_some, IfSome, IsSomeAnd, MatchOption, if◌then◌else◌}
use Rattle.std.specs.Option.{option_map}
use Rattle.std.specs.List.{list_all, flat_map}
use Rattle.std.proofs.lemmas.List.{get_or-set_same, get_or-set_other}
use Rattle.std.proofs.lemmas.List.Sums.{fold-append}
use Rattle.yard_model.specs.declared.fact.Fact.{Fact}
use Rattle.yard_model.specs.declared.fact.Fact.TheVariants as fact
use Rattle.yard_model.specs.declared.incarnation.Incarnation.{Incarnation}
use Rattle.yard_model.specs.declared.incarnation.Slot.{Slot}
use Rattle.yard_model.specs.declared.incarnation.Slot.TheVariants as slot
use Rattle.yard_model.specs.declared.out.Item.{Item}
use Rattle.yard_model.specs.declared.out.Item.TheVariants as item
use Rattle.yard_model.specs.Genuine.{is_slot_of}
use Rattle.yard_model.specs.Lawful.{own}
use Rattle.yard_model.specs.Move.{Move, took, told, item_of}
use Rattle.yard_model.specs.Node.{Node, Act, acquire, acquire_by, move_of, after, items_of}
use Rattle.yard_model.specs.Script.{Script, setting}
use Rattle.yard_model.specs.SlotLists.{SlotLists, shard_list, queue_list}
use Rattle.yard_model.specs.SlotReads.{holder, holder_step, epoch, epoch_step}
use Rattle.yard_model.specs.Trace.{list_at, with_entry, lists_step}
use Rattle.yard_laws.proofs.Before.{own_before}
use Rattle.plain_laws.proofs.Booleans.{and_both, at_most, below, same_number, number_itself}
use Rattle.actor_laws.specs.Hands.{held_list, AreInHand}
use Rattle.actor_laws.specs.Owes.{facts_in, AreElseLawful}
use Rattle.shard_store.specs.declared.store.Store.{Store}
use Rattle.shard_store.specs.Stores.{entries_of}
use Rattle.shard_lease.specs.Meaning.{Known, Meaning, Stays, Apart, Still, Begins, Hands, Refuses, is_taken, confirms}
use Rattle.node_core.specs.Leased.{Rests, IsHandOf, IsTold, Tells}
use Rattle.node_core.specs.Found.{asks, AreThere, IsAlike, AreAlike, AreElseOthers}
use Rattle.node_core.specs.Gave.{Gave, moment, lists_after}
use Rattle.node_core.proofs.FoundLaws.{lists_from, from_there, list_from, list_in, alike_same}
use Rattle.node_core.proofs.GaveLaws.{who_after}

-- What stays of a slot's list where a call changes nothing of the slot.

taken_same : (old new : Meaning) → Stays old new → (s : Slot) (f : Fact) → is_taken new s f ≡ is_taken old s f
taken_same old new h s (fact.Granted t n x) = ap₂ (λ a b. a && b) (h.admits_is x.node s) (h.within_is x.number)
taken_same old new h s (fact.Registered r) = h.within_is r.number
taken_same old new h s (fact.Terminated r) = h.within_is r.number
taken_same old new h s (fact.Allocated k r) = h.within_is r.number
taken_same old new h s f = refl

all_taken_same : (old new : Meaning) → Stays old new → (s : Slot) (list : List Fact) → list_all (is_taken new s) list ≡ list_all (is_taken old s) list
all_taken_same old new h s [] = refl
all_taken_same old new h s (f ∷ fs) = ap₂ (λ a b. a && b) (taken_same old new h s f) (all_taken_same old new h s fs)

pub hand_stays : (old new : Meaning) (s : Slot) (list : List Fact) → Stays old new → new.told s ≡ old.told s → IsHandOf old s list → IsHandOf new s list
hand_stays old new s list h same hand = record {
  extends = subst (λ l. Begins l list) (sym same) hand.extends;
  taken = all_taken_same old new h s list ∙ hand.taken;
  vouched = λ e p n c. vouched_by e p n (hand.vouched e p n c);
}
  where
    vouched_by : (e : List ℕ) (p n : ℕ) → (confirms e p n (old.told s) ≡ true) ⊎ (old.vouches e p n ≡ true) → (confirms e p n (new.told s) ≡ true) ⊎ (new.vouches e p n ≡ true)
    vouched_by e p n (inl c) = inl (ap (confirms e p n) same ∙ c)
    vouched_by e p n (inr v) = inr (h.vouched e p n v)

some_hand : (old new : Meaning) (s : Slot) (o : Option (List Fact)) → Stays old new → new.told s ≡ old.told s → IfSome o (IsHandOf old s) → IfSome o (IsHandOf new s)
some_hand old new s None h same hand = hand
some_hand old new s (Some list) h same hand = hand_stays old new s list h same hand

-- Which slot.

pub asks_is : (s t : Slot) → asks s t ≡ true → s ≡ t
asks_is (slot.Shard a) (slot.Shard b) h = ap (λ n. slot.Shard n) (same_number a b h)
asks_is slot.Coordinator slot.Coordinator h = refl
asks_is (slot.Queue a) (slot.Queue b) h = ap (λ n. slot.Queue n) (same_number a b h)
asks_is s t h = absurd (true≢false (sym h))

pub asks_itself : (s : Slot) → asks s s ≡ true
asks_itself (slot.Shard a) = number_itself a a refl
asks_itself slot.Coordinator = refl
asks_itself (slot.Queue a) = number_itself a a refl

asks_other : (s t : Slot) → asks s t ≡ false → t ≢ s
asks_other s t h = λ same. true≢false (sym (ap (asks s) same ∙ asks_itself s) ∙ h)

-- An entry more, where each slot has its list.

pub entry_here : (c : Script) (lists : SlotLists) (f : Fact) (s : Slot) → AreThere c lists → is_slot_of c s ≡ true → list_at (with_entry f lists (Some s)) s ≡ list_at lists s ++ f ∷ []
entry_here c lists f (slot.Shard s) k h = get_or-set_same lists.shards s (shard_list lists s ++ f ∷ []) [] (subst (λ n. s < n) (sym k.shards) (below s c.config.shards h))
entry_here c lists f slot.Coordinator k h = refl
entry_here c lists f (slot.Queue p) k h =
    let parts : (nat_le 1 p ≡ true) × (nat_le p c.config.producers ≡ true) = and_both (nat_le 1 p) (nat_le p c.config.producers) h in
    let above : 1 ≤ p = at_most 1 p parts.0 in
    let within : p ≤ c.config.producers = at_most p c.config.producers parts.1 in
    let inside : p - 1 < length lists.queues = omega (arith, k.queues) in
    get_or-set_same lists.queues (p - 1) (queue_list lists p ++ f ∷ []) [] inside

pub entry_else : (c : Script) (lists : SlotLists) (f : Fact) (s t : Slot) → is_slot_of c s ≡ true → is_slot_of c t ≡ true → t ≢ s → list_at (with_entry f lists (Some s)) t ≡ list_at lists t
entry_else c lists f (slot.Shard s) (slot.Shard t) h k other = get_or-set_other lists.shards s t (shard_list lists s ++ f ∷ []) [] (λ same. other (ap (λ n. slot.Shard n) same))
entry_else c lists f (slot.Shard s) slot.Coordinator h k other = refl
entry_else c lists f (slot.Shard s) (slot.Queue q) h k other = refl
entry_else c lists f slot.Coordinator (slot.Shard t) h k other = refl
entry_else c lists f slot.Coordinator slot.Coordinator h k other = absurd (other refl)
entry_else c lists f slot.Coordinator (slot.Queue q) h k other = refl
entry_else c lists f (slot.Queue p) (slot.Shard t) h k other = refl
entry_else c lists f (slot.Queue p) slot.Coordinator h k other = refl
entry_else c lists f (slot.Queue p) (slot.Queue q) h k other =
    let one : 1 ≤ p = at_most 1 p (and_both (nat_le 1 p) (nat_le p c.config.producers) h).0 in
    let two : 1 ≤ q = at_most 1 q (and_both (nat_le 1 q) (nat_le q c.config.producers) k).0 in
    get_or-set_other lists.queues (p - 1) (q - 1) (queue_list lists p ++ f ∷ []) [] (λ same. other (ap (λ n. slot.Queue n) (one_less p q one two same)))
  where
    one_less : (p q : ℕ) → 1 ≤ p → 1 ≤ q → q - 1 ≡ p - 1 → q ≡ p
    one_less p q a b e = omega arith

-- What is told of a slot that is free, or held.

record IsFree (before list : List Fact) : Type 0 where
  holder_is : holder list ≡ None
  list_is : list ≡ before

free_of : (o : Option Known) (before list : List Fact) (A : Type 0) (R : Type 0) → IsSomeAnd o (IsTold list) → MatchOption o A (λ k. (k.holder ≡ None) × (k.list ≡ before) × R) → IsFree before list
free_of None before list A R t h = absurd t
free_of (Some k) before list A R t h = record { holder_is = sym t.holder_is ∙ h.0; list_is = sym (t.list_is h.0) ∙ h.1 }

told_of : (o : Option Known) (A : Type 0) (before list : List Fact) (new : Option Known) (x : Known) → IsSomeAnd o (IsTold list) → MatchOption o A (λ k. (k.holder ≡ None) × (k.list ≡ before) × (new ≡ Some x)) → new ≡ Some x
told_of None A before list new x t h = absurd t
told_of (Some k) A before list new x t h = h.2

pub some_is_not_none : {A : Type 0} (x : A) → Some x ≡ None → ⊥
some_is_not_none x e = true≢false (ap is_some e)

none_of : {A : Type 0} (o : Option A) → is_some o ≡ false → o ≡ None
none_of None e = refl
none_of (Some a) e = absurd (true≢false e)

record IsHeldBy (node : ℕ) (list : List Fact) : Type 0 where
  who : Incarnation
  holder_is : holder list ≡ Some who
  node_is : who.node ≡ node

held_by : (o : Option Known) (node : ℕ) (list : List Fact) → IsSomeAnd o (IsTold list) → MatchOption o (Unit {0}) (λ k. (x : Incarnation) × (k.holder ≡ Some x) × (x.node ≡ node)) → IsHeldBy node list
held_by None node list t h = absurd t
held_by (Some k) node list t h = record { who = h.0; holder_is = sym t.holder_is ∙ h.1; node_is = h.2 }

-- the store of a slot is taken: it is held with this list, and the others are as they were
pub record Takes (c : Script) (s : Slot) (list : List Fact) (st to : Node) : Type 0 where
  pub held_is : held_list s to ≡ Some list
  pub else_is : (t : Slot) → is_slot_of c t ≡ true → t ≢ s → held_list t to ≡ held_list t st

-- moves of one of the actors
items_by : (by : Move → Act) → ((m : Move) → move_of (by m) ≡ m) → (ms : List Move) → items_of (map by ms) ≡ flat_map item_of ms
items_by by moves [] = refl
items_by by moves (m ∷ ms) = ap (λ x. item_of x ++ items_of (map by ms)) (moves m) ∙ ap (λ is. item_of m ++ is) (items_by by moves ms)

module _ (c : Script) (s : Slot) (st : Node) (here : is_slot_of c s ≡ true) (free_is : held_list s st ≡ None) where
  -- lists in which the slot's is this one, and else the node has its own in hand
  found_list : List Fact → Slot → List Fact
  found_list list t = if asks s t then list else list_in (held_list t st)

  found_lists : List Fact → SlotLists
  found_lists list = lists_from c (found_list list)

  found_there : (list : List Fact) → AreThere c (found_lists list)
  unfolding found_lists
  found_there list = from_there c (found_list list)

  found_here : (list : List Fact) → list_at (found_lists list) s ≡ list
  unfolding found_lists found_list
  found_here list = list_from c (found_list list) s here ∙ ap (λ b. if b then list else list_in (held_list s st)) (asks_itself s)

  found_else : (list : List Fact) (t : Slot) → is_slot_of c t ≡ true → asks s t ≡ false → list_at (found_lists list) t ≡ list_in (held_list t st)
  unfolding found_lists found_list
  found_else list t v e = list_from c (found_list list) t v ∙ ap (λ b. if b then list else list_in (held_list t st)) e

  found_hands : (list : List Fact) → AreInHand c (found_lists list) st
  found_hands list t v = by_hand (held_list t st) refl
    where
      by_asked : (l : List Fact) → held_list t st ≡ Some l → (b : Bool) → asks s t ≡ b → list_at (found_lists list) t ≡ l
      by_asked l e true a = absurd (some_is_not_none l (sym e ∙ (ap (λ z. held_list z st) (sym (asks_is s t a)) ∙ free_is)))
      by_asked l e false a = found_else list t v a ∙ ap list_in e

      by_hand : (o : Option (List Fact)) → held_list t st ≡ o → IfSome o (λ l. list_at (found_lists list) t ≡ l)
      by_hand None e = tt
      by_hand (Some l) e = by_asked l e (asks s t) refl

  found_lawful : (list : List Fact) → own c s list ≡ true → AreElseLawful c (found_lists list) st
  found_lawful list own_is t v none = by (asks s t) refl
    where
      by : (b : Bool) → asks s t ≡ b → own c t (list_at (found_lists list) t) ≡ true
      by true a = subst (λ z. own c z (list_at (found_lists list) z) ≡ true) (asks_is s t a) (ap (own c s) (found_here list) ∙ own_is)
      by false a = ap (own c t) (found_else list t v a ∙ ap list_in none)

  abbrev IsOther : Meaning → Slot → Option Incarnation → Type 0
  IsOther m t o = IfSome o (λ x. (x.node ≢ st.who.node) × (m.admits x.node t ≡ true))

  found_others : (m : Meaning) (list : List Fact) → IsOther m s (holder list) → AreElseOthers m c (found_lists list) st
  found_others m list other t v none = by (asks s t) refl
    where
      by : (b : Bool) → asks s t ≡ b → IsOther m t (holder (list_at (found_lists list) t))
      by true a = subst (λ z. IsOther m z (holder (list_at (found_lists list) z))) (asks_is s t a) (subst (λ l. IsOther m s (holder l)) (sym (found_here list)) other)
      by false a = subst (λ l. IsOther m t (holder l)) (sym (found_else list t v a ∙ ap list_in none)) tt

  -- lists are alike where the slot's are
  asked_alike : (a b : SlotLists) → IsAlike (list_at a s) (list_at b s) → AreAlike c (asks s) st a b
  asked_alike a b h t v asked none = subst (λ z. IsAlike (list_at a z) (list_at b z)) (asks_is s t asked) h

  found_alike : (lists : SlotLists) (list : List Fact) → IsAlike (list_at lists s) list → AreAlike c (asks s) st lists (found_lists list)
  found_alike lists list h = asked_alike lists (found_lists list) (subst (IsAlike (list_at lists s)) (sym (found_here list)) h)

  alike_here : (lists : SlotLists) (list : List Fact) → AreAlike c (asks s) st lists (found_lists list) → IsAlike (list_at lists s) list
  alike_here lists list a = subst (IsAlike (list_at lists s)) (found_here list) (a s here (asks_itself s) free_is)

  granted : (by : Move → Act) → ((m : Move) → move_of (by m) ≡ m) → (old new : Meaning) (x : Store) (to : Node) (before : List Item)
      → Rests old c st → Stays old new → Hands old st.who s x new → Apart st.who.node s old new
      → ((n : ℕ) → to ≡ fold after st (map by (told (fact.Granted s n st.who) ∷ took s (entries_of x) ∷ []))) → Takes c s (entries_of x) st to
      → Gave c (asks s) (λ lists. map by (acquire s st.who (list_at lists s))) (moment old st before) (moment new to (before ++ item.Fact (fact.Granted s (epoch (entries_of x)) st.who) ∷ []))
  granted by moves old new x to before rests stays h apart goes takes = record {
    told = acts;
    items_are = ap (λ n. before ++ item.Fact (fact.Granted s n st.who) ∷ []) epoch_is ∙ ap (λ is. before ++ is) (sym (items_by by moves ms));
    node_is = goes (epoch h.before + 1);
    found = record {
      lists = found_lists h.before;
      there = found_there h.before;
      hands_are = found_hands h.before;
      else_are = found_lawful h.before own_before_is;
      others_are = found_others old h.before (subst (IsOther old s) (sym nobody) tt);
      same = λ lists a. acts_are lists (alike_here lists h.before a);
    };
    alike = λ lists full t hand. found_alike lists h.before (alike_same (list_at lists s) h.before (free lists t).list_is);
    tells = λ lists full t hand. subst (Tells new c) (sym (after_is lists)) (λ z v. told_at lists full t z v (asks s z) refl);
    in_hand = λ lists full t hand. subst (λ l. AreInHand c l to) (sym (after_is lists)) (λ z v. hand_at lists full (free lists t) hand z v (asks s z) refl);
    left = λ z v e none. record { held_is = takes.else_is z v (asks_other s z e) ∙ none; tells_is = apart.tells_is z (asks_other s z e) };
    rests = record {
      script_is = stays.script_is ∙ rests.script_is;
      serves_is = subst (λ w. new.serves w ≡ true) (sym who_is) (stays.serves_is st.who ∙ rests.serves_is);
      number_is = subst (λ (w : Incarnation). new.within w.number ≡ true) (sym who_is) (stays.within_is st.who.number ∙ rests.number_is);
      admits_is = λ z v q. subst (λ (w : Incarnation). new.admits w.node z ≡ true) (sym who_is) (stays.admits_is st.who.node z ∙ rests.admits_is z v q);
      held_is = λ z v. subst (λ (w : Incarnation). new.holds w.node z ≡ is_some (held_list z to)) (sym who_is) (held_at_z z v (asks s z) refl);
      lists_are = λ z v. list_at_z z v (asks s z) refl;
      leased_are = λ z v. leased_at_z z v (asks s z) refl;
    };
    stays = stays;
    others = λ n z other. apart.holds_is n z (inl other);
  }
    where
      grant : Fact
      grant = fact.Granted s (epoch h.before + 1) st.who

      ms : List Move
      ms = told grant ∷ took s (entries_of x) ∷ []

      acts : List Act
      acts = map by ms

      who_is : to.who ≡ st.who
      who_is = ap (λ (y : Node). y.who) (goes (epoch h.before + 1)) ∙ who_after st acts

      epoch_is : epoch (entries_of x) ≡ epoch h.before + 1
      epoch_is = ap epoch h.list_is ∙ fold-append epoch_step 0 h.before (grant ∷ [])

      nobody : holder h.before ≡ None
      nobody = none_of (holder h.before) h.free

      own_before_is : own c s h.before ≡ true
      own_before_is = own_before c s h.before grant refl (ap (own c s) (sym h.list_is) ∙ subst (λ d. own d s (entries_of x) ≡ true) rests.script_is h.own_is)

      free : (lists : SlotLists) → Tells old c lists → IsFree h.before (list_at lists s)
      free lists t = free_of (old.tells s) h.before (list_at lists s) (new.tells s ≡ None) (new.tells s ≡ Some (record { holder = Some st.who; list = [] })) (t s here) h.tells_is

      acts_are : (lists : SlotLists) → IsAlike (list_at lists s) h.before → map by (acquire s st.who (list_at lists s)) ≡ acts
      acts_are lists a = ap (λ l. map by (acquire s st.who l)) (a.list_is (ap (option_map (λ y. y.node)) nobody))
          ∙ ap (λ xs. map by xs) (ap (acquire_by s st.who h.before) nobody ∙ ap (λ l. told grant ∷ took s l ∷ []) (sym h.list_is))

      after_is : (lists : SlotLists) → lists_after c lists acts ≡ with_entry grant lists (Some s)
      after_is lists = ap (λ is. fold (lists_step (setting c)) lists (facts_in is)) (items_by by moves ms)

      told_at : (lists : SlotLists) → AreThere c lists → Tells old c lists → (z : Slot) → is_slot_of c z ≡ true → (b : Bool) → asks s z ≡ b → IsSomeAnd (new.tells z) (IsTold (list_at (with_entry grant lists (Some s)) z))
      told_at lists full t z v true a = subst (λ y. IsSomeAnd (new.tells y) (IsTold (list_at (with_entry grant lists (Some s)) y))) (asks_is s z a)
          (subst (λ l. IsSomeAnd (new.tells s) (IsTold l)) (sym (entry_here c lists grant s full here))
          (subst (λ o. IsSomeAnd o (IsTold (list_at lists s ++ grant ∷ [])))
          (sym (told_of (old.tells s) (new.tells s ≡ None) h.before (list_at lists s) (new.tells s) (record { holder = Some st.who; list = [] }) (t s here) h.tells_is))
          (record { holder_is = sym (fold-append holder_step None (list_at lists s) (grant ∷ [])); list_is = λ none. absurd (some_is_not_none st.who none) })))
      told_at lists full t z v false a = subst (λ l. IsSomeAnd (new.tells z) (IsTold l)) (sym (entry_else c lists grant s z here v (asks_other s z a)))
          (subst (λ o. IsSomeAnd o (IsTold (list_at lists z))) (sym (apart.tells_is z (asks_other s z a))) (t z v))

      hand_at : (lists : SlotLists) → AreThere c lists → IsFree h.before (list_at lists s) → AreInHand c lists st → (z : Slot) → is_slot_of c z ≡ true → (b : Bool) → asks s z ≡ b → IfSome (held_list z to) (λ l. list_at (with_entry grant lists (Some s)) z ≡ l)
      hand_at lists full f hand z v true a = subst (λ y. IfSome (held_list y to) (λ l. list_at (with_entry grant lists (Some s)) y ≡ l)) (asks_is s z a)
          (subst (λ o. IfSome o (λ l. list_at (with_entry grant lists (Some s)) s ≡ l)) (sym takes.held_is)
          (entry_here c lists grant s full here ∙ (ap (λ l. l ++ grant ∷ []) f.list_is ∙ sym h.list_is)))
      hand_at lists full f hand z v false a = subst (λ o. IfSome o (λ l. list_at (with_entry grant lists (Some s)) z ≡ l)) (sym (takes.else_is z v (asks_other s z a)))
          (subst (λ y. IfSome (held_list z st) (λ l. y ≡ l)) (sym (entry_else c lists grant s z here v (asks_other s z a))) (hand z v))

      held_at_z : (z : Slot) → is_slot_of c z ≡ true → (b : Bool) → asks s z ≡ b → new.holds st.who.node z ≡ is_some (held_list z to)
      held_at_z z v true a = subst (λ y. new.holds st.who.node y ≡ is_some (held_list y to)) (asks_is s z a) (h.holds_is ∙ sym (ap is_some takes.held_is))
      held_at_z z v false a = apart.holds_is st.who.node z (inr (asks_other s z a)) ∙ (rests.held_is z v ∙ ap is_some (sym (takes.else_is z v (asks_other s z a))))

      leased_at_z : (z : Slot) → is_slot_of c z ≡ true → (b : Bool) → asks s z ≡ b → IfSome (held_list z to) (λ l. holder l ≡ Some to.who)
      leased_at_z z v true a = subst (λ y. IfSome (held_list y to) (λ l. holder l ≡ Some to.who)) (asks_is s z a)
          (subst (λ o. IfSome o (λ l. holder l ≡ Some to.who)) (sym takes.held_is)
          (ap holder h.list_is ∙ (fold-append holder_step None h.before (grant ∷ []) ∙ ap Some (sym who_is))))
      leased_at_z z v false a = subst (λ o. IfSome o (λ l. holder l ≡ Some to.who)) (sym (takes.else_is z v (asks_other s z a))) (subst (λ w. IfSome (held_list z st) (λ l. holder l ≡ Some w)) (sym who_is) (rests.leased_are z v))

      list_at_z : (z : Slot) → is_slot_of c z ≡ true → (b : Bool) → asks s z ≡ b → IfSome (held_list z to) (IsHandOf new z)
      list_at_z z v true a = subst (λ y. IfSome (held_list y to) (IsHandOf new y)) (asks_is s z a) (subst (λ o. IfSome o (IsHandOf new s)) (sym takes.held_is) (record { extends = h.extends; taken = h.taken; vouched = h.vouched }))
      list_at_z z v false a = subst (λ o. IfSome o (IsHandOf new z)) (sym (takes.else_is z v (asks_other s z a))) (some_hand old new z (held_list z st) stays (apart.told_is z (asks_other s z a)) (rests.lists_are z v))

  refused : (by : Move → Act) → ((m : Move) → move_of (by m) ≡ m) → (old new : Meaning) (node : ℕ) (before : List Item)
      → own c s (fact.Granted s 1 (record { node = node; number = 1 }) ∷ []) ≡ true
      → Rests old c st → Stays old new → Refuses old st.who s node → Still old new
      → st ≡ fold after st (map by (told (fact.Held s st.who node) ∷ []))
      → Gave c (asks s) (λ lists. map by (acquire s st.who (list_at lists s))) (moment old st before) (moment new st (before ++ item.Fact (fact.Held s st.who node) ∷ []))
  refused by moves old new node before lawful rests stays h still goes = record {
    told = acts;
    items_are = ap (λ is. before ++ is) (sym (items_by by moves ms));
    node_is = goes;
    found = record {
      lists = found_lists list;
      there = found_there list;
      hands_are = found_hands list;
      else_are = found_lawful list lawful;
      others_are = found_others old list (h.other, h.admitted);
      same = λ lists a. acts_by (list_at lists s) (holder (list_at lists s)) (alike_here lists list a).node_is;
    };
    alike = λ lists full t hand. found_alike lists list (by_other lists t);
    tells = λ lists full t hand. subst (Tells new c) (sym (after_is lists)) (λ z v. subst (λ o. IsSomeAnd o (IsTold (list_at lists z))) (sym (still.tells_is z)) (t z v));
    in_hand = λ lists full t hand. subst (λ l. AreInHand c l st) (sym (after_is lists)) hand;
    left = λ z v e none. record { held_is = none; tells_is = still.tells_is z };
    rests = record {
      script_is = stays.script_is ∙ rests.script_is;
      serves_is = stays.serves_is st.who ∙ rests.serves_is;
      number_is = stays.within_is st.who.number ∙ rests.number_is;
      admits_is = λ z v q. stays.admits_is st.who.node z ∙ rests.admits_is z v q;
      held_is = λ z v. still.holds_is st.who.node z ∙ rests.held_is z v;
      lists_are = λ z v. some_hand old new z (held_list z st) stays (still.told_is z) (rests.lists_are z v);
      leased_are = rests.leased_are;
    };
    stays = stays;
    others = λ n z other. still.holds_is n z;
  }
    where
      ms : List Move
      ms = told (fact.Held s st.who node) ∷ []

      acts : List Act
      acts = map by ms

      list : List Fact
      list = fact.Granted s 1 (record { node = node; number = 1 }) ∷ []

      after_is : (lists : SlotLists) → lists_after c lists acts ≡ lists
      after_is lists = ap (λ is. fold (lists_step (setting c)) lists (facts_in is)) (items_by by moves ms)

      by_other : (lists : SlotLists) → Tells old c lists → IsAlike (list_at lists s) list
      by_other lists t =
          let held : IsHeldBy node (list_at lists s) = held_by (old.tells s) node (list_at lists s) (t s here) h.tells_is in
          record { node_is = ap (option_map (λ x. x.node)) held.holder_is ∙ ap Some held.node_is; list_is = λ none. absurd (some_is_not_none node none) }

      some_same : (a b : ℕ) → Some a ≡ Some b → a ≡ b
      some_same a b e = cc

      acts_by : (l : List Fact) (o : Option Incarnation) → option_map (λ x. x.node) o ≡ Some node → map by (acquire_by s st.who l o) ≡ acts
      acts_by l None e = absurd (true≢false (sym (ap is_some e)))
      acts_by l (Some x) e = ap (λ n. map by (told (fact.Held s st.who n) ∷ [])) (some_same x.node node e)

pub granted_gave : (c : Script) (s : Slot) (by : Move → Act) (old new : Meaning) (st to : Node) (x : Store) (before : List Item) → is_slot_of c s ≡ true → held_list s st ≡ None → ((m : Move) → move_of (by m) ≡ m)
    → Rests old c st → Stays old new → Hands old st.who s x new → Apart st.who.node s old new
    → ((n : ℕ) → to ≡ fold after st (map by (told (fact.Granted s n st.who) ∷ took s (entries_of x) ∷ []))) → Takes c s (entries_of x) st to
    → Gave c (asks s) (λ lists. map by (acquire s st.who (list_at lists s))) (moment old st before) (moment new to (before ++ item.Fact (fact.Granted s (epoch (entries_of x)) st.who) ∷ []))
granted_gave c s by old new st to x before here free moves rests stays h apart goes takes = granted c s st here free by moves old new x to before rests stays h apart goes takes

pub refused_gave : (c : Script) (s : Slot) (by : Move → Act) (old new : Meaning) (st : Node) (node : ℕ) (before : List Item) → is_slot_of c s ≡ true → held_list s st ≡ None → ((m : Move) → move_of (by m) ≡ m)
    → own c s (fact.Granted s 1 (record { node = node; number = 1 }) ∷ []) ≡ true
    → Rests old c st → Stays old new → Refuses old st.who s node → Still old new
    → st ≡ fold after st (map by (told (fact.Held s st.who node) ∷ []))
    → Gave c (asks s) (λ lists. map by (acquire s st.who (list_at lists s))) (moment old st before) (moment new st (before ++ item.Fact (fact.Held s st.who node) ∷ []))
refused_gave c s by old new st node before here free moves lawful rests stays h still goes = refused c s st here free by moves old new node before lawful rests stays h still goes
