-- Slots that are freed.
use Rattle.std.proofs.Common.{◌≡◌, ◌≢◌, inl, inr, List, [], ◌∷◌, ◌++◌, map, sym, ap, subst, ◌∙◌, refl, append_assoc, true, false}
use Rattle.std.specs.Prelude.{Bool, fold, Option, Some, None, is_some, IfSome, IsSomeAnd, MatchOption}
use Rattle.std.proofs.lemmas.List.{map-append}
use Rattle.std.proofs.lemmas.List.Sums.{fold-append}
use Rattle.yard_model.specs.declared.fact.Fact.{Fact}
use Rattle.yard_model.specs.declared.fact.Fact.TheVariants as fact
use Rattle.yard_model.specs.declared.incarnation.Cause.{Cause}
use Rattle.yard_model.specs.declared.incarnation.Incarnation.{Incarnation}
use Rattle.yard_model.specs.declared.incarnation.Slot.{Slot}
use Rattle.yard_model.specs.declared.out.Item.{Item}
use Rattle.yard_model.specs.declared.out.Item.TheVariants as item
use Rattle.yard_model.specs.Genuine.{is_slot_of}
use Rattle.yard_model.specs.Move.{Move, told, item_of}
use Rattle.yard_model.specs.Node.{Node, Act, after, move_of, items_of}
use Rattle.yard_model.specs.Script.{Script, setting}
use Rattle.yard_model.specs.SlotLists.{SlotLists}
use Rattle.yard_model.specs.SlotReads.{holder, holder_step, epoch}
use Rattle.yard_model.specs.Trace.{slot_of, list_at, with_entry, lists_step}
use Rattle.plain_laws.proofs.Booleans.{true_is_not_false}
use Rattle.actor_laws.specs.Hands.{held_list, AreInHand}
use Rattle.actor_laws.specs.Owes.{facts_in}
use Rattle.shard_lease.specs.Meaning.{Known, Meaning, Stays}
use Rattle.node_core.specs.Found.{none, asks, AreThere}
use Rattle.node_core.specs.Gave.{Moment, moment, Gave, IsLeft}
use Rattle.node_core.specs.Leased.{Rests, IsHandOf, IsTold, IsFreed, Tells}
use Rattle.node_core.specs.LetGo.{LetGo, lists_then}
use Rattle.node_core.proofs.AskLaws.{asks_is, asks_itself, entry_here, entry_else, hand_stays}
use Rattle.node_core.proofs.FoundLaws.{hand_found, none_alike}
use Rattle.node_core.proofs.GaveLaws.{step_there, stays_same, stays_both}

-- the slot isn't held any more, and the others are as they were
pub record Frees (c : Script) (s : Slot) (st to : Node) : Type 0 where
  pub who_is : to.who ≡ st.who
  pub held_is : held_list s to ≡ None
  pub else_is : (t : Slot) → is_slot_of c t ≡ true → t ≢ s → held_list t to ≡ held_list t st

some_told : (o : Option Known) (list : List Fact) (A R : Type 0) → IsSomeAnd o (IsTold list) → MatchOption o A (λ k. R) → R
some_told None list A R t h = absurd t
some_told (Some k) list A R t h = h

some_hand_of : (P Q : List Fact → Type 0) (o : Option (List Fact)) → ((l : List Fact) → P l → Q l) → IfSome o P → IfSome o Q
some_hand_of P Q None f h = h
some_hand_of P Q (Some l) f h = f l h

some_is : (P : List Fact → Type 0) (o : Option (List Fact)) (l : List Fact) → o ≡ Some l → IfSome o P → P l
some_is P o l e h = subst (λ z. IfSome z P) e h

other_of : (s z : Slot) → asks s z ≡ false → z ≢ s
other_of s z a = λ same. true_is_not_false (sym (ap (asks s) same ∙ asks_itself s) ∙ a)

module _ (c : Script) (s : Slot) (why : Cause) (old new : Meaning) (st to : Node) (list : List Fact) (before : List Item) (here : is_slot_of c s ≡ true)
    (held : held_list s st ≡ Some list) (rests : Rests old c st) (stays : Stays old new) (freed : IsFreed old st.who s (list ++ fact.Freed s (epoch list) why ∷ []) new) (frees : Frees c s st to) where
  entry : Fact
  entry = fact.Freed s (epoch list) why

  listed : (lists : SlotLists) → AreInHand c lists st → list_at lists s ≡ list
  listed lists hand = some_is (λ l. list_at lists s ≡ l) (held_list s st) list held (hand s here)

  tells_at : (lists : SlotLists) → AreThere c lists → Tells old c lists → AreInHand c lists st → (z : Slot) → is_slot_of c z ≡ true → (b : Bool) → asks s z ≡ b → IsSomeAnd (new.tells z) (IsTold (list_at (with_entry entry lists (Some s)) z))
  unfolding entry
  tells_at lists full t hand z v true a = subst (λ y. IsSomeAnd (new.tells y) (IsTold (list_at (with_entry entry lists (Some s)) y))) (asks_is s z a)
      (subst (λ l. IsSomeAnd (new.tells s) (IsTold l)) (sym (entry_here c lists entry s full here))
      (subst (λ o. IsSomeAnd o (IsTold (list_at lists s ++ entry ∷ [])))
      (sym (some_told (old.tells s) (list_at lists s) (new.tells s ≡ None) (new.tells s ≡ Some (record { holder = None; list = list ++ entry ∷ [] })) (t s here) freed.tells_is))
      (record { holder_is = sym (fold-append holder_step None (list_at lists s) (entry ∷ [])); list_is = λ none. ap (λ l. l ++ entry ∷ []) (sym (listed lists hand)) })))
  tells_at lists full t hand z v false a = subst (λ l. IsSomeAnd (new.tells z) (IsTold l)) (sym (entry_else c lists entry s z here v (other_of s z a)))
      (subst (λ o. IsSomeAnd o (IsTold (list_at lists z))) (sym (freed.apart.tells_is z (other_of s z a))) (t z v))

  hand_at : (lists : SlotLists) → AreInHand c lists st → (z : Slot) → is_slot_of c z ≡ true → (b : Bool) → asks s z ≡ b → IfSome (held_list z to) (λ l. list_at (with_entry entry lists (Some s)) z ≡ l)
  hand_at lists hand z v true a = subst (λ y. IfSome (held_list y to) (λ l. list_at (with_entry entry lists (Some s)) y ≡ l)) (asks_is s z a)
      (subst (λ o. IfSome o (λ l. list_at (with_entry entry lists (Some s)) s ≡ l)) (sym frees.held_is) tt)
  hand_at lists hand z v false a = subst (λ o. IfSome o (λ l. list_at (with_entry entry lists (Some s)) z ≡ l)) (sym (frees.else_is z v (other_of s z a)))
      (subst (λ y. IfSome (held_list z st) (λ l. y ≡ l)) (sym (entry_else c lists entry s z here v (other_of s z a))) (hand z v))

  holds_at : (z : Slot) → is_slot_of c z ≡ true → (b : Bool) → asks s z ≡ b → new.holds st.who.node z ≡ is_some (held_list z to)
  holds_at z v true a = subst (λ y. new.holds st.who.node y ≡ is_some (held_list y to)) (asks_is s z a) (freed.holds_is ∙ sym (ap is_some frees.held_is))
  holds_at z v false a = freed.apart.holds_is st.who.node z (inr (other_of s z a)) ∙ (rests.held_is z v ∙ ap is_some (sym (frees.else_is z v (other_of s z a))))

  lists_at : (z : Slot) → is_slot_of c z ≡ true → (b : Bool) → asks s z ≡ b → IfSome (held_list z to) (IsHandOf new z)
  lists_at z v true a = subst (λ y. IfSome (held_list y to) (IsHandOf new y)) (asks_is s z a) (subst (λ o. IfSome o (IsHandOf new s)) (sym frees.held_is) tt)
  lists_at z v false a = subst (λ o. IfSome o (IsHandOf new z)) (sym (frees.else_is z v (other_of s z a)))
      (some_hand_of (IsHandOf old z) (IsHandOf new z) (held_list z st) (λ l h. hand_stays old new z l stays (freed.apart.told_is z (other_of s z a)) h) (rests.lists_are z v))

  leased_at : (z : Slot) → is_slot_of c z ≡ true → (b : Bool) → asks s z ≡ b → IfSome (held_list z to) (λ l. holder l ≡ Some st.who)
  leased_at z v true a = subst (λ y. IfSome (held_list y to) (λ l. holder l ≡ Some st.who)) (asks_is s z a) (subst (λ o. IfSome o (λ l. holder l ≡ Some st.who)) (sym frees.held_is) tt)
  leased_at z v false a = subst (λ o. IfSome o (λ l. holder l ≡ Some st.who)) (sym (frees.else_is z v (other_of s z a))) (rests.leased_are z v)

  rests_then : Rests new c to
  rests_then = record {
    script_is = stays.script_is ∙ rests.script_is;
    serves_is = subst (λ w. new.serves w ≡ true) (sym frees.who_is) (stays.serves_is st.who ∙ rests.serves_is);
    number_is = subst (λ (w : Incarnation). new.within w.number ≡ true) (sym frees.who_is) (stays.within_is st.who.number ∙ rests.number_is);
    admits_is = λ z v q. subst (λ (w : Incarnation). new.admits w.node z ≡ true) (sym frees.who_is) (stays.admits_is st.who.node z ∙ rests.admits_is z v q);
    held_is = λ z v. subst (λ (w : Incarnation). new.holds w.node z ≡ is_some (held_list z to)) (sym frees.who_is) (holds_at z v (asks s z) refl);
    lists_are = λ z v. lists_at z v (asks s z) refl;
    leased_are = λ z v. subst (λ w. IfSome (held_list z to) (λ l. holder l ≡ Some w)) (sym frees.who_is) (leased_at z v (asks s z) refl);
  }

  pub goes : LetGo c (fact.Freed s (epoch list) why ∷ []) (moment old st before) (moment new to (before ++ item.Fact (fact.Freed s (epoch list) why) ∷ []))
  unfolding entry
  goes = record {
    who_is = frees.who_is;
    items_are = refl;
    tells = λ lists full t hand z v. tells_at lists full t hand z v (asks s z) refl;
    in_hand = λ lists full t hand z v. hand_at lists hand z v (asks s z) refl;
    rests = rests_then;
    stays = stays;
    others = λ n z other. freed.apart.holds_is n z (inl other);
  }

  left_at : (z : Slot) → is_slot_of c z ≡ true → held_list z st ≡ None → (b : Bool) → asks s z ≡ b → IsLeft (moment old st before) (moment new to (before ++ item.Fact (fact.Freed s (epoch list) why) ∷ [])) z
  left_at z v free true a = absurd (true_is_not_false (sym (ap is_some (sym free ∙ (ap (λ y. held_list y st) (sym (asks_is s z a)) ∙ held)))))
  left_at z v free false a = record { held_is = frees.else_is z v (other_of s z a) ∙ free; tells_is = freed.apart.tells_is z (other_of s z a) }

pub freed_goes : (c : Script) (s : Slot) (why : Cause) (old new : Meaning) (st to : Node) (list : List Fact) (before : List Item) → is_slot_of c s ≡ true → held_list s st ≡ Some list
    → Rests old c st → Stays old new → IsFreed old st.who s (list ++ fact.Freed s (epoch list) why ∷ []) new → Frees c s st to
    → LetGo c (fact.Freed s (epoch list) why ∷ []) (moment old st before) (moment new to (before ++ item.Fact (fact.Freed s (epoch list) why) ∷ []))
freed_goes c s why old new st to list before here held rests stays freed frees = goes c s why old new st to list before here held rests stays freed frees

-- so where an actor tells it by an act of its own
pub freed_gave : (c : Script) (s : Slot) (why : Cause) (by : Move → Act) (old new : Meaning) (st to : Node) (list : List Fact) (before : List Item) → is_slot_of c s ≡ true → held_list s st ≡ Some list → ((m : Move) → move_of (by m) ≡ m)
    → Rests old c st → Stays old new → IsFreed old st.who s (list ++ fact.Freed s (epoch list) why ∷ []) new → Frees c s st to
    → to ≡ after st (by (told (fact.Freed s (epoch list) why)))
    → Gave c none (λ lists. by (told (fact.Freed s (epoch list) why)) ∷ []) (moment old st before) (moment new to (before ++ item.Fact (fact.Freed s (epoch list) why) ∷ []))
freed_gave c s why by old new st to list before here held moves rests stays freed frees to_is = record {
  told = acts;
  items_are = ap (λ is. before ++ is) (sym items);
  node_is = to_is;
  found = hand_found old c (λ lists. acts) st acts (λ lists. refl);
  alike = λ lists full t h. none_alike c st lists (hand_found old c (λ lists. acts) st acts (λ lists. refl)).lists;
  tells = λ lists full t h. subst (λ is. Tells new c (fold (lists_step (setting c)) lists (facts_in is))) (sym items) (gone.tells lists full t h);
  in_hand = λ lists full t h. subst (λ is. AreInHand c (fold (lists_step (setting c)) lists (facts_in is)) to) (sym items) (gone.in_hand lists full t h);
  left = λ z v e free. left_at c s why old new st to list before here held rests stays freed frees z v free (asks s z) refl;
  rests = gone.rests;
  stays = stays;
  others = gone.others;
}
  where
    acts : List Act
    acts = by (told (fact.Freed s (epoch list) why)) ∷ []

    items : items_of acts ≡ item.Fact (fact.Freed s (epoch list) why) ∷ []
    items = ap (λ m. item_of m ++ []) (moves (told (fact.Freed s (epoch list) why)))

    gone : LetGo c (fact.Freed s (epoch list) why ∷ []) (moment old st before) (moment new to (before ++ item.Fact (fact.Freed s (epoch list) why) ∷ []))
    gone = freed_goes c s why old new st to list before here held rests stays freed frees

-- One after another.

let_steps : (c : Script) (lists : SlotLists) (fs gs : List Fact) → lists_then c lists (fs ++ gs) ≡ lists_then c (lists_then c lists fs) gs
let_steps c lists fs gs = fold-append (lists_step (setting c)) lists fs gs

pub let_nothing : (c : Script) (now : Moment) → Rests now.meaning c now.node → LetGo c [] now now
let_nothing c now rests = record {
  who_is = refl;
  items_are = sym (append_none now.items);
  tells = λ lists full t h. t;
  in_hand = λ lists full t h. h;
  rests = rests;
  stays = stays_same now.meaning;
  others = λ n s other. refl;
}
  where
    append_none : (is : List Item) → is ++ [] ≡ is
    append_none [] = refl
    append_none (i ∷ is) = ap (λ x. i ∷ x) (append_none is)

full_then : (c : Script) (lists : SlotLists) (fs : List Fact) → AreThere c lists → AreThere c (lists_then c lists fs)
full_then c lists [] k = k
full_then c lists (f ∷ fs) k = full_then c (lists_step (setting c) lists f) fs (step_there c lists f (slot_of (setting c) f) k)

pub let_both : (c : Script) (fs gs : List Fact) (old mid new : Moment) → LetGo c fs old mid → LetGo c gs mid new → LetGo c (fs ++ gs) old new
let_both c fs gs old mid new f g = record {
  who_is = g.who_is ∙ f.who_is;
  items_are = g.items_are ∙ (ap (λ is. is ++ map item.Fact gs) f.items_are ∙ (append_assoc old.items (map item.Fact fs) (map item.Fact gs) ∙ ap (λ is. old.items ++ is) (sym (map-append item.Fact fs gs))));
  tells = λ lists full t h. subst (Tells new.meaning c) (sym (let_steps c lists fs gs)) (g.tells (lists_then c lists fs) (full_then c lists fs full) (f.tells lists full t h) (f.in_hand lists full t h));
  in_hand = λ lists full t h. subst (λ l. AreInHand c l new.node) (sym (let_steps c lists fs gs)) (g.in_hand (lists_then c lists fs) (full_then c lists fs full) (f.tells lists full t h) (f.in_hand lists full t h));
  rests = g.rests;
  stays = stays_both old.meaning mid.meaning new.meaning f.stays g.stays;
  others = λ n s other. g.others n s (subst (λ (x : Incarnation). n ≢ x.node) (sym f.who_is) other) ∙ f.others n s other;
}
