-- What steps give, one after another.
use Rattle.std.proofs.Common.{◌≡◌, ◌≢◌, ◌-◌, List, [], ◌∷◌, ◌++◌, sym, ap, subst, ◌∙◌, refl, append_assoc, append-nil, true, false, true≢false}
use Rattle.std.specs.Prelude.{Bool, ◌||◌, fold, Option, Some, None, IfSome, IsSomeAnd, if◌then◌else◌}
use Rattle.std.proofs.lemmas.Grind.{flat_map-append}
use Rattle.std.proofs.lemmas.List.{length-set}
use Rattle.std.proofs.lemmas.List.Sums.{fold-append}
use Rattle.yard_model.specs.declared.fact.Fact.{Fact}
use Rattle.yard_model.specs.declared.incarnation.Incarnation.{Incarnation}
use Rattle.yard_model.specs.declared.incarnation.Slot.{Slot}
use Rattle.yard_model.specs.declared.incarnation.Slot.TheVariants as slot
use Rattle.yard_model.specs.declared.out.Item.{Item}
use Rattle.yard_model.specs.declared.out.Item.TheVariants as item
use Rattle.yard_model.specs.Genuine.{is_slot_of}
use Rattle.yard_model.specs.Lawful.{own}
use Rattle.yard_model.specs.Move.{item_of}
use Rattle.yard_model.specs.Node.{Node, Act, Rule, move_of, after, items_of}
use Rattle.yard_model.specs.Script.{Script, setting}
use Rattle.yard_model.specs.SlotLists.{SlotLists, shard_list, queue_list}
use Rattle.yard_model.specs.SlotReads.{holder}
use Rattle.yard_model.specs.Trace.{slot_of, list_at, with_entry, lists_step}
use Rattle.plain_laws.proofs.Booleans.{left_of, right_of}
use Rattle.actor_laws.specs.Hands.{held_list, AreInHand}
use Rattle.actor_laws.specs.Owes.{facts_in, AreElseLawful}
use Rattle.shard_lease.specs.Meaning.{Meaning, Stays}
use Rattle.node_core.specs.Leased.{Rests, IsTold, Tells}
use Rattle.node_core.specs.Found.{none, either, AreThere, IsAlike, AreAlike, AreElseOthers}
use Rattle.node_core.specs.Gave.{Moment, Gave, IsLeft, lists_after}
use Rattle.node_core.proofs.FoundLaws.{lists_from, from_there, list_from, hand_found, alike_both, told_alike, none_alike}

facts_append : (xs ys : List Item) → facts_in (xs ++ ys) ≡ facts_in xs ++ facts_in ys
facts_append [] ys = refl
facts_append (item.Fact f ∷ is) ys = ap (λ fs. f ∷ fs) (facts_append is ys)
facts_append (item.Post p ∷ is) ys = facts_append is ys

pub items_append : (xs ys : List Act) → items_of (xs ++ ys) ≡ items_of xs ++ items_of ys
items_append xs ys = flat_map-append (λ a. item_of (move_of a)) xs ys

lists_append : (c : Script) (lists : SlotLists) (xs ys : List Act) → lists_after c lists (xs ++ ys) ≡ lists_after c (lists_after c lists xs) ys
lists_append c lists xs ys =
    ap (λ is. fold (lists_step (setting c)) lists (facts_in is)) (items_append xs ys)
    ∙ (ap (fold (lists_step (setting c)) lists) (facts_append (items_of xs) (items_of ys))
    ∙ fold-append (lists_step (setting c)) lists (facts_in (items_of xs)) (facts_in (items_of ys)))

-- each slot has its list still
pub step_there : (c : Script) (lists : SlotLists) (f : Fact) (o : Option Slot) → AreThere c lists → AreThere c (with_entry f lists o)
step_there c lists f None k = k
step_there c lists f (Some (slot.Shard s)) k = record { shards = length-set lists.shards s (shard_list lists s ++ f ∷ []) ∙ k.shards; queues = k.queues }
step_there c lists f (Some slot.Coordinator) k = record { shards = k.shards; queues = k.queues }
step_there c lists f (Some (slot.Queue p)) k = record { shards = k.shards; queues = length-set lists.queues (p - 1) (queue_list lists p ++ f ∷ []) ∙ k.queues }

steps_there : (c : Script) (lists : SlotLists) (fs : List Fact) → AreThere c lists → AreThere c (fold (lists_step (setting c)) lists fs)
steps_there c lists [] k = k
steps_there c lists (f ∷ fs) k = steps_there c (lists_step (setting c) lists f) fs (step_there c lists f (slot_of (setting c) f) k)

pub after_there : (c : Script) (lists : SlotLists) (acts : List Act) → AreThere c lists → AreThere c (lists_after c lists acts)
after_there c lists acts k = steps_there c lists (facts_in (items_of acts)) k

-- no act changes whose node it is
pub who_after : (st : Node) (acts : List Act) → (fold after st acts).who ≡ st.who
who_after st [] = refl
who_after st (a ∷ acts) = who_after (after st a) acts

pub stays_same : (m : Meaning) → Stays m m
stays_same m = record {
  name_is = refl;
  script_is = refl;
  within_is = λ n. refl;
  serves_is = λ x. refl;
  admits_is = λ n s. refl;
  vouched = λ e p n h. h;
  seen_is = λ s. record { rest = []; is = sym (append-nil (m.seen s)) };
}

pub stays_both : (a b c : Meaning) → Stays a b → Stays b c → Stays a c
stays_both a b c h k = record {
  name_is = k.name_is ∙ h.name_is;
  script_is = k.script_is ∙ h.script_is;
  within_is = λ n. k.within_is n ∙ h.within_is n;
  serves_is = λ x. k.serves_is x ∙ h.serves_is x;
  admits_is = λ n s. k.admits_is n s ∙ h.admits_is n s;
  vouched = λ e p n v. k.vouched e p n (h.vouched e p n v);
  seen_is = λ s. let x = h.seen_is s in let y = k.seen_is s in record { rest = x.rest ++ y.rest; is = y.is ∙ (ap (λ l. l ++ y.rest) x.is ∙ append_assoc (a.seen s) x.rest y.rest) };
}

-- nothing at all
pub gave_nothing : (c : Script) (now : Moment) → Rests now.meaning c now.node → Gave c none (λ lists. []) now now
gave_nothing c now rests = record {
  told = [];
  items_are = sym (append-nil now.items);
  node_is = refl;
  found = hand_found now.meaning c (λ lists. []) now.node [] (λ lists. refl);
  alike = λ lists full t h. none_alike c now.node lists (hand_found now.meaning c (λ lists. []) now.node [] (λ lists. refl)).lists;
  tells = λ lists full t h. t;
  in_hand = λ lists full t h. h;
  left = λ s v e free. record { held_is = free; tells_is = refl };
  rests = rests;
  stays = stays_same now.meaning;
  others = λ n s other. refl;
}

-- the same acts
pub gave_same : (c : Script) (asked : Slot → Bool) (p q : SlotLists → List Act) (old new : Moment) → ((lists : SlotLists) → p lists ≡ q lists) → Gave c asked p old new → Gave c asked q old new
gave_same c asked p q old new same g = record {
  told = g.told;
  items_are = g.items_are;
  node_is = g.node_is;
  found = record {
    lists = g.found.lists;
    there = g.found.there;
    hands_are = g.found.hands_are;
    else_are = g.found.else_are;
    others_are = g.found.others_are;
    same = λ lists a. sym (same lists) ∙ g.found.same lists a;
  };
  alike = g.alike;
  tells = g.tells;
  in_hand = g.in_hand;
  left = g.left;
  rests = g.rests;
  stays = g.stays;
  others = g.others;
}

-- the same slots asked for
pub gave_asked : (c : Script) (a b : Slot → Bool) (acts : SlotLists → List Act) (old new : Moment) → ((s : Slot) → a s ≡ b s) → Gave c a acts old new → Gave c b acts old new
gave_asked c a b acts old new same g = record {
  told = g.told;
  items_are = g.items_are;
  node_is = g.node_is;
  found = record {
    lists = g.found.lists;
    there = g.found.there;
    hands_are = g.found.hands_are;
    else_are = g.found.else_are;
    others_are = g.found.others_are;
    same = λ lists k. g.found.same lists (λ s v asked free. k s v (sym (same s) ∙ asked) free);
  };
  alike = λ lists full t h s v asked free. g.alike lists full t h s v (same s ∙ asked) free;
  tells = g.tells;
  in_hand = g.in_hand;
  left = λ s v e free. g.left s v (same s ∙ e) free;
  rests = g.rests;
  stays = g.stays;
  others = g.others;
}

-- Two steps, of which the second asks for no slot that the first asks for or frees.

-- what is held, else what the first or the second found
abbrev mixed : Option (List Fact) → Bool → List Fact → List Fact → List Fact
mixed (Some l) b x y = l
mixed None b x y = if b then x else y

-- the first frees no slot that the second asks for
abbrev pub Keeps : Script → (Slot → Bool) → Moment → Moment → Type 0
Keeps c asked old new = (s : Slot) → is_slot_of c s ≡ true → asked s ≡ true → held_list s new.node ≡ None → held_list s old.node ≡ None

or_left : (a b : Bool) → (a || b) ≡ false → a ≡ false
or_left false b e = refl
or_left true b e = absurd (true≢false e)

or_right : (a b : Bool) → (a || b) ≡ false → b ≡ false
or_right false b e = e
or_right true b e = absurd (true≢false e)

module _ (c : Script) (one two : Slot → Bool) (p : SlotLists → List Act) (q : SlotLists → Rule) (old mid new : Moment)
    (apart : (s : Slot) → one s ≡ true → two s ≡ false) (keeps : Keeps c two old mid) (f : Gave c one p old mid) (g : Gave c two (λ lists. q lists mid.node) mid new) where
  pick : Slot → List Fact
  pick s = mixed (held_list s old.node) (one s) (list_at f.found.lists s) (list_at g.found.lists s)

  both_lists : SlotLists
  both_lists = lists_from c pick

  both_there : AreThere c both_lists
  unfolding both_lists
  both_there = from_there c pick

  at_is : (s : Slot) → is_slot_of c s ≡ true → list_at both_lists s ≡ pick s
  unfolding both_lists
  at_is s h = list_from c pick s h

  at_one : (s : Slot) → is_slot_of c s ≡ true → held_list s old.node ≡ None → one s ≡ true → list_at both_lists s ≡ list_at f.found.lists s
  unfolding pick
  at_one s h free asked = at_is s h ∙ (ap (λ o. mixed o (one s) (list_at f.found.lists s) (list_at g.found.lists s)) free ∙ ap (λ v. if v then list_at f.found.lists s else list_at g.found.lists s) asked)

  at_two : (s : Slot) → is_slot_of c s ≡ true → held_list s old.node ≡ None → one s ≡ false → list_at both_lists s ≡ list_at g.found.lists s
  unfolding pick
  at_two s h free not_one = at_is s h ∙ (ap (λ o. mixed o (one s) (list_at f.found.lists s) (list_at g.found.lists s)) free ∙ ap (λ v. if v then list_at f.found.lists s else list_at g.found.lists s) not_one)

  not_first : (s : Slot) → two s ≡ true → one s ≡ false
  not_first s asked = by (one s) refl
    where
      by : (v : Bool) → one s ≡ v → one s ≡ false
      by true e = absurd (true≢false (sym asked ∙ apart s e))
      by false e = e

  who_is : mid.node.who ≡ old.node.who
  who_is = ap (λ (x : Node). x.who) f.node_is ∙ who_after old.node f.told

  hands : AreInHand c both_lists old.node
  unfolding pick
  hands s h = by (held_list s old.node) refl
    where
      by : (o : Option (List Fact)) → held_list s old.node ≡ o → IfSome o (λ list. list_at both_lists s ≡ list)
      by None e = tt
      by (Some l) e = at_is s h ∙ ap (λ o. mixed o (one s) (list_at f.found.lists s) (list_at g.found.lists s)) e

  elses : AreElseLawful c both_lists old.node
  elses s h free = by (one s) refl
    where
      by : (v : Bool) → one s ≡ v → own c s (list_at both_lists s) ≡ true
      by true e = ap (own c s) (at_one s h free e) ∙ f.found.else_are s h free
      by false e = ap (own c s) (at_two s h free e) ∙ g.found.else_are s h (f.left s h e free).held_is

  abbrev IsOther : Moment → Slot → Option Incarnation → Type 0
  IsOther k s o = IfSome o (λ x. (x.node ≢ k.node.who.node) × (k.meaning.admits x.node s ≡ true))

  as_first : (s : Slot) (o : Option Incarnation) → IsOther mid s o → IsOther old s o
  as_first s None h = h
  as_first s (Some x) h = ((λ e. h.0 (e ∙ ap (λ (y : Incarnation). y.node) (sym who_is))), sym (f.stays.admits_is x.node s) ∙ h.1)

  elsewhere : AreElseOthers old.meaning c both_lists old.node
  elsewhere s h free = by (one s) refl
    where
      by : (v : Bool) → one s ≡ v → IsOther old s (holder (list_at both_lists s))
      by true e = subst (λ l. IsOther old s (holder l)) (sym (at_one s h free e)) (f.found.others_are s h free)
      by false e = subst (λ l. IsOther old s (holder l)) (sym (at_two s h free e)) (as_first s (holder (list_at g.found.lists s)) (g.found.others_are s h (f.left s h e free).held_is))

  first_same : (lists : SlotLists) → AreAlike c (either one two) old.node lists both_lists → p lists ≡ f.told
  first_same lists k = f.found.same lists (λ s h asked free. subst (IsAlike (list_at lists s)) (at_one s h free asked) (k s h (left_of (one s) (two s) asked) free))

  second_same : (lists : SlotLists) → AreAlike c (either one two) old.node lists both_lists → q lists mid.node ≡ g.told
  second_same lists k = g.found.same lists (λ s h asked free. let before : held_list s old.node ≡ None = keeps s h asked free in
      subst (IsAlike (list_at lists s)) (at_two s h before (not_first s asked)) (k s h (right_of (one s) (two s) asked) before))

  told_are : (lists : SlotLists) → AreAlike c (either one two) old.node lists both_lists → p lists ++ q lists (fold after old.node (p lists)) ≡ f.told ++ g.told
  told_are lists k = ap (λ acts. acts ++ q lists (fold after old.node acts)) (first_same lists k) ∙ (ap (λ st. f.told ++ q lists st) (sym f.node_is) ∙ ap (λ acts. f.told ++ acts) (second_same lists k))

  -- of lists that are told
  alike_told : (lists : SlotLists) → AreThere c lists → Tells old.meaning c lists → AreInHand c lists old.node → AreAlike c (either one two) old.node lists both_lists
  alike_told lists full t hand s h asked free = by (one s) refl
    where
      mid_lists : SlotLists
      mid_lists = lists_after c lists f.told

      told_mid : Tells mid.meaning c mid_lists
      told_mid = f.tells lists full t hand

      hand_mid : AreInHand c mid_lists mid.node
      hand_mid = f.in_hand lists full t hand

      second : (a b : Bool) → (a || b) ≡ true → a ≡ false → b ≡ true
      second a b e not_a = ap (λ v. v || b) (sym not_a) ∙ e

      by : (v : Bool) → one s ≡ v → IsAlike (list_at lists s) (list_at both_lists s)
      by true e = subst (IsAlike (list_at lists s)) (sym (at_one s h free e)) (f.alike lists full t hand s h e free)
      by false e =
          let left : IsLeft old mid s = f.left s h e free in
          let last : IsAlike (list_at mid_lists s) (list_at g.found.lists s) = g.alike mid_lists (after_there c lists f.told full) told_mid hand_mid s h (second (one s) (two s) asked e) left.held_is in
          let first : IsAlike (list_at lists s) (list_at mid_lists s) = told_alike (old.meaning.tells s) (list_at lists s) (list_at mid_lists s) (t s h) (subst (λ o. IsSomeAnd o (IsTold (list_at mid_lists s))) left.tells_is (told_mid s h)) in
          subst (IsAlike (list_at lists s)) (sym (at_two s h free e)) (alike_both (list_at lists s) (list_at mid_lists s) (list_at g.found.lists s) first last)

  together : Gave c (either one two) (λ lists. p lists ++ q lists (fold after old.node (p lists))) old new
  together = record {
    told = f.told ++ g.told;
    items_are = g.items_are ∙ (ap (λ is. is ++ items_of g.told) f.items_are ∙ (append_assoc old.items (items_of f.told) (items_of g.told) ∙ ap (λ is. old.items ++ is) (sym (items_append f.told g.told))));
    node_is = g.node_is ∙ (ap (λ st. fold after st g.told) f.node_is ∙ sym (fold-append after old.node f.told g.told));
    found = record { lists = both_lists; there = both_there; hands_are = hands; else_are = elses; others_are = elsewhere; same = told_are };
    alike = alike_told;
    tells = λ lists full t h. subst (Tells new.meaning c) (sym (lists_append c lists f.told g.told)) (g.tells (lists_after c lists f.told) (after_there c lists f.told full) (f.tells lists full t h) (f.in_hand lists full t h));
    in_hand = λ lists full t h. subst (λ l. AreInHand c l new.node) (sym (lists_append c lists f.told g.told)) (g.in_hand (lists_after c lists f.told) (after_there c lists f.told full) (f.tells lists full t h) (f.in_hand lists full t h));
    left = λ s h e free.
        let first : IsLeft old mid s = f.left s h (or_left (one s) (two s) e) free in
        let last : IsLeft mid new s = g.left s h (or_right (one s) (two s) e) first.held_is in
        record { held_is = last.held_is; tells_is = last.tells_is ∙ first.tells_is };
    rests = g.rests;
    stays = stays_both old.meaning mid.meaning new.meaning f.stays g.stays;
    others = λ n s other. g.others n s (subst (λ (x : Incarnation). n ≢ x.node) (sym who_is) other) ∙ f.others n s other;
  }

pub gave_both : (c : Script) (one two : Slot → Bool) (p : SlotLists → List Act) (q : SlotLists → Rule) (old mid new : Moment)
    → ((s : Slot) → one s ≡ true → two s ≡ false) → Keeps c two old mid
    → Gave c one p old mid → Gave c two (λ lists. q lists mid.node) mid new
    → Gave c (either one two) (λ lists. p lists ++ q lists (fold after old.node (p lists))) old new
gave_both c one two p q old mid new apart keeps f g = together c one two p q old mid new apart keeps f g

-- the second asks for nothing
pub gave_then : (c : Script) (one : Slot → Bool) (p : SlotLists → List Act) (q : SlotLists → Rule) (old mid new : Moment)
    → Gave c one p old mid → Gave c none (λ lists. q lists mid.node) mid new
    → Gave c one (λ lists. p lists ++ q lists (fold after old.node (p lists))) old new
gave_then c one p q old mid new f g =
    gave_asked c (either one none) one (λ lists. p lists ++ q lists (fold after old.node (p lists))) old new (λ s. or_none (one s))
    (gave_both c one none p q old mid new (λ s asked. refl) (λ s v asked free. absurd (true≢false (sym asked))) f g)
  where
    or_none : (b : Bool) → (b || false) ≡ b
    or_none true = refl
    or_none false = refl

-- the first asks for nothing
pub gave_first : (c : Script) (two : Slot → Bool) (p : SlotLists → List Act) (q : SlotLists → Rule) (old mid new : Moment) → Keeps c two old mid
    → Gave c none p old mid → Gave c two (λ lists. q lists mid.node) mid new
    → Gave c two (λ lists. p lists ++ q lists (fold after old.node (p lists))) old new
gave_first c two p q old mid new keeps f g = gave_both c none two p q old mid new (λ s asked. absurd (true≢false (sym asked))) keeps f g
