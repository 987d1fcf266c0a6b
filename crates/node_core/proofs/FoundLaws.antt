-- Lists that a node may find, and lists that it can't tell apart.
use Rattle.std.proofs.Common.{◌≡◌, ◌≢◌, sym, subst, ℕ, zero, suc, ◌+◌, ◌-◌, ◌<◌, ◌≤◌, List, [], ap, ◌∙◌, refl, true, true≢false, arith}
use Rattle.std.specs.Prelude.{Bool, nat_le, length, map, slice_index_or, Option, Some, None, IfSome, IsSomeAnd}
use Rattle.std.specs.Option.{option_map}
use Rattle.std.proofs.lemmas.List.{length-map}
use Rattle.yard_model.specs.declared.fact.Fact.{Fact}
use Rattle.yard_model.specs.declared.incarnation.Incarnation.{Incarnation}
use Rattle.yard_model.specs.declared.incarnation.Slot.{Slot}
use Rattle.yard_model.specs.declared.incarnation.Slot.TheVariants as slot
use Rattle.yard_model.specs.Genuine.{is_slot_of}
use Rattle.yard_model.specs.Lawful.{own}
use Rattle.yard_model.specs.Node.{Node, Act}
use Rattle.yard_model.specs.Script.{Script}
use Rattle.yard_model.specs.SlotLists.{SlotLists}
use Rattle.yard_model.specs.SlotReads.{holder}
use Rattle.yard_model.specs.Trace.{list_at}
use Rattle.yard_model.specs.Words.{numbers}
use Rattle.plain_laws.proofs.Booleans.{and_both, at_most, below}
use Rattle.actor_laws.specs.Hands.{held_list, AreInHand}
use Rattle.actor_laws.specs.Owes.{AreElseLawful}
use Rattle.shard_lease.specs.Meaning.{Known, Meaning}
use Rattle.node_core.specs.Found.{none, AreThere, held_at, IsAlike, AreAlike, AreElseOthers, Found}
use Rattle.node_core.specs.Leased.{IsTold}

-- The lists that a function gives for each slot.

pub lists_from : Script → (Slot → List Fact) → SlotLists
lists_from c f = record {
  shards = map (λ s. f (slot.Shard s)) (numbers 0 c.config.shards);
  coordinator = f slot.Coordinator;
  queues = map (λ p. f (slot.Queue p)) (numbers 1 c.config.producers);
}

at_numbers : (f : ℕ → List Fact) (a n i : ℕ) → i < n → slice_index_or (map f (numbers a n)) i [] ≡ f (a + i)
at_numbers f a zero i h = absurd (omega arith)
at_numbers f a (suc n) zero h = ap f (omega arith)
at_numbers f a (suc n) (suc i) h = at_numbers f (a + 1) n i (omega arith) ∙ ap f (omega arith)

pub list_from : (c : Script) (f : Slot → List Fact) (s : Slot) → is_slot_of c s ≡ true → list_at (lists_from c f) s ≡ f s
unfolding lists_from
list_from c f (slot.Shard s) h = at_numbers (λ s. f (slot.Shard s)) 0 c.config.shards s (below s c.config.shards h) ∙ ap (λ i. f (slot.Shard i)) (let e : 0 + s ≡ s = omega arith in e)
list_from c f slot.Coordinator h = refl
list_from c f (slot.Queue p) h =
    let t : (nat_le 1 p ≡ true) × (nat_le p c.config.producers ≡ true) = and_both (nat_le 1 p) (nat_le p c.config.producers) h in
    let low : 1 ≤ p = at_most 1 p t.0 in
    let high : p ≤ c.config.producers = at_most p c.config.producers t.1 in
    at_numbers (λ p. f (slot.Queue p)) 1 c.config.producers (p - 1) (omega arith) ∙ ap (λ i. f (slot.Queue i)) (let e : 1 + (p - 1) ≡ p = omega arith in e)

many : (a n : ℕ) → length (numbers a n) ≡ n
many a zero = refl
many a (suc n) = ap suc (many (a + 1) n)

pub from_there : (c : Script) (f : Slot → List Fact) → AreThere c (lists_from c f)
unfolding lists_from
from_there c f = record {
  shards = length-map (numbers 0 c.config.shards) (λ s. f (slot.Shard s)) ∙ many 0 c.config.shards;
  queues = length-map (numbers 1 c.config.producers) (λ p. f (slot.Queue p)) ∙ many 1 c.config.producers;
}

-- Those that a node has in hand, and else none.

-- the list that is in hand, or none
abbrev pub list_in : Option (List Fact) → List Fact
list_in None = []
list_in (Some list) = list

pub hand_lists : Script → Node → SlotLists
hand_lists c st = lists_from c (λ s. list_in (held_list s st))

hand_at : (c : Script) (st : Node) (s : Slot) → is_slot_of c s ≡ true → list_at (hand_lists c st) s ≡ list_in (held_list s st)
unfolding hand_lists
hand_at c st s h = list_from c (λ s. list_in (held_list s st)) s h

pub hand_there : (c : Script) (st : Node) → AreThere c (hand_lists c st)
unfolding hand_lists
hand_there c st = from_there c (λ s. list_in (held_list s st))

pub hands_in_lists : (c : Script) (st : Node) → AreInHand c (hand_lists c st) st
hands_in_lists c st s h = by_hand (held_list s st) refl
  where
    by_hand : (o : Option (List Fact)) → held_list s st ≡ o → IfSome o (λ list. list_at (hand_lists c st) s ≡ list)
    by_hand None e = tt
    by_hand (Some list) e = hand_at c st s h ∙ ap list_in e

pub lists_else_lawful : (c : Script) (st : Node) → AreElseLawful c (hand_lists c st) st
lists_else_lawful c st s h free = ap (own c s) (hand_at c st s h ∙ ap list_in free)

pub lists_else_others : (m : Meaning) (c : Script) (st : Node) → AreElseOthers m c (hand_lists c st) st
lists_else_others m c st s h free = subst (λ l. IfSome (holder l) (λ x. (x.node ≢ st.who.node) × (m.admits x.node s ≡ true))) (sym (hand_at c st s h ∙ ap list_in free)) tt

-- a step that asks for nothing finds them
pub hand_found : (m : Meaning) (c : Script) (acts : SlotLists → List Act) (st : Node) (told : List Act) → ((lists : SlotLists) → acts lists ≡ told) → Found m c none acts st told
hand_found m c acts st told same = record {
  lists = hand_lists c st;
  there = hand_there c st;
  hands_are = hands_in_lists c st;
  else_are = lists_else_lawful c st;
  others_are = lists_else_others m c st;
  same = λ lists a. same lists;
}

-- Lists that can't be told apart.

pub nobody_of : (o : Option Incarnation) → option_map (λ x. x.node) o ≡ None → o ≡ None
nobody_of None e = refl
nobody_of (Some x) e = cc

pub alike_same : (a b : List Fact) → a ≡ b → IsAlike a b
alike_same a b e = record { node_is = ap held_at e; list_is = λ free. e }

pub alike_itself : (c : Script) (asked : Slot → Bool) (st : Node) (lists : SlotLists) → AreAlike c asked st lists lists
alike_itself c asked st lists s v a free = alike_same (list_at lists s) (list_at lists s) refl

pub alike_both : (a b d : List Fact) → IsAlike a b → IsAlike b d → IsAlike a d
alike_both a b d h k = record { node_is = h.node_is ∙ k.node_is; list_is = λ free. h.list_is (k.node_is ∙ free) ∙ k.list_is free }

-- of which the same is told
pub told_alike : (o : Option Known) (a b : List Fact) → IsSomeAnd o (IsTold a) → IsSomeAnd o (IsTold b) → IsAlike a b
told_alike None a b h k = absurd h
told_alike (Some x) a b h k = record {
  node_is = ap (option_map (λ y. y.node)) (sym h.holder_is ∙ k.holder_is);
  list_is = λ free. let nobody : x.holder ≡ None = k.holder_is ∙ nobody_of (holder b) free in sym (h.list_is nobody) ∙ k.list_is nobody;
}

-- where nothing is asked for all are alike
pub none_alike : (c : Script) (st : Node) (a b : SlotLists) → AreAlike c none st a b
none_alike c st a b s v asked free = absurd (true≢false (sym asked))
