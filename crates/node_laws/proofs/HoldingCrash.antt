-- After its crash a node holds nothing, where it had in hand what it held.
use Rattle.std.proofs.Common.{◌≡◌, ℕ, zero, suc, ◌+◌, ◌-◌, ◌<◌, ◌≤◌, List, [], ◌∷◌, ◌++◌, sym, ap, subst, ◌∙◌, refl, true, false, true≢false, arith}
use Rattle.std.specs.Prelude.{Bool, ◌==◌, ◌||◌, fold, Option, Some, None, is_some}
use Rattle.std.specs.Option.{option_map}
use Rattle.std.specs.List.{list_all, list_any, flat_map}
use Rattle.std.proofs.lemmas.List.Folds.{list_any-append}
use Rattle.yard_model.specs.declared.fact.Fact.{Fact}
use Rattle.yard_model.specs.declared.fact.Fact.TheVariants as fact
use Rattle.yard_model.specs.declared.incarnation.Incarnation.{Incarnation}
use Rattle.yard_model.specs.declared.incarnation.Slot.{Slot}
use Rattle.yard_model.specs.declared.incarnation.Slot.TheVariants as slot
use Rattle.yard_model.specs.Coordinator.{Coordinator}
use Rattle.yard_model.specs.Entities.{Hosted, hosted}
use Rattle.yard_model.specs.Genuine.{is_slot_of}
use Rattle.yard_model.specs.Node.{Node, freed_stopped, crash}
use Rattle.yard_model.specs.Producer.{Producer}
use Rattle.yard_model.specs.Script.{Script, Setting, setting}
use Rattle.yard_model.specs.Setting.{shards, producers}
use Rattle.yard_model.specs.SlotLists.{SlotLists, shard_list, queue_list}
use Rattle.yard_model.specs.SlotReads.{holder}
use Rattle.yard_model.specs.Trace.{list_at, lists_step}
use Rattle.yard_model.specs.Turns.{where_some}
use Rattle.yard_model.specs.Words.{is_at, at, numbers}
use Rattle.plain_laws.proofs.Booleans.{and_both, below, number_itself, same_number, left_of, right_of}
use Rattle.plain_laws.proofs.Lists.{all_join, all_some, all_each, by_place}
use Rattle.actor_laws.specs.Hands.{held_list}
use Rattle.node_laws.specs.NodeHolds.{CrashFrees}
use Rattle.node_laws.specs.NodeStands.{IsSoundNode}
use Rattle.node_laws.proofs.Holding.{lists_in_hand, fact_gives_none, freed_none}
use Rattle.node_laws.proofs.NodeProducers.{above_zero}

-- a fact that frees a slot, and one that frees this slot
abbrev is_freed : Fact → Bool
is_freed (fact.Freed s n why) = true
is_freed f = false

abbrev is_slot : Slot → Slot → Bool
is_slot (slot.Shard s) (slot.Shard t) = s == t
is_slot slot.Coordinator slot.Coordinator = true
is_slot (slot.Queue p) (slot.Queue q) = p == q
is_slot s t = false

abbrev frees : Slot → Fact → Bool
frees s (fact.Freed t n why) = is_slot s t
frees s f = false

-- One fact.

-- such a fact takes the slot from whoever holds it
one_frees : (set : Setting) (lists : SlotLists) (w : Incarnation) (s : Slot) (f : Fact) → frees s f ≡ true → is_at w (holder (list_at (lists_step set lists f) s)) ≡ false
one_frees set lists w (slot.Shard s) (fact.Freed (slot.Shard t) n why) e =
    subst (λ k. is_at w (holder (shard_list (lists_step set lists (fact.Freed (slot.Shard t) n why)) k)) ≡ false) (sym (same_number s t e)) (freed_none w lists.shards t (shard_list lists t) (fact.Freed (slot.Shard t) n why) (λ o. refl))
one_frees set lists w slot.Coordinator (fact.Freed slot.Coordinator n why) e = freed_none w (lists.coordinator ∷ []) 0 lists.coordinator (fact.Freed slot.Coordinator n why) (λ o. refl)
one_frees set lists w (slot.Queue p) (fact.Freed (slot.Queue q) n why) e =
    subst (λ k. is_at w (holder (queue_list (lists_step set lists (fact.Freed (slot.Queue q) n why)) k)) ≡ false) (sym (same_number p q e)) (freed_none w lists.queues (q - 1) (queue_list lists q) (fact.Freed (slot.Queue q) n why) (λ o. refl))
one_frees set lists w s f e = absurd (true≢false (sym e))

-- and gives it to nobody
one_gives_none : (set : Setting) (lists : SlotLists) (w : Incarnation) (s : Slot) (f : Fact) → is_freed f ≡ true → is_at w (holder (list_at lists s)) ≡ false → is_at w (holder (list_at (lists_step set lists f) s)) ≡ false
one_gives_none set lists w s (fact.Freed t n why) e none = by (is_at w (holder (list_at (lists_step set lists (fact.Freed t n why)) s))) refl
  where
    by : (b : Bool) → is_at w (holder (list_at (lists_step set lists (fact.Freed t n why)) s)) ≡ b → is_at w (holder (list_at (lists_step set lists (fact.Freed t n why)) s)) ≡ false
    by true k = absurd (true≢false (sym (fact_gives_none set lists (fact.Freed t n why) s w refl k) ∙ none))
    by false k = k
one_gives_none set lists w s f e none = absurd (true≢false (sym e))

-- All facts.

all_give_none : (set : Setting) (lists : SlotLists) (w : Incarnation) (s : Slot) (fs : List Fact) → list_all is_freed fs ≡ true → is_at w (holder (list_at lists s)) ≡ false → is_at w (holder (list_at (fold (lists_step set) lists fs) s)) ≡ false
all_give_none set lists w s [] e none = none
all_give_none set lists w s (f ∷ fs) e none =
    let m : (is_freed f ≡ true) × (list_all is_freed fs ≡ true) = and_both (is_freed f) (list_all is_freed fs) e in
    all_give_none set (lists_step set lists f) w s fs m.1 (one_gives_none set lists w s f m.0 none)

some_frees : (set : Setting) (lists : SlotLists) (w : Incarnation) (s : Slot) (fs : List Fact) → list_all is_freed fs ≡ true → list_any (frees s) fs ≡ true → is_at w (holder (list_at (fold (lists_step set) lists fs) s)) ≡ false
some_frees set lists w s [] e any = absurd (true≢false (sym any))
some_frees set lists w s (f ∷ fs) e any =
    let m : (is_freed f ≡ true) × (list_all is_freed fs ≡ true) = and_both (is_freed f) (list_all is_freed fs) e in
    by m (frees s f) refl (λ more. some_frees set (lists_step set lists f) w s fs m.1 more)
  where
    by : (is_freed f ≡ true) × (list_all is_freed fs ≡ true) → (b : Bool) → frees s f ≡ b → (list_any (frees s) fs ≡ true → is_at w (holder (list_at (fold (lists_step set) (lists_step set lists f) fs) s)) ≡ false) → is_at w (holder (list_at (fold (lists_step set) (lists_step set lists f) fs) s)) ≡ false
    by m true k rest = all_give_none set (lists_step set lists f) w s fs m.1 (one_frees set lists w s f k)
    by m false k rest = rest (ap (λ b. b || list_any (frees s) fs) (sym k) ∙ any)

-- What the node frees.

any_left : (s : Slot) (xs ys : List Fact) → list_any (frees s) xs ≡ true → list_any (frees s) (xs ++ ys) ≡ true
any_left s xs ys e = list_any-append (frees s) xs ys ∙ left_of (list_any (frees s) xs) (list_any (frees s) ys) e

any_right : (s : Slot) (xs ys : List Fact) → list_any (frees s) ys ≡ true → list_any (frees s) (xs ++ ys) ≡ true
any_right s xs ys e = list_any-append (frees s) xs ys ∙ right_of (list_any (frees s) xs) (list_any (frees s) ys) e

-- of one number among them
any_number : (s : Slot) (f : ℕ → List Fact) (i a n : ℕ) → a ≤ i → i < a + n → list_any (frees s) (f i) ≡ true → list_any (frees s) (flat_map f (numbers a n)) ≡ true
any_number s f i a zero low high e = absurd (omega (arith, low, high))
any_number s f i a (suc n) low high e = by_place (list_any (frees s) (flat_map f (numbers a (suc n))) ≡ true) i a
    (λ same. any_left s (f a) (flat_map f (numbers (a + 1) n)) (subst (λ k. list_any (frees s) (f k) ≡ true) same e))
    (λ other. any_right s (f a) (flat_map f (numbers (a + 1) n)) (any_number s f i (a + 1) n (omega (arith, low, other)) (omega (arith, high)) e))

-- a store that the node has is freed
freed_some : {X : Type 0} (s t : Slot) (entries : X → List Fact) (o : Option X) → is_slot s t ≡ true → is_some (option_map entries o) ≡ true → list_any (frees s) (where_some (λ x. freed_stopped t (entries x)) o) ≡ true
freed_some s t entries None e has = absurd (true≢false (sym has))
freed_some s t entries (Some x) e has = left_of (is_slot s t) false e

abbrev shards_freed : Node → List Fact
shards_freed st = flat_map (λ s. where_some (λ (x : Hosted). freed_stopped (slot.Shard s) x.entries) (hosted st.entities s)) (shards st.set)

abbrev office_freed : Node → List Fact
office_freed st = where_some (λ (k : Coordinator). freed_stopped slot.Coordinator k.entries) st.coordinator

abbrev queues_freed : Node → List Fact
queues_freed st = flat_map (λ p. where_some (λ (k : Producer). freed_stopped (slot.Queue p) k.entries) (at st.producers (p - 1))) (producers st.set)

crash_is_freed : (st : Node) → list_all is_freed (crash st) ≡ true
crash_is_freed st = all_join is_freed (shards_freed st ++ office_freed st) (queues_freed st)
    (all_join is_freed (shards_freed st) (office_freed st)
    (all_each is_freed (λ s. where_some (λ (x : Hosted). freed_stopped (slot.Shard s) x.entries) (hosted st.entities s)) (shards st.set) (λ s. all_some is_freed (λ (x : Hosted). freed_stopped (slot.Shard s) x.entries) (hosted st.entities s) (λ x. refl)))
    (all_some is_freed (λ (k : Coordinator). freed_stopped slot.Coordinator k.entries) st.coordinator (λ k. refl)))
    (all_each is_freed (λ p. where_some (λ (k : Producer). freed_stopped (slot.Queue p) k.entries) (at st.producers (p - 1))) (producers st.set) (λ p. all_some is_freed (λ (k : Producer). freed_stopped (slot.Queue p) k.entries) (at st.producers (p - 1)) (λ k. refl)))

in_hand_freed : (c : Script) (st : Node) → IsSoundNode c st → (s : Slot) → is_slot_of c s ≡ true → is_some (held_list s st) ≡ true → list_any (frees s) (crash st) ≡ true
in_hand_freed c st is (slot.Shard s) i has = let within : s < c.config.shards = below s c.config.shards i in any_left (slot.Shard s) (shards_freed st ++ office_freed st) (queues_freed st) (any_left (slot.Shard s) (shards_freed st) (office_freed st)
    (subst (λ (set : Setting). list_any (frees (slot.Shard s)) (flat_map (λ s. where_some (λ (x : Hosted). freed_stopped (slot.Shard s) x.entries) (hosted st.entities s)) (shards set)) ≡ true) (sym is.set_is)
    (any_number (slot.Shard s) (λ s. where_some (λ (x : Hosted). freed_stopped (slot.Shard s) x.entries) (hosted st.entities s)) s 0 c.config.shards (omega (arith)) (omega (arith, within))
    (freed_some (slot.Shard s) (slot.Shard s) (λ (x : Hosted). x.entries) (hosted st.entities s) (number_itself s s refl) has))))
in_hand_freed c st is slot.Coordinator i has = any_left slot.Coordinator (shards_freed st ++ office_freed st) (queues_freed st) (any_right slot.Coordinator (shards_freed st) (office_freed st)
    (freed_some slot.Coordinator slot.Coordinator (λ (k : Coordinator). k.entries) st.coordinator refl has))
in_hand_freed c st is (slot.Queue p) i has =
    let m : (0 < p) × (p - 1 < c.config.producers) = above_zero p c.config.producers i in
    any_right (slot.Queue p) (shards_freed st ++ office_freed st) (queues_freed st)
    (subst (λ (set : Setting). list_any (frees (slot.Queue p)) (flat_map (λ p. where_some (λ (k : Producer). freed_stopped (slot.Queue p) k.entries) (at st.producers (p - 1))) (producers set)) ≡ true) (sym is.set_is)
    (any_number (slot.Queue p) (λ p. where_some (λ (k : Producer). freed_stopped (slot.Queue p) k.entries) (at st.producers (p - 1))) p 1 c.config.producers (omega (arith, m.0)) (omega (arith, m.0, m.1))
    (freed_some (slot.Queue p) (slot.Queue p) (λ (k : Producer). k.entries) (at st.producers (p - 1)) (number_itself p p refl) has)))

pub crash_frees : CrashFrees
crash_frees c st h is holds s i = subst (λ (l : SlotLists). is_at st.who (holder (list_at l s)) ≡ false) (sym (lists_in_hand c h (crash st))) (by (is_at st.who (holder (list_at h.lists s))) refl)
  where
    by : (b : Bool) → is_at st.who (holder (list_at h.lists s)) ≡ b → is_at st.who (holder (list_at (fold (lists_step (setting c)) h.lists (crash st)) s)) ≡ false
    by true e = some_frees (setting c) h.lists st.who s (crash st) (crash_is_freed st) (in_hand_freed c st is s i (holds s i e))
    by false e = all_give_none (setting c) h.lists st.who s (crash st) (crash_is_freed st) e
