-- Acts by which no slot changes hands: what a node holds grows by what they write, and so do the lists.
use Rattle.std.proofs.Common.{◌≡◌, ◌⊎◌, inl, inr, ℕ, zero, suc, ◌-◌, ◌<◌, ◌≤◌, List, [], ◌∷◌, ◌++◌, length, sym, ap, ap₂, subst, ◌∙◌, refl, true, false, append-nil, append_assoc, arith}
use Rattle.std.specs.Prelude.{Bool, ◌&&◌, ◌||◌, ◌==◌, nat_le, fold, slice_set, Option, Some, None, is_some, IfSome, IsSomeAnd, if◌then◌else◌}
use Rattle.std.specs.Option.{option_map}
use Rattle.std.specs.List.{list_all, flat_map}
use Rattle.std.proofs.lemmas.List.Sums.{fold-append}
use Rattle.yard_model.specs.declared.fact.Fact.{Fact}
use Rattle.yard_model.specs.declared.fact.Fact.TheVariants as fact
use Rattle.yard_model.specs.declared.incarnation.Incarnation.{Incarnation}
use Rattle.yard_model.specs.declared.incarnation.Slot.{Slot}
use Rattle.yard_model.specs.declared.incarnation.Slot.TheVariants as slot
use Rattle.yard_model.specs.declared.out.Item.{Item}
use Rattle.yard_model.specs.declared.out.Item.TheVariants as item
use Rattle.yard_model.specs.Coordinator.{Coordinator, coordinator_after}
use Rattle.yard_model.specs.Entities.{Hosted, entered, hosted_step}
use Rattle.yard_model.specs.Genuine.{is_slot_of}
use Rattle.yard_model.specs.Move.{Move, made, took, handed_off, item_of}
use Rattle.yard_model.specs.Node.{Node, Act, by_region, by_entities, by_producer, by_coordinator, producer_by, after, move_of, items_of}
use Rattle.yard_model.specs.Producer.{Producer, producer_after}
use Rattle.yard_model.specs.Script.{Script, setting, is_name}
use Rattle.yard_model.specs.Setting.{shard_of}
use Rattle.yard_model.specs.SlotLists.{SlotLists}
use Rattle.yard_model.specs.SlotReads.{holder, holder_step}
use Rattle.yard_model.specs.Trace.{slot_of, list_at, with_entry, lists_step}
use Rattle.yard_model.specs.Words.{at}
use Rattle.plain_laws.proofs.Booleans.{true_is_not_false, and_both, both, same_number, number_itself, other_number, at_most, same_name}
use Rattle.plain_laws.proofs.Lists.{inside, placed_at, placed_beside, all_join}
use Rattle.actor_laws.specs.Hands.{held_list, AreInHand}
use Rattle.actor_laws.specs.Owes.{facts_in}
use Rattle.shard_lease.specs.Meaning.{Known, Meaning, is_taken, is_confirmed, confirms}
use Rattle.node_core.specs.Found.{none, asks, AreThere}
use Rattle.node_core.specs.Leased.{Rests, IsHandOf, IsTold}
use Rattle.node_core.specs.Gave.{moment, Gave, lists_after}
use Rattle.node_core.proofs.AskLaws.{asks_is, asks_itself, entry_here, entry_else}
use Rattle.node_core.proofs.FoundLaws.{hand_found, none_alike}
use Rattle.node_core.proofs.GaveLaws.{stays_same, step_there}
use Rattle.node_core.specs.Still.{is_kept_fact, may_enter, is_still_move, is_of_shards, is_held_of, no_slot, is_still_region, is_still}

-- What a move writes of a slot.

abbrev pub adds : Slot → Fact → Option Slot → List Fact
adds s f None = []
adds s f (Some t) = if asks t s then f ∷ [] else []

abbrev pub adds_move : Script → Slot → Move → List Fact
adds_move c s (made (item.Fact f)) = adds s f (slot_of (setting c) f)
adds_move c s m = []

abbrev pub adds_all : Script → Slot → List Act → List Fact
adds_all c s acts = flat_map (λ a. adds_move c s (move_of a)) acts

abbrev pub grown : List Fact → Option (List Fact) → Option (List Fact)
grown more o = option_map (λ l. l ++ more) o

grown_none : (o : Option (List Fact)) → o ≡ grown [] o
grown_none None = refl
grown_none (Some l) = ap (λ x. Some x) (sym (append-nil l))

grown_some : (more : List Fact) (o : Option (List Fact)) → is_some (grown more o) ≡ is_some o
grown_some more None = refl
grown_some more (Some l) = refl

adds_nothing : (may : Slot → Bool) (s : Slot) (f : Fact) (o : Option Slot) → may_enter may o ≡ true → may s ≡ false → adds s f o ≡ []
adds_nothing may s f None h not = refl
adds_nothing may s f (Some t) h not = by (asks t s) refl
  where
    by : (b : Bool) → asks t s ≡ b → (if asks t s then f ∷ [] else []) ≡ []
    by true e = absurd (true_is_not_false (sym h ∙ (ap may (asks_is t s e) ∙ not)))
    by false e = ap (λ v. if v then f ∷ [] else []) e

-- A slot that is not of those that an actor writes of.

no_of : (c : Script) (st : Node) (of : Slot → Bool) (s : Slot) → of s ≡ false → is_held_of c st of s ≡ false
no_of c st of s h = ap (λ b. b && is_slot_of c s && is_some (held_list s st)) h

of_held : (c : Script) (st : Node) (of : Slot → Bool) (s : Slot) → is_held_of c st of s ≡ true → (of s ≡ true) × ((is_slot_of c s ≡ true) × (is_some (held_list s st) ≡ true))
of_held c st of s h =
    let parts : ((of s && is_slot_of c s) ≡ true) × (is_some (held_list s st) ≡ true) = and_both (of s && is_slot_of c s) (is_some (held_list s st)) h in
    let first : (of s ≡ true) × (is_slot_of c s ≡ true) = and_both (of s) (is_slot_of c s) parts.0 in
    (first.0, (first.1, parts.1))

-- Entities.

mapped_some : {A B : Type 0} (f : A → B) (o : Option A) → is_some (option_map f o) ≡ true → is_some o ≡ true
mapped_some f None h = h
mapped_some f (Some x) h = refl

in_range : {A : Type 0} (xs : List (Option A)) (k : ℕ) → is_some (at xs k) ≡ true → k < length xs
in_range xs k h = by (at xs k) refl h
  where
    by : (o : Option _) → at xs k ≡ o → is_some o ≡ true → k < length xs
    by None e h = absurd (true_is_not_false (sym h))
    by (Some x) e h = inside xs k x e

mapped_entries : (f : Fact) (o : Option Hosted) → option_map (λ (h : Hosted). h.entries) (option_map (λ (h : Hosted). record { entries = h.entries ++ f ∷ []; stopping = h.stopping }) o) ≡ grown (f ∷ []) (option_map (λ (h : Hosted). h.entries) o)
mapped_entries f None = refl
mapped_entries f (Some h) = refl

entered_is : (old : List (Option Hosted)) (t s : ℕ) (f : Fact) → is_some (at old t) ≡ true
    → option_map (λ (h : Hosted). h.entries) (at (entered t f old) s) ≡ grown (if t == s then f ∷ [] else []) (option_map (λ (h : Hosted). h.entries) (at old s))
entered_is old t s f h = by (t == s) refl
  where
    put : Option Hosted
    put = option_map (λ (h : Hosted). record { entries = h.entries ++ f ∷ []; stopping = h.stopping }) (at old t)

    by : (b : Bool) → (t == s) ≡ b → option_map (λ (h : Hosted). h.entries) (at (slice_set old t (option_map (λ (h : Hosted). record { entries = h.entries ++ f ∷ []; stopping = h.stopping }) (at old t))) s) ≡ grown (if t == s then f ∷ [] else []) (option_map (λ (h : Hosted). h.entries) (at old s))
    by true e =
        let same : t ≡ s = same_number t s e in
        subst (λ k. option_map (λ (h : Hosted). h.entries) (at (slice_set old t (option_map (λ (h : Hosted). record { entries = h.entries ++ f ∷ []; stopping = h.stopping }) (at old t))) k) ≡ grown (if t == s then f ∷ [] else []) (option_map (λ (h : Hosted). h.entries) (at old k))) same
        (ap (option_map (λ (h : Hosted). h.entries)) (placed_at old t (option_map (λ (h : Hosted). record { entries = h.entries ++ f ∷ []; stopping = h.stopping }) (at old t)) (in_range old t h))
        ∙ (mapped_entries f (at old t) ∙ ap (λ b. grown (if b then f ∷ [] else []) (option_map (λ (h : Hosted). h.entries) (at old t))) (sym e)))
    by false e =
        ap (option_map (λ (h : Hosted). h.entries)) (placed_beside old t s (option_map (λ (h : Hosted). record { entries = h.entries ++ f ∷ []; stopping = h.stopping }) (at old t)) (λ same. other_number t s e (sym same)))
        ∙ (grown_none (option_map (λ (h : Hosted). h.entries) (at old s)) ∙ ap (λ b. grown (if b then f ∷ [] else []) (option_map (λ (h : Hosted). h.entries) (at old s))) (sym e))

abbrev lists_of_hosted : List (Option Hosted) → ℕ → Option (List Fact)
lists_of_hosted old s = option_map (λ (h : Hosted). h.entries) (at old s)

some_entered : (c : Script) (st : Node) (t : ℕ) → is_held_of c st is_of_shards (slot.Shard t) ≡ true → is_some (at st.entities.hosted t) ≡ true
some_entered c st t h = mapped_some (λ (x : Hosted). x.entries) (at st.entities.hosted t) (of_held c st is_of_shards (slot.Shard t) h).1.1

shard_fact : (c : Script) (m : Meaning) (st : Node) (s : ℕ) (f : Fact) → is_still_move m c (is_held_of c st is_of_shards) (made (item.Fact f)) ≡ true
    → lists_of_hosted (hosted_step (setting c) st.entities.hosted (made (item.Fact f))) s ≡ grown (adds (slot.Shard s) f (slot_of (setting c) f)) (lists_of_hosted st.entities.hosted s)
shard_fact c m st s (fact.Wrote e r) h = entered_is st.entities.hosted (shard_of (setting c) e) s (fact.Wrote e r) (some_entered c st (shard_of (setting c) e) h)
shard_fact c m st s (fact.Snapshot e n) h = entered_is st.entities.hosted (shard_of (setting c) e) s (fact.Snapshot e n) (some_entered c st (shard_of (setting c) e) h)
shard_fact c m st s (fact.Remembered e) h = entered_is st.entities.hosted (shard_of (setting c) e) s (fact.Remembered e) (some_entered c st (shard_of (setting c) e) h)
shard_fact c m st s (fact.Forgotten e) h = entered_is st.entities.hosted (shard_of (setting c) e) s (fact.Forgotten e) (some_entered c st (shard_of (setting c) e) h)
shard_fact c m st s (fact.Granted t n x) h = absurd (true_is_not_false (sym h))
shard_fact c m st s (fact.Freed t n why) h = absurd (true_is_not_false (sym h))
shard_fact c m st s (fact.Reshard n k) h = absurd (true_is_not_false (sym h))
shard_fact c m st s (fact.Resharded t n k) h = absurd (true_is_not_false (sym h))
shard_fact c m st s (fact.Registered r) h = absurd (true_is_not_false (sym (and_both (m.within r.number) false h).1))
shard_fact c m st s (fact.Terminated r) h = absurd (true_is_not_false (sym (and_both (m.within r.number) false h).1))
shard_fact c m st s (fact.Allocated t r) h = absurd (true_is_not_false (sym (and_both (m.within r.number) false h).1))
shard_fact c m st s (fact.Deallocated t) h = absurd (true_is_not_false (sym h))
shard_fact c m st s (fact.Queued p e n k) h = absurd (true_is_not_false (sym h))
shard_fact c m st s (fact.Confirmed p e n) h = absurd (true_is_not_false (sym (and_both (m.vouches e p n) false h).1))
shard_fact c m st s f h = grown_none (lists_of_hosted st.entities.hosted s)

handed_same : (old : List (Option Hosted)) (t s : ℕ) (v : Hosted → Hosted) → ((x : Hosted) → (v x).entries ≡ x.entries) → lists_of_hosted (slice_set old t (option_map v (at old t))) s ≡ lists_of_hosted old s
handed_same [] t s v h = refl
handed_same (x ∷ xs) zero zero v h = by x
  where
    by : (o : Option Hosted) → option_map (λ (h : Hosted). h.entries) (option_map v o) ≡ option_map (λ (h : Hosted). h.entries) o
    by None = refl
    by (Some y) = ap (λ l. Some l) (h y)
handed_same (x ∷ xs) zero (suc s) v h = refl
handed_same (x ∷ xs) (suc t) zero v h = refl
handed_same (x ∷ xs) (suc t) (suc s) v h = handed_same xs t s v h

shard_move : (c : Script) (m : Meaning) (st : Node) (s : ℕ) (x : Move) → is_still_move m c (is_held_of c st is_of_shards) x ≡ true
    → lists_of_hosted (hosted_step (setting c) st.entities.hosted x) s ≡ grown (adds_move c (slot.Shard s) x) (lists_of_hosted st.entities.hosted s)
shard_move c m st s (made (item.Fact f)) h = shard_fact c m st s f h
shard_move c m st s (made (item.Post p)) h = grown_none (lists_of_hosted st.entities.hosted s)
shard_move c m st s (took t list) h = absurd (true_is_not_false (sym h))
shard_move c m st s (handed_off t stamp to) h = handed_same st.entities.hosted t s (λ (x : Hosted). record { entries = x.entries; stopping = Some (record { stamp = stamp; to = to }) }) (λ x. refl) ∙ grown_none (lists_of_hosted st.entities.hosted s)
shard_move c m st s x h = grown_none (lists_of_hosted st.entities.hosted s)

-- The coordinator.

abbrev office_list : Option Coordinator → Option (List Fact)
office_list o = option_map (λ (k : Coordinator). k.entries) o

moved_office : (m : Move) (more : List Fact) (o : Option Coordinator) → ((k : Coordinator) → (coordinator_after k m).entries ≡ k.entries ++ more) → office_list (option_map (λ k. coordinator_after k m) o) ≡ grown more (office_list o)
moved_office m more None h = refl
moved_office m more (Some k) h = ap (λ l. Some l) (h k)

still_office : (m : Move) (o : Option Coordinator) → ((k : Coordinator) → (coordinator_after k m).entries ≡ k.entries) → office_list (option_map (λ k. coordinator_after k m) o) ≡ grown [] (office_list o)
still_office m o h = moved_office m [] o (λ k. h k ∙ sym (append-nil k.entries))

office_fact : (c : Script) (m : Meaning) (st : Node) (f : Fact) → is_still_move m c (is_held_of c st (asks slot.Coordinator)) (made (item.Fact f)) ≡ true
    → office_list (option_map (λ k. coordinator_after k (made (item.Fact f))) st.coordinator) ≡ grown (adds slot.Coordinator f (slot_of (setting c) f)) (office_list st.coordinator)
office_fact c m st (fact.Registered r) h = moved_office (made (item.Fact (fact.Registered r))) (fact.Registered r ∷ []) st.coordinator (λ k. refl)
office_fact c m st (fact.Terminated r) h = moved_office (made (item.Fact (fact.Terminated r))) (fact.Terminated r ∷ []) st.coordinator (λ k. refl)
office_fact c m st (fact.Allocated t r) h = moved_office (made (item.Fact (fact.Allocated t r))) (fact.Allocated t r ∷ []) st.coordinator (λ k. refl)
office_fact c m st (fact.Deallocated t) h = moved_office (made (item.Fact (fact.Deallocated t))) (fact.Deallocated t ∷ []) st.coordinator (λ k. refl)
office_fact c m st (fact.Granted t n x) h = absurd (true_is_not_false (sym h))
office_fact c m st (fact.Freed t n why) h = absurd (true_is_not_false (sym h))
office_fact c m st (fact.Reshard n k) h = absurd (true_is_not_false (sym h))
office_fact c m st (fact.Resharded t n k) h = absurd (true_is_not_false (sym h))
office_fact c m st (fact.Wrote e r) h = absurd (true_is_not_false (sym h))
office_fact c m st (fact.Snapshot e n) h = absurd (true_is_not_false (sym h))
office_fact c m st (fact.Remembered e) h = absurd (true_is_not_false (sym h))
office_fact c m st (fact.Forgotten e) h = absurd (true_is_not_false (sym h))
office_fact c m st (fact.Queued p e n k) h = absurd (true_is_not_false (sym h))
office_fact c m st (fact.Confirmed p e n) h = absurd (true_is_not_false (sym (and_both (m.vouches e p n) false h).1))
office_fact c m st f h = still_office (made (item.Fact f)) st.coordinator (λ k. refl)

office_move : (c : Script) (m : Meaning) (st : Node) (x : Move) → is_still_move m c (is_held_of c st (asks slot.Coordinator)) x ≡ true
    → office_list (option_map (λ k. coordinator_after k x) st.coordinator) ≡ grown (adds_move c slot.Coordinator x) (office_list st.coordinator)
office_move c m st (made (item.Fact f)) h = office_fact c m st f h
office_move c m st (took t list) h = absurd (true_is_not_false (sym h))
office_move c m st x h = still_office x st.coordinator (λ k. refl)

office_by : (c : Script) (m : Meaning) (st : Node) (x : Move) → is_still_move m c (is_held_of c st (asks slot.Coordinator)) x ≡ true
    → held_list slot.Coordinator (after st (by_coordinator x)) ≡ grown (adds_move c slot.Coordinator x) (office_list st.coordinator)
office_by c m st (took t list) h = absurd (true_is_not_false (sym h))
office_by c m st x h = office_move c m st x h

-- The producers.

abbrev queue_in : List (Option Producer) → ℕ → Option (List Fact)
queue_in old i = option_map (λ (k : Producer). k.entries) (at old i)

moved_queue : (m : Move) (more : List Fact) (o : Option Producer) → ((k : Producer) → (producer_after k m).entries ≡ k.entries ++ more) → option_map (λ (k : Producer). k.entries) (option_map (λ k. producer_after k m) o) ≡ grown more (option_map (λ (k : Producer). k.entries) o)
moved_queue m more None h = refl
moved_queue m more (Some k) h = ap (λ l. Some l) (h k)

-- a move of the producer at a place
eq_false : (a b : ℕ) → (a ≡ b → ⊥) → (a == b) ≡ false
eq_false a b not = by (a == b) refl
  where
    by : (v : Bool) → (a == b) ≡ v → (a == b) ≡ false
    by true e = absurd (not (same_number a b e))
    by false e = e

suc_same : (i j : ℕ) → (suc i == suc j) ≡ (i == j)
suc_same i j = by (i == j) refl
  where
    by : (v : Bool) → (i == j) ≡ v → (suc i == suc j) ≡ (i == j)
    by true e = number_itself (suc i) (suc j) (ap suc (same_number i j e)) ∙ sym e
    by false e = eq_false (suc i) (suc j) (λ same. other_number i j e (omega (arith, same))) ∙ sym e

queue_at : (old : List (Option Producer)) (i j : ℕ) (m : Move) (more : List Fact) → ((k : Producer) → (producer_after k m).entries ≡ k.entries ++ more)
    → queue_in (slice_set old i (option_map (λ k. producer_after k m) (at old i))) j ≡ grown (if i == j then more else []) (queue_in old j)
queue_at [] i j m more h = refl
queue_at (x ∷ xs) zero zero m more h = moved_queue m more x h ∙ ap (λ b. grown (if b then more else []) (option_map (λ (k : Producer). k.entries) x)) (sym (number_itself 0 0 refl))
queue_at (x ∷ xs) zero (suc j) m more h = grown_none (option_map (λ (k : Producer). k.entries) (at xs j)) ∙ ap (λ b. grown (if b then more else []) (option_map (λ (k : Producer). k.entries) (at xs j))) (sym (eq_false 0 (suc j) (λ same. omega (arith, same))))
queue_at (x ∷ xs) (suc i) zero m more h = grown_none (option_map (λ (k : Producer). k.entries) x) ∙ ap (λ b. grown (if b then more else []) (option_map (λ (k : Producer). k.entries) x)) (sym (eq_false (suc i) 0 (λ same. omega (arith, same))))
queue_at (x ∷ xs) (suc i) (suc j) m more h = queue_at xs i j m more h ∙ ap (λ b. grown (if b then more else []) (queue_in xs j)) (sym (suc_same i j))

any_same : (b : Bool) (o : Option (List Fact)) → grown (if b then [] else []) o ≡ grown [] o
any_same true o = refl
any_same false o = refl

queue_same : (old : List (Option Producer)) (i j : ℕ) (m : Move) → ((k : Producer) → (producer_after k m).entries ≡ k.entries) → queue_in (slice_set old i (option_map (λ k. producer_after k m) (at old i))) j ≡ grown [] (queue_in old j)
queue_same old i j m h = queue_at old i j m [] (λ k. h k ∙ sym (append-nil k.entries)) ∙ any_same (i == j) (queue_in old j)

valid_queue : (c : Script) (p : ℕ) → is_slot_of c (slot.Queue p) ≡ true → 1 ≤ p
valid_queue c p h = at_most 1 p (and_both (nat_le 1 p) (nat_le p c.config.producers) h).0

-- places of two producers
same_place : (p q : ℕ) → 1 ≤ p → 1 ≤ q → (p - 1 == q - 1) ≡ (p == q)
same_place p q a b = by (p == q) refl
  where
    by : (v : Bool) → (p == q) ≡ v → (p - 1 == q - 1) ≡ (p == q)
    by true e = number_itself (p - 1) (q - 1) (ap (λ n. n - 1) (same_number p q e)) ∙ sym e
    by false e = by_less (p - 1 == q - 1) refl
      where
        by_less : (v : Bool) → (p - 1 == q - 1) ≡ v → (p - 1 == q - 1) ≡ (p == q)
        by_less false d = d ∙ sym e
        by_less true d = let same : p - 1 ≡ q - 1 = same_number (p - 1) (q - 1) d in absurd (other_number p q e (omega (arith, same)))

queue_entry : (c : Script) (st : Node) (p q r : ℕ) (f : Fact) → is_slot_of c (slot.Queue q) ≡ true → is_held_of c st (asks (slot.Queue p)) (slot.Queue r) ≡ true → ((k : Producer) → (producer_after k (made (item.Fact f))).entries ≡ k.entries ++ f ∷ [])
    → queue_in (slice_set st.producers (p - 1) (option_map (λ k. producer_after k (made (item.Fact f))) (at st.producers (p - 1)))) (q - 1) ≡ grown (if r == q then f ∷ [] else []) (queue_in st.producers (q - 1))
queue_entry c st p q r f valid held h =
    let parts = of_held c st (asks (slot.Queue p)) (slot.Queue r) held in
    let same : p ≡ r = same_number p r parts.0 in
    let valid_p : is_slot_of c (slot.Queue p) ≡ true = subst (λ n. is_slot_of c (slot.Queue n) ≡ true) (sym same) parts.1.0 in
    queue_at st.producers (p - 1) (q - 1) (made (item.Fact f)) (f ∷ []) h
    ∙ ap (λ b. grown (if b then f ∷ [] else []) (queue_in st.producers (q - 1))) (same_place p q (valid_queue c p valid_p) (valid_queue c q valid) ∙ ap (λ n. n == q) same)

queue_fact : (c : Script) (m : Meaning) (st : Node) (p q : ℕ) (f : Fact) → is_slot_of c (slot.Queue q) ≡ true → is_still_move m c (is_held_of c st (asks (slot.Queue p))) (made (item.Fact f)) ≡ true
    → queue_in (slice_set st.producers (p - 1) (producer_by st.set st.who p (at st.producers (p - 1)) (made (item.Fact f)))) (q - 1) ≡ grown (adds (slot.Queue q) f (slot_of (setting c) f)) (queue_in st.producers (q - 1))
queue_fact c m st p q (fact.Queued r e n k) valid h = queue_entry c st p q r (fact.Queued r e n k) valid h (λ x. refl)
queue_fact c m st p q (fact.Confirmed r e n) valid h = queue_entry c st p q r (fact.Confirmed r e n) valid (and_both (m.vouches e r n) (is_held_of c st (asks (slot.Queue p)) (slot.Queue r)) h).1 (λ x. refl)
queue_fact c m st p q (fact.Granted t n x) valid h = absurd (true_is_not_false (sym h))
queue_fact c m st p q (fact.Freed t n why) valid h = absurd (true_is_not_false (sym h))
queue_fact c m st p q (fact.Reshard n k) valid h = absurd (true_is_not_false (sym h))
queue_fact c m st p q (fact.Resharded t n k) valid h = absurd (true_is_not_false (sym h))
queue_fact c m st p q (fact.Registered r) valid h = absurd (true_is_not_false (sym (and_both (m.within r.number) false h).1))
queue_fact c m st p q (fact.Terminated r) valid h = absurd (true_is_not_false (sym (and_both (m.within r.number) false h).1))
queue_fact c m st p q (fact.Allocated t r) valid h = absurd (true_is_not_false (sym (and_both (m.within r.number) false h).1))
queue_fact c m st p q (fact.Deallocated t) valid h = absurd (true_is_not_false (sym h))
queue_fact c m st p q (fact.Wrote e r) valid h = absurd (true_is_not_false (sym h))
queue_fact c m st p q (fact.Snapshot e n) valid h = absurd (true_is_not_false (sym h))
queue_fact c m st p q (fact.Remembered e) valid h = absurd (true_is_not_false (sym h))
queue_fact c m st p q (fact.Forgotten e) valid h = absurd (true_is_not_false (sym h))
queue_fact c m st p q f valid h = queue_same st.producers (p - 1) (q - 1) (made (item.Fact f)) (λ k. refl)

queue_move : (c : Script) (m : Meaning) (st : Node) (p q : ℕ) (x : Move) → is_slot_of c (slot.Queue q) ≡ true → is_still_move m c (is_held_of c st (asks (slot.Queue p))) x ≡ true
    → queue_in (slice_set st.producers (p - 1) (producer_by st.set st.who p (at st.producers (p - 1)) x)) (q - 1) ≡ grown (adds_move c (slot.Queue q) x) (queue_in st.producers (q - 1))
queue_move c m st p q (made (item.Fact f)) valid h = queue_fact c m st p q f valid h
queue_move c m st p q (took t list) valid h = absurd (true_is_not_false (sym h))
queue_move c m st p q x valid h = queue_same st.producers (p - 1) (q - 1) x (λ k. refl)

-- Any act, and any slot.

-- what an actor writes is of its own slots
not_written : (c : Script) (m : Meaning) (may : Slot → Bool) (s : Slot) (x : Move) → may s ≡ false → is_still_move m c may x ≡ true → adds_move c s x ≡ []
not_written c m may s (made (item.Fact f)) not h = adds_nothing may s f (slot_of (setting c) f) (and_both (is_kept_fact m f) (may_enter may (slot_of (setting c) f)) h).1 not
not_written c m may s x not h = refl

same_held : (c : Script) (m : Meaning) (may : Slot → Bool) (s : Slot) (x : Move) (o : Option (List Fact)) → may s ≡ false → is_still_move m c may x ≡ true → o ≡ grown (adds_move c s x) o
same_held c m may s x o not h = grown_none o ∙ ap (λ l. grown l o) (sym (not_written c m may s x not h))

region_adds : (c : Script) (m : Meaning) (s : Slot) (x : Move) → is_still_region m c x ≡ true → adds_move c s x ≡ []
region_adds c m s (took t list) h = refl
region_adds c m s x h = not_written c m no_slot s x refl h

region_held : (c : Script) (m : Meaning) (s : Slot) (x : Move) (o : Option (List Fact)) → is_still_region m c x ≡ true → o ≡ grown (adds_move c s x) o
region_held c m s x o h = grown_none o ∙ ap (λ l. grown l o) (sym (region_adds c m s x h))

held_step : (c : Script) (m : Meaning) (st : Node) (a : Act) (s : Slot) → st.entities.set ≡ setting c → is_slot_of c s ≡ true → is_still c m st a ≡ true → held_list s (after st a) ≡ grown (adds_move c s (move_of a)) (held_list s st)
held_step c m st (by_region x) (slot.Shard k) set valid h = region_held c m (slot.Shard k) x (held_list (slot.Shard k) st) h
held_step c m st (by_region x) slot.Coordinator set valid h = region_held c m slot.Coordinator x (held_list slot.Coordinator st) h
held_step c m st (by_region x) (slot.Queue q) set valid h = region_held c m (slot.Queue q) x (held_list (slot.Queue q) st) h
held_step c m st (by_entities x) (slot.Shard k) set valid h = ap (λ z. lists_of_hosted (hosted_step z st.entities.hosted x) k) set ∙ shard_move c m st k x h
held_step c m st (by_entities x) slot.Coordinator set valid h = same_held c m (is_held_of c st is_of_shards) slot.Coordinator x (held_list slot.Coordinator st) refl h
held_step c m st (by_entities x) (slot.Queue q) set valid h = same_held c m (is_held_of c st is_of_shards) (slot.Queue q) x (held_list (slot.Queue q) st) refl h
held_step c m st (by_producer p x) (slot.Shard k) set valid h = same_held c m (is_held_of c st (asks (slot.Queue p))) (slot.Shard k) x (held_list (slot.Shard k) st) refl h
held_step c m st (by_producer p x) slot.Coordinator set valid h = same_held c m (is_held_of c st (asks (slot.Queue p))) slot.Coordinator x (held_list slot.Coordinator st) refl h
held_step c m st (by_producer p x) (slot.Queue q) set valid h = queue_move c m st p q x valid h
held_step c m st (by_coordinator x) (slot.Shard k) set valid h = same_held c m (is_held_of c st (asks slot.Coordinator)) (slot.Shard k) x (held_list (slot.Shard k) st) refl h
held_step c m st (by_coordinator x) slot.Coordinator set valid h = office_by c m st x h
held_step c m st (by_coordinator x) (slot.Queue q) set valid h = same_held c m (is_held_of c st (asks slot.Coordinator)) (slot.Queue q) x (held_list (slot.Queue q) st) refl h

-- an act stays so after another
enter_same : (may now : Slot → Bool) → ((s : Slot) → now s ≡ may s) → (o : Option Slot) → may_enter now o ≡ may_enter may o
enter_same may now same None = refl
enter_same may now same (Some s) = same s

move_same : (c : Script) (m : Meaning) (may now : Slot → Bool) → ((s : Slot) → now s ≡ may s) → (x : Move) → is_still_move m c now x ≡ is_still_move m c may x
move_same c m may now same (made (item.Fact f)) = ap (λ b. is_kept_fact m f && b) (enter_same may now same (slot_of (setting c) f))
move_same c m may now same x = refl

dead : (a x : Bool) → (a && false && x) ≡ false
dead true x = refl
dead false x = refl

kept_held : (c : Script) (m : Meaning) (st : Node) (a : Act) (of : Slot → Bool) (s : Slot) → st.entities.set ≡ setting c → is_still c m st a ≡ true → is_held_of c (after st a) of s ≡ is_held_of c st of s
kept_held c m st a of s set h = by (is_slot_of c s) refl
  where
    by : (b : Bool) → is_slot_of c s ≡ b → is_held_of c (after st a) of s ≡ is_held_of c st of s
    by true e = ap (λ b. of s && is_slot_of c s && b) (ap is_some (held_step c m st a s set e h) ∙ grown_some (adds_move c s (move_of a)) (held_list s st))
    by false e = ap (λ b. of s && b && is_some (held_list s (after st a))) e ∙ (dead (of s) (is_some (held_list s (after st a))) ∙ (sym (dead (of s) (is_some (held_list s st))) ∙ ap (λ b. of s && b && is_some (held_list s st)) (sym e)))

pub still_after : (c : Script) (m : Meaning) (st : Node) (a b : Act) → st.entities.set ≡ setting c → is_still c m st a ≡ true → is_still c m (after st a) b ≡ is_still c m st b
still_after c m st a (by_region x) set h = refl
still_after c m st a (by_entities x) set h = move_same c m (is_held_of c st is_of_shards) (is_held_of c (after st a) is_of_shards) (λ s. kept_held c m st a is_of_shards s set h) x
still_after c m st a (by_producer p x) set h = move_same c m (is_held_of c st (asks (slot.Queue p))) (is_held_of c (after st a) (asks (slot.Queue p))) (λ s. kept_held c m st a (asks (slot.Queue p)) s set h) x
still_after c m st a (by_coordinator x) set h = move_same c m (is_held_of c st (asks slot.Coordinator)) (is_held_of c (after st a) (asks slot.Coordinator)) (λ s. kept_held c m st a (asks slot.Coordinator) s set h) x

pub stills_after : (c : Script) (m : Meaning) (st : Node) (a : Act) (acts : List Act) → st.entities.set ≡ setting c → is_still c m st a ≡ true → list_all (is_still c m st) acts ≡ true → list_all (is_still c m (after st a)) acts ≡ true
stills_after c m st a [] set h k = refl
stills_after c m st a (b ∷ acts) set h k =
    let parts : (is_still c m st b ≡ true) × (list_all (is_still c m st) acts ≡ true) = and_both (is_still c m st b) (list_all (is_still c m st) acts) k in
    both (is_still c m (after st a) b) (list_all (is_still c m (after st a)) acts) (still_after c m st a b set h ∙ parts.0) (stills_after c m st a acts set h parts.1)

pub set_after : (c : Script) (st : Node) (a : Act) → st.entities.set ≡ setting c → (after st a).entities.set ≡ setting c
set_after c st (by_region x) h = h
set_after c st (by_entities x) h = h
set_after c st (by_producer p x) h = h
set_after c st (by_coordinator x) h = h

grown_twice : (one two : List Fact) (o : Option (List Fact)) → grown two (grown one o) ≡ grown (one ++ two) o
grown_twice one two None = refl
grown_twice one two (Some l) = ap (λ x. Some x) (append_assoc l one two)

pub held_all : (c : Script) (m : Meaning) (st : Node) (acts : List Act) (s : Slot) → st.entities.set ≡ setting c → is_slot_of c s ≡ true → list_all (is_still c m st) acts ≡ true → held_list s (fold after st acts) ≡ grown (adds_all c s acts) (held_list s st)
held_all c m st [] s set valid h = grown_none (held_list s st)
held_all c m st (a ∷ acts) s set valid h =
    let parts : (is_still c m st a ≡ true) × (list_all (is_still c m st) acts ≡ true) = and_both (is_still c m st a) (list_all (is_still c m st) acts) h in
    held_all c m (after st a) acts s (set_after c st a set) valid (stills_after c m st a acts set parts.0 parts.1)
    ∙ (ap (grown (adds_all c s acts)) (held_step c m st a s set valid parts.0) ∙ grown_twice (adds_move c s (move_of a)) (adds_all c s acts) (held_list s st))

-- The lists.

-- a slot whose entry it is is the script's
may_valid : (c : Script) (may : Slot → Bool) (t : Slot) → ((s : Slot) → may s ≡ true → is_slot_of c s ≡ true) → may_enter may (Some t) ≡ true → is_slot_of c t ≡ true
may_valid c may t valid h = valid t h

entry_at : (c : Script) (may : Slot → Bool) (lists : SlotLists) (f : Fact) (s : Slot) (o : Option Slot) → ((s : Slot) → may s ≡ true → is_slot_of c s ≡ true) → AreThere c lists → is_slot_of c s ≡ true → may_enter may o ≡ true
    → list_at (with_entry f lists o) s ≡ list_at lists s ++ adds s f o
entry_at c may lists f s None valid full here h = sym (append-nil (list_at lists s))
entry_at c may lists f s (Some t) valid full here h = by (asks t s) refl
  where
    by : (b : Bool) → asks t s ≡ b → list_at (with_entry f lists (Some t)) s ≡ list_at lists s ++ (if asks t s then f ∷ [] else [])
    by true e = subst (λ z. list_at (with_entry f lists (Some t)) z ≡ list_at lists z ++ (if asks t s then f ∷ [] else [])) (asks_is t s e)
        (entry_here c lists f t full (valid t h) ∙ ap (λ b. list_at lists t ++ (if b then f ∷ [] else [])) (sym e))
    by false e = entry_else c lists f t s (valid t h) here (λ same. true_is_not_false (sym (subst (λ z. asks t z ≡ true) (sym same) (asks_itself t)) ∙ e))
        ∙ (sym (append-nil (list_at lists s)) ∙ ap (λ b. list_at lists s ++ (if b then f ∷ [] else [])) (sym e))

held_valid : (c : Script) (st : Node) (of : Slot → Bool) (s : Slot) → is_held_of c st of s ≡ true → is_slot_of c s ≡ true
held_valid c st of s h = (of_held c st of s h).1.0

none_valid : (c : Script) (s : Slot) → no_slot s ≡ true → is_slot_of c s ≡ true
none_valid c s h = absurd (true_is_not_false (sym h))

move_lists : (c : Script) (m : Meaning) (may : Slot → Bool) (lists : SlotLists) (x : Move) (s : Slot) → ((s : Slot) → may s ≡ true → is_slot_of c s ≡ true) → AreThere c lists → is_slot_of c s ≡ true → is_still_move m c may x ≡ true
    → list_at (fold (lists_step (setting c)) lists (facts_in (item_of x))) s ≡ list_at lists s ++ adds_move c s x
move_lists c m may lists (made (item.Fact f)) s valid full here h = entry_at c may lists f s (slot_of (setting c) f) valid full here (and_both (is_kept_fact m f) (may_enter may (slot_of (setting c) f)) h).1
move_lists c m may lists (made (item.Post p)) s valid full here h = sym (append-nil (list_at lists s))
move_lists c m may lists x s valid full here h = sym (append-nil (list_at lists s))

region_lists : (c : Script) (m : Meaning) (lists : SlotLists) (x : Move) (s : Slot) → AreThere c lists → is_slot_of c s ≡ true → is_still_region m c x ≡ true
    → list_at (fold (lists_step (setting c)) lists (facts_in (item_of x))) s ≡ list_at lists s ++ adds_move c s x
region_lists c m lists (took t list) s full here h = sym (append-nil (list_at lists s))
region_lists c m lists x s full here h = move_lists c m no_slot lists x s (none_valid c) full here h

act_lists : (c : Script) (m : Meaning) (st : Node) (lists : SlotLists) (a : Act) (s : Slot) → AreThere c lists → is_slot_of c s ≡ true → is_still c m st a ≡ true
    → list_at (fold (lists_step (setting c)) lists (facts_in (item_of (move_of a)))) s ≡ list_at lists s ++ adds_move c s (move_of a)
act_lists c m st lists (by_region x) s full here h = region_lists c m lists x s full here h
act_lists c m st lists (by_entities x) s full here h = move_lists c m (is_held_of c st is_of_shards) lists x s (held_valid c st is_of_shards) full here h
act_lists c m st lists (by_producer p x) s full here h = move_lists c m (is_held_of c st (asks (slot.Queue p))) lists x s (held_valid c st (asks (slot.Queue p))) full here h
act_lists c m st lists (by_coordinator x) s full here h = move_lists c m (is_held_of c st (asks slot.Coordinator)) lists x s (held_valid c st (asks slot.Coordinator)) full here h

facts_both : (xs ys : List Item) → facts_in (xs ++ ys) ≡ facts_in xs ++ facts_in ys
facts_both [] ys = refl
facts_both (item.Fact f ∷ is) ys = ap (λ fs. f ∷ fs) (facts_both is ys)
facts_both (item.Post p ∷ is) ys = facts_both is ys

-- one act, and the others
lists_next : (c : Script) (lists : SlotLists) (a : Act) (acts : List Act) → lists_after c lists (a ∷ acts) ≡ lists_after c (fold (lists_step (setting c)) lists (facts_in (item_of (move_of a)))) acts
lists_next c lists a acts = ap (fold (lists_step (setting c)) lists) (facts_both (item_of (move_of a)) (items_of acts)) ∙ fold-append (lists_step (setting c)) lists (facts_in (item_of (move_of a))) (facts_in (items_of acts))

steps_full : (c : Script) (lists : SlotLists) (fs : List Fact) → AreThere c lists → AreThere c (fold (lists_step (setting c)) lists fs)
steps_full c lists [] k = k
steps_full c lists (f ∷ fs) k = steps_full c (lists_step (setting c) lists f) fs (step_there c lists f (slot_of (setting c) f) k)

lists_all : (c : Script) (m : Meaning) (st : Node) (lists : SlotLists) (acts : List Act) (s : Slot) → st.entities.set ≡ setting c → AreThere c lists → is_slot_of c s ≡ true → list_all (is_still c m st) acts ≡ true
    → list_at (lists_after c lists acts) s ≡ list_at lists s ++ adds_all c s acts
lists_all c m st lists [] s set full here h = sym (append-nil (list_at lists s))
lists_all c m st lists (a ∷ acts) s set full here h =
    let parts : (is_still c m st a ≡ true) × (list_all (is_still c m st) acts ≡ true) = and_both (is_still c m st a) (list_all (is_still c m st) acts) h in
    let next : SlotLists = fold (lists_step (setting c)) lists (facts_in (item_of (move_of a))) in
    ap (λ l. list_at l s) (lists_next c lists a acts)
    ∙ (lists_all c m (after st a) next acts s (set_after c st a set) (steps_full c lists (facts_in (item_of (move_of a))) full) here (stills_after c m st a acts set parts.0 parts.1)
    ∙ (ap (λ l. l ++ adds_all c s acts) (act_lists c m st lists a s full here parts.0) ∙ append_assoc (list_at lists s) (adds_move c s (move_of a)) (adds_all c s acts)))

-- What is added: facts that free and grant nothing.

adds_kept : (m : Meaning) (s : Slot) (f : Fact) (o : Option Slot) → is_kept_fact m f ≡ true → list_all (is_kept_fact m) (adds s f o) ≡ true
adds_kept m s f None h = refl
adds_kept m s f (Some t) h = by (asks t s)
  where
    by : (b : Bool) → list_all (is_kept_fact m) (if b then f ∷ [] else []) ≡ true
    by true = both (is_kept_fact m f) true h refl
    by false = refl

move_kept : (c : Script) (m : Meaning) (may : Slot → Bool) (s : Slot) (x : Move) → is_still_move m c may x ≡ true → list_all (is_kept_fact m) (adds_move c s x) ≡ true
move_kept c m may s (made (item.Fact f)) h = adds_kept m s f (slot_of (setting c) f) (and_both (is_kept_fact m f) (may_enter may (slot_of (setting c) f)) h).0
move_kept c m may s x h = refl

act_kept : (c : Script) (m : Meaning) (st : Node) (s : Slot) (a : Act) → is_still c m st a ≡ true → list_all (is_kept_fact m) (adds_move c s (move_of a)) ≡ true
act_kept c m st s (by_region x) h = ap (list_all (is_kept_fact m)) (region_adds c m s x h)
act_kept c m st s (by_entities x) h = move_kept c m (is_held_of c st is_of_shards) s x h
act_kept c m st s (by_producer p x) h = move_kept c m (is_held_of c st (asks (slot.Queue p))) s x h
act_kept c m st s (by_coordinator x) h = move_kept c m (is_held_of c st (asks slot.Coordinator)) s x h

all_kept : (c : Script) (m : Meaning) (st : Node) (s : Slot) (acts : List Act) → list_all (is_still c m st) acts ≡ true → list_all (is_kept_fact m) (adds_all c s acts) ≡ true
all_kept c m st s [] h = refl
all_kept c m st s (a ∷ acts) h =
    let parts : (is_still c m st a ≡ true) × (list_all (is_still c m st) acts ≡ true) = and_both (is_still c m st a) (list_all (is_still c m st) acts) h in
    all_join (is_kept_fact m) (adds_move c s (move_of a)) (adds_all c s acts) (act_kept c m st s a parts.0) (all_kept c m st s acts parts.1)

unheld : (c : Script) (st : Node) (of : Slot → Bool) (s : Slot) → held_list s st ≡ None → is_held_of c st of s ≡ false
unheld c st of s free = by (of s) (is_slot_of c s) refl refl
  where
    by : (a b : Bool) → of s ≡ a → is_slot_of c s ≡ b → is_held_of c st of s ≡ false
    by true true d e = ap (λ z. of s && is_slot_of c s && is_some z) free ∙ ap₂ (λ y z. y && z && false) d e
    by true false d e = ap₂ (λ y z. y && z && is_some (held_list s st)) d e
    by false b d e = ap (λ y. y && is_slot_of c s && is_some (held_list s st)) d

-- nothing is added where the slot isn't held
act_nowhere : (c : Script) (m : Meaning) (st : Node) (s : Slot) (a : Act) → held_list s st ≡ None → is_still c m st a ≡ true → adds_move c s (move_of a) ≡ []
act_nowhere c m st s (by_region x) free h = region_adds c m s x h
act_nowhere c m st s (by_entities x) free h = not_written c m (is_held_of c st is_of_shards) s x (unheld c st is_of_shards s free) h
act_nowhere c m st s (by_producer p x) free h = not_written c m (is_held_of c st (asks (slot.Queue p))) s x (unheld c st (asks (slot.Queue p)) s free) h
act_nowhere c m st s (by_coordinator x) free h = not_written c m (is_held_of c st (asks slot.Coordinator)) s x (unheld c st (asks slot.Coordinator) s free) h

nowhere : (c : Script) (m : Meaning) (st : Node) (s : Slot) (acts : List Act) → held_list s st ≡ None → list_all (is_still c m st) acts ≡ true → adds_all c s acts ≡ []
nowhere c m st s [] free h = refl
nowhere c m st s (a ∷ acts) free h =
    let parts : (is_still c m st a ≡ true) × (list_all (is_still c m st) acts ≡ true) = and_both (is_still c m st a) (list_all (is_still c m st) acts) h in
    ap₂ (λ x y. x ++ y) (act_nowhere c m st s a free parts.0) (nowhere c m st s acts free parts.1)

-- What such facts change of a list.

kept_holder : (m : Meaning) (o : Option Incarnation) (f : Fact) → is_kept_fact m f ≡ true → holder_step o f ≡ o
kept_holder m o (fact.Granted s n x) h = absurd (true_is_not_false (sym h))
kept_holder m o (fact.Freed s n why) h = absurd (true_is_not_false (sym h))
kept_holder m o f h = refl

kept_holders : (m : Meaning) (o : Option Incarnation) (fs : List Fact) → list_all (is_kept_fact m) fs ≡ true → fold holder_step o fs ≡ o
kept_holders m o [] h = refl
kept_holders m o (f ∷ fs) h =
    let parts : (is_kept_fact m f ≡ true) × (list_all (is_kept_fact m) fs ≡ true) = and_both (is_kept_fact m f) (list_all (is_kept_fact m) fs) h in
    ap (λ p. fold holder_step p fs) (kept_holder m o f parts.0) ∙ kept_holders m o fs parts.1

pub holder_stays : (m : Meaning) (list fs : List Fact) → list_all (is_kept_fact m) fs ≡ true → holder (list ++ fs) ≡ holder list
holder_stays m list fs h = fold-append holder_step None list fs ∙ kept_holders m (holder list) fs h

kept_taken : (m : Meaning) (s : Slot) (f : Fact) → is_kept_fact m f ≡ true → is_taken m s f ≡ true
kept_taken m s (fact.Granted t n x) h = absurd (true_is_not_false (sym h))
kept_taken m s (fact.Registered r) h = h
kept_taken m s (fact.Terminated r) h = h
kept_taken m s (fact.Allocated t r) h = h
kept_taken m s f h = refl

all_taken : (m : Meaning) (s : Slot) (fs : List Fact) → list_all (is_kept_fact m) fs ≡ true → list_all (is_taken m s) fs ≡ true
all_taken m s [] h = refl
all_taken m s (f ∷ fs) h =
    let parts : (is_kept_fact m f ≡ true) × (list_all (is_kept_fact m) fs ≡ true) = and_both (is_kept_fact m f) (list_all (is_kept_fact m) fs) h in
    both (is_taken m s f) (list_all (is_taken m s) fs) (kept_taken m s f parts.0) (all_taken m s fs parts.1)

kept_vouched : (m : Meaning) (e : List ℕ) (p n : ℕ) (f : Fact) → is_kept_fact m f ≡ true → is_confirmed e p n f ≡ true → m.vouches e p n ≡ true
kept_vouched m e p n (fact.Confirmed q x k) h c =
    let one : ((q == p && is_name x e) ≡ true) × ((k == n) ≡ true) = and_both (q == p && is_name x e) (k == n) c in
    let two : ((q == p) ≡ true) × (is_name x e ≡ true) = and_both (q == p) (is_name x e) one.0 in
    ap (λ y. m.vouches y p n) (sym (same_name x e two.1)) ∙ (ap (λ y. m.vouches x y n) (sym (same_number q p two.0)) ∙ (ap (m.vouches x q) (sym (same_number k n one.1)) ∙ h))
kept_vouched m e p n f h c = absurd (true_is_not_false (sym c))

confirms_both : (m : Meaning) (e : List ℕ) (p n : ℕ) (list fs : List Fact) → list_all (is_kept_fact m) fs ≡ true → confirms e p n (list ++ fs) ≡ true → (confirms e p n list ≡ true) ⊎ (m.vouches e p n ≡ true)
confirms_both m e p n [] [] h c = absurd (true_is_not_false (sym c))
confirms_both m e p n [] (f ∷ fs) h c = by (and_both (is_kept_fact m f) (list_all (is_kept_fact m) fs) h) (is_confirmed e p n f) refl (λ k. confirms_both m e p n [] fs k)
  where
    by : (is_kept_fact m f ≡ true) × (list_all (is_kept_fact m) fs ≡ true) → (b : Bool) → is_confirmed e p n f ≡ b
        → (list_all (is_kept_fact m) fs ≡ true → confirms e p n fs ≡ true → (confirms e p n [] ≡ true) ⊎ (m.vouches e p n ≡ true)) → (confirms e p n [] ≡ true) ⊎ (m.vouches e p n ≡ true)
    by parts true d rest = inr (kept_vouched m e p n f parts.0 d)
    by parts false d rest = rest parts.1 (ap (λ b. b || confirms e p n fs) (sym d) ∙ c)
confirms_both m e p n (x ∷ list) fs h c = by (is_confirmed e p n x) refl (confirms_both m e p n list fs h)
  where
    first : is_confirmed e p n x ≡ false → (confirms e p n list ≡ true) ⊎ (m.vouches e p n ≡ true) → (confirms e p n (x ∷ list) ≡ true) ⊎ (m.vouches e p n ≡ true)
    first d (inl k) = inl (ap (λ b. b || confirms e p n list) d ∙ k)
    first d (inr k) = inr k

    by : (b : Bool) → is_confirmed e p n x ≡ b → (confirms e p n (list ++ fs) ≡ true → (confirms e p n list ≡ true) ⊎ (m.vouches e p n ≡ true)) → (confirms e p n (x ∷ list) ≡ true) ⊎ (m.vouches e p n ≡ true)
    by true d rest = inl (ap (λ b. b || confirms e p n list) d)
    by false d rest = first d (rest (ap (λ b. b || confirms e p n (list ++ fs)) (sym d) ∙ c))

-- the list in hand with such facts more
pub hand_grown : (m : Meaning) (s : Slot) (list fs : List Fact) → list_all (is_kept_fact m) fs ≡ true → IsHandOf m s list → IsHandOf m s (list ++ fs)
hand_grown m s list fs h hand = record {
  extends = record { rest = hand.extends.rest ++ fs; is = ap (λ l. l ++ fs) hand.extends.is ∙ append_assoc (m.told s) hand.extends.rest fs };
  taken = all_join (is_taken m s) list fs hand.taken (all_taken m s fs h);
  vouched = λ e p n c. either_way (confirms_both m e p n list fs h c) e p n refl refl refl;
}
  where
    either_way : {e : List ℕ} {p n : ℕ} → (confirms e p n list ≡ true) ⊎ (m.vouches e p n ≡ true) → (x : List ℕ) (q k : ℕ) → x ≡ e → q ≡ p → k ≡ n → (confirms e p n (m.told s) ≡ true) ⊎ (m.vouches e p n ≡ true)
    either_way (inl c) x q k a b d = hand.vouched _ _ _ c
    either_way (inr v) x q k a b d = inr v

some_grown : (m : Meaning) (s : Slot) (fs : List Fact) (o : Option (List Fact)) → list_all (is_kept_fact m) fs ≡ true → IfSome o (IsHandOf m s) → IfSome (grown fs o) (IsHandOf m s)
some_grown m s fs None h hand = hand
some_grown m s fs (Some list) h hand = hand_grown m s list fs h hand

-- what is told of a slot that a node holds goes on
told_grown : (m : Meaning) (fs list : List Fact) (o : Option Known) → list_all (is_kept_fact m) fs ≡ true → ((k : Known) → o ≡ Some k → k.holder ≡ None → fs ≡ []) → IsSomeAnd o (IsTold list) → IsSomeAnd o (IsTold (list ++ fs))
told_grown m fs list None h free t = t
told_grown m fs list (Some k) h free t = record {
  holder_is = t.holder_is ∙ sym (holder_stays m list fs h);
  list_is = λ none. t.list_is none ∙ (sym (append-nil list) ∙ ap (λ l. list ++ l) (sym (free k refl none)));
}

-- What such acts give.

some_by : {A : Type 0} (P : A → Type 0) (o : Option A) (x : A) → o ≡ Some x → IfSome o P → P x
some_by P o x e h = subst (λ z. IfSome z P) e h

whose_after : (st : Node) (acts : List Act) → (fold after st acts).who ≡ st.who
whose_after st [] = refl
whose_after st (a ∷ acts) = whose_after (after st a) acts

module _ (c : Script) (m : Meaning) (st : Node) (acts : List Act) (before : List Item) (set_is : st.entities.set ≡ setting c) (still : list_all (is_still c m st) acts ≡ true) (rests : Rests m c st) where
  now : Node
  now = fold after st acts

  held_now : (s : Slot) → is_slot_of c s ≡ true → held_list s now ≡ grown (adds_all c s acts) (held_list s st)
  unfolding now
  held_now s v = held_all c m st acts s set_is v still

  kept : (s : Slot) → list_all (is_kept_fact m) (adds_all c s acts) ≡ true
  kept s = all_kept c m st s acts still

  -- by what is held of a slot
  tells_at : (lists : SlotLists) (s : Slot) → is_slot_of c s ≡ true → AreInHand c lists st → (o : Option (List Fact)) → held_list s st ≡ o → IsSomeAnd (m.tells s) (IsTold (list_at lists s)) → IsSomeAnd (m.tells s) (IsTold (list_at lists s ++ adds_all c s acts))
  tells_at lists s v hand None e t = subst (λ l. IsSomeAnd (m.tells s) (IsTold (list_at lists s ++ l))) (sym (nowhere c m st s acts e still)) (subst (λ l. IsSomeAnd (m.tells s) (IsTold l)) (sym (append-nil (list_at lists s))) t)
  tells_at lists s v hand (Some list) e t = told_grown m (adds_all c s acts) (list_at lists s) (m.tells s) (kept s) never t
    where
      same : list_at lists s ≡ list
      same = some_by (λ l. list_at lists s ≡ l) (held_list s st) list e (hand s v)

      held : holder (list_at lists s) ≡ Some st.who
      held = ap holder same ∙ some_by (λ l. holder l ≡ Some st.who) (held_list s st) list e (rests.leased_are s v)

      never : (k : Known) → m.tells s ≡ Some k → k.holder ≡ None → adds_all c s acts ≡ []
      never k is none =
          let told : IsTold (list_at lists s) k = subst (λ o. IsSomeAnd o (IsTold (list_at lists s))) is t in
          absurd (true_is_not_false (sym (ap is_some (sym none ∙ (told.holder_is ∙ held)))))

  hand_at : (lists : SlotLists) (s : Slot) → AreThere c lists → is_slot_of c s ≡ true → AreInHand c lists st → (o : Option (List Fact)) → held_list s st ≡ o → IfSome (grown (adds_all c s acts) o) (λ list. list_at (lists_after c lists acts) s ≡ list)
  hand_at lists s full v hand None e = tt
  hand_at lists s full v hand (Some list) e = lists_all c m st lists acts s set_is full v still ∙ ap (λ l. l ++ adds_all c s acts) (some_by (λ l. list_at lists s ≡ l) (held_list s st) list e (hand s v))

  leased_at : (s : Slot) → is_slot_of c s ≡ true → (o : Option (List Fact)) → held_list s st ≡ o → IfSome (grown (adds_all c s acts) o) (λ list. holder list ≡ Some now.who)
  unfolding now
  leased_at s v None e = tt
  leased_at s v (Some list) e = holder_stays m list (adds_all c s acts) (kept s) ∙ (some_by (λ l. holder l ≡ Some st.who) (held_list s st) list e (rests.leased_are s v) ∙ ap (λ x. Some x) (sym (whose_after st acts)))

  left_at : (s : Slot) → is_slot_of c s ≡ true → held_list s st ≡ None → held_list s now ≡ None
  left_at s v free = held_now s v ∙ ap (grown (adds_all c s acts)) free

  who_now : now.who ≡ st.who
  unfolding now
  who_now = whose_after st acts

  node_now : fold after st acts ≡ now
  unfolding now
  node_now = refl

  still_gives : Gave c none (λ lists. acts) (moment m st before) (moment m now (before ++ items_of acts))
  still_gives = record {
    told = acts;
    items_are = refl;
    node_is = sym node_now;
    found = hand_found m c (λ lists. acts) st acts (λ lists. refl);
    alike = λ lists full t h. none_alike c st lists (hand_found m c (λ lists. acts) st acts (λ lists. refl)).lists;
    tells = λ lists full t h s v. subst (λ l. IsSomeAnd (m.tells s) (IsTold l)) (sym (lists_all c m st lists acts s set_is full v still)) (tells_at lists s v h (held_list s st) refl (t s v));
    in_hand = λ lists full t h s v. subst (λ o. IfSome o (λ list. list_at (lists_after c lists acts) s ≡ list)) (sym (held_now s v)) (hand_at lists s full v h (held_list s st) refl);
    left = λ s v e free. record { held_is = left_at s v free; tells_is = refl };
    rests = record {
      script_is = rests.script_is;
      serves_is = subst (λ x. m.serves x ≡ true) (sym who_now) rests.serves_is;
      number_is = subst (λ (x : Incarnation). m.within x.number ≡ true) (sym who_now) rests.number_is;
      admits_is = λ s v q. subst (λ (x : Incarnation). m.admits x.node s ≡ true) (sym who_now) (rests.admits_is s v q);
      held_is = λ s v. ap (λ (x : Incarnation). m.holds x.node s) who_now ∙ (rests.held_is s v ∙ (sym (grown_some (adds_all c s acts) (held_list s st)) ∙ ap is_some (sym (held_now s v))));
      lists_are = λ s v. subst (λ o. IfSome o (IsHandOf m s)) (sym (held_now s v)) (some_grown m s (adds_all c s acts) (held_list s st) (kept s) (rests.lists_are s v));
      leased_are = λ s v. subst (λ o. IfSome o (λ list. holder list ≡ Some now.who)) (sym (held_now s v)) (leased_at s v (held_list s st) refl);
    };
    stays = stays_same m;
    others = λ n s other. refl;
  }

pub still_gave : (c : Script) (m : Meaning) (st to : Node) (acts : List Act) (before items : List Item) → st.entities.set ≡ setting c → list_all (is_still c m st) acts ≡ true → Rests m c st
    → to ≡ fold after st acts → items ≡ before ++ items_of acts → Gave c none (λ lists. acts) (moment m st before) (moment m to items)
still_gave c m st to acts before items set_is still rests to_is items_are =
    subst (λ (z : Node). Gave c none (λ lists. acts) (moment m st before) (moment m z items)) (sym (to_is ∙ node_now c m st acts before set_is still rests))
    (subst (λ is. Gave c none (λ lists. acts) (moment m st before) (moment m (now c m st acts before set_is still rests) is)) (sym items_are) (still_gives c m st acts before set_is still rests))
