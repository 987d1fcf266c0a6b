-- What is held at the end of a log is freed.
use Rattle.std.proofs.Common.{◌≡◌, ◌<◌, ◌≤◌, ℕ, zero, suc, ◌+◌, ◌-◌, sym, ap, ◌∙◌, refl, subst, arith}
use Rattle.std.specs.Prelude.{Bool, true, false, ◌==◌, ◌&&◌, List, [], ◌∷◌, ◌++◌, map, fold, is_some, Some, if◌then◌else◌}
use Rattle.std.specs.List.{list_all}
use Rattle.std.proofs.lemmas.List.Folds.{list_all-append}
use Rattle.std.proofs.lemmas.List.{map_push}
use Rattle.std.proofs.lemmas.List.Sums.{fold-append, fold_push}
use Rattle.plain_laws.proofs.Booleans.{and_both, below, both, get_replicate, is_below, number_itself, other_number, same_number, within}
use Rattle.yard_model.specs.declared.fact.Fact.{Fact}
use Rattle.yard_model.specs.declared.fact.Fact.TheVariants as fact
use Rattle.yard_model.specs.declared.incarnation.Cause.TheVariants as cause
use Rattle.yard_model.specs.declared.incarnation.Slot.{Slot}
use Rattle.yard_model.specs.declared.incarnation.Slot.TheVariants as slot
use Rattle.yard_model.specs.Equal.{is_slot}
use Rattle.yard_model.specs.Genuine.{is_slot_of}
use Rattle.yard_model.specs.Lawful.{is_entry, is_held, is_leased, lawful, may_follow}
use Rattle.yard_model.specs.Script.{Script, setting}
use Rattle.yard_model.specs.Setting.{producers, shards}
use Rattle.yard_model.specs.SlotLists.{SlotLists}
use Rattle.yard_model.specs.SlotReads.{epoch, holder, holder_step}
use Rattle.yard_model.specs.Trace.{list_at, lists_step, no_lists, slot_of, with_entry}
use Rattle.yard_model.specs.Words.{numbers}
use Rattle.yard_laws.proofs.Live.{holder_more}
use Rattle.yard_laws.proofs.Owns.{may_enter, owns_more, producer_above, producer_within}
use Rattle.yard_laws.proofs.Recorded.{there_more}
use Rattle.yard_laws.proofs.SafetyLaws.{lawful_of, owns_of}
use Rattle.node_laws.proofs.Holding.{entered_at}
use Rattle.fact_lines.specs.Entry as lines
use Rattle.log_resume.specs.Restored.{MayGoOn, freed, is_numbered, slots}
use Rattle.log_resume.specs.Taken.{Stands}
use Rattle.log_resume.proofs.EntryLaws.{entry_numbered}
use Rattle.log_resume.proofs.StepLaws.{list_more}

abbrev pub free_of : SlotLists → Slot → Fact
free_of lists s = fact.Freed s (epoch (list_at lists s)) cause.Stopped

-- a slot is the same as itself, which the equality of slots has
abbrev pub Itself : Type 0
Itself = (s : Slot) → is_slot s s ≡ true

-- a held slot may be freed
slot_itself : Itself → (c : Script) (list : List Fact) (s : Slot) (n : ℕ) → is_entry c s list (fact.Freed s n cause.Stopped) ≡ true
slot_itself same c list (slot.Shard s) n = same (slot.Shard s)
slot_itself same c list slot.Coordinator n = same slot.Coordinator
slot_itself same c list (slot.Queue p) n = same (slot.Queue p)

pub may_free : Itself → (c : Script) (lists : SlotLists) (s : Slot) → is_slot_of c s ≡ true → is_held (list_at lists s) ≡ true → may_enter c lists (free_of lists s) (Some s) ≡ true
may_free same c lists s h held =
    let list : List Fact = list_at lists s in
    both (is_slot_of c s) (may_follow c s list (free_of lists s)) h
    (both (is_leased list (free_of lists s)) (is_entry c s list (free_of lists s))
    (both (is_held list) (epoch list == epoch list) held (number_itself (epoch list) (epoch list) refl)) (slot_itself same c list s (epoch list)))

pub freed_law : Itself → (c : Script) (lists : SlotLists) (s : Slot) → is_slot_of c s ≡ true → lawful c lists ≡ true → lawful c (freed lists s) ≡ true
freed_law same c lists s h law = by (is_held (list_at lists s)) refl
  where
    by : (b : Bool) → is_held (list_at lists s) ≡ b → lawful c (if b then with_entry (free_of lists s) lists (Some s) else lists) ≡ true
    by true held =
        let k = owns_of c lists law in
        lawful_of c (with_entry (free_of lists s) lists (Some s)) (owns_more c lists (free_of lists s) (Some s) k.0 (may_free same c lists s h held)) (there_more c lists (free_of lists s) (Some s) k.1 refl)
    by false held = law

-- what a slot's list keeps
freed_keeps : (P : List Fact → Type 0) (lists : SlotLists) (s t : Slot) → ((l : List Fact) (f : Fact) → f ≡ free_of lists s → P l → P (l ++ f ∷ [])) → P (list_at lists t) → P (list_at (freed lists s) t)
freed_keeps P lists s t step old = by (is_held (list_at lists s))
  where
    by : (b : Bool) → P (list_at (if b then with_entry (free_of lists s) lists (Some s) else lists) t)
    by true = entered_at P lists (free_of lists s) (Some s) t old (step (list_at lists t) (free_of lists s) refl old)
    by false = old

none_more : (l : List Fact) (f : Fact) (lists : SlotLists) (s : Slot) → f ≡ free_of lists s → is_held (l ++ f ∷ []) ≡ false
none_more l f lists s is = ap is_some (holder_more l f) ∙ ap (λ g. is_some (holder_step (holder l) g)) is

unheld_stays : (lists : SlotLists) (s t : Slot) → is_held (list_at lists t) ≡ false → is_held (list_at (freed lists s) t) ≡ false
unheld_stays lists s t = freed_keeps (λ l. is_held l ≡ false) lists s t (λ l f is old. none_more l f lists s is)

freed_here : (c : Script) (lists : SlotLists) (s : Slot) → is_slot_of c s ≡ true → lawful c lists ≡ true → is_held (list_at (freed lists s) s) ≡ false
freed_here c lists s h law = by (is_held (list_at lists s)) refl
  where
    by : (b : Bool) → is_held (list_at lists s) ≡ b → is_held (list_at (if b then with_entry (free_of lists s) lists (Some s) else lists) s) ≡ false
    by true held =
        ap is_held (list_more c lists (free_of lists s) s (owns_of c lists law).0 h) ∙ none_more (list_at lists s) (free_of lists s) lists s refl
    by false held = held

-- slots one after the other
stays_all : (xs : List Slot) (lists : SlotLists) (t : Slot) → is_held (list_at lists t) ≡ false → is_held (list_at (fold freed lists xs) t) ≡ false
stays_all [] lists t none = none
stays_all (s ∷ xs) lists t none = stays_all xs (freed lists s) t (unheld_stays lists s t none)

-- each of these is a slot of the script
abbrev are_slots : Script → List Slot → Bool
are_slots c xs = list_all (is_slot_of c) xs

law_all : Itself → (c : Script) (xs : List Slot) (lists : SlotLists) → are_slots c xs ≡ true → lawful c lists ≡ true → lawful c (fold freed lists xs) ≡ true
law_all same c [] lists h law = law
law_all same c (s ∷ xs) lists h law = let m = and_both (is_slot_of c s) (are_slots c xs) h in law_all same c xs (freed lists s) m.1 (freed_law same c lists s m.0 law)

-- one after the other of a kind
unheld_of : Itself → (c : Script) (f : ℕ → Slot) (a n k : ℕ) (lists : SlotLists) → a ≤ k → k < a + n → are_slots c (map f (numbers a n)) ≡ true → lawful c lists ≡ true
    → is_held (list_at (fold freed lists (map f (numbers a n))) (f k)) ≡ false
unheld_of same c f a zero k lists low high h law = absurd (omega (arith, low, high))
unheld_of same c f a (suc n) k lists low high h law =
    let m = and_both (is_slot_of c (f a)) (are_slots c (map f (numbers (a + 1) n))) h in
    by (k == a) refl m.0 (λ (other : k ≡ a → ⊥). unheld_of same c f (a + 1) n k (freed lists (f a)) (omega (arith, low, other)) (omega (arith, high)) m.1 (freed_law same c lists (f a) m.0 law))
  where
    by : (b : Bool) → (k == a) ≡ b → is_slot_of c (f a) ≡ true → ((k ≡ a → ⊥) → is_held (list_at (fold freed (freed lists (f a)) (map f (numbers (a + 1) n))) (f k)) ≡ false)
        → is_held (list_at (fold freed (freed lists (f a)) (map f (numbers (a + 1) n))) (f k)) ≡ false
    by true e first rest = stays_all (map f (numbers (a + 1) n)) (freed lists (f a)) (f k)
        (subst (λ j. is_held (list_at (freed lists (f a)) (f j)) ≡ false) (sym (same_number k a e)) (freed_here c lists (f a) first law))
    by false e first rest = rest (other_number k a e)

slots_of : (c : Script) (f : ℕ → Slot) (a n : ℕ) → ((k : ℕ) → a ≤ k → k < a + n → is_slot_of c (f k) ≡ true) → are_slots c (map f (numbers a n)) ≡ true
slots_of c f a zero h = refl
slots_of c f a (suc n) h =
    both (is_slot_of c (f a)) (are_slots c (map f (numbers (a + 1) n))) (h a (omega arith) (omega arith)) (slots_of c f (a + 1) n (λ k low high. h k (omega (arith, low)) (omega (arith, high))))

shard_slots : (c : Script) → are_slots c (map slot.Shard (shards (setting c))) ≡ true
shard_slots c = slots_of c slot.Shard 0 c.config.shards (λ k low high. is_below k c.config.shards (omega (arith, high)))

queue_slots : (c : Script) → are_slots c (map slot.Queue (producers (setting c))) ≡ true
queue_slots c = slots_of c slot.Queue 1 c.config.producers (λ k low high. both _ _ (within 1 k low) (within k c.config.producers (omega (arith, high))))

module _ (same : Itself) (c : Script) (lists : SlotLists) (law : lawful c lists ≡ true) where
  abbrev first : SlotLists
  first = fold freed lists (map slot.Shard (shards (setting c)))

  abbrev second : SlotLists
  second = freed first slot.Coordinator

  first_law : lawful c first ≡ true
  first_law = law_all same c (map slot.Shard (shards (setting c))) lists (shard_slots c) law

  second_law : lawful c second ≡ true
  second_law = freed_law same c first slot.Coordinator refl first_law

  pub all_freed : fold freed lists (slots c) ≡ fold freed second (map slot.Queue (producers (setting c)))
  all_freed = fold-append freed lists (map slot.Shard (shards (setting c))) (slot.Coordinator ∷ map slot.Queue (producers (setting c)))

  pub all_law : lawful c (fold freed lists (slots c)) ≡ true
  all_law = ap (lawful c) all_freed ∙ law_all same c (map slot.Queue (producers (setting c))) second (queue_slots c) second_law

  none_held : (s : Slot) → is_slot_of c s ≡ true → is_held (list_at (fold freed second (map slot.Queue (producers (setting c)))) s) ≡ false
  none_held (slot.Shard s) h =
      stays_all (map slot.Queue (producers (setting c))) second (slot.Shard s) (unheld_stays first slot.Coordinator (slot.Shard s)
      (unheld_of same c slot.Shard 0 c.config.shards s lists (omega arith) (let l : s < c.config.shards = below s c.config.shards h in omega (arith, l)) (shard_slots c) law))
  none_held slot.Coordinator h = stays_all (map slot.Queue (producers (setting c))) second slot.Coordinator (freed_here c first slot.Coordinator refl first_law)
  none_held (slot.Queue p) h =
      unheld_of same c slot.Queue 1 c.config.producers p second (let a : 0 < p = producer_above c p h in omega (arith, a)) (let l : p ≤ c.config.producers = producer_within c p h in omega (arith, l)) (queue_slots c) second_law

  pub all_unheld : (s : Slot) → is_slot_of c s ≡ true → is_held (list_at (fold freed lists (slots c)) s) ≡ false
  all_unheld s h = ap (λ l. is_held (list_at l s)) all_freed ∙ none_held s h

-- numbers
numbered_more : (l : List Fact) (f : Fact) → list_all is_numbered l ≡ true → is_numbered f ≡ true → list_all is_numbered (l ++ f ∷ []) ≡ true
numbered_more l f old new = list_all-append is_numbered l (f ∷ []) ∙ both (list_all is_numbered l) (is_numbered f && true) old (both (is_numbered f) true new refl)

numbered_from : (c : Script) (facts : List Fact) (lists : SlotLists) → ((s : Slot) → list_all is_numbered (list_at lists s) ≡ true) → list_all lines.is_entry facts ≡ true
    → (s : Slot) → list_all is_numbered (list_at (fold (lists_step (setting c)) lists facts) s) ≡ true
numbered_from c [] lists h each = h
numbered_from c (f ∷ facts) lists h each =
    let m = and_both (lines.is_entry f) (list_all lines.is_entry facts) each in
    numbered_from c facts (lists_step (setting c) lists f)
    (λ s. entered_at (λ l. list_all is_numbered l ≡ true) lists f (slot_of (setting c) f) s (h s) (numbered_more (list_at lists s) f (h s) (entry_numbered f m.0))) m.1

none_numbered : (c : Script) (s : Slot) → list_all is_numbered (list_at (no_lists (setting c)) s) ≡ true
none_numbered c (slot.Shard s) = ap (list_all is_numbered) (get_replicate c.config.shards s [])
none_numbered c slot.Coordinator = refl
none_numbered c (slot.Queue p) = ap (list_all is_numbered) (get_replicate c.config.producers (p - 1) [])

numbered_freed : (xs : List Slot) (lists : SlotLists) (t : Slot) → list_all is_numbered (list_at lists t) ≡ true → list_all is_numbered (list_at (fold freed lists xs) t) ≡ true
numbered_freed [] lists t h = h
numbered_freed (s ∷ xs) lists t h =
    numbered_freed xs (freed lists s) t (freed_keeps (λ l. list_all is_numbered l ≡ true) lists s t (λ l f is old. numbered_more l f old (ap is_numbered is)) h)

-- what a log comes to may go on
pub goes_on : Itself → (c : Script) (facts : List Fact) (lists new : SlotLists) → Stands c facts lists → new ≡ fold freed lists (slots c) → MayGoOn c new
goes_on same c facts lists new stands is = record {
  lawful_is = ap (lawful c) is ∙ all_law same c lists stands.lawful_is;
  unheld = λ s h. ap (λ l. is_held (list_at l s)) is ∙ all_unheld same c lists stands.lawful_is s h;
  numbered = λ s h. ap (λ l. list_all is_numbered (list_at l s)) is ∙ numbered_freed (slots c) lists s
      (ap (λ l. list_all is_numbered (list_at l s)) stands.lists_are ∙ numbered_from c facts (no_lists (setting c)) (none_numbered c) stands.entries s);
}

-- what freeing a slot does
pub freed_none : (lists : SlotLists) (s : Slot) → is_held (list_at lists s) ≡ false → lists ≡ freed lists s
freed_none lists s none = sym (ap (λ b. if b then with_entry (free_of lists s) lists (Some s) else lists) none)

pub freed_one : Itself → (c : Script) (lists new : SlotLists) (s : Slot) (n : ℕ) (done : Bool) → is_slot_of c s ≡ true → is_held (list_at lists s) ≡ true → n ≡ epoch (list_at lists s)
    → done ≡ may_enter c lists (fact.Freed s n cause.Stopped) (Some s) → new ≡ (if done then with_entry (fact.Freed s n cause.Stopped) lists (Some s) else lists) → new ≡ freed lists s
freed_one same c lists new s n done h held is answer lists_is =
    let f : fact.Freed s n cause.Stopped ≡ free_of lists s = ap (λ k. fact.Freed s k cause.Stopped) is in
    let yes : done ≡ true = answer ∙ (ap (λ x. may_enter c lists x (Some s)) f ∙ may_free same c lists s h held) in
    lists_is ∙ (ap (λ b. if b then with_entry (fact.Freed s n cause.Stopped) lists (Some s) else lists) yes
    ∙ (ap (λ x. with_entry x lists (Some s)) f ∙ sym (ap (λ b. if b then with_entry (free_of lists s) lists (Some s) else lists) held)))

pub freed_steps : (c : Script) (f : ℕ → Slot) (a n : ℕ) (lists now new : SlotLists) (s : Slot) → now ≡ fold freed lists (map f (numbers a n)) → s ≡ f (a + n) → new ≡ freed now s → new ≡ fold freed lists (map f (numbers a (n + 1)))
freed_steps c f a n lists now new s now_is s_is new_is =
    new_is ∙ (ap (λ x. freed now x) s_is ∙ (ap (λ l. freed l (f (a + n))) now_is ∙ (sym (fold_push freed lists (map f (numbers a n)) (f (a + n)))
    ∙ ap (fold freed lists) (sym (map_push f (numbers a n) (a + n)) ∙ ap (map f) (sym (numbers_last a n))))))
  where
    numbers_last : (a n : ℕ) → numbers a (n + 1) ≡ numbers a n ++ (a + n) ∷ []
    numbers_last a zero = let e : a ≡ a + 0 = omega arith in ap (λ k. k ∷ []) e
    numbers_last a (suc n) =
        let more : numbers (a + 1) (n + 1) ≡ numbers (a + 1) n ++ (a + 1 + n) ∷ [] = numbers_last (a + 1) n in
        let next : numbers a (suc n + 1) ≡ a ∷ numbers (a + 1) (n + 1) = let k : suc n + 1 ≡ suc (n + 1) = omega arith in ap (numbers a) k in
        let same : a + 1 + n ≡ a + suc n = omega arith in
        next ∙ (ap (λ l. a ∷ l) more ∙ ap (λ k. (a ∷ numbers (a + 1) n) ++ k ∷ []) same)

-- shards, the coordinator, queues
pub three_freed : (c : Script) (lists mid last new : SlotLists) (n m : ℕ) → n ≡ c.config.shards → m ≡ c.config.producers → mid ≡ fold freed lists (map slot.Shard (numbers 0 n)) → last ≡ freed mid slot.Coordinator
    → new ≡ fold freed last (map slot.Queue (numbers 1 m)) → new ≡ fold freed lists (slots c)
three_freed c lists mid last new n m n_is m_is one two three =
    three ∙ (ap (λ k. fold freed last (map slot.Queue (numbers 1 k))) m_is
    ∙ (ap (λ l. fold freed l (map slot.Queue (producers (setting c)))) (two ∙ ap (λ l. freed l slot.Coordinator) (one ∙ ap (λ k. fold freed lists (map slot.Shard (numbers 0 k))) n_is))
    ∙ sym (fold-append freed lists (map slot.Shard (shards (setting c))) (slot.Coordinator ∷ map slot.Queue (producers (setting c))))))
