-- What is held at the end of a log is noted.
use Rattle.std.proofs.Common.{◌≡◌, ◌≤◌, ℕ, zero, suc, ◌+◌, ◌-◌, sym, ap, ◌∙◌, refl, subst, arith}
use Rattle.std.specs.Prelude.{true, false, List, [], ◌∷◌, ◌++◌, map, if◌then◌else◌}
use Rattle.std.specs.List.{flat_map}
use Rattle.std.proofs.lemmas.List.{append-nil, append_assoc}
use Rattle.std.proofs.lemmas.List.Concat.{flat_map-append}
use Rattle.yard_model.specs.declared.fact.Fact.{Fact}
use Rattle.yard_model.specs.declared.fact.Fact.TheVariants as fact
use Rattle.yard_model.specs.declared.incarnation.Cause.TheVariants as cause
use Rattle.yard_model.specs.declared.incarnation.Slot.{Slot}
use Rattle.yard_model.specs.declared.incarnation.Slot.TheVariants as slot
use Rattle.yard_model.specs.Lawful.{is_held}
use Rattle.yard_model.specs.Script.{Script, setting}
use Rattle.yard_model.specs.Setting.{producers, shards}
use Rattle.yard_model.specs.SlotLists.{SlotLists}
use Rattle.yard_model.specs.SlotReads.{epoch}
use Rattle.yard_model.specs.Trace.{list_at}
use Rattle.yard_model.specs.Words.{numbers}
use Rattle.log_resume.specs.Left.{IsBegun, free_if, frees}

-- A slot.

pub none_noted : (lists : SlotLists) (s : Slot) (old : List Fact) → is_held (list_at lists s) ≡ false → old ≡ old ++ free_if lists s
none_noted lists s old none = sym (append-nil old) ∙ ap (λ b. old ++ (if b then fact.Freed s (epoch (list_at lists s)) cause.Stopped ∷ [] else [])) (sym none)

pub one_noted : (lists : SlotLists) (s : Slot) (n : ℕ) (old new : List Fact) → is_held (list_at lists s) ≡ true → n ≡ epoch (list_at lists s) → new ≡ old ++ fact.Freed s n cause.Stopped ∷ [] → new ≡ old ++ free_if lists s
one_noted lists s n old new held is new_is =
    new_is ∙ (ap (λ k. old ++ fact.Freed s k cause.Stopped ∷ []) is ∙ ap (λ b. old ++ (if b then fact.Freed s (epoch (list_at lists s)) cause.Stopped ∷ [] else [])) (sym held))

-- A front of what is to stand there.

pub none_begun : (old all new : List Fact) → new ≡ old → IsBegun old all new
none_begun old all new is = record { front = []; rest = all; all_are = refl; new_is = is ∙ sym (append-nil old) }

pub begun_whole : (old xs ys new : List Fact) → new ≡ old ++ xs → IsBegun old (xs ++ ys) new
begun_whole old xs ys new is = record { front = xs; rest = ys; all_are = refl; new_is = is }

pub begun_first : (old xs ys new : List Fact) → IsBegun old xs new → IsBegun old (xs ++ ys) new
begun_first old xs ys new b = record { front = b.front; rest = b.rest ++ ys; all_are = ap (λ l. l ++ ys) b.all_are ∙ append_assoc b.front b.rest ys; new_is = b.new_is }

pub begun_next : (old xs mid ys new : List Fact) → mid ≡ old ++ xs → IsBegun mid ys new → IsBegun old (xs ++ ys) new
begun_next old xs mid ys new is b = record {
  front = xs ++ b.front;
  rest = b.rest;
  all_are = ap (λ l. xs ++ l) b.all_are ∙ sym (append_assoc xs b.front b.rest);
  new_is = b.new_is ∙ (ap (λ l. l ++ b.front) is ∙ append_assoc old xs b.front);
}

-- Slots of a kind, one after the other.

module _ (lists : SlotLists) (f : ℕ → Slot) (a : ℕ) where
  abbrev pub noted : ℕ → List Fact
  noted n = flat_map (free_if lists) (map f (numbers a n))

  numbers_split : (g : ℕ → Slot) (b n m : ℕ) → flat_map (free_if lists) (map g (numbers b (n + m))) ≡ flat_map (free_if lists) (map g (numbers b n)) ++ flat_map (free_if lists) (map g (numbers (b + n) m))
  numbers_split g b zero m = let i : b + 0 ≡ b = omega arith in let j : 0 + m ≡ m = omega arith in ap (λ k. flat_map (free_if lists) (map g (numbers b k))) j ∙ ap (λ k. flat_map (free_if lists) (map g (numbers k m))) (sym i)
  numbers_split g b (suc n) m =
      let i : suc n + m ≡ suc (n + m) = omega arith in
      let j : b + 1 + n ≡ b + suc n = omega arith in
      ap (λ k. flat_map (free_if lists) (map g (numbers b k))) i
      ∙ (ap (λ l. free_if lists (g b) ++ l) (numbers_split g (b + 1) n m ∙ ap (λ k. flat_map (free_if lists) (map g (numbers (b + 1) n)) ++ flat_map (free_if lists) (map g (numbers k m))) j)
      ∙ sym (append_assoc (free_if lists (g b)) (flat_map (free_if lists) (map g (numbers (b + 1) n))) (flat_map (free_if lists) (map g (numbers (b + suc n) m)))))

  pub noted_more : (n : ℕ) (s : Slot) (old mid new : List Fact) → mid ≡ old ++ noted n → s ≡ f (a + n) → new ≡ mid ++ free_if lists s → new ≡ old ++ noted (n + 1)
  noted_more n s old mid new mid_is s_is new_is =
      new_is ∙ (ap (λ x. mid ++ free_if lists x) s_is ∙ (ap (λ l. l ++ free_if lists (f (a + n))) mid_is ∙ (append_assoc old (noted n) (free_if lists (f (a + n)))
      ∙ ap (λ l. old ++ l) (ap (λ l. noted n ++ l) (sym (append-nil (free_if lists (f (a + n))))) ∙ sym (numbers_split f a n 1)))))

  pub noted_front : (n m : ℕ) (old new : List Fact) → n ≤ m → new ≡ old ++ noted n → IsBegun old (noted m) new
  noted_front n m old new le is =
      let whole : n + (m - n) ≡ m = omega (arith, le) in
      subst (λ k. IsBegun old (noted k) new) whole
      (subst (λ l. IsBegun old l new) (sym (numbers_split f a n (m - n))) (begun_whole old (noted n) (flat_map (free_if lists) (map f (numbers (a + n) (m - n)))) new is))

-- All slots.

module _ (c : Script) (lists : SlotLists) (n m : ℕ) (n_is : n ≡ c.config.shards) (m_is : m ≡ c.config.producers) where
  abbrev first : List Fact
  first = flat_map (free_if lists) (map slot.Shard (numbers 0 n))

  abbrev last : List Fact
  last = flat_map (free_if lists) (map slot.Queue (numbers 1 m))

  three_are : first ++ (free_if lists slot.Coordinator ++ last) ≡ frees c lists
  three_are =
      ap (λ k. flat_map (free_if lists) (map slot.Shard (numbers 0 k)) ++ (free_if lists slot.Coordinator ++ flat_map (free_if lists) (map slot.Queue (numbers 1 m)))) n_is
      ∙ (ap (λ k. flat_map (free_if lists) (map slot.Shard (shards (setting c))) ++ (free_if lists slot.Coordinator ++ flat_map (free_if lists) (map slot.Queue (numbers 1 k)))) m_is
      ∙ sym (flat_map-append (free_if lists) (map slot.Shard (shards (setting c))) (slot.Coordinator ∷ map slot.Queue (producers (setting c)))))

  pub three_noted : (old mid then_are new : List Fact) → mid ≡ old ++ first → then_are ≡ mid ++ free_if lists slot.Coordinator → new ≡ then_are ++ last → new ≡ old ++ frees c lists
  three_noted old mid then_are new one two three =
      three ∙ (ap (λ l. l ++ last) (two ∙ ap (λ l. l ++ free_if lists slot.Coordinator) one)
      ∙ (append_assoc (old ++ first) (free_if lists slot.Coordinator) last ∙ (append_assoc old first (free_if lists slot.Coordinator ++ last) ∙ ap (λ l. old ++ l) three_are)))

  pub first_begun : (old new : List Fact) → IsBegun old first new → IsBegun old (frees c lists) new
  first_begun old new b = subst (λ l. IsBegun old l new) three_are (begun_first old first (free_if lists slot.Coordinator ++ last) new b)

  pub second_begun : (old mid new : List Fact) → mid ≡ old ++ first → new ≡ mid → IsBegun old (frees c lists) new
  second_begun old mid new one is = subst (λ l. IsBegun old l new) three_are (begun_whole old first (free_if lists slot.Coordinator ++ last) new (is ∙ one))

  pub third_begun : (old mid then_are new : List Fact) → mid ≡ old ++ first → then_are ≡ mid ++ free_if lists slot.Coordinator → IsBegun then_are last new → IsBegun old (frees c lists) new
  third_begun old mid then_are new one two b =
      subst (λ l. IsBegun old l new) three_are
      (begun_next old first mid (free_if lists slot.Coordinator ++ last) new one (begun_next mid (free_if lists slot.Coordinator) then_are last new two b))
