-- Entries that are taken one after the other, batch by batch.
use Rattle.std.proofs.Common.{◌≡◌, ◌<◌, ◌≤◌, ℕ, zero, suc, ◌+◌, ◌-◌, sym, ap, ◌∙◌, refl, subst, arith}
use Rattle.std.specs.Prelude.{Bool, true, false, ◌&&◌, List, [], ◌∷◌, ◌++◌, length, take, drop, get_or}
use Rattle.std.specs.List.{list_all}
use Rattle.std.proofs.lemmas.List.{append-nil, append_assoc, take_all, take_more, drop_more, take-append-drop}
use Rattle.std.proofs.lemmas.List.Folds.{list_all-append}
use Rattle.plain_laws.proofs.Booleans.{true_is_not_false, and_both, both, all_replicate}
use Rattle.yard_model.specs.declared.fact.Fact.{Fact}
use Rattle.yard_model.specs.Follow.{each_follows}
use Rattle.yard_model.specs.Lawful.{is_recorded, lawful}
use Rattle.yard_model.specs.Script.{Script, setting}
use Rattle.yard_model.specs.SlotLists.{SlotLists}
use Rattle.yard_model.specs.Trace.{lists_of, lists_step, no_lists, slot_of}
use Rattle.yard_model.proofs.FollowLaws.{follows_more}
use Rattle.yard_laws.proofs.Owns.{lists_more, no_lists_own}
use Rattle.yard_laws.proofs.SafetyLaws.{lawful_of}
use Rattle.fact_lines.specs.Entry.{is_entry}
use Rattle.log_resume.specs.Restored.{IsForeign, are_taken, entries, has_slot, is_taken}
use Rattle.log_resume.specs.Taken.{Stands, Takes, TakesAll}

false_of : (b : Bool) → (b ≡ true → ⊥) → b ≡ false
false_of true h = absurd (h refl)
false_of false h = refl

-- what each of more follows, each of a front follows
follows_front : (may : List Fact → Fact → Bool) (before xs ys : List Fact) → each_follows may before (xs ++ ys) ≡ true → each_follows may before xs ≡ true
follows_front may before [] ys h = refl
follows_front may before (x ∷ xs) ys h =
    let m = and_both (may before x) (each_follows may (before ++ x ∷ []) (xs ++ ys)) h in
    both (may before x) (each_follows may (before ++ x ∷ []) xs) m.0 (follows_front may (before ++ x ∷ []) xs ys m.1)

-- before the first entry
pub none_lawful : (c : Script) → lawful c (no_lists (setting c)) ≡ true
none_lawful c = lawful_of c (no_lists (setting c)) (no_lists_own c) (all_replicate (list_all (is_recorded c (no_lists (setting c)))) c.config.producers [] refl)

pub none_stands : (c : Script) (lists : SlotLists) → lists ≡ no_lists (setting c) → Stands c [] lists
none_stands c lists is = record { each = refl; entries = refl; lists_are = is; lawful_is = ap (lawful c) is ∙ none_lawful c }

-- the test of one more entry is that of the lists with it
more_is : (c : Script) (facts : List Fact) (lists : SlotLists) (f : Fact) → lists ≡ lists_of (setting c) facts
    → (has_slot c (slot_of (setting c) f) && lawful c (lists_step (setting c) lists f)) ≡ is_taken c facts f
more_is c facts lists f is =
    ap (λ l. has_slot c (slot_of (setting c) f) && lawful c l) (ap (λ l. lists_step (setting c) l f) is ∙ sym (lists_more c facts f))

module _ (c : Script) (facts : List Fact) (lists : SlotLists) (f : Fact) (new : SlotLists) (stands : Stands c facts lists) where
  pub stands_more : is_entry f ≡ true → Takes c lists f true new → Stands c (facts ++ f ∷ []) new
  stands_more entry t =
      let next : is_taken c facts f ≡ true = sym (t.answer ∙ more_is c facts lists f stands.lists_are) in
      let after : new ≡ lists_of (setting c) (facts ++ f ∷ []) = t.lists_are ∙ (ap (λ l. lists_step (setting c) l f) stands.lists_are ∙ sym (lists_more c facts f)) in
      record {
        each = follows_more (is_taken c) [] facts f ∙ both (are_taken c facts) (is_taken c facts f) stands.each next;
        entries = list_all-append is_entry facts (f ∷ []) ∙ both (list_all is_entry facts) (is_entry f && true) stands.entries (both (is_entry f) true entry refl);
        lists_are = after;
        lawful_is = ap (lawful c) after ∙ (and_both (has_slot c (slot_of (setting c) f)) (lawful c (lists_of (setting c) (facts ++ f ∷ []))) next).1;
      }

  pub taken_not : (rest : List Fact) → Takes c lists f false new → are_taken c (facts ++ f ∷ rest) ≡ false
  taken_not rest t =
      let next : is_taken c facts f ≡ false = sym (t.answer ∙ more_is c facts lists f stands.lists_are) in
      false_of (are_taken c (facts ++ f ∷ rest)) (λ (e : are_taken c (facts ++ f ∷ rest) ≡ true).
      let front : are_taken c (facts ++ f ∷ []) ≡ true = follows_front (is_taken c) [] (facts ++ f ∷ []) rest (ap (are_taken c) (append_assoc facts (f ∷ []) rest) ∙ e) in
      let last : is_taken c facts f ≡ true = (and_both (are_taken c facts) (is_taken c facts f) (sym (follows_more (is_taken c) [] facts f) ∙ front)).1 in
      true_is_not_false (sym last ∙ next))

pub takes_as : {a : Bool} (b : Bool) (s t : Script) (lists : SlotLists) (f : Fact) (new : SlotLists) → s ≡ t → a ≡ b → Takes s lists f a new → Takes t lists f b new
takes_as b s t lists f new script is it = subst (λ x. Takes x lists f b new) script (subst (λ d. Takes s lists f d new) is it)

-- one entry more of a batch
module _ (c : Script) (before facts : List Fact) (i : ℕ) (f : Fact) (inside : i < length facts) (is : f ≡ get_or facts i f) (lists new : SlotLists) (stands : Stands c (before ++ take i facts) lists) where
  pub batch_more : is_entry f ≡ true → Takes c lists f true new → Stands c (before ++ take (i + 1) facts) new
  batch_more entry t =
      let longer : before ++ take (i + 1) facts ≡ (before ++ take i facts) ++ f ∷ [] =
      ap (λ l. before ++ l) (take_more facts i f inside ∙ ap (λ x. take i facts ++ x ∷ []) (sym is)) ∙ sym (append_assoc before (take i facts) (f ∷ [])) in
      subst (λ l. Stands c l new) (sym longer) (stands_more c (before ++ take i facts) lists f new stands entry t)

  pub batch_not : Takes c lists f false new → are_taken c (before ++ facts) ≡ false
  batch_not t =
      let left : drop i facts ≡ f ∷ drop (i + 1) facts = drop_more facts i f inside ∙ ap (λ x. x ∷ drop (i + 1) facts) (sym is) in
      let whole : before ++ facts ≡ (before ++ take i facts) ++ (f ∷ drop (i + 1) facts) =
      ap (λ l. before ++ l) (sym (take-append-drop i facts) ∙ ap (λ l. take i facts ++ l) left) ∙ sym (append_assoc before (take i facts) (f ∷ drop (i + 1) facts)) in
      ap (are_taken c) whole ∙ taken_not c (before ++ take i facts) lists f new stands (drop (i + 1) facts) t

-- batches one after the other
flat_both : (xs ys : List (List Fact)) → entries (xs ++ ys) ≡ entries xs ++ entries ys
flat_both [] ys = refl
flat_both (x ∷ xs) ys = ap (λ l. x ++ l) (flat_both xs ys) ∙ sym (append_assoc x (entries xs) (entries ys))

-- where one may not stand, not all may
pub not_whole : (c : Script) (batches : List (List Fact)) (k : ℕ) → IsForeign c batches k → are_taken c (entries batches) ≡ true → ⊥
not_whole c batches k f whole =
    let cut : entries (take k batches) ++ entries (drop k batches) ≡ entries batches = sym (flat_both (take k batches) (drop k batches)) ∙ ap entries (take-append-drop k batches) in
    let front : are_taken c (entries (take k batches)) ≡ true = follows_front (is_taken c) [] (entries (take k batches)) (entries (drop k batches)) (ap (are_taken c) cut ∙ whole) in
    true_is_not_false (sym front ∙ f.with_it)

pub entries_more : (batches : List (List Fact)) (k : ℕ) → k < length batches → entries (take (k + 1) batches) ≡ entries (take k batches) ++ get_or batches k []
entries_more batches k inside =
    ap entries (take_more batches k [] inside) ∙ (flat_both (take k batches) (get_or batches k [] ∷ []) ∙ ap (λ l. entries (take k batches) ++ l) (append-nil (get_or batches k [])))

pub entries_all : (batches : List (List Fact)) (k : ℕ) → length batches ≤ k → entries (take k batches) ≡ entries batches
entries_all batches k le = ap entries (take_all k batches le)

module _ (c : Script) (batches : List (List Fact)) (k : ℕ) (inside : k < length batches) (lists new : SlotLists) (stands : Stands c (entries (take k batches)) lists) (facts : List Fact) (is : facts ≡ get_or batches k []) where
  together : entries (take (k + 1) batches) ≡ entries (take k batches) ++ facts
  together = entries_more batches k inside ∙ ap (λ l. entries (take k batches) ++ l) (sym is)

  pub next_batch : TakesAll c (entries (take k batches)) facts true new → Stands c (entries (take (k + 1) batches)) new
  next_batch t = subst (λ l. Stands c l new) (sym together) (t.yes refl)

  pub foreign : TakesAll c (entries (take k batches)) facts false new → IsForeign c batches (k + 1)
  foreign t = record {
    first = omega arith;
    there = omega (arith, inside);
    before = let same : k + 1 - 1 ≡ k = omega arith in ap (λ n. are_taken c (entries (take n batches))) same ∙ stands.each;
    with_it = ap (are_taken c) together ∙ t.no refl;
  }

-- each of a list of entries is one
pub entry_at : (facts : List Fact) (i : ℕ) (f : Fact) → i < length facts → f ≡ get_or facts i f → list_all is_entry facts ≡ true → is_entry f ≡ true
entry_at [] i f inside is each = absurd (omega (arith, inside))
entry_at (x ∷ xs) zero f inside is each = ap is_entry is ∙ (and_both (is_entry x) (list_all is_entry xs) each).0
entry_at (x ∷ xs) (suc i) f inside is each = entry_at xs i f (omega (arith, inside)) is (and_both (is_entry x) (list_all is_entry xs) each).1
