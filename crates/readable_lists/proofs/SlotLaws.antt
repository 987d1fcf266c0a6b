-- Slot by slot, lists are read off their text.
use Rattle.std.proofs.Common.{◌≡◌, ◌<◌, ◌≤◌, ℕ, ◌+◌, ◌^◌, sym, ap, ◌∙◌, refl, subst, arith}
use Rattle.std.specs.Prelude.{List, [], ◌∷◌, ◌++◌, length, codes, decimal, Option, Some, None}
use Rattle.std.specs.List.{flat_map}
use Rattle.std.proofs.lemmas.List.{append_assoc}
use Rattle.yard_model.specs.declared.fact.Fact.{Fact}
use Rattle.yard_model.specs.declared.incarnation.Slot.{Slot}
use Rattle.yard_model.specs.declared.incarnation.Slot.TheVariants as slot
use Rattle.yard_model.specs.Text.{fact_line, line, slot_lines, slot_text, words}
use Rattle.fact_lines.specs.Readable.{FitsSlot}
use Rattle.fact_lines.specs.Reads.{and_then, line_at, number_at, slot_at, text_at}
use Rattle.fact_lines.proofs.NumberLaws.{none_some, number_read}
use Rattle.fact_lines.proofs.PartLaws.{slot_read}
use Rattle.readable_lists.specs.Readable.{IsReadableList}
use Rattle.readable_lists.proofs.EntryLaws.{entries_tell}

-- The line of a slot with its length.

-- the greatest length
abbrev greatest : ℕ
greatest = 18446744073709551615

-- the slot whose line stands at the front, and the bytes behind that line
abbrev pub header_at : List ℕ → Option (Slot × List ℕ)
header_at text =
    and_then (text_at (codes "slot ") text) (λ a.
    and_then (slot_at a) (λ s.
    and_then (text_at (32 ∷ []) s.1) (λ b.
    and_then (number_at greatest b) (λ n.
    and_then (text_at (10 ∷ []) n.1) (λ rest. Some (s.0, rest))))))

abbrev header_words : Slot → ℕ → List (List ℕ)
header_words s n = codes "slot" ∷ slot_text s ∷ decimal n ∷ []

header_is : (s : Slot) (n : ℕ) (rest : List ℕ) → line (header_words s n) ++ rest ≡ codes "slot " ++ (slot_text s ++ (32 ∷ (decimal n ++ (10 ∷ rest))))
header_is s n rest =
    append_assoc (words (header_words s n)) (10 ∷ []) rest
    ∙ ap (λ t. codes "slot " ++ t) (append_assoc (slot_text s) (32 ∷ decimal n) (10 ∷ rest))

header_read : (s : Slot) (n : ℕ) (rest : List ℕ) → FitsSlot s → n ≤ greatest → header_at (line (header_words s n) ++ rest) ≡ Some (s, rest)
header_read s n rest k h = ap header_at (header_is s n rest) ∙ rw (slot_read s (32 ∷ (decimal n ++ (10 ∷ rest))) k refl, number_read greatest n (10 ∷ rest) h (omega arith) refl) refl

-- The lines of a slot, and what stands behind them.

slot_begins : (s : Slot) (f : Fact) (fs : List Fact) (rest : List ℕ) → FitsSlot s → IsReadableList s (f ∷ fs) → header_at (slot_lines s (f ∷ fs) ++ rest) ≡ Some (s, flat_map fact_line (f ∷ fs) ++ rest)
slot_begins s f fs rest k r =
    let few : length (f ∷ fs) < 2 ^ 64 = r.fits in
    ap header_at (append_assoc (line (header_words s (length (f ∷ fs)))) (flat_map fact_line (f ∷ fs)) rest) ∙ header_read s (length (f ∷ fs)) (flat_map fact_line (f ∷ fs) ++ rest) k (omega (arith, few))

-- All slots, one after the other, and what stands behind them.

abbrev pub texts : (Slot → List Fact) → List Slot → List ℕ → List ℕ
texts lists [] rest = rest
texts lists (s ∷ ss) rest = slot_lines s (lists s) ++ texts lists ss rest

-- neither a slot's line nor an entry's stands there
pub record Ends (rest : List ℕ) : Type 0 where
  pub header : header_at rest ≡ None
  pub entry : line_at rest ≡ None

abbrev pub rank : Slot → ℕ
rank (slot.Shard s) = s
rank slot.Coordinator = 128
rank (slot.Queue p) = 128 + p

-- slots in order, from this rank on
abbrev pub Rising : ℕ → List Slot → Type 0
Rising k [] = Unit {0}
Rising k (s ∷ ss) = (k ≤ rank s) × FitsSlot s × Rising (rank s + 1) ss

abbrev pub AreEach : (Slot → List Fact) → List Slot → Type 0
AreEach lists [] = Unit {0}
AreEach lists (s ∷ ss) = IsReadableList s (lists s) × AreEach lists ss

abbrev pub AreSame : (Slot → List Fact) → (Slot → List Fact) → List Slot → Type 0
AreSame l m [] = Unit {0}
AreSame l m (s ∷ ss) = (l s ≡ m s) × AreSame l m ss

-- no entry's line stands at the front of them
no_line : (lists : Slot → List Fact) (ss : List Slot) (rest : List ℕ) → Ends rest → line_at (texts lists ss rest) ≡ None
no_line lists [] rest e = e.entry
no_line lists (s ∷ ss) rest e = by (lists s) (no_line lists ss rest e)
  where
    by : (l : List Fact) → line_at (texts lists ss rest) ≡ None → line_at (slot_lines s l ++ texts lists ss rest) ≡ None
    by [] behind = behind
    by (f ∷ fs) behind = refl

one : (x y : Slot × List ℕ) → Some x ≡ Some y → x ≡ y
one x y e = cc

-- the first slot's line that stands there is of no lower rank
begins_from : (lists : Slot → List Fact) (k : ℕ) (ss : List Slot) (rest : List ℕ) → Rising k ss → AreEach lists ss → Ends rest → (x : Slot) (r : List ℕ) → header_at (texts lists ss rest) ≡ Some (x, r) → k ≤ rank x
begins_from lists k [] rest up each e x r h = absurd (none_some (x, r) (sym e.header ∙ h))
begins_from lists k (s ∷ ss) rest up each e x r h = by (lists s) each.0 h (begins_from lists (rank s + 1) ss rest up.2 each.1 e x r)
  where
    by : (l : List Fact) → IsReadableList s l → header_at (slot_lines s l ++ texts lists ss rest) ≡ Some (x, r) → (header_at (texts lists ss rest) ≡ Some (x, r) → rank s + 1 ≤ rank x) → k ≤ rank x
    by [] read h behind = let later : rank s + 1 ≤ rank x = behind h in let here : k ≤ rank s = up.0 in omega (arith, later, here)
    by (f ∷ fs) read h behind =
        let same : (s, flat_map fact_line (f ∷ fs) ++ texts lists ss rest) ≡ (x, r) = one _ _ (sym (slot_begins s f fs (texts lists ss rest) up.1 read) ∙ h) in
        subst (λ (y : Slot × List ℕ). k ≤ rank y.0) same up.0

-- lists of slots in order that have one text are the same
pub slots_tell : (l m : Slot → List Fact) (k : ℕ) (ss : List Slot) (a b : List ℕ) → Rising k ss → AreEach l ss → AreEach m ss → Ends a → Ends b → texts l ss a ≡ texts m ss b → AreSame l m ss
slots_tell l m k [] a b up each others ea eb e = tt
slots_tell l m k (s ∷ ss) a b up each others ea eb e =
    let both : (l s ≡ m s) × (texts l ss a ≡ texts m ss b) = by (l s) (m s) each.0 others.0 e in
    (both.0, slots_tell l m (rank s + 1) ss a b up.2 each.1 others.1 ea eb both.1)
  where
    never : rank s + 1 ≤ rank s → ⊥
    never h = omega (arith, h)

    by : (xs ys : List Fact) → IsReadableList s xs → IsReadableList s ys → slot_lines s xs ++ texts l ss a ≡ slot_lines s ys ++ texts m ss b → (xs ≡ ys) × (texts l ss a ≡ texts m ss b)
    by [] [] rx ry e = (refl, e)
    by [] (g ∷ gs) rx ry e = absurd (never (begins_from l (rank s + 1) ss a up.2 each.1 ea s (flat_map fact_line (g ∷ gs) ++ texts m ss b) (ap header_at e ∙ slot_begins s g gs (texts m ss b) up.1 ry)))
    by (f ∷ fs) [] rx ry e = absurd (never (begins_from m (rank s + 1) ss b up.2 others.1 eb s (flat_map fact_line (f ∷ fs) ++ texts l ss a) (ap header_at (sym e) ∙ slot_begins s f fs (texts l ss a) up.1 rx)))
    by (f ∷ fs) (g ∷ gs) rx ry e =
        let same : (s, flat_map fact_line (f ∷ fs) ++ texts l ss a) ≡ (s, flat_map fact_line (g ∷ gs) ++ texts m ss b) =
        one _ _ (sym (slot_begins s f fs (texts l ss a) up.1 rx) ∙ (ap header_at e ∙ slot_begins s g gs (texts m ss b) up.1 ry)) in
        entries_tell s (f ∷ fs) (g ∷ gs) (texts l ss a) (texts m ss b) rx.each ry.each (no_line l ss a ea) (no_line m ss b eb) (ap (λ (x : Slot × List ℕ). x.1) same)
