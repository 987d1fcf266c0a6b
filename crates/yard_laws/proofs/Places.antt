-- The places of a journal's records: of each producer they are 1, 2, 3, ..
use Rattle.std.proofs.Common.{◌≡◌, ◌<◌, ◌≤◌, ℕ, ◌+◌, sym, ap, ◌∙◌, refl, subst, arith}
use Rattle.std.specs.Prelude.{Bool, true, false, ◌==◌, ◌&&◌, ◌||◌, cond, List, [], ◌∷◌, ◌++◌, if◌then◌else◌}
use Rattle.std.proofs.lemmas.List.Sums.{fold-append}
use Rattle.std.proofs.lemmas.List.Folds.{list_any-append}
use Rattle.yard_model.specs.declared.fact.Fact.{Fact}
use Rattle.yard_model.specs.declared.fact.Fact.TheVariants as fact
use Rattle.yard_model.specs.declared.packet.Record.{Record}
use Rattle.yard_model.specs.declared.incarnation.Slot.TheVariants as slot
use Rattle.yard_model.specs.Script.{Script, is_name}
use Rattle.yard_model.specs.Genuine.{is_producer, is_planned}
use Rattle.yard_model.specs.Lawful.{own, has_place, is_of_shard, is_folded_after, is_merged_after, is_shard_entry}
use Rattle.yard_model.specs.SlotReads.{journal, journal_step, position}
use Rattle.plain_laws.proofs.Booleans.{true_is_not_false, and_both, left_of, right_of, same_number, number_itself, same_name}
use Rattle.plain_laws.proofs.Read.{journal_more}
use Rattle.yard_laws.proofs.Owned.{shard_to}
use Rattle.yard_model.specs.Opening.{begins}

pub position_more : (p : ℕ) (records : List Record) (r : Record) → position p (records ++ r ∷ []) ≡ position p records + cond (r.producer == p) 1 0
position_more p records r = fold-append (λ a (x : Record). a + cond (x.producer == p) 1 0) 0 records (r ∷ [])

pub place_more : (p n : ℕ) (records : List Record) (r : Record) → has_place p n (records ++ r ∷ []) ≡ (has_place p n records || (((r.producer == p) && (r.place == n)) || false))
place_more p n records r = list_any-append (λ (x : Record). (x.producer == p) && (x.place == n)) records (r ∷ [])

-- of each producer there are records with the places up to its position
abbrev pub HasPlaces : List Record → Type 0
HasPlaces records = (p n : ℕ) → 0 < n → n ≤ position p records → has_place p n records ≡ true

pub places_more : (records : List Record) (r : Record) → HasPlaces records → (r.place == position r.producer records + 1) ≡ true → HasPlaces (records ++ r ∷ [])
places_more records r h next p n above within = place_more p n records r ∙ step (r.producer == p) refl (subst (λ m. n ≤ m) (position_more p records r) within)
  where
    step : (b : Bool) → (r.producer == p) ≡ b → n ≤ position p records + cond b 1 0 → (has_place p n records || ((b && (r.place == n)) || false)) ≡ true
    step false e k = left_of (has_place p n records) false (h p n above (omega arith))
    step true e k = at (n == position p records + 1) refl
      where
        at : (b : Bool) → (n == position p records + 1) ≡ b → (has_place p n records || ((r.place == n) || false)) ≡ true
        at true s = right_of (has_place p n records) ((r.place == n) || false) (left_of (r.place == n) false (number_itself r.place n (same_number r.place (position r.producer records + 1) next ∙ (ap (λ q. position q records + 1) (same_number r.producer p e) ∙ sym (same_number n (position p records + 1) s)))))
        at false s =
            let other : n ≡ position p records + 1 → ⊥ = λ same. true_is_not_false (sym (number_itself n (position p records + 1) same) ∙ s) in
            let less : n ≤ position p records = omega arith in
            left_of (has_place p n records) ((r.place == n) || false) (h p n above less)

-- one entry more of a shard
places_step : (c : Script) (k : ℕ) (e : List ℕ) (list : List Fact) (f : Fact) → HasPlaces (journal e list) → (begins f || is_shard_entry c k list f) ≡ true → HasPlaces (journal_step e (journal e list) f)
places_step c k e list (fact.Wrote x r) h may = step (is_name x e) refl
  where
    entry : (is_of_shard c k x && is_producer c r.producer && is_folded_after c (journal x list) r && is_merged_after c x (journal x list) r) ≡ true
    entry = may

    merged : is_merged_after c x (journal x list) r ≡ true
    merged = (and_both (is_of_shard c k x && is_producer c r.producer && is_folded_after c (journal x list) r) (is_merged_after c x (journal x list) r) entry).1

    next : (r.place == position r.producer (journal x list) + 1) ≡ true
    next = (and_both (r.place == position r.producer (journal x list) + 1) (is_planned c r.producer x r.place r.command) merged).0

    step : (b : Bool) → is_name x e ≡ b → HasPlaces (if b then journal e list ++ r ∷ [] else journal e list)
    step false s = h
    step true s = places_more (journal e list) r h (subst (λ y. (r.place == position r.producer (journal y list) + 1) ≡ true) (same_name x e s) next)
places_step c k e list f h may = h

pub places : (c : Script) (k : ℕ) (e : List ℕ) (list : List Fact) → own c (slot.Shard k) list ≡ true → HasPlaces (journal e list)
places c k e list o = shard_to c k (λ l. HasPlaces (journal e l)) none (λ l f h may. subst HasPlaces (sym (journal_more e l f)) (places_step c k e l f h may)) list o
  where
    none : HasPlaces []
    none p n above within = absurd (omega arith)
