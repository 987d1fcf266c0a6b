-- The places of a journal's records in a list that gets one entry more.
use Rattle.std.proofs.Common.{◌≡◌, ℕ, ◌+◌, ◌<◌, ◌≤◌, List, length, sym, ap, subst, ◌∙◌, refl, true, false, arith, length-append}
use Rattle.std.specs.Prelude.{Bool, [], ◌∷◌, ◌++◌, nat_lt, slice_index_or}
use Rattle.std.proofs.lemmas.List.{get_or_append_left, get_or_at}
use Rattle.plain_laws.proofs.Booleans.{below, not_below}
use Rattle.yard_model.specs.declared.fact.Fact.{Fact}
use Rattle.yard_model.specs.declared.fact.Fact.TheVariants as fact
use Rattle.yard_model.specs.declared.packet.Record.{Record}
use Rattle.yard_model.specs.SlotReads.{journal}
use Rattle.entity_journal.specs.Journal.{Journaled}
use Rattle.shard_store.specs.Shelved.{ArePlaced, IsJournal}

placed_none : (e : List ℕ) (list : List Fact) (j : Journaled) → j.items ≡ [] → j.places ≡ [] → ArePlaced e list j
placed_none e list j items places =
    let none : length j.items ≡ 0 = ap length items in
    record {
      as_many = ap length places ∙ sym (ap length items);
      within = λ k h. absurd (omega (arith, h, none));
      it = λ k r f h. absurd (omega (arith, h, none));
    }

placed_still : (e : List ℕ) (list : List Fact) (f : Fact) (j : Journaled) → ArePlaced e list j → ArePlaced e (list ++ f ∷ []) j
placed_still e list f j k = record {
  as_many = k.as_many;
  within = λ i h. let was : slice_index_or j.places i 0 < length list = k.within i h in let long : length (list ++ f ∷ []) ≡ length list + 1 = length-append list (f ∷ []) in omega (arith, was, long);
  it = λ i r d h. get_or_append_left list (f ∷ []) d (slice_index_or j.places i 0) (k.within i h) ∙ k.it i r d h;
}

pub placed_more : (e : List ℕ) (list : List Fact) (r : Record) (old new : Journaled) → new.items ≡ old.items ++ r ∷ [] → new.places ≡ old.places ++ length list ∷ [] → ArePlaced e list old → ArePlaced e (list ++ fact.Wrote e r ∷ []) new
placed_more e list r old new items places k = record {
  as_many = long_places ∙ (ap (λ n. n + 1) k.as_many ∙ sym long_items);
  within = λ i h. within_at i h (nat_lt i (length old.items)) refl;
  it = λ i x d h. it_at i x d h (nat_lt i (length old.items)) refl;
}
  where
    long_items : length new.items ≡ length old.items + 1
    long_items = ap length items ∙ length-append old.items (r ∷ [])

    long_places : length new.places ≡ length old.places + 1
    long_places = ap length places ∙ length-append old.places (length list ∷ [])

    long : length (list ++ fact.Wrote e r ∷ []) ≡ length list + 1
    long = length-append list (fact.Wrote e r ∷ [])

    old_place : (i : ℕ) → i < length old.items → slice_index_or new.places i 0 ≡ slice_index_or old.places i 0
    old_place i less = let short : i < length old.places = omega (arith, less, k.as_many) in ap (λ l. slice_index_or l i 0) places ∙ get_or_append_left old.places (length list ∷ []) 0 i short

    new_place : (i : ℕ) → length old.items ≡ i → slice_index_or new.places i 0 ≡ length list
    new_place i here = ap (λ l. slice_index_or l i 0) places ∙ get_or_at old.places (length list) [] 0 i (k.as_many ∙ here)

    last : (i : ℕ) → i < length new.items → nat_lt i (length old.items) ≡ false → length old.items ≡ i
    last i h t = let past : length old.items ≤ i = not_below i (length old.items) t in omega (arith, past, h, long_items)

    within_at : (i : ℕ) → i < length new.items → (b : Bool) → nat_lt i (length old.items) ≡ b → slice_index_or new.places i 0 < length (list ++ fact.Wrote e r ∷ [])
    within_at i h true t =
        let less : i < length old.items = below i (length old.items) t in
        let was : slice_index_or old.places i 0 < length list = k.within i less in
        let is : slice_index_or new.places i 0 ≡ slice_index_or old.places i 0 = old_place i less in
        omega (arith, was, is, long)
    within_at i h false t =
        let is : slice_index_or new.places i 0 ≡ length list = new_place i (last i h t) in
        omega (arith, is, long)

    it_at : (i : ℕ) (x : Record) (d : Fact) → i < length new.items → (b : Bool) → nat_lt i (length old.items) ≡ b → slice_index_or (list ++ fact.Wrote e r ∷ []) (slice_index_or new.places i 0) d ≡ fact.Wrote e (slice_index_or new.items i x)
    it_at i x d h true t =
        let less : i < length old.items = below i (length old.items) t in
        let same : slice_index_or new.items i x ≡ slice_index_or old.items i x = ap (λ l. slice_index_or l i x) items ∙ get_or_append_left old.items (r ∷ []) x i less in
        ap (λ n. slice_index_or (list ++ fact.Wrote e r ∷ []) n d) (old_place i less)
        ∙ (get_or_append_left list (fact.Wrote e r ∷ []) d (slice_index_or old.places i 0) (k.within i less)
        ∙ (k.it i x d less ∙ ap (λ (y : Record). fact.Wrote e y) (sym same)))
    it_at i x d h false t =
        let here : length old.items ≡ i = last i h t in
        let same : slice_index_or new.items i x ≡ r = ap (λ l. slice_index_or l i x) items ∙ get_or_at old.items r [] x i here in
        ap (λ n. slice_index_or (list ++ fact.Wrote e r ∷ []) n d) (new_place i here)
        ∙ (get_or_at list (fact.Wrote e r) [] d (length list) refl ∙ ap (λ (y : Record). fact.Wrote e y) (sym same))

-- The journal of a name in such a list.

pub journal_begins : (e : List ℕ) (room : ℕ) (j : Journaled) → j.items ≡ [] → j.places ≡ [] → room ≤ j.spare → IsJournal e [] room j
journal_begins e room j items places spare = record {
  records_are = items;
  places_are = placed_none e [] j items places;
  room_is = omega (arith, spare);
}

-- one entry more that leaves it as it was
pub journal_still : (e : List ℕ) (list : List Fact) (f : Fact) (most : ℕ) (j : Journaled) → journal e (list ++ f ∷ []) ≡ journal e list → IsJournal e list most j → IsJournal e (list ++ f ∷ []) most j
journal_still e list f most j same k = record {
  records_are = k.records_are ∙ sym same;
  places_are = placed_still e list f j k.places_are;
  room_is = subst (λ (rs : List Record). most ≤ length rs + j.spare) (sym same) k.room_is;
}

-- one record of it more
pub journal_grows : (e : List ℕ) (list : List Fact) (r : Record) (most : ℕ) (old new : Journaled) → journal e (list ++ fact.Wrote e r ∷ []) ≡ journal e list ++ r ∷ []
    → new.items ≡ old.items ++ r ∷ [] → new.places ≡ old.places ++ length list ∷ [] → new.spare + 1 ≡ old.spare
    → IsJournal e list most old → IsJournal e (list ++ fact.Wrote e r ∷ []) most new
journal_grows e list r most old new grown items places less k = record {
  records_are = items ∙ (ap (λ rs. rs ++ r ∷ []) k.records_are ∙ sym grown);
  places_are = placed_more e list r old new items places k.places_are;
  room_is = subst (λ (rs : List Record). most ≤ length rs + new.spare) (sym grown) (let room : most ≤ length (journal e list) + old.spare = k.room_is in let long : length (journal e list ++ r ∷ []) ≡ length (journal e list) + 1 = length-append (journal e list) (r ∷ []) in omega (arith, room, less, long));
}
