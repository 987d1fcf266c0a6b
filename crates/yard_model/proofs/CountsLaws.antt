-- How many sends each producer has to each name: a name that is there, one that is entered, one send more.
use Rattle.std.proofs.Common.{◌≡◌, ◌≢◌, ℕ, ◌+◌, ◌<◌, ◌≤◌, sym, ap, ◌∙◌, refl, subst, arith, zero, suc, eqb-true, true≢false, length-append, length, nat_lt}
use Rattle.std.specs.Prelude.{Bool, true, false, ◌==◌, ◌&&◌, cond, List, [], ◌∷◌, ◌++◌, Option, Some, None, slice_index, slice_index_or, slice_set, min, is_some, replicate}
use Rattle.std.specs.declared.cmp.Ordering.{Ordering}
use Rattle.std.specs.declared.cmp.Ordering.TheVariants.{Less, Equal, Greater}
use Rattle.std.specs.Ordering.{nat_cmp, match_ordering, ordering_reverse, is_eq}
use Rattle.std.specs.Cmp.Lexicographic.{slice_cmp, texts_ties, nat_list_cmp_total}
use Rattle.std.specs.BTreeMap.{BTreeMap, get, is_at, Updates, IsOrdered, insert_entry}
use Rattle.std.specs.BTreeSet.{insert_key}
use Rattle.std.specs.Map.{keys_of, lookup}
use Rattle.std.specs.List.{AllByRecursion}
use Rattle.std.specs.List.Sorted.{IsStrictlySortedBy}
use Rattle.std.proofs.lemmas.Bool.Decides.{nat_tests, Decides-eqb}
use Rattle.std.proofs.lemmas.Slice.Eq.{slice_eq-Decides}
use Rattle.std.proofs.lemmas.List.{get_or-set_same, get_or-set_other, length-set, get_or_append_left, get_or_at}
use Rattle.yard_model.specs.declared.counts.Row.{Row}
use Rattle.yard_model.specs.Counts.{Counted, IsCounted, count_of, names, place_of, row_in, no_row, with_count, CountsOneMore, CountsTheSame}
use Rattle.yard_model.specs.Script.{is_name}
use Rattle.yard_model.proofs.CharterLaws.{same_name}

-- the keys after an entry more
pub keys_more : {X : Type 0} (es : List (List ℕ × X)) (k : List ℕ) (v : X) → keys_of (insert_entry (slice_cmp nat_cmp) es k v) ≡ insert_key (slice_cmp nat_cmp) (keys_of es) k
keys_more [] k v = refl
keys_more {X} (e ∷ es) k v = step (slice_cmp nat_cmp k e.0) (keys_more es k v)
  where
    step : (o : Ordering) → keys_of (insert_entry (slice_cmp nat_cmp) es k v) ≡ insert_key (slice_cmp nat_cmp) (keys_of es) k
        → keys_of (match_ordering o ((k, v) ∷ e ∷ es) ((e.0, v) ∷ es) (e ∷ insert_entry (slice_cmp nat_cmp) es k v)) ≡ match_ordering o (k ∷ e.0 ∷ keys_of es) (e.0 ∷ keys_of es) (e.0 ∷ insert_key (slice_cmp nat_cmp) (keys_of es) k)
    step Less h = refl
    step Equal h = refl
    step Greater h = ap (λ l. e.0 ∷ l) h

-- a key that is there is above each one that is below all
below_all : {X : Type 0} (x k : List ℕ) (es : List (List ℕ × X)) → AllByRecursion (λ y. slice_cmp nat_cmp x y ≡ Less) (keys_of es) → is_some (lookup (is_at (slice_cmp nat_cmp k)) es) ≡ true
    → slice_cmp nat_cmp x k ≡ Less
below_all x k [] a h = cc
below_all {X} x k (e ∷ es) a h = step (is_at (slice_cmp nat_cmp k) e.0) refl h (below_all x k es a.1)
  where
    step : (b : Bool) → is_at (slice_cmp nat_cmp k) e.0 ≡ b → is_some (cond b (Some e.1) (lookup (is_at (slice_cmp nat_cmp k)) es)) ≡ true
        → (is_some (lookup (is_at (slice_cmp nat_cmp k)) es) ≡ true → slice_cmp nat_cmp x k ≡ Less) → slice_cmp nat_cmp x k ≡ Less
    step true t f r = subst (λ y. slice_cmp nat_cmp x y ≡ Less) (sym (same_name k e.0 (texts_ties k e.0 ∙ t))) a.0
    step false t f r = r f

-- a key that is there already
keys_kept : {X : Type 0} (es : List (List ℕ × X)) (k : List ℕ) → IsStrictlySortedBy (slice_cmp nat_cmp) (keys_of es) → is_some (lookup (is_at (slice_cmp nat_cmp k)) es) ≡ true
    → insert_key (slice_cmp nat_cmp) (keys_of es) k ≡ keys_of es
unfolding IsStrictlySortedBy
keys_kept [] k s h = cc
keys_kept {X} (e ∷ es) k s h = step (slice_cmp nat_cmp k e.0) refl h (keys_kept es k s.1)
  where
    step : (o : Ordering) → slice_cmp nat_cmp k e.0 ≡ o → is_some (cond (is_eq o) (Some e.1) (lookup (is_at (slice_cmp nat_cmp k)) es)) ≡ true
        → (is_some (lookup (is_at (slice_cmp nat_cmp k)) es) ≡ true → insert_key (slice_cmp nat_cmp) (keys_of es) k ≡ keys_of es)
        → match_ordering o (k ∷ e.0 ∷ keys_of es) (e.0 ∷ keys_of es) (e.0 ∷ insert_key (slice_cmp nat_cmp) (keys_of es) k) ≡ e.0 ∷ keys_of es
    step Less t f r =
        let over : slice_cmp nat_cmp e.0 k ≡ Less = below_all e.0 k es s.0 f in
        let back : slice_cmp nat_cmp k e.0 ≡ Greater = nat_list_cmp_total.antisymm k e.0 ∙ ap ordering_reverse over in
        cc
    step Equal t f r = refl
    step Greater t f r = ap (λ l. e.0 ∷ l) (r f)

-- a name that is there is no name more
pub names_found : (c : Counted) (e : List ℕ) (i : ℕ) → IsCounted c → place_of c e ≡ Some i → names c ≡ insert_key (slice_cmp nat_cmp) (names c) e
names_found c e i k found = sym (keys_kept c.places e k.ordered (ap is_some found))

-- a row of nothing
pub zeros : (n q : ℕ) → slice_index (replicate n 0) q ≡ 0
zeros zero q = refl
zeros (suc n) zero = refl
zeros (suc n) (suc q) = zeros n q

itself : (a b : List ℕ) → a ≡ b → is_name a b ≡ true
itself a b e = (slice_eq-Decides Decides-eqb a b (is_name a b) refl).1 e

apart_of : (p q : ℕ) → ((p == q) && true) ≡ false → q ≢ p
apart_of p q h = λ e. grind (arith, nat_tests)

other_of : (i j : ℕ) → (i == j) ≡ false → j ≢ i
other_of i j h = λ e. grind (arith, nat_tests)

less_of : (k i : ℕ) → nat_lt k i ≡ true → k < i
less_of k i e = grind (arith, nat_tests)

more_of : (k i : ℕ) → nat_lt k i ≡ false → i ≤ k
more_of k i e = grind (arith, nat_tests)

-- other counts of the name at a place
pub put_stands : (c : Counted) (i : ℕ) (row : Row) → IsCounted c → i < length c.rows → row.name ≡ (slice_index_or c.rows i no_row).name → IsCounted (record { places = c.places; rows = slice_set c.rows i row })
put_stands c i row k here same = record {
  ordered = k.ordered;
  each = λ j h. ap (place_of c) (stays j (i == j) refl) ∙ k.each j (subst (λ n. j < n) (length-set c.rows i row) h);
  within = λ f j h. subst (λ n. j < n) (sym (length-set c.rows i row)) (k.within f j h);
  it = λ f j h. stays j (i == j) refl ∙ k.it f j h;
}
  where
    stays : (j : ℕ) (b : Bool) → (i == j) ≡ b → (slice_index_or (slice_set c.rows i row) j no_row).name ≡ (slice_index_or c.rows j no_row).name
    stays j true t = subst (λ n. (slice_index_or (slice_set c.rows i row) n no_row).name ≡ (slice_index_or c.rows n no_row).name) (eqb-true i j t)
        (ap (λ (r : Row). r.name) (get_or-set_same c.rows i row no_row here) ∙ same)
    stays j false t = ap (λ (r : Row). r.name) (get_or-set_other c.rows i j row no_row (other_of i j t))

-- one more of the producer p at the place of the name e
pub raised : (old mid new : Counted) (p k i n : ℕ) (e : List ℕ) → IsCounted mid → CountsTheSame old mid → place_of mid e ≡ Some i → k ≡ p → new.places ≡ mid.places → new.rows ≡ with_count mid.rows i k
    → n ≡ slice_index (slice_index_or new.rows i no_row).counts k → n ≡ min (slice_index (slice_index_or mid.rows i no_row).counts k + 1) 4294967295 → CountsOneMore old new p e × (n ≡ count_of new p e)
raised old mid new p k i n e counted same found is places rows here more = (record { here = sym count ∙ (more ∙ were); others = λ q f apart. other q f (is_name e f) refl apart ∙ same.each q f }, count)
  where
    at_new : (f : List ℕ) → place_of new f ≡ place_of mid f
    at_new f = ap (λ l. lookup (is_at (slice_cmp nat_cmp f)) l) places

    seen : (q : ℕ) → count_of new q e ≡ slice_index (slice_index_or new.rows i no_row).counts q
    seen q = ap (λ o. slice_index (row_in new.rows o).counts q) (at_new e ∙ found)

    count : n ≡ count_of new p e
    count = here ∙ (ap (λ m. slice_index (slice_index_or new.rows i no_row).counts m) is ∙ sym (seen p))

    were : min (slice_index (slice_index_or mid.rows i no_row).counts k + 1) 4294967295 ≡ min (count_of old p e + 1) 4294967295
    were = ap (λ m. min (slice_index (slice_index_or mid.rows i no_row).counts m + 1) 4294967295) is
        ∙ (ap (λ o. min (slice_index (row_in mid.rows o).counts p + 1) 4294967295) (sym found) ∙ ap (λ m. min (m + 1) 4294967295) (same.each p e))

    put : Row
    put = record { name = (slice_index_or mid.rows i no_row).name; counts = slice_set (slice_index_or mid.rows i no_row).counts k (min (slice_index (slice_index_or mid.rows i no_row).counts k + 1) 4294967295) }

    elsewhere : (q : ℕ) (f : List ℕ) → is_name e f ≡ false → (o : Option ℕ) → place_of mid f ≡ o → slice_index (row_in (slice_set mid.rows i put) o).counts q ≡ slice_index (row_in mid.rows o).counts q
    elsewhere q f t None h = refl
    elsewhere q f t (Some j) h = ap (λ (r : Row). slice_index r.counts q) (get_or-set_other mid.rows i j put no_row
        (λ at. true≢false (sym (itself e f (sym (counted.it e i found) ∙ (ap (λ m. (slice_index_or mid.rows m no_row).name) (sym at) ∙ counted.it f j h))) ∙ t)))

    other : (q : ℕ) (f : List ℕ) (b : Bool) → is_name e f ≡ b → ((p == q) && is_name e f) ≡ false → count_of new q f ≡ count_of mid q f
    other q f true t apart =
        let eq : e ≡ f = same_name e f t in
        let far : q ≢ p = apart_of p q (ap (λ b. (p == q) && b) (sym t) ∙ apart) in
        subst (λ g. count_of new q g ≡ count_of mid q g) eq
        (seen q ∙ (ap (λ l. slice_index (slice_index_or l i no_row).counts q) rows
        ∙ (ap (λ (r : Row). slice_index r.counts q) (get_or-set_same mid.rows i put no_row (counted.within e i found))
        ∙ (get_or-set_other (slice_index_or mid.rows i no_row).counts k q (min (slice_index (slice_index_or mid.rows i no_row).counts k + 1) 4294967295) 0 (λ at. far (at ∙ is))
        ∙ ap (λ o. slice_index (row_in mid.rows o).counts q) (sym found)))))
    other q f false t apart =
        ap (λ o. slice_index (row_in new.rows o).counts q) (at_new f) ∙ (ap (λ l. slice_index (row_in l (place_of mid f)).counts q) rows ∙ elsewhere q f t (place_of mid f) refl)

-- what is counted, by a tree
abbrev pub counted_by : BTreeMap (List ℕ) ℕ → List Row → Counted
counted_by m rows = record { places = m.entries; rows = rows }

-- a name that is entered
module _ (m new : BTreeMap (List ℕ) ℕ) (rows more : List Row) (e : List ℕ) (n : ℕ) (counted : IsCounted (counted_by m rows)) (absent : get (slice_cmp nat_cmp) m e ≡ None) (is : n ≡ length rows)
    (put : Updates (slice_cmp nat_cmp) m new e (Some n)) (ordered : IsOrdered (slice_cmp nat_cmp) new) (pushed : more ≡ rows ++ record { name = e; counts = replicate 33 0 } ∷ []) where
  abbrev row : Row
  row = record { name = e; counts = replicate 33 0 }

  at_new : (q : List ℕ) (b : Bool) → is_name e q ≡ b → get (slice_cmp nat_cmp) new q ≡ cond b (Some n) (get (slice_cmp nat_cmp) m q)
  at_new q b t = put.0 q ∙ ap (λ x. cond x (Some n) (get (slice_cmp nat_cmp) m q)) (sym (texts_ties e q) ∙ t)

  longer : length more ≡ n + 1
  longer = ap length pushed ∙ (length-append rows (row ∷ []) ∙ ap (λ k. k + 1) (sym is))

  last : slice_index_or more n no_row ≡ row
  last = ap (λ l. slice_index_or l n no_row) pushed ∙ get_or_at rows row [] no_row n (sym is)

  left : (i : ℕ) → i < length rows → slice_index_or more i no_row ≡ slice_index_or rows i no_row
  left i h = ap (λ l. slice_index_or l i no_row) pushed ∙ get_or_append_left rows (row ∷ []) no_row i h

  -- a name that had a place is another
  others : (f : List ℕ) (i : ℕ) → get (slice_cmp nat_cmp) m f ≡ Some i → is_name e f ≡ false
  others f i h = at (is_name e f) refl
    where
      at : (b : Bool) → is_name e f ≡ b → is_name e f ≡ false
      at true t = let gone : None ≡ Some i = sym absent ∙ (ap (get (slice_cmp nat_cmp) m) (same_name e f t) ∙ h) in cc
      at false t = t

  kept_at : (f : List ℕ) (i : ℕ) → get (slice_cmp nat_cmp) m f ≡ Some i → get (slice_cmp nat_cmp) new f ≡ Some i
  kept_at f i h = at_new f false (others f i h) ∙ h

  each : (i : ℕ) → i < length more → (b : Bool) → nat_lt i n ≡ b → get (slice_cmp nat_cmp) new (slice_index_or more i no_row).name ≡ Some i
  each i h true t =
      let less : i < n = less_of i n t in
      let here : i < length rows = omega (arith, less, is) in
      ap (λ (r : Row). get (slice_cmp nat_cmp) new r.name) (left i here) ∙ kept_at (slice_index_or rows i no_row).name i (counted.each i here)
  each i h false t =
      let over : n ≤ i = more_of i n t in
      let here : n ≡ i = omega (arith, over, h, longer) in
      subst (λ j. get (slice_cmp nat_cmp) new (slice_index_or more j no_row).name ≡ Some j) here (ap (λ (r : Row). get (slice_cmp nat_cmp) new r.name) last ∙ at_new e true (itself e e refl))

  within : (f : List ℕ) (i : ℕ) (b : Bool) → is_name e f ≡ b → get (slice_cmp nat_cmp) new f ≡ Some i → i < length more
  within f i true t h = let here : Some n ≡ Some i = sym (at_new f true t) ∙ h in let eq : n ≡ i = cc in omega (arith, eq, longer)
  within f i false t h = let less : i < length rows = counted.within f i (sym (at_new f false t) ∙ h) in omega (arith, less, longer, is)

  it : (f : List ℕ) (i : ℕ) (b : Bool) → is_name e f ≡ b → get (slice_cmp nat_cmp) new f ≡ Some i → (slice_index_or more i no_row).name ≡ f
  it f i true t h =
      let here : Some n ≡ Some i = sym (at_new f true t) ∙ h in
      let eq : n ≡ i = cc in
      subst (λ j. (slice_index_or more j no_row).name ≡ f) eq (ap (λ (r : Row). r.name) last ∙ same_name e f t)
  it f i false t h =
      let was : get (slice_cmp nat_cmp) m f ≡ Some i = sym (at_new f false t) ∙ h in
      ap (λ (r : Row). r.name) (left i (counted.within f i was)) ∙ counted.it f i was

  pub begun_stands : IsCounted (counted_by new more)
  begun_stands = record {
    ordered = ordered;
    each = λ i h. each i h (nat_lt i n) refl;
    within = λ f i h. within f i (is_name e f) refl h;
    it = λ f i h. it f i (is_name e f) refl h;
  }

  old_row : (q : ℕ) (f : List ℕ) (o : Option ℕ) → get (slice_cmp nat_cmp) m f ≡ o → slice_index (row_in more o).counts q ≡ slice_index (row_in rows o).counts q
  old_row q f None h = refl
  old_row q f (Some i) h = ap (λ (r : Row). slice_index r.counts q) (left i (counted.within f i h))

  same : (q : ℕ) (f : List ℕ) (b : Bool) → is_name e f ≡ b → count_of (counted_by new more) q f ≡ count_of (counted_by m rows) q f
  same q f true t =
      let gone : get (slice_cmp nat_cmp) m f ≡ None = ap (get (slice_cmp nat_cmp) m) (sym (same_name e f t)) ∙ absent in
      ap (λ o. slice_index (row_in more o).counts q) (at_new f true t) ∙ (ap (λ (r : Row). slice_index r.counts q) last ∙ ap (λ o. slice_index (row_in rows o).counts q) (sym gone))
  same q f false t = ap (λ o. slice_index (row_in more o).counts q) (at_new f false t) ∙ old_row q f (get (slice_cmp nat_cmp) m f) refl

  pub begun_same : CountsTheSame (counted_by m rows) (counted_by new more)
  begun_same = record { each = λ q f. same q f (is_name e f) refl }
