-- Cells in chains, read as a list for each key.
use Rattle.std.proofs.Common.{◌≡◌, ℕ, zero, suc, ◌+◌, ◌<◌, ◌≤◌, List, [], ◌∷◌, ◌++◌, length, length-append, length-drop, drop, map, get_or, set, refl, ap, ap₂, ◌∙◌, sym, subst, arith}
use Rattle.std.specs.Prelude.{sum_by, Option, Some, None, replicate, MatchOption}
use Rattle.std.proofs.lemmas.List.{map-set, get_or-set_same, get_or-set_other, length-map, length-replicate, set-get_or}
use Rattle.std.proofs.Math.ListN.{get_or-map}
use Rattle.std.proofs.lemmas.List.Sums.{sum_by-cons}
use Rattle.envelope_pool.specs.declared.links.Chain.{Chain}
use Rattle.envelope_pool.specs.Keyed.{Keyed, keyed}
use Rattle.envelope_pool.specs.Chains.{times, no_chain, chains_of, chain_at, places_of}
use Rattle.envelope_pool.specs.Cells.{with_item, gather, lists_of, IsPool}
use Rattle.envelope_pool.proofs.ChainLaws.{part-le, none_first, none_linked, none_places, chain_len, get_past}

drop_set : {B : Type 0} (xs : List B) (k : ℕ) (v : B) → drop 1 (set xs (k + 1) v) ≡ set (drop 1 xs) k v
drop_set [] k v = refl
drop_set (x ∷ xs) k v = let e : k + 1 ≡ suc k = omega arith in ap (λ i. drop 1 (set (x ∷ xs) i v)) e

drop_set_first : {B : Type 0} (xs : List B) (v : B) → drop 1 (set xs 0 v) ≡ drop 1 xs
drop_set_first [] v = refl
drop_set_first (x ∷ xs) v = refl

pub get_next : {B : Type 0} (xs : List B) (k : ℕ) (d : B) → get_or xs (k + 1) d ≡ get_or (drop 1 xs) k d
get_next [] k d = refl
get_next (x ∷ xs) k d = let e : k + 1 ≡ suc k = omega arith in ap (λ i. get_or (x ∷ xs) i d) e

pub sum_first : {B : Type 0} (f : B → ℕ) (xs : List B) (d : B) → 0 < length xs → sum_by f xs ≡ f (get_or xs 0 d) + sum_by f (drop 1 xs)
sum_first f [] d h = absurd (omega arith)
sum_first f (x ∷ xs) d h = sum_by-cons f x xs

sum_rest-le : {B : Type 0} (f : B → ℕ) (xs : List B) → sum_by f (drop 1 xs) ≤ sum_by f xs
sum_rest-le f [] = omega arith
sum_rest-le f (x ∷ xs) = let e = sum_by-cons f x xs in let r : sum_by f xs ≤ sum_by f (x ∷ xs) = omega (arith, e) in r

same_sums : {B C : Type 0} (xs : List (List B)) (ys : List (List C)) → map length xs ≡ map length ys → sum_by length xs ≡ sum_by length ys
same_sums [] [] e = refl
same_sums [] (y ∷ ys) e = cc
same_sums (x ∷ xs) [] e = cc
same_sums (x ∷ xs) (y ∷ ys) e =
    let own : length x ≡ length y = cc in
    let rest : map length xs ≡ map length ys = cc in
    let r : sum_by length (x ∷ xs) ≡ sum_by length (y ∷ ys) = omega (arith, sum_by-cons length x xs, sum_by-cons length y ys, own, same_sums xs ys rest) in r

nil_of : {B : Type 0} (xs : List B) → length xs ≡ 0 → xs ≡ []
nil_of [] e = refl
nil_of (x ∷ xs) e = absurd (omega arith)

pub key_chain : (next : List ℕ) (cs : List Chain) (key : ℕ) → key < length (drop 1 (chains_of next cs)) → key + 1 < length cs
key_chain next cs key h = omega (arith, length-drop 1 (chains_of next cs), length-map cs (places_of next), h)

-- a key that changes nothing
pub unchanged : {B : Type 0} (lists : List (List B)) (k : ℕ) → get_or lists k [] ≡ [] → lists ≡ set lists k (drop 1 (get_or lists k []))
unchanged lists k e = sym (ap (λ xs. set lists k xs) (ap (drop 1) e ∙ sym e) ∙ set-get_or lists k [])

-- no cell is free
pub none_free : (next : List ℕ) (cs : List Chain) → 0 < length cs → (chain_at cs 0).len ≡ 0 → get_or (chains_of next cs) 0 [] ≡ []
none_free next cs some e = nil_of (get_or (chains_of next cs) 0 []) (sym (chain_len next cs 0 some) ∙ e)

-- chains of none after the first
none_after : (k : ℕ) → drop 1 (chains_of [] (replicate (k + 1) no_chain)) ≡ replicate k []
none_after k = let e : k + 1 ≡ suc k = omega arith in ap (λ n. drop 1 (chains_of [] (replicate n no_chain))) e ∙ none_places [] k

module _ {A : Type 0} where
  gather_other : (items : List (Option A)) (p : ℕ) (x : A) (ps : List ℕ) → times p ps ≡ 0 → gather (set items p (Some x)) ps ≡ gather items ps
  gather_other items p x [] h = refl
  gather_other items p x (q ∷ ps) h =
      let parts = none_first p q (times p ps) h in
      ap₂ with_item (get_or-set_other items p q (Some x) None parts.0) (gather_other items p x ps parts.1)

  gather_others : (items : List (Option A)) (p : ℕ) (x : A) (chains : List (List ℕ)) → sum_by (times p) chains ≡ 0 → map (gather (set items p (Some x))) chains ≡ map (gather items) chains
  gather_others items p x [] h = refl
  gather_others items p x (c ∷ cs) h =
      let e = sum_by-cons (times p) c cs in
      let own : times p c ≡ 0 = omega (arith, e, h) in
      let rest : sum_by (times p) cs ≡ 0 = omega (arith, e, h) in
      ap₂ (λ l m. l ∷ m) (gather_other items p x c own) (gather_others items p x cs rest)

  with_push : (o : Option A) (xs : List A) (x : A) → with_item o (xs ++ x ∷ []) ≡ with_item o xs ++ x ∷ []
  with_push None xs x = refl
  with_push (Some y) xs x = refl

  gather_push : (items : List (Option A)) (p : ℕ) (x : A) (ps : List ℕ) → get_or items p None ≡ Some x → gather items (ps ++ p ∷ []) ≡ gather items ps ++ x ∷ []
  gather_push items p x [] e = ap (λ o. with_item o []) e
  gather_push items p x (q ∷ ps) e = ap (with_item (get_or items q None)) (gather_push items p x ps e) ∙ with_push (get_or items q None) (gather items ps) x

  gather-le : (items : List (Option A)) (ps : List ℕ) → length (gather items ps) ≤ length ps
  gather-le items [] = omega arith
  gather-le items (p ∷ ps) = step (get_or items p None) (gather-le items ps)
    where
      step : (o : Option A) → length (gather items ps) ≤ length ps → length (with_item o (gather items ps)) ≤ suc (length ps)
      step None h = omega arith
      step (Some x) h = omega arith

  first_some : (items : List (Option A)) (p : ℕ) (ps : List ℕ) → length (gather items (p ∷ ps)) ≡ length (p ∷ ps) → (x : A) × (get_or items p None ≡ Some x) × (length (gather items ps) ≡ length ps)
  first_some items p ps h = step (get_or items p None) refl h
    where
      step : (o : Option A) → get_or items p None ≡ o → length (with_item o (gather items ps)) ≡ suc (length ps) → (x : A) × (get_or items p None ≡ Some x) × (length (gather items ps) ≡ length ps)
      step None e g = absurd (omega (arith, g, gather-le items ps))
      step (Some x) e g = (x, e, omega (arith, g))

  pub list_at : (items : List (Option A)) (chains : List (List ℕ)) (k : ℕ) → get_or (lists_of items chains) k [] ≡ gather items (get_or (drop 1 chains) k [])
  list_at items chains k = get_or-map (gather items) (drop 1 chains) k []

  pub filled_at : (items : List (Option A)) (chains : List (List ℕ)) (k : ℕ) → map length (lists_of items chains) ≡ map length (drop 1 chains) → length (get_or (lists_of items chains) k []) ≡ length (get_or (drop 1 chains) k [])
  filled_at items chains k h = sym (get_or-map length (lists_of items chains) k []) ∙ (ap (λ l. get_or l k 0) h ∙ get_or-map length (drop 1 chains) k [])

  -- how many items there are, by how many cells are free
  pub all_held : (items : List (Option A)) (chains : List (List ℕ)) → 0 < length chains → map length (lists_of items chains) ≡ map length (drop 1 chains) → length (get_or chains 0 []) + sum_by length (lists_of items chains) ≡ sum_by length chains
  all_held items chains h filled = omega (arith, sum_first length chains [] h, same_sums (lists_of items chains) (drop 1 chains) filled)

  pub held_is : {size n m : ℕ} (next : List ℕ) (cs : List Chain) (items : List (Option A)) → IsPool next cs items size n m → sum_by length (lists_of items (chains_of next cs)) + (chain_at cs 0).len ≡ length items
  held_is {size} {n} {m} next cs items p =
      let some : 0 < length (chains_of next cs) = omega (arith, length-map cs (places_of next), p.chains) in
      omega (arith, all_held items (chains_of next cs) some p.filled, chain_len next cs 0 p.chains, p.linked.all, p.sized)

  pub key_inside : (items : List (Option A)) (chains : List (List ℕ)) (size key : ℕ) (v : Keyed A) → keyed (lists_of items chains) size ≡ v → key < length v.lists → key < length (drop 1 chains)
  key_inside items chains size key v e h = omega (arith, ap (λ (w : Keyed A). length w.lists) e, length-map (drop 1 chains) (gather items), h)

  pub none_listed : (items : List (Option A)) (next : List ℕ) (cs : List Chain) (key : ℕ) → key < length (drop 1 (chains_of next cs)) → (chain_at cs (key + 1)).len ≡ 0 → get_or (lists_of items (chains_of next cs)) key [] ≡ []
  none_listed items next cs key h e =
      list_at items (chains_of next cs) key
      ∙ ap (gather items) (sym (get_next (chains_of next cs) key []) ∙ nil_of (get_or (chains_of next cs) (key + 1) []) (sym (chain_len next cs (key + 1) (key_chain next cs key h)) ∙ e))

  pub len_listed : (items : List (Option A)) (next : List ℕ) (cs : List Chain) (key : ℕ) → key < length (drop 1 (chains_of next cs)) → map length (lists_of items (chains_of next cs)) ≡ map length (drop 1 (chains_of next cs))
      → (chain_at cs (key + 1)).len ≡ length (get_or (lists_of items (chains_of next cs)) key [])
  len_listed items next cs key h filled = chain_len next cs (key + 1) (key_chain next cs key h) ∙ (ap length (get_next (chains_of next cs) key []) ∙ sym (filled_at items (chains_of next cs) key filled))

  pub none_yet : (items : List (Option A)) (chains : List (List ℕ)) (n : ℕ) → drop 1 chains ≡ replicate n [] → lists_of items chains ≡ replicate n []
  none_yet items chains n e = ap (map (gather items)) e ∙ each n
    where
      each : (n : ℕ) → map (gather items) (replicate n []) ≡ replicate n []
      each zero = refl
      each (suc n) = ap (λ l. [] ∷ l) (each n)

  pub none_filled : (items : List (Option A)) (chains : List (List ℕ)) (n : ℕ) → drop 1 chains ≡ replicate n [] → map length (lists_of items chains) ≡ map length (drop 1 chains)
  none_filled items chains n e = ap (map length) (none_yet items chains n e) ∙ (lengths n ∙ sym (ap (map length) e))
    where
      lengths : (n : ℕ) → map length (replicate {A = List A} n []) ≡ map length (replicate {A = List ℕ} n [])
      lengths zero = refl
      lengths (suc n) = ap (λ l. 0 ∷ l) (lengths n)

  -- no cell was used yet
  pub begun_lists : (k : ℕ) → lists_of {A = A} [] (chains_of [] (replicate (k + 1) no_chain)) ≡ replicate k []
  begun_lists k = none_yet [] (chains_of [] (replicate (k + 1) no_chain)) k (none_after k)

  pub begun_pool : {size n m : ℕ} (k : ℕ) → size < 65536 → size ≤ n → size ≤ m → IsPool {A = A} [] (replicate (k + 1) no_chain) [] size n m
  begun_pool k fits a b = record {
    linked = none_linked (k + 1);
    sized = refl;
    cells = omega arith;
    fits = fits;
    places_fit = a;
    items_fit = b;
    chains = omega (arith, length-replicate {A = Chain} (k + 1) no_chain);
    filled = none_filled [] (chains_of [] (replicate (k + 1) no_chain)) k (none_after k);
  }

  -- a cell goes from the free ones to a key
  module _ (items : List (Option A)) (X X1 X2 : List (List ℕ)) (key p : ℕ) (x : A) (first : X1 ≡ set X 0 (drop 1 (get_or X 0 []))) (second : X2 ≡ set X1 (key + 1) (get_or X1 (key + 1) [] ++ p ∷ []))
      (loose : sum_by (times p) X1 ≡ 0) (within : p < length items) (inside : key < length (drop 1 X)) (filled : map length (lists_of items X) ≡ map length (drop 1 X)) where
    rest : drop 1 X1 ≡ drop 1 X
    rest = ap (drop 1) first ∙ drop_set_first X (drop 1 (get_or X 0 []))

    tail : drop 1 X2 ≡ set (drop 1 X) key (get_or (drop 1 X) key [] ++ p ∷ [])
    tail = ap (drop 1) second ∙ (drop_set X1 key (get_or X1 (key + 1) [] ++ p ∷ []) ∙ ap₂ (λ l c. set l key (c ++ p ∷ [])) rest (get_next X1 key [] ∙ ap (λ l. get_or l key []) rest))

    loose_rest : sum_by (times p) (drop 1 X) ≡ 0
    loose_rest = ap (sum_by (times p)) (sym rest) ∙ omega (arith, sum_rest-le (times p) X1, loose)

    own : gather (set items p (Some x)) (get_or (drop 1 X) key [] ++ p ∷ []) ≡ get_or (lists_of items X) key [] ++ x ∷ []
    own =
        let none : times p (get_or (drop 1 X) key []) ≡ 0 = omega (arith, part-le (times p) (drop 1 X) key [] inside, loose_rest) in
        gather_push (set items p (Some x)) p x (get_or (drop 1 X) key []) (get_or-set_same items p (Some x) None within)
        ∙ ap (λ l. l ++ x ∷ []) (gather_other items p x (get_or (drop 1 X) key []) none ∙ sym (list_at items X key))

    pub pushed_lists : lists_of (set items p (Some x)) X2 ≡ set (lists_of items X) key (get_or (lists_of items X) key [] ++ x ∷ [])
    pushed_lists =
        ap (map (gather (set items p (Some x)))) tail
        ∙ (map-set (gather (set items p (Some x))) (drop 1 X) key (get_or (drop 1 X) key [] ++ p ∷ [])
        ∙ ap₂ (λ l v. set l key v) (gather_others items p x (drop 1 X) loose_rest) own)

    pub pushed_filled : map length (lists_of (set items p (Some x)) X2) ≡ map length (drop 1 X2)
    pushed_filled =
        let more : length (get_or (lists_of items X) key [] ++ x ∷ []) ≡ length (get_or (drop 1 X) key [] ++ p ∷ []) =
        omega (arith, length-append (get_or (lists_of items X) key []) (x ∷ []), length-append (get_or (drop 1 X) key []) (p ∷ []), filled_at items X key filled) in
        ap (map length) pushed_lists
        ∙ (map-set length (lists_of items X) key (get_or (lists_of items X) key [] ++ x ∷ [])
        ∙ (ap₂ (λ l n. set l key n) filled more
        ∙ (sym (map-set length (drop 1 X) key (get_or (drop 1 X) key [] ++ p ∷ [])) ∙ ap (map length) (sym tail))))

  -- a new cell goes to a key
  gather_past : (items : List (Option A)) (ps : List ℕ) → gather (items ++ None ∷ []) ps ≡ gather items ps
  gather_past items [] = refl
  gather_past items (p ∷ ps) = ap₂ with_item (get_past items None p) (gather_past items ps)

  lists_past : (items : List (Option A)) (chains : List (List ℕ)) → map (gather (items ++ None ∷ [])) chains ≡ map (gather items) chains
  lists_past items [] = refl
  lists_past items (c ∷ cs) = ap₂ (λ l m. l ∷ m) (gather_past items c) (lists_past items cs)

  set_last : (items : List (Option A)) (a b : Option A) → set (items ++ a ∷ []) (length items) b ≡ items ++ b ∷ []
  set_last [] a b = refl
  set_last (x ∷ items) a b = ap (λ l. x ∷ l) (set_last items a b)

  module _ (items : List (Option A)) (X X1 X2 : List (List ℕ)) (key p : ℕ) (x : A) (free : get_or X 0 [] ≡ []) (same : X1 ≡ X) (second : X2 ≡ set X1 (key + 1) (get_or X1 (key + 1) [] ++ p ∷ []))
      (loose : sum_by (times p) X1 ≡ 0) (at : p ≡ length items) (inside : key < length (drop 1 X)) (filled : map length (lists_of items X) ≡ map length (drop 1 X)) where
    items_are : set (items ++ None ∷ []) p (Some x) ≡ items ++ Some x ∷ []
    items_are = ap (λ i. set (items ++ None ∷ []) i (Some x)) at ∙ set_last items None (Some x)

    lists_are : lists_of (items ++ None ∷ []) X ≡ lists_of items X
    lists_are = lists_past items (drop 1 X)

    begun : X1 ≡ set X 0 (drop 1 (get_or X 0 []))
    begun = same ∙ unchanged X 0 free

    within_wide : p < length (items ++ None ∷ [])
    within_wide = omega (arith, at, length-append items (None ∷ []))

    pub made_lists : lists_of (items ++ Some x ∷ []) X2 ≡ set (lists_of items X) key (get_or (lists_of items X) key [] ++ x ∷ [])
    made_lists =
        ap (λ i. lists_of i X2) (sym items_are)
        ∙ (pushed_lists (items ++ None ∷ []) X X1 X2 key p x begun second loose within_wide inside (ap (map length) lists_are ∙ filled)
        ∙ ap (λ l. set l key (get_or l key [] ++ x ∷ [])) lists_are)

    pub made_filled : map length (lists_of (items ++ Some x ∷ []) X2) ≡ map length (drop 1 X2)
    made_filled = ap (λ i. map length (lists_of i X2)) (sym items_are) ∙ pushed_filled (items ++ None ∷ []) X X1 X2 key p x begun second loose within_wide inside (ap (map length) lists_are ∙ filled)

  -- a cell goes from a key to the free ones
  module _ (items : List (Option A)) (X X1 X2 : List (List ℕ)) (key p : ℕ) (place : get_or X (key + 1) [] ≡ p ∷ drop 1 (get_or X (key + 1) [])) (first : X1 ≡ set X (key + 1) (drop 1 (get_or X (key + 1) [])))
      (second : X2 ≡ set X1 0 (get_or X1 0 [] ++ p ∷ [])) (filled : map length (lists_of items X) ≡ map length (drop 1 X)) where
    left : drop 1 X2 ≡ set (drop 1 X) key (drop 1 (get_or (drop 1 X) key []))
    left =
        ap (drop 1) second ∙ (drop_set_first X1 (get_or X1 0 [] ++ p ∷ []) ∙ (ap (drop 1) first ∙ (drop_set X key (drop 1 (get_or X (key + 1) []))
        ∙ ap (λ c. set (drop 1 X) key (drop 1 c)) (get_next X key []))))

    chain_is : get_or (drop 1 X) key [] ≡ p ∷ drop 1 (get_or (drop 1 X) key [])
    chain_is = sym (get_next X key []) ∙ (place ∙ ap (λ c. p ∷ drop 1 c) (get_next X key []))

    found : (x : A) × (get_or items p None ≡ Some x) × (length (gather items (drop 1 (get_or (drop 1 X) key []))) ≡ length (drop 1 (get_or (drop 1 X) key [])))
    found =
        let whole : length (gather items (get_or (drop 1 X) key [])) ≡ length (get_or (drop 1 X) key []) = ap length (sym (list_at items X key)) ∙ filled_at items X key filled in
        first_some items p (drop 1 (get_or (drop 1 X) key [])) (subst (λ c. length (gather items c) ≡ length c) chain_is whole)

    list_is : get_or (lists_of items X) key [] ≡ found.0 ∷ gather items (drop 1 (get_or (drop 1 X) key []))
    list_is = list_at items X key ∙ (ap (gather items) chain_is ∙ ap (λ o. with_item o (gather items (drop 1 (get_or (drop 1 X) key [])))) found.1)

    pub popped_item : MatchOption (get_or items p None) (get_or (lists_of items X) key [] ≡ []) (λ item. get_or (lists_of items X) key [] ≡ item ∷ drop 1 (get_or (lists_of items X) key []))
    popped_item = subst (λ o. MatchOption o (get_or (lists_of items X) key [] ≡ []) (λ item. get_or (lists_of items X) key [] ≡ item ∷ drop 1 (get_or (lists_of items X) key []))) (sym found.1)
        (list_is ∙ ap (λ l. found.0 ∷ l) (sym (ap (drop 1) list_is)))

    pub popped_lists : lists_of items X2 ≡ set (lists_of items X) key (drop 1 (get_or (lists_of items X) key []))
    popped_lists =
        ap (map (gather items)) left ∙ (map-set (gather items) (drop 1 X) key (drop 1 (get_or (drop 1 X) key [])) ∙ ap (set (lists_of items X) key) (sym (ap (drop 1) list_is)))

    pub popped_filled : map length (lists_of items X2) ≡ map length (drop 1 X2)
    popped_filled =
        ap (map length) popped_lists
        ∙ (map-set length (lists_of items X) key (drop 1 (get_or (lists_of items X) key []))
        ∙ (ap₂ (λ l n. set l key n) filled (ap length (ap (drop 1) list_is) ∙ found.2)
        ∙ (sym (map-set length (drop 1 X) key (drop 1 (get_or (drop 1 X) key []))) ∙ ap (map length) (sym left))))
