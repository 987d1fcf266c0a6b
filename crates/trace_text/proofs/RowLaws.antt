-- Lists side by side, and numbers in a row.
use Rattle.std.proofs.Common.{◌≡◌, ℕ, zero, suc, ◌<◌, ◌≤◌, ◌+◌, ◌-◌, List, [], ◌∷◌, ◌++◌, length, drop, sym, ap, ◌∙◌, refl, subst, arith, append-nil}
use Rattle.std.specs.Prelude.{Bool, true, false, ◌==◌, ◌&&◌, cond, IsTrue, map, filter, slice_index_or}
use Rattle.std.specs.List.{flat_map, list_all}
use Rattle.std.proofs.lemmas.List.{drop_all, drop_more, append_assoc, get_or-map, length-map}
use Rattle.std.proofs.lemmas.Bool.Decides.{nat_tests}
use Rattle.yard_model.specs.declared.packet.Record.{Record}
use Rattle.yard_model.specs.declared.fact.Fact.{Fact}
use Rattle.yard_model.specs.Words.{numbers}
use Rattle.yard_model.specs.Behaviour.{empty_state}
use Rattle.yard_model.specs.Script.{Setting}
use Rattle.yard_model.specs.Setting.{shards, shard_of, names_of}
use Rattle.yard_model.specs.SlotLists.{SlotLists, shard_list}
use Rattle.yard_model.specs.SlotReads.{journal}
use Rattle.yard_model.specs.Text.{Bytes}
use Rattle.trace_text.specs.Foldable.{are_foldable, is_foldable}
use Rattle.trace_text.specs.declared.queues.Tally.{Tally}
use Rattle.trace_text.specs.Places.{journals_of, tally_of, tallies_of}
use Rattle.trace_text.specs.Rows.{rows, shard_rows, queue_rows}

-- the first row of what is left
pub rows_step : {A B C : Type 0} (show : A → B → List C) (xs : List A) (ys : List B) (i : ℕ) (d : A) (e : B) (done after whole : List C) → i < length xs → i < length ys
    → after ≡ done ++ show (slice_index_or xs i d) (slice_index_or ys i e) → done ++ rows show (drop i xs) (drop i ys) ≡ whole
    → after ++ rows show (drop (i + 1) xs) (drop (i + 1) ys) ≡ whole
rows_step show xs ys i d e done after whole hx hy is old =
    ap (λ l. l ++ rows show (drop (i + 1) xs) (drop (i + 1) ys)) is
    ∙ (append_assoc done (show (slice_index_or xs i d) (slice_index_or ys i e)) (rows show (drop (i + 1) xs) (drop (i + 1) ys))
    ∙ (sym (ap (λ (l : List _). done ++ rows show l (drop i ys)) (drop_more xs i d hx) ∙ ap (λ (l : List _). done ++ rows show (slice_index_or xs i d ∷ drop (i + 1) xs) l) (drop_more ys i e hy)) ∙ old))

-- rows of what is kept of each
pub rows_map : {A B C : Type 0} (show : A → B → List C) (f : A → B) (xs : List A) → rows show xs (map f xs) ≡ flat_map (λ x. show x (f x)) xs
rows_map show f [] = refl
rows_map show f (x ∷ xs) = ap (λ l. show x (f x) ++ l) (rows_map show f xs)

-- the next row, of a list whose items are kept behind a view
pub row_of_next : {A B V C : Type 0} (show : A → B → List C) (items : V → B) (xs : List A) (vs : List V) (i : ℕ) (x : A) (v : V) (b e : B) (done after whole : List C) → i < length xs → i < length vs
    → x ≡ slice_index_or xs i x → v ≡ slice_index_or vs i v → b ≡ items v → after ≡ done ++ show x b → done ++ rows show (drop i xs) (drop i (map items vs)) ≡ whole
    → after ++ rows show (drop (i + 1) xs) (drop (i + 1) (map items vs)) ≡ whole
row_of_next show items xs vs i x v b e done after whole hx hy isx isv isb is old =
    let within : i < length (map items vs) = omega (arith, length-map vs items) in
    let row : b ≡ slice_index_or (map items vs) i e = isb ∙ (ap items isv ∙ sym (get_or-map items vs i v e hy)) in
    rows_step show xs (map items vs) i x e done after whole hx within (is ∙ (ap (λ n. done ++ show n b) isx ∙ ap (λ r. done ++ show (slice_index_or xs i x) r) row)) old

-- as many are kept as there are names
pub as_many : {A B V : Type 0} (items : V → B) (f : A → B) (vs : List V) (xs : List A) → map items vs ≡ map f xs → length vs ≡ length xs
as_many items f vs xs e = sym (length-map vs items) ∙ (ap length e ∙ length-map xs f)

-- the first of the numbers that are left
pub numbers_first : (k i n : ℕ) → i < n → numbers k (n - i) ≡ k ∷ numbers (k + 1) (n - (i + 1))
numbers_first k i n h = let less : n - i ≡ suc (n - (i + 1)) = omega arith in rw less refl

-- the text of one number more
pub numbers_step : {C : Type 0} (show : ℕ → List C) (k i n : ℕ) (done after whole : List C) → i < n → after ≡ done ++ show k
    → done ++ flat_map show (numbers k (n - i)) ≡ whole → after ++ flat_map show (numbers (k + 1) (n - (i + 1))) ≡ whole
numbers_step show k i n done after whole h is old =
    ap (λ l. l ++ flat_map show (numbers (k + 1) (n - (i + 1)))) is
    ∙ (append_assoc done (show k) (flat_map show (numbers (k + 1) (n - (i + 1))))
    ∙ (sym (ap (λ l. done ++ flat_map show l) (numbers_first k i n h)) ∙ old))

pub first_of : (a b : Bool) → IsTrue (a && b) → IsTrue a
first_of true b h = refl
first_of false b h = h

pub second_of : (a b : Bool) → IsTrue (a && b) → IsTrue b
second_of true b h = h
second_of false b h = cc

-- what holds of all numbers in a row
pub numbers_all : (test : ℕ → Bool) (a n i : ℕ) → IsTrue (list_all test (numbers a n)) → i < n → IsTrue (test (a + i))
numbers_all test a zero i all h = absurd (omega arith)
numbers_all test a (suc n) zero all h = let at_first : a + 0 ≡ a = omega arith in subst (λ k. IsTrue (test k)) (sym at_first) (first_of (test a) _ all)
numbers_all test a (suc n) (suc i) all h =
    let shifted : a + 1 + i ≡ a + suc i = omega arith in
    subst (λ k. IsTrue (test k)) shifted (numbers_all test (a + 1) n i (second_of (test a) _ all) (omega arith))

-- so of all from 0 on
pub all_below : (test : ℕ → Bool) (n i : ℕ) → IsTrue (list_all test (numbers 0 n)) → i < n → IsTrue (test i)
all_below test n i all h = let same : 0 + i ≡ i = omega arith in subst (λ k. IsTrue (test k)) same (numbers_all test 0 n i all h)

-- a shard's names have their journals in its list
pub shard_is : {C : Type 0} (show : Setting → List ℕ → List Record → List C) (set : Setting) (lists : SlotLists) (s : ℕ) (names : List (List ℕ))
    → flat_map (λ e. show set e (journal e (shard_list lists (shard_of set e)))) (filter (λ e. shard_of set e == s) names)
    ≡ flat_map (λ e. show set e (journal e (shard_list lists s))) (filter (λ e. shard_of set e == s) names)
shard_is show set lists s [] = refl
shard_is show set lists s (e ∷ es) = one (shard_of set e == s) refl (shard_is show set lists s es)
  where
    same : shard_of set e == s ≡ true → shard_of set e ≡ s
    same t = grind (arith, nat_tests)

    one : (b : Bool) → shard_of set e == s ≡ b
        → flat_map (λ n. show set n (journal n (shard_list lists (shard_of set n)))) (filter (λ n. shard_of set n == s) es)
        ≡ flat_map (λ n. show set n (journal n (shard_list lists s))) (filter (λ n. shard_of set n == s) es)
        → flat_map (λ n. show set n (journal n (shard_list lists (shard_of set n)))) (cond b (e ∷ filter (λ n. shard_of set n == s) es) (filter (λ n. shard_of set n == s) es))
        ≡ flat_map (λ n. show set n (journal n (shard_list lists s))) (cond b (e ∷ filter (λ n. shard_of set n == s) es) (filter (λ n. shard_of set n == s) es))
    one true t rest = ap (λ t. show set e (journal e (shard_list lists t)) ++ flat_map (λ n. show set n (journal n (shard_list lists (shard_of set n)))) (filter (λ n. shard_of set n == s) es)) (same t)
        ∙ ap (λ l. show set e (journal e (shard_list lists s)) ++ l) rest
    one false t rest = rest

-- the entities are those of each shard's list
pub entities_are : {C : Type 0} (show : Setting → List ℕ → List Record → List C) (set : Setting) (lists : SlotLists)
    → flat_map (λ s. flat_map (λ e. show set e (journal e (shard_list lists (shard_of set e)))) (names_of set s)) (shards set) ≡ flat_map (λ s. shard_rows show set s (shard_list lists s)) (shards set)
entities_are show set lists = each (shards set)
  where
    each : (ss : List ℕ) → flat_map (λ s. flat_map (λ e. show set e (journal e (shard_list lists (shard_of set e)))) (names_of set s)) ss ≡ flat_map (λ s. shard_rows show set s (shard_list lists s)) ss
    each [] = refl
    each (s ∷ ss) = ap (λ l. l ++ flat_map (λ s. flat_map (λ e. show set e (journal e (shard_list lists (shard_of set e)))) (names_of set s)) ss) (shard_is show set lists s set.names)
        ∙ ap (λ l. shard_rows show set s (shard_list lists s) ++ l) (each ss)

-- the journal at a place leads to a state
pub foldable_at : (set : Setting) (list : List Fact) (names : List (List ℕ)) (kept : List (List Record)) (k : ℕ) → kept ≡ journals_of names list
    → IsTrue (list_all (is_foldable set.config.kind list) names) → k < length names → IsTrue (are_foldable (empty_state set.config.kind) (slice_index_or kept k []))
foldable_at set list names kept k is all h =
    subst (λ r. IsTrue (are_foldable (empty_state set.config.kind) r)) (sym (ap (λ r. slice_index_or r k []) is ∙ get_or-map (λ e. journal e list) names k [] [] h)) (each names k all h)
  where
    each : (ns : List (List ℕ)) (i : ℕ) → IsTrue (list_all (is_foldable set.config.kind list) ns) → i < length ns → IsTrue (is_foldable set.config.kind list (slice_index_or ns i []))
    each [] i a l = absurd (omega arith)
    each (n ∷ ns) zero a l = first_of (is_foldable set.config.kind list n) _ a
    each (n ∷ ns) (suc i) a l = each ns i (second_of (is_foldable set.config.kind list n) _ a) (omega arith)

-- a name of a shard is of that shard
pub in_shard : (set : Setting) (s : ℕ) (names : List (List ℕ)) (k : ℕ) → names ≡ names_of set s → k < length names → shard_of set (slice_index_or names k []) ≡ s
in_shard set s names k is h = subst (λ (l : List (List ℕ)). shard_of set (slice_index_or l k []) ≡ s) (sym is) (each set.names k (subst (λ (l : List (List ℕ)). k < length l) is h))
  where
    same : (n : List ℕ) → shard_of set n == s ≡ true → shard_of set n ≡ s
    same n t = grind (arith, nat_tests)

    at : (n : List ℕ) (ns : List (List ℕ)) → ((j : ℕ) → j < length ns → shard_of set (slice_index_or ns j []) ≡ s) → (b : Bool) → shard_of set n == s ≡ b → (j : ℕ) → j < length (cond b (n ∷ ns) ns)
        → shard_of set (slice_index_or (cond b (n ∷ ns) ns) j []) ≡ s
    at n ns rest true t zero m = same n t
    at n ns rest true t (suc j) m = rest j (omega arith)
    at n ns rest false t j m = rest j m

    each : (ns : List (List ℕ)) (i : ℕ) → i < length (filter (λ e. shard_of set e == s) ns) → shard_of set (slice_index_or (filter (λ e. shard_of set e == s) ns) i []) ≡ s
    each [] i l = absurd (omega arith)
    each (n ∷ ns) i l = at n (filter (λ e. shard_of set e == s) ns) (each ns) (shard_of set n == s) refl i l

-- the rows of a shard's names with their journals
pub rows_are : {C : Type 0} (show : Setting → List ℕ → List Record → List C) (set : Setting) (s : ℕ) (list : List Fact) (names : List (List ℕ)) (kept : List (List Record)) → names ≡ names_of set s → kept ≡ journals_of names list
    → rows (show set) names kept ≡ shard_rows show set s list
rows_are show set s list names kept same is =
    ap (rows (show set) names) is ∙ (rows_map (show set) (λ e. journal e list) names ∙ ap (flat_map (λ e. show set e (journal e list))) same)

-- the rows of a queue's counts are its pairs
pub tallies_are : {C : Type 0} (show : ℕ → List ℕ → Tally → List C) (p : ℕ) (list : List Fact) (all names : List (List ℕ)) (kept : List Tally) → names ≡ all → kept ≡ tallies_of names list
    → rows (show p) names kept ≡ queue_rows show p list all
tallies_are show p list all names kept same is = ap (rows (show p) names) is ∙ (rows_map (show p) (tally_of list) names ∙ ap (queue_rows show p list) same)

-- four parts, one behind the other
pub four_parts : (start r f q e one two three : Bytes) → one ≡ start ++ r → two ≡ one ++ f → three ≡ two ++ q → three ++ e ≡ start ++ (r ++ f ++ q ++ e)
four_parts start r f q e one two three first second third = rw (third, second, first) (simp append_assoc)

-- one more of what each comes to, and the end of them
pub map_next : {A B : Type 0} (show : A → B) (xs : List A) (i : ℕ) (d : A) (y : B) (old new whole : List B) → i < length xs → new ≡ old ++ y ∷ [] → y ≡ show (slice_index_or xs i d)
    → old ++ map show (drop i xs) ≡ whole → new ++ map show (drop (i + 1) xs) ≡ whole
map_next show xs i d y old new whole h is seen told =
    ap (λ (l : List _). l ++ map show (drop (i + 1) xs)) is
    ∙ (append_assoc old (y ∷ []) (map show (drop (i + 1) xs))
    ∙ (ap (λ z. old ++ z ∷ map show (drop (i + 1) xs)) seen
    ∙ (sym (ap (λ l. old ++ map show l) (drop_more xs i d h)) ∙ told)))

pub map_done : {A B : Type 0} (show : A → B) (xs : List A) (i : ℕ) (text whole : List B) → length xs ≤ i → text ++ map show (drop i xs) ≡ whole → text ≡ whole
map_done show xs i text whole h told = sym (append-nil text) ∙ (sym (ap (λ l. text ++ map show l) (drop_all i xs h)) ∙ told)
