-- What is left of a text that grows piece by piece.
use Rattle.std.proofs.Common.{◌≡◌, ℕ, ◌≤◌, ◌<◌, ◌+◌, List, [], ◌∷◌, ◌++◌, length, take, drop, true≢false, refl, sym, ap, ◌∙◌, subst, arith, append_assoc, append-nil}
use Rattle.std.specs.Prelude.{Result, Ok, Err, IsErr, is_ok, map, min, if◌then◌else◌, slice_index_or}
use Rattle.std.specs.List.{flat_map}
use Rattle.std.proofs.lemmas.Grind.{flat_map-append}
use Rattle.std.proofs.lemmas.List.{drop_all, drop_more, length-take, take_at, take_more, take-take}
use Rattle.yard_model.specs.Text.{Bytes}
use Rattle.trace_text.specs.Grown.{Appends, Begins, Grows}

pub begins_self : (text : Bytes) → Begins text text
begins_self [] = refl
begins_self (b ∷ bs) = ap (λ (l : Bytes). b ∷ l) (begins_self bs)

pub begins_same : (old new : Bytes) → new ≡ old → Begins old new
begins_same old new same = subst (λ (l : Bytes). Begins old l) (sym same) (begins_self old)

pub begins_more : (old new more : Bytes) → new ≡ old ++ more → Begins old new
begins_more old new more is = ap (take (length old)) is ∙ take_at old more (length old) refl

shorter : (old new : Bytes) → Begins old new → length old ≤ length new
shorter old new begins =
    let all : length (take (length old) new) ≡ length old = ap length begins in
    let some : length (take (length old) new) ≡ min (length old) (length new) = length-take (length old) new in
    omega (arith, all, some)

-- what begins with a text that begins with another
pub begins_then : (old mid new : Bytes) → Begins old mid → Begins mid new → Begins old new
begins_then old mid new first second = sym (take-take (length old) (length mid) new (shorter old mid first)) ∙ (ap (take (length old)) second ∙ first)

-- a piece behind a first one
pub grows_on : {T E : Type 0} (r : Result T E) (old mid new first more : Bytes) → mid ≡ old ++ first → Grows r mid new more → Grows r old new (first ++ more)
grows_on (Ok x) old mid new first more is told = told ∙ (ap (λ (l : Bytes). l ++ more) is ∙ append_assoc old first more)
grows_on (Err y) old mid new first more is told = begins_then old mid new (begins_more old mid first is) told

-- a piece that is there as a whole or not at all
pub appends_grows : {T E : Type 0} (r : Result T E) (old new more : Bytes) → Appends r old new more → Grows r old new more
appends_grows (Ok x) old new more told = told
appends_grows (Err y) old new more told = begins_same old new told

-- cut to the old length where memory was missing
cut_at : {T E : Type 0} (r : Result T E) (old mid new more : Bytes) → Grows r old mid more → new ≡ (if is_ok r then mid else take (length old) mid) → Appends r old new more
cut_at (Ok x) old mid new more grown cut = cut ∙ grown
cut_at (Err y) old mid new more grown cut = cut ∙ grown

pub cut_back : {T E : Type 0} (r s : Result T E) (n : ℕ) (old mid new more : Bytes) → s ≡ r → n ≡ length old → Grows r old mid more
    → new ≡ (if is_ok r then mid else take n mid) → Appends s old new more
cut_back {T} {E} r s n old mid new more same long grown cut =
    subst (λ (x : Result T E). Appends x old new more) (sym same) (cut_at r old mid new more grown (subst (λ (k : ℕ). new ≡ (if is_ok r then mid else take k mid)) long cut))

-- nothing is left to come
pub grows_done : {A : Type 0} (text rest whole : List A) → rest ≡ [] → text ++ rest ≡ whole → text ≡ whole
grows_done text rest whole none told = sym (append-nil text) ∙ (ap (λ l. text ++ l) (sym none) ∙ told)

-- on an error the text is still in front
pub grows_err : {T E : Type 0} (r : Result T E) (old new more : Bytes) → IsErr r → Begins old new → Grows r old new more
grows_err (Ok x) old new more failed begins = absurd (true≢false (sym failed))
grows_err (Err y) old new more failed begins = begins

-- a loop that appends the text of each item: the next one, the end, and what is left on an error
pub each_next : {A : Type 0} (show : A → Bytes) (xs : List A) (i : ℕ) (x : A) (old new whole : Bytes) → i < length xs → x ≡ slice_index_or xs i x → new ≡ old ++ show x
    → old ++ flat_map show (drop i xs) ≡ whole → new ++ flat_map show (drop (i + 1) xs) ≡ whole
each_next show xs i x old new whole h is more told =
    ap (λ (l : Bytes). l ++ flat_map show (drop (i + 1) xs)) more
    ∙ (append_assoc old (show x) (flat_map show (drop (i + 1) xs))
    ∙ (sym (ap (λ l. old ++ flat_map show l) (drop_more xs i x h ∙ ap (λ y. y ∷ drop (i + 1) xs) (sym is))) ∙ told))

pub each_done : {A : Type 0} (show : A → Bytes) (xs : List A) (i : ℕ) (text whole : Bytes) → length xs ≤ i → text ++ flat_map show (drop i xs) ≡ whole → text ≡ whole
each_done show xs i text whole h told = grows_done text (flat_map show (drop i xs)) whole (ap (λ l. flat_map show l) (drop_all i xs h)) told

pub each_err : {T E : Type 0} (r : Result T E) (old mid new more : Bytes) → IsErr r → Begins old mid → new ≡ mid → Grows r old new more
each_err r old mid new more failed begins same = grows_err r old new more failed (begins_then old mid new begins (begins_same mid new same))

-- the same of what is seen of each item
pub each_seen_next : {A B : Type 0} (of : A → B) (show : B → Bytes) (xs : List A) (i : ℕ) (x : A) (old new whole : Bytes) → i < length xs → x ≡ slice_index_or xs i x → new ≡ old ++ show (of x)
    → old ++ flat_map show (map of (drop i xs)) ≡ whole → new ++ flat_map show (map of (drop (i + 1) xs)) ≡ whole
each_seen_next of show xs i x old new whole h is more told =
    ap (λ (l : Bytes). l ++ flat_map show (map of (drop (i + 1) xs))) more
    ∙ (append_assoc old (show (of x)) (flat_map show (map of (drop (i + 1) xs)))
    ∙ (sym (ap (λ l. old ++ flat_map show (map of l)) (drop_more xs i x h ∙ ap (λ y. y ∷ drop (i + 1) xs) (sym is))) ∙ told))

pub each_seen_done : {A B : Type 0} (of : A → B) (show : B → Bytes) (xs : List A) (i : ℕ) (text whole : Bytes) → length xs ≤ i → text ++ flat_map show (map of (drop i xs)) ≡ whole → text ≡ whole
each_seen_done of show xs i text whole h told = grows_done text (flat_map show (map of (drop i xs))) whole (ap (λ l. flat_map show (map of l)) (drop_all i xs h)) told

-- one text more, behind those of the items before it
pub each_taken : {A : Type 0} (show : A → Bytes) (xs : List A) (i : ℕ) (x : A) (text waits first new : Bytes) → i < length xs → x ≡ slice_index_or xs i x → new ≡ text ++ (waits ++ show x)
    → text ++ waits ≡ first ++ flat_map show (take i xs) → new ≡ first ++ flat_map show (take (i + 1) xs)
each_taken show xs i x text waits first new h is more told =
    let last : flat_map show (take (i + 1) xs) ≡ flat_map show (take i xs) ++ show x =
    ap (λ l. flat_map show l) (take_more xs i x h)
    ∙ (flat_map-append show (take i xs) (slice_index_or xs i x ∷ [])
    ∙ (ap (λ l. flat_map show (take i xs) ++ l) (append-nil (show (slice_index_or xs i x))) ∙ ap (λ y. flat_map show (take i xs) ++ show y) (sym is))) in
    more
    ∙ (sym (append_assoc text waits (show x))
    ∙ (ap (λ l. l ++ show x) told ∙ (append_assoc first (flat_map show (take i xs)) (show x) ∙ ap (λ l. first ++ l) (sym last))))

-- the last piece
pub appends_last : {T E : Type 0} (r : Result T E) (old mid new more whole : Bytes) → Begins old mid → mid ++ more ≡ old ++ whole → Appends r mid new more → Grows r old new whole
appends_last (Ok x) old mid new more whole begins is told = told ∙ is
appends_last (Err y) old mid new more whole begins is told = begins_then old mid new begins (begins_same mid new told)
