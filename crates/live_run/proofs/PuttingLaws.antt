-- Pieces of a text, one after the other, of which the last may have failed.
use Rattle.std.proofs.Common.{◌≡◌, ◌≤◌, ◌<◌, ℕ, zero, suc, ◌+◌, ◌-◌, List, [], ◌∷◌, ◌++◌, length, take, drop, true≢false, sym, ap, ◌∙◌, refl, subst, arith, zero-add}
use Rattle.std.specs.Prelude.{◌==◌, false, map, codes, decimal, Result, Ok, Err, IsErr, OnErr, OnOk}
use Rattle.std.specs.List.{flat_map}
use Rattle.std.proofs.Math.Nat.{suc-add}
use Rattle.std.proofs.Math.Seq.{take-nil}
use Rattle.std.proofs.lemmas.List.{append-nil, length-drop, length-map, take-append-drop, take_all}
use Rattle.std.proofs.lemmas.List.Folds.{flat_map-map}
use Rattle.std.proofs.lemmas.Grind.{flat_map-append}
use Rattle.yard_io.specs.Told.{followed_by, TakesFront}
use Rattle.yard_model.specs.declared.fact.Fact.{Fact}
use Rattle.yard_model.specs.declared.incarnation.Slot.{Slot}
use Rattle.yard_model.specs.Text.{Bytes, fact_line, line, slot_lines, slot_text}
use Rattle.yard_model.specs.Words.{numbers}
use Rattle.run_parts.specs.Writing.{Sunk, Took, TookFront}
use Rattle.run_parts.specs.declared.writing.WriteError.TheVariants as write_error
use Rattle.run_parts.proofs.WritingLaws.{front_both, front_more, front_same, took_both, took_nothing, took_same}
use Rattle.live_run.specs.Written.{Puts}

abbrev pub Began : Bytes → Sunk → Sunk → Type 0
Began text s t = TookFront text write_error.Failed s t

pub puts_err : {A E : Type 0} (r : Result A E) (text : Bytes) (s t : Sunk) → IsErr r → Began text s t → Puts text r s t
puts_err (Ok x) text s t failed front = absurd (true≢false (sym failed))
puts_err (Err y) text s t failed front = front

-- what became of a piece
pub puts_of : {A E : Type 0} (r : Result A E) (text : Bytes) (s t : Sunk) → OnOk r (t.taken ≡ followed_by s.taken text) → OnErr r (TakesFront s.taken t.taken text) → t.flushed ≡ s.flushed
    → OnErr r (s.faults < t.faults) → s.faults ≤ t.faults → Puts text r s t
puts_of (Ok x) text s t ok err flushed cause faults = record { taken_is = ok; flushed_is = flushed; faults_are = faults }
puts_of (Err y) text s t ok err flushed cause faults = record { front = err; flushed_is = flushed; faults_are = faults; cause = cause }

-- one piece, and what became of the next
pub puts_on : {A E : Type 0} (r : Result A E) (a b : Bytes) (s t u : Sunk) → Took a s t → Puts b r t u → Puts (a ++ b) r s u
puts_on (Ok x) a b s t u one two = took_both a b s t u one two
puts_on (Err y) a b s t u one two = front_both a b write_error.Failed s t u one two

pub puts_same : {A E : Type 0} (r : Result A E) (a b : Bytes) (s t : Sunk) → a ≡ b → Puts a r s t → Puts b r s t
puts_same r a b s t same put = subst (λ (x : Bytes). Puts x r s t) same put

-- Lines of a list, as many at a time as there is room for.

take_then : {A : Type 0} (i n : ℕ) (xs : List A) → take i xs ++ take n (drop i xs) ≡ take (i + n) xs
take_then zero n xs = rw zero-add refl
take_then (suc i) n [] = take-nil n ∙ sym (take-nil (suc i + n))
take_then (suc i) n (x ∷ xs) = rw suc-add (ap (λ l. x ∷ l) (take_then i n xs))

pub rest_is : {A : Type 0} (i : ℕ) (xs : List A) → take (length xs - i) (drop i xs) ≡ drop i xs
rest_is i xs = let long : length (drop i xs) ≡ length xs - i = length-drop i xs in take_all (length xs - i) (drop i xs) (omega arith)

pub rest_length : {A : Type 0} (i : ℕ) (xs : List A) → length (take (length xs - i) (drop i xs)) ≡ length xs - i
rest_length i xs = ap length (rest_is i xs) ∙ length-drop i xs

joined : {A : Type 0} (f : A → Bytes) (xs : List A) (i n : ℕ) (part : Bytes) → part ≡ flat_map f (take n (take (length xs - i) (drop i xs)))
    → flat_map f (take i xs) ++ part ≡ flat_map f (take (i + n) xs)
joined f xs i n part is =
    ap (λ l. flat_map f (take i xs) ++ l) (is ∙ ap (λ l. flat_map f (take n l)) (rest_is i xs))
    ∙ (sym (flat_map-append f (take i xs) (take n (drop i xs))) ∙ ap (λ l. flat_map f l) (take_then i n xs))

pub lines_next : {A : Type 0} (f : A → Bytes) (xs : List A) (i n : ℕ) (part : Bytes) (s t u : Sunk) → part ≡ flat_map f (take n (take (length xs - i) (drop i xs)))
    → Took (flat_map f (take i xs)) s t → Took part t u → Took (flat_map f (take (i + n) xs)) s u
lines_next f xs i n part s t u is first more = took_same _ _ s u (joined f xs i n part is) (took_both (flat_map f (take i xs)) part s t u first more)

pub lines_began : {A : Type 0} (f : A → Bytes) (xs : List A) (i n : ℕ) (part : Bytes) (s t u : Sunk) → part ≡ flat_map f (take n (take (length xs - i) (drop i xs)))
    → Took (flat_map f (take i xs)) s t → Began part t u → Began (flat_map f xs) s u
lines_began f xs i n part s t u is first more =
    front_same _ _ write_error.Failed s u (sym (flat_map-append f (take (i + n) xs) (drop (i + n) xs)) ∙ ap (λ l. flat_map f l) (take-append-drop (i + n) xs))
    (front_more (flat_map f (take (i + n) xs)) (flat_map f (drop (i + n) xs)) write_error.Failed s u
    (front_same _ _ write_error.Failed s u (joined f xs i n part is) (front_both (flat_map f (take i xs)) part write_error.Failed s t u first more)))

pub lines_all : {A : Type 0} (f : A → Bytes) (xs : List A) (i : ℕ) (s t : Sunk) → length xs ≤ i → Took (flat_map f (take i xs)) s t → Took (flat_map f xs) s t
lines_all f xs i s t all first = took_same _ _ s t (ap (λ l. flat_map f l) (take_all i xs all)) first

-- Texts of numbers in a row.

numbers_both : (a i k : ℕ) → numbers a (i + k) ≡ numbers a i ++ numbers (a + i) k
numbers_both a zero k = let none : a + 0 ≡ a = omega arith in rw zero-add (ap (λ m. numbers m k) (sym none))
numbers_both a (suc i) k =
    let on : a + 1 + i ≡ a + suc i = omega arith in
    rw suc-add (ap (λ l. a ∷ l) (numbers_both (a + 1) i k ∙ ap (λ m. numbers (a + 1) i ++ numbers m k) on))

one_more : (f : ℕ → Bytes) (a i : ℕ) → flat_map f (numbers a i) ++ f (a + i) ≡ flat_map f (numbers a (i + 1))
one_more f a i =
    ap (λ l. flat_map f (numbers a i) ++ l) (sym (append-nil (f (a + i))))
    ∙ (sym (flat_map-append f (numbers a i) ((a + i) ∷ [])) ∙ ap (λ l. flat_map f l) (sym (numbers_both a i 1)))

pub numbers_next : (f : ℕ → Bytes) (a i k : ℕ) (s t u : Sunk) → a + i ≡ k → Took (flat_map f (numbers a i)) s t → Took (f k) t u → Took (flat_map f (numbers a (i + 1))) s u
numbers_next f a i k s t u is first more =
    took_same _ _ s u (one_more f a i) (took_both (flat_map f (numbers a i)) (f (a + i)) s t u first (subst (λ (n : ℕ). Took (f n) t u) (sym is) more))

pub numbers_all : (f : ℕ → Bytes) (a i n : ℕ) (s t : Sunk) → i ≡ n → Took (flat_map f (numbers a i)) s t → Took (flat_map f (numbers a n)) s t
numbers_all f a i n s t all first = subst (λ (k : ℕ). Took (flat_map f (numbers a k)) s t) all first

pub numbers_began : (f : ℕ → Bytes) (a i n k : ℕ) (s t u : Sunk) → i < n → a + i ≡ k → Took (flat_map f (numbers a i)) s t → Began (f k) t u → Began (flat_map f (numbers a n)) s u
numbers_began f a i n k s t u h is first more =
    let all : i + 1 + (n - (i + 1)) ≡ n = omega arith in
    front_same _ _ write_error.Failed s u (sym (flat_map-append f (numbers a (i + 1)) (numbers (a + (i + 1)) (n - (i + 1)))) ∙ ap (λ l. flat_map f l) (sym (numbers_both a (i + 1) (n - (i + 1))) ∙ ap (λ m. numbers a m) all))
    (front_more (flat_map f (numbers a (i + 1))) (flat_map f (numbers (a + (i + 1)) (n - (i + 1)))) write_error.Failed s u
    (front_same _ _ write_error.Failed s u (one_more f a i) (front_both (flat_map f (numbers a i)) (f (a + i)) write_error.Failed s t u first (subst (λ (m : ℕ). Began (f m) t u) (sym is) more))))

-- The list of a slot.

slot_lines_are : {E : Type 0} (s : Slot) (fact_of : E → Fact) (list : List E) → (length list == 0) ≡ false
    → line (codes "slot" ∷ slot_text s ∷ decimal (length list) ∷ []) ++ flat_map (λ e. fact_line (fact_of e)) list ≡ slot_lines s (map fact_of list)
slot_lines_are s fact_of [] some = cc
slot_lines_are s fact_of (x ∷ xs) some =
    ap (λ n. line (codes "slot" ∷ slot_text s ∷ decimal n ∷ []) ++ flat_map (λ e. fact_line (fact_of e)) (x ∷ xs)) (sym (length-map (x ∷ xs) fact_of))
    ∙ ap (λ l. line (codes "slot" ∷ slot_text s ∷ decimal (length (map fact_of (x ∷ xs))) ∷ []) ++ l) (sym (flat_map-map fact_line fact_of (x ∷ xs)))

-- the slot's line, and what became of what the entries say
pub slot_put : {E A X : Type 0} (s : Slot) (fact_of : E → Fact) (list : List E) (r : Result A X) (x y z : Sunk) → (length list == 0) ≡ false
    → Took (line (codes "slot" ∷ slot_text s ∷ decimal (length list) ∷ [])) x y → Puts (flat_map (λ e. fact_line (fact_of e)) list) r y z → Puts (slot_lines s (map fact_of list)) r x z
slot_put s fact_of list r x y z some head rest =
    puts_same r _ _ x z (slot_lines_are s fact_of list some)
    (puts_on r (line (codes "slot" ∷ slot_text s ∷ decimal (length list) ∷ [])) (flat_map (λ e. fact_line (fact_of e)) list) x y z head rest)

-- a front of the slot's line
pub slot_began : {E A X : Type 0} (s : Slot) (fact_of : E → Fact) (list : List E) (r : Result A X) (x y : Sunk) → (length list == 0) ≡ false → IsErr r
    → Began (line (codes "slot" ∷ slot_text s ∷ decimal (length list) ∷ [])) x y → Puts (slot_lines s (map fact_of list)) r x y
slot_began s fact_of list r x y some failed head =
    puts_err r (slot_lines s (map fact_of list)) x y failed
    (front_same _ _ write_error.Failed x y (slot_lines_are s fact_of list some)
    (front_more (line (codes "slot" ∷ slot_text s ∷ decimal (length list) ∷ [])) (flat_map (λ e. fact_line (fact_of e)) list) write_error.Failed x y head))
