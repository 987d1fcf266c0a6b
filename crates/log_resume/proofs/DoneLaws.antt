-- Whether all is confirmed, as a queue's counts tell it.
use Rattle.std.proofs.Common.{◌↔◌, ◌≡◌, ◌<◌, ◌≤◌, ℕ, zero, suc, ◌+◌, List, [], ◌∷◌, ◌++◌, length, sym, ap, ap₂, subst, ◌∙◌, refl, true, false, true≢false, arith, length-append}
use Rattle.std.specs.Prelude.{IsTrue, Bool, ◌==◌, ◌&&◌, ◌||◌, nat_lt, nat_le, take, drop, filter, Option, Some, None, get_or, if◌then◌else◌}
use Rattle.std.specs.List.{list_all, list_any, slice_get}
use Rattle.std.specs.Option.{option_map_or}
use Rattle.std.proofs.lemmas.Bool.Decides.{nat_tests}
use Rattle.std.proofs.lemmas.List.{drop_more, length-map, take_all}
use Rattle.std.proofs.lemmas.List.Sums.{fold-append}
use Rattle.yard_model.specs.declared.charter.Sending.{Sending}
use Rattle.yard_model.specs.declared.fact.Fact.{Fact}
use Rattle.yard_model.specs.declared.fact.Fact.TheVariants as fact
use Rattle.yard_model.specs.declared.incarnation.Slot.TheVariants as slot
use Rattle.yard_model.specs.Equal.{is_sending}
use Rattle.yard_model.specs.Lawful.{own, is_leased, is_entry, is_queue_entry}
use Rattle.yard_model.specs.Script.{Script, is_name, count_to, names_in, sends}
use Rattle.yard_model.specs.SlotReads.{queued, commands, commands_step, confirmed, confirmed_step, queued_in_all, queued_in_all_step}
use Rattle.yard_model.specs.Words.{numbers}
use Rattle.plain_laws.proofs.Booleans.{and_both, same_name, at_most}
use Rattle.plain_laws.proofs.Lists.{none_is_not_some, some_is}
use Rattle.plain_laws.proofs.Names.{name_itself}
use Rattle.yard_laws.proofs.Owned.{queue_to}
use Rattle.durable_queue.specs.Kept.{commands_to}
use Rattle.durable_queue.proofs.NamedLaws.{sends_named}
use Rattle.log_resume.specs.Left.{sends_confirmed}

le_itself : (n : ℕ) → n ≤ n
le_itself n = omega arith

le_then : (x y z : ℕ) → x ≤ y → y ≤ z → x ≤ z
le_then x y z h k = omega (arith, h, k)

-- The first so many sends.

head_count : (x : Sending) (xs : List Sending) (f : List ℕ) → count_to f (x ∷ xs) ≡ (if is_name x.entity f then suc (count_to f xs) else count_to f xs)
head_count x xs f = by (is_name x.entity f)
  where
    by : (t : Bool) → length (if t then x ∷ filter (λ (y : Sending). is_name y.entity f) xs else filter (λ (y : Sending). is_name y.entity f) xs) ≡ (if t then suc (count_to f xs) else count_to f xs)
    by true = refl
    by false = refl

-- with one more
count_next : (f : List ℕ) (xs : List Sending) (n : ℕ) (x : Sending) → slice_get xs n ≡ Some x → count_to f (take (suc n) xs) ≡ (if is_name x.entity f then suc (count_to f (take n xs)) else count_to f (take n xs))
count_next f [] n x e = absurd (none_is_not_some x e)
count_next f (y ∷ ys) zero x e = head_count y [] f ∙ ap (λ (s : Sending). if is_name s.entity f then suc 0 else 0) (some_is y x e)
count_next f (y ∷ ys) (suc n) x e = head_count y (take (suc n) ys) f ∙ (ap (λ k. if is_name y.entity f then suc k else k) (count_next f ys n x e) ∙ (swap (is_name y.entity f) (is_name x.entity f) (count_to f (take n ys)) ∙ ap (λ k. if is_name x.entity f then suc k else k) (sym (head_count y (take n ys) f))))
  where
    swap : (a b : Bool) (k : ℕ) → (if a then suc (if b then suc k else k) else (if b then suc k else k)) ≡ (if b then suc (if a then suc k else k) else (if a then suc k else k))
    swap true true k = refl
    swap true false k = refl
    swap false true k = refl
    swap false false k = refl

count_more : (f : List ℕ) (xs : List Sending) (a b : ℕ) → a ≤ b → count_to f (take a xs) ≤ count_to f (take b xs)
count_more f xs zero b h = least (count_to f (take b xs))
  where
    least : (n : ℕ) → 0 ≤ n
    least n = omega arith
count_more f [] (suc a) b h = none b
  where
    nothing : List Sending
    nothing = []

    none : (b : ℕ) → count_to f (take (suc a) nothing) ≤ count_to f (take b nothing)
    none zero = le_itself 0
    none (suc b) = le_itself 0
count_more f (x ∷ xs) (suc a) zero h = absurd (none a h)
  where
    none : (a : ℕ) → suc a ≤ 0 → ⊥
    none a h = omega (arith, h)
count_more f (x ∷ xs) (suc a) (suc b) h = subst (λ n. n ≤ count_to f (x ∷ take b xs)) (sym (head_count x (take a xs) f)) (subst (λ n. (if is_name x.entity f then suc (count_to f (take a xs)) else count_to f (take a xs)) ≤ n) (sym (head_count x (take b xs) f)) (by (is_name x.entity f) (count_to f (take a xs)) (count_to f (take b xs)) (count_more f xs a b (less a b h))))
  where
    less : (a b : ℕ) → suc a ≤ suc b → a ≤ b
    less a b h = omega (arith, h)

    by : (t : Bool) (m n : ℕ) → m ≤ n → (if t then suc m else m) ≤ (if t then suc n else n)
    by true m n h = omega (arith, h)
    by false m n h = h

get_some : {A : Type 0} (xs : List A) (n : ℕ) → n < length xs → (x : A) × (slice_get xs n ≡ Some x)
get_some [] n h = absurd (none n h)
  where
    none : (n : ℕ) → n < 0 → ⊥
    none n h = omega (arith, h)
get_some (x ∷ xs) zero h = (x, refl)
get_some (x ∷ xs) (suc n) h = get_some xs n (less n (length xs) h)
  where
    less : (n m : ℕ) → suc n < suc m → n < m
    less n m h = omega (arith, h)

-- A queue.

pub record QueueReads (c : Script) (p : ℕ) (list : List Fact) : Type 0 where
  pub first_are : (f : List ℕ) → queued f list ≡ count_to f (take (queued_in_all list) (sends c p))
  pub within : queued_in_all list ≤ length (sends c p)
  pub confirmed_queued : (f : List ℕ) → confirmed f list ≤ queued f list

abbrev pub SendingsSame : Type 0
SendingsSame = (a b : Sending) → IsTrue (is_sending a b) ↔ (a ≡ b)

reads_step : SendingsSame → (c : Script) (p : ℕ) (list : List Fact) (f : Fact) → QueueReads c p list → is_queue_entry c p list f ≡ true → QueueReads c p (list ++ f ∷ [])
reads_step equal c p list (fact.Queued q e n k) r may = record {
  first_are = λ f. queued_is f ∙ (ap (λ m. if is_name e f then m + 1 else m) (r.first_are f) ∙ (by f (is_name e f) refl ∙ sym (ap (λ m. count_to f (take m (sends c p))) in_all)));
  within = subst (λ m. m ≤ length (sends c p)) (sym in_all) (up (queued_in_all list) (length (sends c p)) inside);
  confirmed_queued = λ f. subst (λ m. m ≤ queued f (list ++ fact.Queued q e n k ∷ [])) (sym (fold-append (confirmed_step f) 0 list (fact.Queued q e n k ∷ []))) (le_then (confirmed f list) (queued f list) (queued f (list ++ fact.Queued q e n k ∷ [])) (r.confirmed_queued f) (subst (λ m. queued f list ≤ m) (sym (queued_is f)) (grows (is_name e f) (queued f list))));
}
  where
    found : (x : Sending) × ((slice_get (sends c p) (queued_in_all list) ≡ Some x) × (is_name x.entity e ≡ true))
    found = of_get (slice_get (sends c p) (queued_in_all list)) refl (and_both (q == p) (option_map_or (is_sending (record { entity = e; number = n; command = k })) (slice_get (sends c p) (queued_in_all list)) false) may).1
      where
        of_get : (o : Option Sending) → slice_get (sends c p) (queued_in_all list) ≡ o → option_map_or (is_sending (record { entity = e; number = n; command = k })) o false ≡ true → (x : Sending) × ((slice_get (sends c p) (queued_in_all list) ≡ Some x) × (is_name x.entity e ≡ true))
        of_get None is h = absurd (true≢false (sym h))
        of_get (Some x) is h = (x, (is, subst (λ (y : Sending). is_name y.entity e ≡ true) ((equal (record { entity = e; number = n; command = k }) x).0 h) (name_itself e)))

    same : found.0.entity ≡ e
    same = same_name found.0.entity e found.1.1

    in_all : queued_in_all (list ++ fact.Queued q e n k ∷ []) ≡ suc (queued_in_all list)
    in_all = fold-append queued_in_all_step 0 list (fact.Queued q e n k ∷ []) ∙ one (queued_in_all list)
      where
        one : (n : ℕ) → n + 1 ≡ suc n
        one n = omega arith

    queued_is : (f : List ℕ) → queued f (list ++ fact.Queued q e n k ∷ []) ≡ (if is_name e f then queued f list + 1 else queued f list)
    queued_is f = ap length (fold-append (commands_step f) [] list (fact.Queued q e n k ∷ [])) ∙ at (is_name e f)
      where
        at : (t : Bool) → length (if t then commands f list ++ k ∷ [] else commands f list) ≡ (if t then queued f list + 1 else queued f list)
        at true = length-append (commands f list) (k ∷ [])
        at false = refl

    by : (f : List ℕ) (t : Bool) → is_name e f ≡ t → (if t then count_to f (take (queued_in_all list) (sends c p)) + 1 else count_to f (take (queued_in_all list) (sends c p))) ≡ count_to f (take (suc (queued_in_all list)) (sends c p))
    by f t is = one t (count_to f (take (queued_in_all list) (sends c p))) ∙ sym (count_next f (sends c p) (queued_in_all list) found.0 found.1.0 ∙ ap (λ b. if b then suc (count_to f (take (queued_in_all list) (sends c p))) else count_to f (take (queued_in_all list) (sends c p))) (ap (λ y. is_name y f) same ∙ is))
      where
        one : (t : Bool) (m : ℕ) → (if t then m + 1 else m) ≡ (if t then suc m else m)
        one true m = omega arith
        one false m = refl

    grows : (t : Bool) (m : ℕ) → m ≤ (if t then m + 1 else m)
    grows true m = omega arith
    grows false m = le_itself m

    inside : queued_in_all list < length (sends c p)
    inside = got_inside (sends c p) (queued_in_all list) found.0 found.1.0
      where
        got_inside : (xs : List Sending) (i : ℕ) (x : Sending) → slice_get xs i ≡ Some x → i < length xs
        got_inside [] i x h = absurd (none_is_not_some x h)
        got_inside (y ∷ xs) zero x h = omega arith
        got_inside (y ∷ xs) (suc i) x h = let g : i < length xs = got_inside xs i x h in omega (arith, g)

    up : (a b : ℕ) → a < b → suc a ≤ b
    up a b h = omega (arith, h)
reads_step equal c p list (fact.Confirmed q e n) r may = record {
  first_are = λ f. ap length (fold-append (commands_step f) [] list (fact.Confirmed q e n ∷ [])) ∙ (r.first_are f ∙ sym (ap (λ m. count_to f (take m (sends c p))) (fold-append queued_in_all_step 0 list (fact.Confirmed q e n ∷ []))));
  within = subst (λ m. m ≤ length (sends c p)) (sym (fold-append queued_in_all_step 0 list (fact.Confirmed q e n ∷ []))) r.within;
  confirmed_queued = λ f. subst (λ m. m ≤ queued f (list ++ fact.Confirmed q e n ∷ [])) (sym (fold-append (confirmed_step f) 0 list (fact.Confirmed q e n ∷ []))) (subst (λ m. (if is_name e f then n else confirmed f list) ≤ m) (sym (ap length (fold-append (commands_step f) [] list (fact.Confirmed q e n ∷ [])))) (by f (is_name e f) refl));
}
  where
    by : (f : List ℕ) (t : Bool) → is_name e f ≡ t → (if t then n else confirmed f list) ≤ queued f list
    by f true is = subst (λ y. n ≤ queued y list) (same_name e f is) (at_most n (queued e list) (and_both ((q == p) && nat_lt (confirmed e list) n) (nat_le n (queued e list)) may).1)
    by f false is = r.confirmed_queued f
reads_step equal c p list (fact.Granted t n x) r may = reads_same c p list (fact.Granted t n x) r (λ f. refl) (λ f. refl) refl
  where
    reads_same : (c : Script) (p : ℕ) (list : List Fact) (g : Fact) → QueueReads c p list → ((f : List ℕ) → commands_step f (commands f list) g ≡ commands f list) → ((f : List ℕ) → confirmed_step f (confirmed f list) g ≡ confirmed f list) → queued_in_all_step (queued_in_all list) g ≡ queued_in_all list → QueueReads c p (list ++ g ∷ [])
    reads_same c p list g r a b d = record {
      first_are = λ f. ap length (fold-append (commands_step f) [] list (g ∷ []) ∙ a f) ∙ (r.first_are f ∙ sym (ap (λ m. count_to f (take m (sends c p))) (fold-append queued_in_all_step 0 list (g ∷ []) ∙ d)));
      within = subst (λ m. m ≤ length (sends c p)) (sym (fold-append queued_in_all_step 0 list (g ∷ []) ∙ d)) r.within;
      confirmed_queued = λ f. subst (λ m. m ≤ queued f (list ++ g ∷ [])) (sym (fold-append (confirmed_step f) 0 list (g ∷ []) ∙ b f)) (subst (λ m. confirmed f list ≤ m) (sym (ap length (fold-append (commands_step f) [] list (g ∷ []) ∙ a f))) (r.confirmed_queued f));
    }
reads_step equal c p list (fact.Freed t n why) r may = record {
  first_are = λ f. ap length (fold-append (commands_step f) [] list (fact.Freed t n why ∷ [])) ∙ (r.first_are f ∙ sym (ap (λ m. count_to f (take m (sends c p))) (fold-append queued_in_all_step 0 list (fact.Freed t n why ∷ []))));
  within = subst (λ m. m ≤ length (sends c p)) (sym (fold-append queued_in_all_step 0 list (fact.Freed t n why ∷ []))) r.within;
  confirmed_queued = λ f. subst (λ m. m ≤ queued f (list ++ fact.Freed t n why ∷ [])) (sym (fold-append (confirmed_step f) 0 list (fact.Freed t n why ∷ []))) (subst (λ m. confirmed f list ≤ m) (sym (ap length (fold-append (commands_step f) [] list (fact.Freed t n why ∷ [])))) (r.confirmed_queued f));
}
reads_step equal c p list f r may = absurd (true≢false (sym may))

queue_reads : SendingsSame → (c : Script) (p : ℕ) (list : List Fact) → own c (slot.Queue p) list ≡ true → QueueReads c p list
queue_reads equal c p list o = queue_to c p (QueueReads c p) (record { first_are = λ f. none (sends c p) f; within = least (length (sends c p)); confirmed_queued = λ f. le_itself 0 })
    (λ l f r may. reads_step equal c p l f r (and_both (is_leased l f) (is_entry c (slot.Queue p) l f) may).1) list o
  where
    least : (n : ℕ) → 0 ≤ n
    least n = omega arith

    none : (xs : List Sending) (f : List ℕ) → 0 ≡ count_to f (take 0 xs)
    none [] f = refl
    none (x ∷ xs) f = refl

-- All is confirmed.

all_same : {X : Type 0} (f g : X → Bool) → ((x : X) → f x ≡ g x) → (xs : List X) → list_all f xs ≡ list_all g xs
all_same f g h [] = refl
all_same f g h (x ∷ xs) = ap₂ (λ a b. a && b) (h x) (all_same f g h xs)

-- one of them isn't so
not_all : (f : List ℕ → Bool) (e : List ℕ) (names : List (List ℕ)) → list_any (is_name e) names ≡ true → f e ≡ false → list_all f names ≡ false
not_all f e [] there none = absurd (true≢false (sym there))
not_all f e (x ∷ xs) there none = by (is_name e x) refl (f x) refl there (λ h. not_all f e xs h none)
  where
    by : (b : Bool) → is_name e x ≡ b → (a : Bool) → f x ≡ a → (b || list_any (is_name e) xs) ≡ true → (list_any (is_name e) xs ≡ true → list_all f xs ≡ false) → (a && list_all f xs) ≡ false
    by true same false is h rest = refl
    by true same true is h rest = absurd (true≢false (sym is ∙ (ap f (sym (same_name e x same)) ∙ none)))
    by false same false is h rest = refl
    by false same true is h rest = rest h

module _ (same : SendingsSame) (c : Script) (p : ℕ) (list : List Fact) (o : own c (slot.Queue p) list ≡ true) where
  reads : QueueReads c p list
  reads = queue_reads same c p list o

  -- where all are queued, what is queued of a name is what is sent to it
  pub all_queued : queued_in_all list ≡ length (sends c p) → list_all (λ e. confirmed e list == queued e list) (names_in c.orders) ≡ sends_confirmed c p list
  all_queued whole = all_same _ _ (λ e. ap (λ n. confirmed e list == n) (reads.first_are e ∙ ap (count_to e) (take_all (queued_in_all list) (sends c p) (omega (arith, whole))))) (names_in c.orders)

  -- else the next send isn't confirmed
  pub not_queued : (queued_in_all list ≡ length (sends c p) → ⊥) → sends_confirmed c p list ≡ false
  not_queued less =
      let n : ℕ = queued_in_all list in
      let inside : n < length (sends c p) = omega (arith, reads.within, less) in
      let x : (x : Sending) × (slice_get (sends c p) n ≡ Some x) = get_some (sends c p) n inside in
      let e : List ℕ = x.0.entity in
      let next : count_to e (take (suc n) (sends c p)) ≡ suc (count_to e (take n (sends c p))) =
      count_next e (sends c p) n x.0 x.1 ∙ ap (λ t. if t then suc (count_to e (take n (sends c p))) else count_to e (take n (sends c p))) (name_itself e) in
      let most : count_to e (take (suc n) (sends c p)) ≤ count_to e (sends c p) =
      subst (λ xs. count_to e (take (suc n) (sends c p)) ≤ count_to e xs) (take_all (length (sends c p)) (sends c p) (omega arith)) (count_more e (sends c p) (suc n) (length (sends c p)) (omega (arith, inside))) in
      let few : confirmed e list ≤ count_to e (take n (sends c p)) = subst (λ m. confirmed e list ≤ m) (reads.first_are e) (reads.confirmed_queued e) in
      let below : confirmed e list < count_to e (sends c p) = omega (arith, next, most, few) in
      let long : length (commands_to e (sends c p)) ≡ count_to e (sends c p) = length-map (filter (λ (y : Sending). is_name y.entity e) (sends c p)) (λ (y : Sending). y.command) in
      not_all (λ d. confirmed d list == count_to d (sends c p)) e (names_in c.orders) ((sends_named c p).each e (omega (arith, below, long))) (unequal (confirmed e list) (count_to e (sends c p)) below)
    where
      unequal : (a b : ℕ) → a < b → (a == b) ≡ false
      unequal a b h = grind (arith, nat_tests, h)

-- Loops.

-- one of numbers more
pub numbers_next : (f : ℕ → Bool) (a n m : ℕ) → n ≡ suc m → list_all f (numbers a n) ≡ (f a && list_all f (numbers (a + 1) m))
numbers_next f a n m is = ap (λ k. list_all f (numbers a k)) is

-- one of names more
pub names_next : (f : List ℕ → Bool) (names : List (List ℕ)) (k : ℕ) → k < length names → list_all f (drop k names) ≡ (f (get_or names k []) && list_all f (drop (k + 1) names))
names_next f names k inside = ap (list_all f) (drop_more names k [] inside)
