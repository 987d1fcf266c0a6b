-- What a queue's lawful list says of how many are queued, and of the journals.
use Rattle.std.proofs.lemmas.Bool.Decides.{nat_tests}
use Rattle.std.proofs.Common.{◌↔◌, ◌≡◌, ◌<◌, ◌≤◌, ℕ, zero, suc, ◌+◌, ◌-◌, List, [], ◌∷◌, ◌++◌, length, sym, ap, subst, ◌∙◌, refl, true, false, true≢false, arith, length-append}
use Rattle.std.specs.Prelude.{IsTrue, Bool, ◌==◌, ◌&&◌, ◌||◌, nat_lt, nat_le, cond, take, sum_by, Option, Some, None, if◌then◌else◌}
use Rattle.std.specs.List.{list_all, slice_get}
use Rattle.std.specs.Option.{option_map_or}
use Rattle.std.proofs.lemmas.List.Sums.{fold-append, sum_by-cons}
use Rattle.yard_model.specs.declared.charter.Sending.{Sending}
use Rattle.yard_model.specs.declared.event.Command.{Command}
use Rattle.yard_model.specs.declared.fact.Fact.{Fact}
use Rattle.yard_model.specs.declared.fact.Fact.TheVariants as fact
use Rattle.yard_model.specs.declared.incarnation.Slot.TheVariants as slot
use Rattle.yard_model.specs.declared.packet.Record.{Record}
use Rattle.yard_model.specs.Equal.{is_sending, is_command}
use Rattle.yard_model.specs.Genuine.{is_producer, is_planned}
use Rattle.yard_model.specs.Lawful.{own, is_leased, is_entry, is_queue_entry, is_shard_entry, is_of_shard, is_folded_after, is_merged_after, has_place, is_recorded}
use Rattle.yard_model.specs.Opening.{begins}
use Rattle.yard_model.specs.Script.{Script, setting, is_name, count_to, sends, plan}
use Rattle.yard_model.specs.Setting.{shard_of}
use Rattle.yard_model.specs.SlotLists.{SlotLists, shard_list}
use Rattle.yard_model.specs.SlotReads.{journal, journal_step, position, queued, commands, commands_step, confirmed, confirmed_step, queued_in_all, queued_in_all_step}
use Rattle.plain_laws.specs.Names.{AllDiffer}
use Rattle.plain_laws.proofs.Booleans.{and_both, same_name, same_number, at_most, below}
use Rattle.plain_laws.proofs.Lists.{none_is_not_some, some_is}
use Rattle.plain_laws.proofs.Names.{name_itself}
use Rattle.plain_laws.proofs.Read.{journal_more}
use Rattle.yard_laws.proofs.Owned.{queue_to, shard_to}
use Rattle.yard_laws.proofs.Places.{position_more, place_more}
use Rattle.settle_laws.proofs.Produce.{head_count, sum_once}
use Rattle.settle_laws.proofs.Records.{le_itself, le_then}

-- The first so many sends.

-- with one more
pub count_next : (f : List ℕ) (xs : List Sending) (n : ℕ) (x : Sending) → slice_get xs n ≡ Some x → count_to f (take (suc n) xs) ≡ (if is_name x.entity f then suc (count_to f (take n xs)) else count_to f (take n xs))
count_next f [] n x e = absurd (none_is_not_some x e)
count_next f (y ∷ ys) zero x e = head_count y [] f ∙ ap (λ (s : Sending). if is_name s.entity f then suc 0 else 0) (some_is y x e)
count_next f (y ∷ ys) (suc n) x e = head_count y (take (suc n) ys) f ∙ (ap (λ k. if is_name y.entity f then suc k else k) (count_next f ys n x e) ∙ (swap (is_name y.entity f) (is_name x.entity f) (count_to f (take n ys)) ∙ ap (λ k. if is_name x.entity f then suc k else k) (sym (head_count y (take n ys) f))))
  where
    swap : (a b : Bool) (k : ℕ) → (if a then suc (if b then suc k else k) else (if b then suc k else k)) ≡ (if b then suc (if a then suc k else k) else (if a then suc k else k))
    swap true true k = refl
    swap true false k = refl
    swap false true k = refl
    swap false false k = refl

pub count_more : (f : List ℕ) (xs : List Sending) (a b : ℕ) → a ≤ b → count_to f (take a xs) ≤ count_to f (take b xs)
count_more f xs zero b h = least (count_to f (take b xs))
  where
    least : (n : ℕ) → 0 ≤ n
    least n = omega arith
count_more f [] (suc a) b h = none b
  where
    nothing : List Sending
    nothing = []

    none : (b : ℕ) → count_to f (take (suc a) nothing) ≤ count_to f (take b nothing)
    none zero = le_itself 0
    none (suc b) = le_itself 0
count_more f (x ∷ xs) (suc a) zero h = absurd (none a h)
  where
    none : (a : ℕ) → suc a ≤ 0 → ⊥
    none a h = omega (arith, h)
count_more f (x ∷ xs) (suc a) (suc b) h = subst (λ n. n ≤ count_to f (x ∷ take b xs)) (sym (head_count x (take a xs) f)) (subst (λ n. (if is_name x.entity f then suc (count_to f (take a xs)) else count_to f (take a xs)) ≤ n) (sym (head_count x (take b xs) f)) (by (is_name x.entity f) (count_to f (take a xs)) (count_to f (take b xs)) (count_more f xs a b (less a b h))))
  where
    less : (a b : ℕ) → suc a ≤ suc b → a ≤ b
    less a b h = omega (arith, h)

    by : (t : Bool) (m n : ℕ) → m ≤ n → (if t then suc m else m) ≤ (if t then suc n else n)
    by true m n h = omega (arith, h)
    by false m n h = h

pub get_some : {A : Type 0} (xs : List A) (n : ℕ) → n < length xs → (x : A) × (slice_get xs n ≡ Some x)
get_some [] n h = absurd (none n h)
  where
    none : (n : ℕ) → n < 0 → ⊥
    none n h = omega (arith, h)
get_some (x ∷ xs) zero h = (x, refl)
get_some (x ∷ xs) (suc n) h = get_some xs n (less n (length xs) h)
  where
    less : (n m : ℕ) → suc n < suc m → n < m
    less n m h = omega (arith, h)

-- where fewer are fewer of some name
fewer : (xs : List Sending) (a b : ℕ) → a < b → b ≤ length xs → ((f : List ℕ) → count_to f (take a xs) ≡ count_to f (take b xs)) → ⊥
fewer xs a b less most same = ends (count_to e (take a xs)) (count_to e (take b xs)) (same e) (subst (λ n. n ≤ count_to e (take b xs)) (count_next e xs a x.0 x.1 ∙ ap (λ t. if t then suc (count_to e (take a xs)) else count_to e (take a xs)) (name_itself e)) (count_more e xs (suc a) b (up a b less)))
  where
    x : (x : Sending) × (slice_get xs a ≡ Some x)
    x = get_some xs a (inside a b (length xs) less most)
      where
        inside : (a b n : ℕ) → a < b → b ≤ n → a < n
        inside a b n h k = omega (arith, h, k)

    e : List ℕ
    e = x.0.entity

    up : (a b : ℕ) → a < b → suc a ≤ b
    up a b h = omega (arith, h)

    ends : (m n : ℕ) → m ≡ n → suc m ≤ n → ⊥
    ends m n e h = omega (arith, e, h)

-- of each name as many says how many
pub as_many : (xs : List Sending) (a b : ℕ) → a ≤ length xs → b ≤ length xs → ((f : List ℕ) → count_to f (take a xs) ≡ count_to f (take b xs)) → a ≡ b
as_many xs a b h k same = by (nat_lt a b) refl (nat_lt b a) refl
  where
    equal : (a b : ℕ) → nat_lt a b ≡ false → nat_lt b a ≡ false → a ≡ b
    equal a b e g = grind (arith, nat_tests, e, g)

    by : (s : Bool) → nat_lt a b ≡ s → (t : Bool) → nat_lt b a ≡ t → a ≡ b
    by true e t g = absurd (fewer xs a b (below a b e) k same)
    by false e true g = absurd (fewer xs b a (below b a g) h (λ f. sym (same f)))
    by false e false g = equal a b e g

-- of different names no more than there are
pub sum_counts : (names : List (List ℕ)) → AllDiffer names → (xs : List Sending) → sum_by (λ e. count_to e xs) names ≤ length xs
sum_counts names differ [] = none names
  where
    nothing : List Sending
    nothing = []

    zero_plus : (n : ℕ) → n ≤ 0 → 0 + n ≤ 0
    zero_plus n h = omega (arith, h)

    none : (names : List (List ℕ)) → sum_by (λ e. count_to e nothing) names ≤ 0
    none [] = le_itself 0
    none (e ∷ es) = subst (λ n. n ≤ 0) (sym (sum_by-cons (λ e. count_to e nothing) e es)) (zero_plus (sum_by (λ e. count_to e nothing) es) (none es))
sum_counts names differ (x ∷ xs) = sums (sum_by (λ e. count_to e (x ∷ xs)) names) (sum_by (λ e. count_to e xs) names) (length xs)
    (sum_once (λ e. count_to e xs) (λ e. count_to e (x ∷ xs)) x.entity names differ (λ e. subst (λ n. n ≤ count_to e xs + 1) (sym (head_count x xs e)) (by (is_name x.entity e) (count_to e xs))) (λ e other. subst (λ n. n ≤ count_to e xs) (sym (head_count x xs e ∙ ap (λ t. if t then suc (count_to e xs) else count_to e xs) other)) (le_itself (count_to e xs))))
    (sum_counts names differ xs)
  where
    by : (t : Bool) (n : ℕ) → (if t then suc n else n) ≤ n + 1
    by true n = omega arith
    by false n = omega arith

    sums : (x y n : ℕ) → x ≤ y + 1 → y ≤ n → x ≤ suc n
    sums x y n h k = omega (arith, h, k)

-- A queue.

pub record QueueReads (c : Script) (p : ℕ) (list : List Fact) : Type 0 where
  pub first_are : (f : List ℕ) → queued f list ≡ count_to f (take (queued_in_all list) (sends c p))
  pub within : queued_in_all list ≤ length (sends c p)
  pub confirmed_queued : (f : List ℕ) → confirmed f list ≤ queued f list

abbrev pub SendingsSame : Type 0
SendingsSame = (a b : Sending) → IsTrue (is_sending a b) ↔ (a ≡ b)

reads_step : SendingsSame → (c : Script) (p : ℕ) (list : List Fact) (f : Fact) → QueueReads c p list → is_queue_entry c p list f ≡ true → QueueReads c p (list ++ f ∷ [])
reads_step equal c p list (fact.Queued q e n k) r may = record {
  first_are = λ f. queued_is f ∙ (ap (λ m. if is_name e f then m + 1 else m) (r.first_are f) ∙ (by f (is_name e f) refl ∙ sym (ap (λ m. count_to f (take m (sends c p))) in_all)));
  within = subst (λ m. m ≤ length (sends c p)) (sym in_all) (up (queued_in_all list) (length (sends c p)) inside);
  confirmed_queued = λ f. subst (λ m. m ≤ queued f (list ++ fact.Queued q e n k ∷ [])) (sym (fold-append (confirmed_step f) 0 list (fact.Queued q e n k ∷ []))) (le_then (confirmed f list) (queued f list) (queued f (list ++ fact.Queued q e n k ∷ [])) (r.confirmed_queued f) (subst (λ m. queued f list ≤ m) (sym (queued_is f)) (grows (is_name e f) (queued f list))));
}
  where
    found : (x : Sending) × ((slice_get (sends c p) (queued_in_all list) ≡ Some x) × (is_name x.entity e ≡ true))
    found = of_get (slice_get (sends c p) (queued_in_all list)) refl (and_both (q == p) (option_map_or (is_sending (record { entity = e; number = n; command = k })) (slice_get (sends c p) (queued_in_all list)) false) may).1
      where
        of_get : (o : Option Sending) → slice_get (sends c p) (queued_in_all list) ≡ o → option_map_or (is_sending (record { entity = e; number = n; command = k })) o false ≡ true → (x : Sending) × ((slice_get (sends c p) (queued_in_all list) ≡ Some x) × (is_name x.entity e ≡ true))
        of_get None is h = absurd (true≢false (sym h))
        of_get (Some x) is h = (x, (is, subst (λ (y : Sending). is_name y.entity e ≡ true) ((equal (record { entity = e; number = n; command = k }) x).0 h) (name_itself e)))

    same : found.0.entity ≡ e
    same = same_name found.0.entity e found.1.1

    in_all : queued_in_all (list ++ fact.Queued q e n k ∷ []) ≡ suc (queued_in_all list)
    in_all = fold-append queued_in_all_step 0 list (fact.Queued q e n k ∷ []) ∙ one (queued_in_all list)
      where
        one : (n : ℕ) → n + 1 ≡ suc n
        one n = omega arith

    queued_is : (f : List ℕ) → queued f (list ++ fact.Queued q e n k ∷ []) ≡ (if is_name e f then queued f list + 1 else queued f list)
    queued_is f = ap length (fold-append (commands_step f) [] list (fact.Queued q e n k ∷ [])) ∙ at (is_name e f)
      where
        at : (t : Bool) → length (if t then commands f list ++ k ∷ [] else commands f list) ≡ (if t then queued f list + 1 else queued f list)
        at true = length-append (commands f list) (k ∷ [])
        at false = refl

    by : (f : List ℕ) (t : Bool) → is_name e f ≡ t → (if t then count_to f (take (queued_in_all list) (sends c p)) + 1 else count_to f (take (queued_in_all list) (sends c p))) ≡ count_to f (take (suc (queued_in_all list)) (sends c p))
    by f t is = one t (count_to f (take (queued_in_all list) (sends c p))) ∙ sym (count_next f (sends c p) (queued_in_all list) found.0 found.1.0 ∙ ap (λ b. if b then suc (count_to f (take (queued_in_all list) (sends c p))) else count_to f (take (queued_in_all list) (sends c p))) (ap (λ y. is_name y f) same ∙ is))
      where
        one : (t : Bool) (m : ℕ) → (if t then m + 1 else m) ≡ (if t then suc m else m)
        one true m = omega arith
        one false m = refl

    grows : (t : Bool) (m : ℕ) → m ≤ (if t then m + 1 else m)
    grows true m = omega arith
    grows false m = le_itself m

    inside : queued_in_all list < length (sends c p)
    inside = got_inside (sends c p) (queued_in_all list) found.0 found.1.0
      where
        got_inside : (xs : List Sending) (i : ℕ) (x : Sending) → slice_get xs i ≡ Some x → i < length xs
        got_inside [] i x h = absurd (none_is_not_some x h)
        got_inside (y ∷ xs) zero x h = omega arith
        got_inside (y ∷ xs) (suc i) x h = let g : i < length xs = got_inside xs i x h in omega (arith, g)

    up : (a b : ℕ) → a < b → suc a ≤ b
    up a b h = omega (arith, h)
reads_step equal c p list (fact.Confirmed q e n) r may = record {
  first_are = λ f. ap length (fold-append (commands_step f) [] list (fact.Confirmed q e n ∷ [])) ∙ (r.first_are f ∙ sym (ap (λ m. count_to f (take m (sends c p))) (fold-append queued_in_all_step 0 list (fact.Confirmed q e n ∷ []))));
  within = subst (λ m. m ≤ length (sends c p)) (sym (fold-append queued_in_all_step 0 list (fact.Confirmed q e n ∷ []))) r.within;
  confirmed_queued = λ f. subst (λ m. m ≤ queued f (list ++ fact.Confirmed q e n ∷ [])) (sym (fold-append (confirmed_step f) 0 list (fact.Confirmed q e n ∷ []))) (subst (λ m. (if is_name e f then n else confirmed f list) ≤ m) (sym (ap length (fold-append (commands_step f) [] list (fact.Confirmed q e n ∷ [])))) (by f (is_name e f) refl));
}
  where
    by : (f : List ℕ) (t : Bool) → is_name e f ≡ t → (if t then n else confirmed f list) ≤ queued f list
    by f true is = subst (λ y. n ≤ queued y list) (same_name e f is) (at_most n (queued e list) (and_both ((q == p) && nat_lt (confirmed e list) n) (nat_le n (queued e list)) may).1)
    by f false is = r.confirmed_queued f
reads_step equal c p list (fact.Granted t n x) r may = reads_same c p list (fact.Granted t n x) r (λ f. refl) (λ f. refl) refl
  where
    reads_same : (c : Script) (p : ℕ) (list : List Fact) (g : Fact) → QueueReads c p list → ((f : List ℕ) → commands_step f (commands f list) g ≡ commands f list) → ((f : List ℕ) → confirmed_step f (confirmed f list) g ≡ confirmed f list) → queued_in_all_step (queued_in_all list) g ≡ queued_in_all list → QueueReads c p (list ++ g ∷ [])
    reads_same c p list g r a b d = record {
      first_are = λ f. ap length (fold-append (commands_step f) [] list (g ∷ []) ∙ a f) ∙ (r.first_are f ∙ sym (ap (λ m. count_to f (take m (sends c p))) (fold-append queued_in_all_step 0 list (g ∷ []) ∙ d)));
      within = subst (λ m. m ≤ length (sends c p)) (sym (fold-append queued_in_all_step 0 list (g ∷ []) ∙ d)) r.within;
      confirmed_queued = λ f. subst (λ m. m ≤ queued f (list ++ g ∷ [])) (sym (fold-append (confirmed_step f) 0 list (g ∷ []) ∙ b f)) (subst (λ m. confirmed f list ≤ m) (sym (ap length (fold-append (commands_step f) [] list (g ∷ []) ∙ a f))) (r.confirmed_queued f));
    }
reads_step equal c p list (fact.Freed t n why) r may = record {
  first_are = λ f. ap length (fold-append (commands_step f) [] list (fact.Freed t n why ∷ [])) ∙ (r.first_are f ∙ sym (ap (λ m. count_to f (take m (sends c p))) (fold-append queued_in_all_step 0 list (fact.Freed t n why ∷ []))));
  within = subst (λ m. m ≤ length (sends c p)) (sym (fold-append queued_in_all_step 0 list (fact.Freed t n why ∷ []))) r.within;
  confirmed_queued = λ f. subst (λ m. m ≤ queued f (list ++ fact.Freed t n why ∷ [])) (sym (fold-append (confirmed_step f) 0 list (fact.Freed t n why ∷ []))) (subst (λ m. confirmed f list ≤ m) (sym (ap length (fold-append (commands_step f) [] list (fact.Freed t n why ∷ [])))) (r.confirmed_queued f));
}
reads_step equal c p list f r may = absurd (true≢false (sym may))

pub queue_reads : SendingsSame → (c : Script) (p : ℕ) (list : List Fact) → own c (slot.Queue p) list ≡ true → QueueReads c p list
queue_reads equal c p list o = queue_to c p (QueueReads c p) (record { first_are = λ f. none (sends c p) f; within = least (length (sends c p)); confirmed_queued = λ f. le_itself 0 })
    (λ l f r may. reads_step equal c p l f r (and_both (is_leased l f) (is_entry c (slot.Queue p) l f) may).1) list o
  where
    least : (n : ℕ) → 0 ≤ n
    least n = omega arith

    none : (xs : List Sending) (f : List ℕ) → 0 ≡ count_to f (take 0 xs)
    none [] f = refl
    none (x ∷ xs) f = refl

-- Journals.

-- places are at most the position, and that is at most what is planned
pub record JournalReads (c : Script) (e : List ℕ) (records : List Record) : Type 0 where
  pub placed : (p n : ℕ) → has_place p n records ≡ true → n ≤ position p records
  pub planned : (p : ℕ) → position p records ≤ length (plan c p e)

record_reads : (c : Script) (e : List ℕ) (records : List Record) (r : Record) → JournalReads c e records → is_merged_after c e records r ≡ true → JournalReads c e (records ++ r ∷ [])
record_reads c e records r j merged = record { placed = λ p n h. subst (λ m. n ≤ m) (sym (position_more p records r)) (at p n (r.producer == p) refl (sym (place_more p n records r) ∙ h)); planned = λ p. subst (λ m. m ≤ length (plan c p e)) (sym (position_more p records r)) (below_plan p (r.producer == p) refl) }
  where
    m : ((r.place == position r.producer records + 1) ≡ true) × (is_planned c r.producer e r.place r.command ≡ true)
    m = and_both (r.place == position r.producer records + 1) (is_planned c r.producer e r.place r.command) merged

    place_is : r.place ≡ position r.producer records + 1
    place_is = same_number r.place (position r.producer records + 1) m.0

    at : (p n : ℕ) (b : Bool) → (r.producer == p) ≡ b → (has_place p n records || ((b && (r.place == n)) || false)) ≡ true → n ≤ position p records + cond b 1 0
    at p n b is h = either (has_place p n records) refl b is h
      where
        either : (t : Bool) → has_place p n records ≡ t → (b : Bool) → (r.producer == p) ≡ b → (t || ((b && (r.place == n)) || false)) ≡ true → n ≤ position p records + cond b 1 0
        either true e b is h = up n (position p records) (cond b 1 0) (j.placed p n e)
          where
            up : (n m k : ℕ) → n ≤ m → n ≤ m + k
            up n m k h = omega (arith, h)
        either false e true is h = last (r.place == n) refl h
          where
            last : (t : Bool) → (r.place == n) ≡ t → (t || false) ≡ true → n ≤ position p records + 1
            last true g h = subst (λ k. k ≤ position p records + 1) (same_number r.place n g) (subst (λ q. r.place ≤ position q records + 1) (same_number r.producer p is) (of_equal r.place (position r.producer records + 1) place_is))
              where
                of_equal : (a b : ℕ) → a ≡ b → a ≤ b
                of_equal a b e = omega (arith, e)
            last false g h = absurd (true≢false (sym h))
        either false e false is h = absurd (true≢false (sym h))

    below_plan : (p : ℕ) (b : Bool) → (r.producer == p) ≡ b → position p records + cond b 1 0 ≤ length (plan c p e)
    below_plan p true is = subst (λ q. position q records + 1 ≤ length (plan c q e)) (same_number r.producer p is) (inside (plan c r.producer e) r.place (position r.producer records) place_is (and_both (nat_lt 0 r.place) (option_map_or (is_command r.command) (slice_get (plan c r.producer e) (r.place - 1)) false) m.1).1)
      where
        got : (xs : List Command) (i : ℕ) → option_map_or (is_command r.command) (slice_get xs i) false ≡ true → i < length xs
        got [] i h = absurd (true≢false (sym h))
        got (x ∷ xs) zero h = omega arith
        got (x ∷ xs) (suc i) h = let g : i < length xs = got xs i h in omega (arith, g)

        inside : (xs : List Command) (n m : ℕ) → n ≡ m + 1 → option_map_or (is_command r.command) (slice_get xs (n - 1)) false ≡ true → m + 1 ≤ length xs
        inside xs n m e h = let g : n - 1 < length xs = got xs (n - 1) h in omega (arith, e, g)
    below_plan p false is = subst (λ m. m ≤ length (plan c p e)) (plus_none (position p records)) (j.planned p)
      where
        plus_none : (n : ℕ) → n ≡ n + 0
        plus_none n = omega arith

journal_step_reads : (c : Script) (k : ℕ) (e : List ℕ) (list : List Fact) (f : Fact) → JournalReads c e (journal e list) → (begins f || is_shard_entry c k list f) ≡ true → JournalReads c e (journal_step e (journal e list) f)
journal_step_reads c k e list (fact.Wrote x r) h may = step (is_name x e) refl
  where
    entry : (is_of_shard c k x && is_producer c r.producer && is_folded_after c (journal x list) r && is_merged_after c x (journal x list) r) ≡ true
    entry = may

    step : (b : Bool) → is_name x e ≡ b → JournalReads c e (if b then journal e list ++ r ∷ [] else journal e list)
    step false s = h
    step true s = record_reads c e (journal e list) r h (subst (λ y. is_merged_after c y (journal y list) r ≡ true) (same_name x e s) (and_both (is_of_shard c k x && is_producer c r.producer && is_folded_after c (journal x list) r) (is_merged_after c x (journal x list) r) entry).1)
journal_step_reads c k e list f h may = h

pub journal_reads : (c : Script) (k : ℕ) (e : List ℕ) (list : List Fact) → own c (slot.Shard k) list ≡ true → JournalReads c e (journal e list)
journal_reads c k e list o = shard_to c k (λ l. JournalReads c e (journal e l)) (record { placed = λ p n h. absurd (true≢false (sym h)); planned = λ p. least (length (plan c p e)) }) (λ l f h may. subst (JournalReads c e) (sym (journal_more e l f)) (journal_step_reads c k e l f h may)) list o
  where
    least : (n : ℕ) → 0 ≤ n
    least n = omega arith

-- what is confirmed is recorded
pub confirmed_reads : (c : Script) (p : ℕ) (lists : SlotLists) (f : List ℕ) → JournalReads c f (journal f (shard_list lists (shard_of (setting c) f))) → (list : List Fact) → own c (slot.Queue p) list ≡ true → list_all (is_recorded c lists) list ≡ true
    → confirmed f list ≤ position p (journal f (shard_list lists (shard_of (setting c) f)))
confirmed_reads c p lists f j list o all = queue_to c p (λ l. list_all (is_recorded c lists) l ≡ true → confirmed f l ≤ position p (journal f (shard_list lists (shard_of (setting c) f)))) (λ h. least (position p (journal f (shard_list lists (shard_of (setting c) f)))))
    (λ l g old may h. subst (λ m. m ≤ position p (journal f (shard_list lists (shard_of (setting c) f)))) (sym (fold-append (confirmed_step f) 0 l (g ∷ []))) (step l g (and_both (is_leased l g) (is_entry c (slot.Queue p) l g) may).1 (front l g h) (last l g h) old)) list o all
  where
    least : (n : ℕ) → 0 ≤ n
    least n = omega arith

    front : (l : List Fact) (g : Fact) → list_all (is_recorded c lists) (l ++ g ∷ []) ≡ true → list_all (is_recorded c lists) l ≡ true
    front [] g h = refl
    front (x ∷ l) g h = let m : (is_recorded c lists x ≡ true) × (list_all (is_recorded c lists) (l ++ g ∷ []) ≡ true) = and_both (is_recorded c lists x) (list_all (is_recorded c lists) (l ++ g ∷ [])) h in
        ap (λ t. t && list_all (is_recorded c lists) l) m.0 ∙ front l g m.1

    last : (l : List Fact) (g : Fact) → list_all (is_recorded c lists) (l ++ g ∷ []) ≡ true → is_recorded c lists g ≡ true
    last [] g h = (and_both (is_recorded c lists g) true h).0
    last (x ∷ l) g h = last l g (and_both (is_recorded c lists x) (list_all (is_recorded c lists) (l ++ g ∷ [])) h).1

    step : (l : List Fact) (g : Fact) → is_queue_entry c p l g ≡ true → list_all (is_recorded c lists) l ≡ true → is_recorded c lists g ≡ true → (list_all (is_recorded c lists) l ≡ true → confirmed f l ≤ position p (journal f (shard_list lists (shard_of (setting c) f)))) → confirmed_step f (confirmed f l) g ≤ position p (journal f (shard_list lists (shard_of (setting c) f)))
    step l (fact.Confirmed q e n) may before now old = by (is_name e f) refl
      where
        of_p : q ≡ p
        of_p = same_number q p (and_both (q == p) (nat_lt (confirmed e l) n) (and_both ((q == p) && nat_lt (confirmed e l) n) (nat_le n (queued e l)) may).0).0

        by : (t : Bool) → is_name e f ≡ t → (if t then n else confirmed f l) ≤ position p (journal f (shard_list lists (shard_of (setting c) f)))
        by true is = j.placed p n (subst (λ m. has_place m n (journal f (shard_list lists (shard_of (setting c) f))) ≡ true) of_p (subst (λ y. has_place q n (journal y (shard_list lists (shard_of (setting c) y))) ≡ true) (same_name e f is) now))
        by false is = old before
    step l (fact.Queued q e n k) may before now old = old before
    step l (fact.Granted t n x) may before now old = old before
    step l (fact.Freed t n why) may before now old = old before
    step l g may before now old = absurd (true≢false (sym may))
