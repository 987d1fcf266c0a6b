-- The workers that are up, and which of them asked.
use Rattle.std.proofs.Common.{◌≡◌, ◌≢◌, ℕ, zero, suc, ◌+◌, ◌-◌, ◌<◌, ◌≤◌, sym, ap, ◌∙◌, refl, subst, arith, length, get_or, set}
use Rattle.std.specs.Prelude.{Bool, true, false, ◌==◌, ◌&&◌, ◌||◌, nat_lt, not, List, [], ◌∷◌, ◌++◌, map, filter, find, fold, take, count_by, Option, Some, None, if◌then◌else◌}
use Rattle.std.specs.Option.{option_map}
use Rattle.std.proofs.lemmas.List.{append-nil, append_assoc, length-set, get_or-set_same, get_or-set_other, take-map}
use Rattle.std.proofs.lemmas.List.Sums.{fold_push, sum_by-cons}
use Rattle.durable_queue.specs.Queue.{Queue}
use Rattle.yard_model.specs.declared.charter.Sending.{Sending}
use Rattle.yard_model.specs.declared.fact.Fact.{Fact}
use Rattle.yard_model.specs.declared.fact.Fact.TheVariants as fact
use Rattle.yard_model.specs.declared.incarnation.Incarnation.{Incarnation}
use Rattle.yard_model.specs.declared.incarnation.Slot.{Slot}
use Rattle.yard_model.specs.Script.{Script, sends}
use Rattle.yard_model.specs.Words.{is_same, is_at, is_among}
use Rattle.yard_model.specs.World.{members_step}
use Rattle.plain_laws.proofs.Booleans.{true_is_not_false, number_itself, same_number, other_number}
use Rattle.plain_laws.proofs.Lists.{none_is_not_some}
use Rattle.plain_laws.proofs.Members.{among_last, among_kept, by_last, same_is, itself_is, turned}
use Rattle.pull_laws.specs.Pulled.{members, last_number, number_step, asking_step, Asking, asker, packet, packet_in, wire, is_sent, has_asked, first_ready, given, given_to, jobs, is_confirmed}
use Rattle.pull_laws.specs.Pulled.{asking as asks_of, is_ready as is_ready_in}
use Rattle.pull_laws.specs.PullSafe.{IsPulled}
use Rattle.pull_laws.proofs.Sound.{members_more}
use Rattle.job_board.specs.Boards.{Seat, asking, not_asking, whos, is_ready, load_of, is_given_to}
use Rattle.job_board.specs.declared.parcel.Parcel.{Parcel}
use Rattle.job_board.specs.declared.parcel.Parcel.TheVariants as parcel
use Rattle.job_board.specs.declared.state.JobState.{JobState}
use Rattle.pull_cluster.specs.Cluster.{parcel_fact, names_of}
use Rattle.pull_cluster.specs.Kept.{IsQueued, AreStates, AreSeats, AreNumbers, HasCome, seat_in, asked_by, state_of}
use Rattle.pull_cluster.proofs.NameLaws.{names_long}
use Rattle.pull_cluster.proofs.QueueLaws.{jobs_front, unqueued_above}
use Rattle.pull_cluster.proofs.StateLaws.{map_same, map_twice, given_is}

pub last_more : (n : ℕ) (t : List Fact) (f : Fact) → last_number n (t ++ f ∷ []) ≡ number_step n (last_number n t) f
last_more n t f = fold_push (number_step n) 0 t f

asking_more : (t : List Fact) (f : Fact) → asks_of (t ++ f ∷ []) ≡ asking_step (asks_of t) f
asking_more t f = fold_push asking_step (record { posted = []; asked = [] }) t f

-- what was posted
posted_from : (t : List Fact) (a : Asking) → (fold asking_step a t).posted ≡ a.posted ++ filter is_sent t
posted_from [] a = sym (append-nil a.posted)
posted_from (fact.SentAsk k x ∷ t) a = posted_from t (asking_step a (fact.SentAsk k x)) ∙ append_assoc a.posted (fact.SentAsk k x ∷ []) (filter is_sent t)
posted_from (fact.SentJob k x e ∷ t) a = posted_from t (asking_step a (fact.SentJob k x e)) ∙ append_assoc a.posted (fact.SentJob k x e ∷ []) (filter is_sent t)
posted_from (fact.SentDone k x e ∷ t) a = posted_from t (asking_step a (fact.SentDone k x e)) ∙ append_assoc a.posted (fact.SentDone k x e ∷ []) (filter is_sent t)
posted_from (f ∷ t) a = posted_from t (asking_step a f)

posted_is : (t : List Fact) → (asks_of t).posted ≡ wire t
posted_is t = posted_from t (record { posted = []; asked = [] })

asked_more : (x : Incarnation) (t : List Fact) (f : Fact) → has_asked x (t ++ f ∷ []) ≡ is_among x (asking_step (asks_of t) f).asked
asked_more x t f = ap (λ (a : Asking). is_among x a.asked) (asking_more t f)

abbrev seat_with : Incarnation → Bool → Seat
seat_with x b = record { who = x; asked = b }

map_push : {A B : Type 0} (f : A → B) (xs : List A) (x : A) → map f (xs ++ x ∷ []) ≡ map f xs ++ f x ∷ []
map_push f [] x = refl
map_push f (y ∷ ys) x = ap (λ l. f y ∷ l) (map_push f ys x)

-- A fact that no worker is about.
pub seats_same : (t : List Fact) (seats : List Seat) (f : Fact) → members_step (members t) f ≡ members t → ((n : ℕ) → number_step n (last_number n t) f ≡ last_number n t) → (asking_step (asks_of t) f).asked ≡ (asks_of t).asked → AreSeats t seats → AreSeats (t ++ f ∷ []) seats
seats_same t seats f me ne ae k = record {
  seats_are = k.seats_are ∙ (map_same (seat_in t) (seat_in (t ++ f ∷ [])) (λ x. ap (seat_with x) (sym (asked_is x))) (members t) ∙ ap (map (seat_in (t ++ f ∷ []))) (sym members_is));
  came = λ x a. subst (λ n. x.number ≤ n) (sym (last_is x.node)) (k.came x (sym (ap (is_among x) members_is) ∙ a));
  asked_came = λ x a. subst (λ n. x.number ≤ n) (sym (last_is x.node)) (k.asked_came x (sym (asked_is x) ∙ a));
}
  where
    members_is : members (t ++ f ∷ []) ≡ members t
    members_is = members_more t f ∙ me

    last_is : (n : ℕ) → last_number n (t ++ f ∷ []) ≡ last_number n t
    last_is n = last_more n t f ∙ ne n

    asked_is : (x : Incarnation) → has_asked x (t ++ f ∷ []) ≡ has_asked x t
    asked_is x = asked_more x t f ∙ ap (is_among x) ae

-- A worker comes up.

pub last_grows : (t : List Fact) (x : Incarnation) (n : ℕ) → x.number ≡ last_number x.node t + 1 → last_number n t ≤ number_step n (last_number n t) (fact.Up x)
last_grows t x n e = by (x.node == n) refl
  where
    above : (a b c : ℕ) → b ≡ c → a ≡ b + 1 → c ≤ a
    above a b c e f = omega (arith, e, f)

    itself : (a : ℕ) → a ≤ a
    itself a = omega arith

    by : (b : Bool) → (x.node == n) ≡ b → last_number n t ≤ (if b then x.number else last_number n t)
    by true f = above x.number (last_number x.node t) (last_number n t) (ap (λ m. last_number m t) (same_number x.node n f)) e
    by false f = itself (last_number n t)

pub seats_up : (t : List Fact) (seats : List Seat) (x : Incarnation) → x.number ≡ last_number x.node t + 1 → AreSeats t seats → AreSeats (t ++ fact.Up x ∷ []) (seats ++ (record { who = x; asked = false }) ∷ [])
seats_up t seats x next k = record {
  seats_are = ap (λ l. l ++ seat_with x false ∷ []) (k.seats_are ∙ map_same (seat_in t) (seat_in new) (λ y. ap (seat_with y) (sym (asked_is y))) (members t))
      ∙ (ap (λ b. map (seat_in new) (members t) ++ seat_with x b ∷ []) (sym (asked_is x ∙ never)) ∙ (sym (map_push (seat_in new) (members t) x) ∙ ap (map (seat_in new)) (sym (members_more t f))));
  came = λ y a. by_last (HasCome new y) y x (members t) (sym (ap (is_among y) (members_more t f)) ∙ a) (λ old. grown y (k.came y old)) (λ same. subst (HasCome new) (sym same) here);
  asked_came = λ y a. grown y (k.asked_came y (sym (asked_is y) ∙ a));
}
  where
    f : Fact
    f = fact.Up x

    new : List Fact
    new = t ++ fact.Up x ∷ []

    asked_is : (y : Incarnation) → has_asked y (t ++ fact.Up x ∷ []) ≡ has_asked y t
    asked_is y = asked_more y t (fact.Up x)

    less : (a b : ℕ) → a ≡ b + 1 → a ≤ b → ⊥
    less a b e le = omega (arith, e, le)

    never : has_asked x t ≡ false
    never = by (has_asked x t) refl
      where
        by : (b : Bool) → has_asked x t ≡ b → has_asked x t ≡ false
        by true a = absurd (less x.number (last_number x.node t) next (k.asked_came x a))
        by false a = a

    on : (a b c : ℕ) → a ≤ b → b ≤ c → a ≤ c
    on a b c f g = omega (arith, f, g)

    itself : (a : ℕ) → a ≤ a
    itself a = omega arith

    grown : (y : Incarnation) → HasCome t y → HasCome (t ++ fact.Up x ∷ []) y
    grown y h = subst (λ n. y.number ≤ n) (sym (last_more y.node t (fact.Up x))) (on y.number (last_number y.node t) (number_step y.node (last_number y.node t) (fact.Up x)) h (last_grows t x y.node next))

    here : HasCome (t ++ fact.Up x ∷ []) x
    here = subst (λ n. x.number ≤ n) (sym (last_more x.node t (fact.Up x) ∙ ap (λ b. if b then x.number else last_number x.node t) (number_itself x.node x.node refl))) (itself x.number)

-- A worker is gone.

left_seats : (t : List Fact) (p : Incarnation → Bool) (xs : List Incarnation) → filter (λ (s : Seat). p s.who) (map (seat_in t) xs) ≡ map (seat_in t) (filter p xs)
left_seats t p [] = refl
left_seats t p (x ∷ xs) = by (p x) (left_seats t p xs)
  where
    by : (b : Bool) → filter (λ (s : Seat). p s.who) (map (seat_in t) xs) ≡ map (seat_in t) (filter p xs)
        → (if b then seat_in t x ∷ filter (λ (s : Seat). p s.who) (map (seat_in t) xs) else filter (λ (s : Seat). p s.who) (map (seat_in t) xs)) ≡ map (seat_in t) (if b then x ∷ filter p xs else filter p xs)
    by true h = ap (λ l. seat_in t x ∷ l) h
    by false h = h

pub seats_gone : (t : List Fact) (seats : List Seat) (x : Incarnation) → AreSeats t seats → AreSeats (t ++ fact.Gone x ∷ []) (filter (λ (s : Seat). not (is_same x s.who)) seats)
seats_gone t seats x k = record {
  seats_are = ap (filter (λ (s : Seat). not (is_same x s.who))) (k.seats_are ∙ map_same (seat_in t) (seat_in new) (λ y. ap (seat_with y) (sym (asked_is y))) (members t))
      ∙ (left_seats new (λ y. not (is_same x y)) (members t) ∙ ap (map (seat_in new)) (sym (members_more t (fact.Gone x))));
  came = λ y a. subst (λ n. y.number ≤ n) (sym (last_more y.node t (fact.Gone x))) (k.came y (among_kept (λ z. not (is_same x z)) y (members t) (sym (ap (is_among y) (members_more t (fact.Gone x))) ∙ a)));
  asked_came = λ y a. subst (λ n. y.number ≤ n) (sym (last_more y.node t (fact.Gone x))) (k.asked_came y (sym (asked_is y) ∙ a));
}
  where
    new : List Fact
    new = t ++ fact.Gone x ∷ []

    asked_is : (y : Incarnation) → has_asked y (t ++ fact.Gone x ∷ []) ≡ has_asked y t
    asked_is y = asked_more y t (fact.Gone x)

-- The producer begins to run: nobody has asked.
pub seats_granted : (t : List Fact) (seats : List Seat) (s : Slot) (n : ℕ) (x : Incarnation) → AreSeats t seats → AreSeats (t ++ fact.Granted s n x ∷ []) (map not_asking seats)
seats_granted t seats s n x k = record {
  seats_are = ap (map not_asking) k.seats_are ∙ (map_twice (seat_in t) (seat_in new) not_asking (λ y. ap (seat_with y) (sym (nobody y))) (members t) ∙ ap (map (seat_in new)) (sym (members_more t f)));
  came = λ y a. subst (λ m. y.number ≤ m) (sym (last_more y.node t f)) (k.came y (sym (ap (is_among y) (members_more t f)) ∙ a));
  asked_came = λ y a. absurd (true_is_not_false (sym a ∙ nobody y));
}
  where
    f : Fact
    f = fact.Granted s n x

    new : List Fact
    new = t ++ fact.Granted s n x ∷ []

    nobody : (y : Incarnation) → has_asked y (t ++ fact.Granted s n x ∷ []) ≡ false
    nobody y = asked_more y t (fact.Granted s n x)

-- A packet is delivered.

same_turned : (x y : Incarnation) → is_same x y ≡ is_same y x
same_turned x y = by (is_same x y) refl
  where
    by : (b : Bool) → is_same x y ≡ b → b ≡ is_same y x
    by true e = sym (itself_is y x (sym (same_is x y e)))
    by false e = sym (turned x y e)

by_asked : (x y : Incarnation) (b a : Bool) → (if b then seat_with y true else seat_with y a) ≡ seat_with y (a || (b || false))
by_asked x y true true = refl
by_asked x y true false = refl
by_asked x y false true = refl
by_asked x y false false = refl

pub seats_got : (c : Script) (t : List Fact) (seats : List Seat) (k : ℕ) (p : Parcel) → packet k t ≡ Some (parcel_fact c k p) → ((x : Incarnation) → p ≡ parcel.Ask x → HasCome t x) → AreSeats t seats → AreSeats (t ++ fact.Got k ∷ []) (asked_by p seats)
seats_got c t seats k p is known h = by p is known
  where
    f : Fact
    f = fact.Got k

    new : List Fact
    new = t ++ fact.Got k ∷ []

    asked_is : (o : Option Fact) → packet k t ≡ o → (y : Incarnation) → has_asked y (t ++ fact.Got k ∷ []) ≡ is_among y ((asks_of t).asked ++ asker o)
    asked_is o e y = asked_more y t (fact.Got k) ∙ ap (λ q. is_among y ((asks_of t).asked ++ asker q)) (ap (λ w. packet_in w k) (posted_is t) ∙ e)

    old_came : (y : Incarnation) → HasCome t y → HasCome (t ++ fact.Got k ∷ []) y
    old_came y a = subst (λ n. y.number ≤ n) (sym (last_more y.node t (fact.Got k))) a

    still : asker (packet k t) ≡ [] → AreSeats (t ++ fact.Got k ∷ []) seats
    still none = seats_same t seats (fact.Got k) refl (λ n. refl) (ap (λ w. (asks_of t).asked ++ asker (packet_in w k)) (posted_is t) ∙ (ap (λ l. (asks_of t).asked ++ l) none ∙ append-nil (asks_of t).asked)) h

    by : (p : Parcel) → packet k t ≡ Some (parcel_fact c k p) → ((x : Incarnation) → p ≡ parcel.Ask x → HasCome t x) → AreSeats (t ++ fact.Got k ∷ []) (asked_by p seats)
    by (parcel.Job x i) e known = still (ap asker e)
    by (parcel.Done x i) e known = still (ap asker e)
    by (parcel.Ask x) e known = record {
      seats_are = ap (map (asking x)) h.seats_are
          ∙ (map_twice (seat_in t) (seat_in new) (asking x) (λ y. by_asked x y (is_same x y) (has_asked y t) ∙ (ap (λ b. seat_with y (has_asked y t || (b || false))) (same_turned x y) ∙ ap (seat_with y) (sym (has_is y)))) (members t) ∙ ap (map (seat_in new)) (sym (members_more t f)));
      came = λ y a. old_came y (h.came y (sym (ap (is_among y) (members_more t f)) ∙ a));
      asked_came = λ y a. by_last (HasCome new y) y x (asks_of t).asked (sym (asked_is (Some (fact.SentAsk k x)) e y) ∙ a) (λ b. old_came y (h.asked_came y b)) (λ same. subst (HasCome new) (sym same) (old_came x (known x refl)));
    }
      where
        has_is : (y : Incarnation) → has_asked y (t ++ fact.Got k ∷ []) ≡ (has_asked y t || (is_same y x || false))
        has_is y = asked_is (Some (fact.SentAsk k x)) e y ∙ among_last y x (asks_of t).asked

-- The numbers of the nodes.

pub numbers_same : (t : List Fact) (numbers : List ℕ) (f : Fact) → ((n : ℕ) → number_step n (last_number n t) f ≡ last_number n t) → AreNumbers t numbers → AreNumbers (t ++ f ∷ []) numbers
numbers_same t numbers f e k = record { long = k.long; numbers_are = λ n a b. k.numbers_are n a b ∙ sym (last_more n t f ∙ e n) }

pub numbers_up : (t : List Fact) (numbers : List ℕ) (x : Incarnation) → 0 < x.node → x.node ≤ 16 → AreNumbers t numbers → AreNumbers (t ++ fact.Up x ∷ []) (set numbers (x.node - 1) x.number)
numbers_up t numbers x low high k = record {
  long = length-set numbers (x.node - 1) x.number ∙ k.long;
  numbers_are = λ n a b. by n a b (x.node == n) refl ∙ sym (last_more n t (fact.Up x));
}
  where
    within : (n m : ℕ) → 0 < n → n ≤ 16 → m ≡ 16 → n - 1 < m
    within n m a b e = omega (arith, a, b, e)

    apart : (m n : ℕ) → 0 < m → 0 < n → m ≢ n → n - 1 ≢ m - 1
    apart m n a b other e = other (omega (arith, a, b, e))

    by : (n : ℕ) → 0 < n → n ≤ 16 → (b : Bool) → (x.node == n) ≡ b → get_or (set numbers (x.node - 1) x.number) (n - 1) 0 ≡ (if x.node == n then x.number else last_number n t)
    by n a b true e = ap (λ m. get_or (set numbers (x.node - 1) x.number) (m - 1) 0) (sym (same_number x.node n e)) ∙ (get_or-set_same numbers (x.node - 1) x.number 0 (within x.node (length numbers) low high k.long) ∙ ap (λ d. if d then x.number else last_number n t) (sym e))
    by n a b false e = get_or-set_other numbers (x.node - 1) (n - 1) x.number 0 (apart x.node n low a (other_number x.node n e)) ∙ (k.numbers_are n a b ∙ ap (λ d. if d then x.number else last_number n t) (sym e))

-- What is asked of the workers.

whos_in : (t : List Fact) (xs : List Incarnation) → whos (map (seat_in t) xs) ≡ xs
whos_in t [] = refl
whos_in t (x ∷ xs) = ap (λ l. x ∷ l) (whos_in t xs)

pub whos_are : (t : List Fact) (seats : List Seat) → AreSeats t seats → whos seats ≡ members t
whos_are t seats k = ap whos k.seats_are ∙ whos_in t (members t)

-- where no worker is at the node, this one isn't up
nobody_at : (x : Incarnation) (xs : List Incarnation) → find (λ (y : Incarnation). y.node == x.node) xs ≡ None → is_among x xs ≡ false
nobody_at x [] e = refl
nobody_at x (y ∷ ys) e = by (λ h. nobody_at x ys h) (y.node == x.node) refl
  where
    other : (y.node == x.node) ≡ false → is_same x y ≡ false
    other f = pick (is_same x y) refl
      where
        pick : (b : Bool) → is_same x y ≡ b → is_same x y ≡ false
        pick true s = absurd (true_is_not_false (sym (number_itself y.node x.node (ap (λ (z : Incarnation). z.node) (sym (same_is x y s)))) ∙ f))
        pick false s = s

    by : (find (λ (z : Incarnation). z.node == x.node) ys ≡ None → is_among x ys ≡ false) → (b : Bool) → (y.node == x.node) ≡ b → (is_same x y || is_among x ys) ≡ false
    by rest true f = absurd (none_is_not_some y (sym (sym (ap (λ b. if b then Some y else find (λ (z : Incarnation). z.node == x.node) ys) f) ∙ e)))
    by rest false f = ap (λ b. b || is_among x ys) (other f) ∙ rest (sym (ap (λ b. if b then Some y else find (λ (z : Incarnation). z.node == x.node) ys) f) ∙ e)

pub not_up : (t : List Fact) (seats : List Seat) (x : Incarnation) → AreSeats t seats → find (λ (y : Incarnation). y.node == x.node) (members t) ≡ None → is_among x (whos seats) ≡ false
not_up t seats x k none = ap (is_among x) (whos_are t seats k) ∙ nobody_at x (members t) none

-- how many jobs are at a worker
count_picked : (p : JobState → Bool) (f : List ℕ → JobState) (q : List ℕ → Bool) → ((e : List ℕ) → p (f e) ≡ q e) → (es : List (List ℕ)) → count_by p (map f es) ≡ length (filter q es)
count_picked p f q h [] = refl
count_picked p f q h (e ∷ es) = sum_by-cons (λ y. if p y then 1 else 0) (f e) (map f es) ∙ (ap (λ b. (if b then 1 else 0) + count_by p (map f es)) (h e) ∙ by (q e) (count_picked p f q h es))
  where
    one_more : (n m : ℕ) → n ≡ m → 1 + n ≡ suc m
    one_more n m h = omega (arith, h)

    none_more : (n m : ℕ) → n ≡ m → 0 + n ≡ m
    none_more n m h = omega (arith, h)

    by : (b : Bool) → count_by p (map f es) ≡ length (filter q es) → (if b then 1 else 0) + count_by p (map f es) ≡ length (if b then e ∷ filter q es else filter q es)
    by true h = one_more (count_by p (map f es)) (length (filter q es)) h
    by false h = none_more (count_by p (map f es)) (length (filter q es)) h

filter_front : (q : List ℕ → Bool) (es : List (List ℕ)) (n : ℕ) → ((i : ℕ) → n ≤ i → i < length es → q (get_or es i []) ≡ false) → filter q es ≡ filter q (take n es)
filter_front q [] zero h = refl
filter_front q [] (suc n) h = refl
filter_front q (e ∷ es) zero h = ap (λ b. if b then e ∷ filter q es else filter q es) (h 0 (omega arith) (omega arith)) ∙ (filter_front q es zero (λ i a l. h (suc i) (omega arith) (omega (arith, l))) ∙ ap (filter q) (none es))
  where
    none : (xs : List (List ℕ)) → take zero xs ≡ []
    none xs = refl
filter_front q (e ∷ es) (suc n) h = by (q e) (filter_front q es n (λ i a l. h (suc i) (omega (arith, a)) (omega (arith, l))))
  where
    by : (b : Bool) → filter q es ≡ filter q (take n es) → (if b then e ∷ filter q es else filter q es) ≡ (if b then e ∷ filter q (take n es) else filter q (take n es))
    by true h = ap (λ l. e ∷ l) h
    by false h = h

pub load_is : (c : Script) (t : List Fact) (q : Queue) (sent : ℕ) (states : List JobState) (x : Incarnation) → IsPulled c → IsQueued c t q sent → AreStates c t states → load_of x states ≡ length (given_to x t)
load_is c t q sent states x is k s =
    ap (load_of x) s.states_are
    ∙ (count_picked (is_given_to x) (state_of t) pick (λ e. ap (is_at x) (given_is c t states s e)) (names_of c)
    ∙ ap length (filter_front pick (names_of c) (length (jobs t)) (λ i le lt. ap (is_at x) (s.ungiven (get_or (names_of c) i []) (ap (λ b. b && not (is_confirmed (get_or (names_of c) i []) t)) (unqueued_above c t q sent is k i le (subst (λ n. i < n) (names_long c) lt)))))
    ∙ ap (filter pick) (take-map name (length (jobs t)) (sends c 1) ∙ ap (map name) (sym (jobs_front c t q sent k)))))
  where
    name : Sending → List ℕ
    name j = j.entity

    pick : List ℕ → Bool
    pick e = is_at x (given e t)

-- who is ready
ready_in : (window : ℕ) (t : List Fact) (states : List JobState) (xs : List Incarnation) → ((x : Incarnation) → load_of x states ≡ length (given_to x t)) → option_map (λ (s : Seat). s.who) (find (is_ready window states) (map (seat_in t) xs)) ≡ find (is_ready_in window t) xs
ready_in window t states [] h = refl
ready_in window t states (x ∷ xs) h = ap (λ n. option_map (λ (s : Seat). s.who) (if has_asked x t && nat_lt n window then Some (seat_in t x) else find (is_ready window states) (map (seat_in t) xs))) (h x) ∙ by (has_asked x t && nat_lt (length (given_to x t)) window) (ready_in window t states xs h)
  where
    by : (b : Bool) → option_map (λ (s : Seat). s.who) (find (is_ready window states) (map (seat_in t) xs)) ≡ find (is_ready_in window t) xs
        → option_map (λ (s : Seat). s.who) (if b then Some (seat_in t x) else find (is_ready window states) (map (seat_in t) xs)) ≡ (if b then Some x else find (is_ready_in window t) xs)
    by true h = refl
    by false h = h

pub ready_is : (c : Script) (t : List Fact) (q : Queue) (sent : ℕ) (states : List JobState) (seats : List Seat) (window : ℕ) → IsPulled c → IsQueued c t q sent → AreStates c t states → AreSeats t seats → option_map (λ (s : Seat). s.who) (find (is_ready window states) seats) ≡ first_ready window t
ready_is c t q sent states seats window is k s h = ap (λ l. option_map (λ (s : Seat). s.who) (find (is_ready window states) l)) h.seats_are ∙ ready_in window t states (members t) (λ x. load_is c t q sent states x is k s)
