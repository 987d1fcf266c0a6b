-- What is known of each job, by its place.
use Rattle.std.proofs.Common.{◌≡◌, ◌≢◌, ℕ, zero, suc, ◌<◌, sym, ap, ◌∙◌, refl, subst, arith, length, get_or, set}
use Rattle.std.specs.Prelude.{Bool, true, false, ◌&&◌, nat_lt, not, List, [], ◌∷◌, ◌++◌, map, Option, Some, None, is_none, if◌then◌else◌}
use Rattle.std.proofs.lemmas.List.{get_or-map, length-map}
use Rattle.std.proofs.lemmas.List.Sums.{fold_push}
use Rattle.yard_model.specs.declared.event.Command.{Command}
use Rattle.yard_model.specs.declared.fact.Fact.{Fact}
use Rattle.yard_model.specs.declared.fact.Fact.TheVariants as fact
use Rattle.yard_model.specs.declared.incarnation.Incarnation.{Incarnation}
use Rattle.yard_model.specs.Script.{Script, is_name, sends}
use Rattle.yard_model.specs.SlotReads.{queued, commands, commands_step, confirmed, confirmed_step}
use Rattle.yard_model.specs.Words.{is_same, is_at}
use Rattle.plain_laws.proofs.Booleans.{true_is_not_false, and_both, same_name, of_not}
use Rattle.plain_laws.proofs.Names.{name_itself}
use Rattle.pull_laws.specs.Pulled.{queue, queue_step, is_queued, is_confirmed, given, given_step, is_free}
use Rattle.pull_laws.specs.PullSafe.{IsPulled}
use Rattle.pull_laws.proofs.Small.{positive}
use Rattle.pull_laws.proofs.Sound.{queue_more, given_more, queued_stays}
use Rattle.job_board.specs.Boards.{state_at, freed, freed_from, given_of, is_free_state}
use Rattle.job_board.specs.declared.state.JobState.{JobState}
use Rattle.job_board.specs.declared.state.JobState.TheVariants as state
use Rattle.pull_cluster.specs.Cluster.{names_of, name_at}
use Rattle.pull_cluster.specs.Kept.{AreStates, state_by, state_of, given_state, is_closed_state}
use Rattle.pull_cluster.proofs.NameLaws.{names_long, names_differ}

-- Lists that are read off another.

pub map_same : {A B : Type 0} (f g : A → B) → ((x : A) → f x ≡ g x) → (xs : List A) → map f xs ≡ map g xs
map_same f g h [] = refl
map_same f g h (x ∷ xs) = ap (λ y. y ∷ map f xs) (h x) ∙ ap (λ ys. g x ∷ ys) (map_same f g h xs)

pub map_twice : {A B : Type 0} (f g : A → B) (h : B → B) → ((x : A) → h (f x) ≡ g x) → (xs : List A) → map h (map f xs) ≡ map g xs
map_twice f g h e [] = refl
map_twice f g h e (x ∷ xs) = ap (λ y. y ∷ map h (map f xs)) (e x) ∙ ap (λ ys. g x ∷ ys) (map_twice f g h e xs)

same_at : {B : Type 0} (f g : List ℕ → B) (xs : List (List ℕ)) → ((k : ℕ) → k < length xs → g (get_or xs k []) ≡ f (get_or xs k [])) → map f xs ≡ map g xs
same_at f g [] h = refl
same_at f g (x ∷ xs) h = ap (λ y. y ∷ map f xs) (sym (h 0 (omega arith))) ∙ ap (λ ys. g x ∷ ys) (same_at f g xs (λ k lt. h (suc k) (omega (arith, lt))))

-- one place is written
pub map_set : {B : Type 0} (f g : List ℕ → B) (xs : List (List ℕ)) (i : ℕ) (v : B) → i < length xs → g (get_or xs i []) ≡ v → ((k : ℕ) → k < length xs → k ≢ i → g (get_or xs k []) ≡ f (get_or xs k [])) → set (map f xs) i v ≡ map g xs
map_set f g [] i v lt at others = absurd (below_none i lt)
  where
    below_none : (i : ℕ) → i < 0 → ⊥
    below_none i lt = omega (arith, lt)
map_set f g (x ∷ xs) zero v lt at others = ap (λ y. y ∷ map f xs) (sym at) ∙ ap (λ ys. g x ∷ ys) (same_at f g xs (λ k l. others (suc k) (omega (arith, l)) (later k)))
  where
    later : (k : ℕ) → suc k ≢ 0
    later k e = omega (arith, e)
map_set f g (x ∷ xs) (suc i) v lt at others = ap (λ y. y ∷ set (map f xs) i v) (sym (others 0 (omega arith) (first i))) ∙ ap (λ ys. g x ∷ ys) (map_set f g xs i v (omega (arith, lt)) at (λ k l n. others (suc k) (omega (arith, l)) (λ e. n (less k i e))))
  where
    first : (i : ℕ) → 0 ≢ suc i
    first i e = omega (arith, e)

    less : (k i : ℕ) → suc k ≡ suc i → k ≡ i
    less k i e = omega (arith, e)

-- What the trace says of a job, as one fact more is told.

-- by the three words
state_as : (t : List Fact) (e : List ℕ) (q c : Bool) (g : Option Incarnation) → is_queued e t ≡ q → is_confirmed e t ≡ c → given e t ≡ g → state_of t e ≡ state_by q c g
state_as t e q c g eq ec eg = ap (λ b. state_by b (is_confirmed e t) (given e t)) eq ∙ (ap (λ b. state_by q b (given e t)) ec ∙ ap (state_by q c) eg)

-- the queue's list stays
queue_words : (t : List Fact) (f : Fact) (e : List ℕ) → queue_step (queue t) f ≡ queue t → (is_queued e (t ++ f ∷ []) ≡ is_queued e t) × (is_confirmed e (t ++ f ∷ []) ≡ is_confirmed e t)
queue_words t f e h = let is : queue (t ++ f ∷ []) ≡ queue t = queue_more t f ∙ h in (ap (λ l. nat_lt 0 (queued e l)) is, ap (λ l. nat_lt 0 (confirmed e l)) is)

-- one entry more
entry_words : (t : List Fact) (f : Fact) (e : List ℕ) → queue_step (queue t) f ≡ queue t ++ f ∷ []
    → (is_queued e (t ++ f ∷ []) ≡ nat_lt 0 (length (commands_step e (commands e (queue t)) f))) × (is_confirmed e (t ++ f ∷ []) ≡ nat_lt 0 (confirmed_step e (confirmed e (queue t)) f))
entry_words t f e h = let is : queue (t ++ f ∷ []) ≡ queue t ++ f ∷ [] = queue_more t f ∙ h in (
  ap (λ l. nat_lt 0 (queued e l)) is ∙ ap (λ l. nat_lt 0 (length l)) (fold_push (commands_step e) [] (queue t) f),
  ap (λ l. nat_lt 0 (confirmed e l)) is ∙ ap (nat_lt 0) (fold_push (confirmed_step e) 0 (queue t) f),
)

none_by : (b c : Bool) (o p : Option Incarnation) → p ≡ o → ((b && not c) ≡ false → o ≡ None) → (b && not c) ≡ false → p ≡ None
none_by b c o p e h n = e ∙ h n

-- a fact that no job is about
pub states_same : (c : Script) (t : List Fact) (states : List JobState) (f : Fact) → queue_step (queue t) f ≡ queue t → ((e : List ℕ) → given_step e (given e t) f ≡ given e t) → AreStates c t states → AreStates c (t ++ f ∷ []) states
states_same c t states f qe ge k = record {
  states_are = k.states_are ∙ map_same (state_of t) (state_of (t ++ f ∷ [])) (λ e. sym (state_as (t ++ f ∷ []) e (is_queued e t) (is_confirmed e t) (given e t) (words e).0 (words e).1 (given_same e))) (names_of c);
  idle = λ e n. (words e).1 ∙ k.idle e (sym (words e).0 ∙ n);
  ungiven = λ e n. given_same e ∙ k.ungiven e (sym (ap (λ b. b && not (is_confirmed e (t ++ f ∷ []))) (words e).0 ∙ ap (λ b. is_queued e t && not b) (words e).1) ∙ n);
}
  where
    words : (e : List ℕ) → (is_queued e (t ++ f ∷ []) ≡ is_queued e t) × (is_confirmed e (t ++ f ∷ []) ≡ is_confirmed e t)
    words e = queue_words t f e qe

    given_same : (e : List ℕ) → given e (t ++ f ∷ []) ≡ given e t
    given_same e = given_more e t f ∙ ge e

-- a worker is gone
freed_by : (x : Incarnation) (q c : Bool) (g : Option Incarnation) → freed_from x (state_by q c g) ≡ state_by q c (if is_at x g then None else g)
freed_by x false c g = refl
freed_by x true true g = refl
freed_by x true false None = refl
freed_by x true false (Some y) = by (is_same x y)
  where
    by : (b : Bool) → (if b then state.Free else state.Given y) ≡ given_state (if b then None else Some y)
    by true = refl
    by false = refl

pub states_gone : (c : Script) (t : List Fact) (states : List JobState) (x : Incarnation) → AreStates c t states → AreStates c (t ++ fact.Gone x ∷ []) (map (freed_from x) states)
states_gone c t states x k = record {
  states_are = ap (map (freed_from x)) k.states_are ∙ map_twice (state_of t) (state_of (t ++ f ∷ [])) (freed_from x)
      (λ e. freed_by x (is_queued e t) (is_confirmed e t) (given e t) ∙ sym (state_as (t ++ f ∷ []) e (is_queued e t) (is_confirmed e t) (left (given e t)) (words e).0 (words e).1 (given_more e t f))) (names_of c);
  idle = λ e n. (words e).1 ∙ k.idle e (sym (words e).0 ∙ n);
  ungiven = λ e n. given_more e t f ∙ ap left (k.ungiven e (sym (ap (λ b. b && not (is_confirmed e (t ++ f ∷ []))) (words e).0 ∙ ap (λ b. is_queued e t && not b) (words e).1) ∙ n));
}
  where
    f : Fact
    f = fact.Gone x

    left : Option Incarnation → Option Incarnation
    left g = if is_at x g then None else g

    words : (e : List ℕ) → (is_queued e (t ++ f ∷ []) ≡ is_queued e t) × (is_confirmed e (t ++ f ∷ []) ≡ is_confirmed e t)
    words e = queue_words t f e refl

-- the producer begins to run, or rests
none_given : (q c : Bool) (g : Option Incarnation) → freed (state_by q c g) ≡ state_by q c None
none_given false c g = refl
none_given true true g = refl
none_given true false None = refl
none_given true false (Some y) = refl

pub states_freed : (c : Script) (t : List Fact) (states : List JobState) (f : Fact) → queue_step (queue t) f ≡ queue t ++ f ∷ [] → ((e : List ℕ) (l : List Command) → commands_step e l f ≡ l) → ((e : List ℕ) (n : ℕ) → confirmed_step e n f ≡ n)
    → ((e : List ℕ) → given_step e (given e t) f ≡ None) → AreStates c t states → AreStates c (t ++ f ∷ []) (map freed states)
states_freed c t states f qe ce ne ge k = record {
  states_are = ap (map freed) k.states_are ∙ map_twice (state_of t) (state_of (t ++ f ∷ [])) freed
      (λ e. none_given (is_queued e t) (is_confirmed e t) (given e t) ∙ sym (state_as (t ++ f ∷ []) e (is_queued e t) (is_confirmed e t) None (queued_is e) (confirmed_is e) (given_same e))) (names_of c);
  idle = λ e n. confirmed_is e ∙ k.idle e (sym (queued_is e) ∙ n);
  ungiven = λ e n. given_same e;
}
  where
    queued_is : (e : List ℕ) → is_queued e (t ++ f ∷ []) ≡ is_queued e t
    queued_is e = (entry_words t f e qe).0 ∙ ap (λ l. nat_lt 0 (length l)) (ce e (commands e (queue t)))

    confirmed_is : (e : List ℕ) → is_confirmed e (t ++ f ∷ []) ≡ is_confirmed e t
    confirmed_is e = (entry_words t f e qe).1 ∙ ap (nat_lt 0) (ne e (confirmed e (queue t)))

    given_same : (e : List ℕ) → given e (t ++ f ∷ []) ≡ None
    given_same e = given_more e t f ∙ ge e

-- A job's own facts.

-- it is this name, or another
by_name : (P : Type 0) (y e : List ℕ) → (y ≡ e → is_name y e ≡ true → P) → (is_name y e ≡ false → P) → P
by_name P y e same other = by (is_name y e) refl
  where
    by : (b : Bool) → is_name y e ≡ b → P
    by true h = same (same_name y e h) h
    by false h = other h

abbrev pub Others : Script → ℕ → Type 0
Others c i = (k : ℕ) → k < length (sends c 1) → k ≢ i → is_name (name_at c i) (name_at c k) ≡ false

others : (c : Script) → IsPulled c → (i : ℕ) → i < length (sends c 1) → Others c i
others c is i lt k kl n = names_differ c is i k lt kl (λ e. n (sym e))

within : (c : Script) (k : ℕ) → k < length (names_of c) → k < length (sends c 1)
within c k lt = subst (λ n. k < n) (names_long c) lt

-- the job at place n is queued, the first that isn't
pub states_queued : (c : Script) (t : List Fact) (states : List JobState) (n : ℕ) (k : Command) → IsPulled c → n < length (sends c 1) → is_queued (name_at c n) t ≡ false → AreStates c t states → AreStates c (t ++ fact.Queued 1 (name_at c n) 1 k ∷ []) (set states n state.Free)
states_queued c t states n k is lt new h = record {
  states_are = ap (λ l. set l n state.Free) h.states_are ∙ map_set (state_of t) (state_of (t ++ f ∷ [])) (names_of c) n state.Free (subst (λ m. n < m) (sym (names_long c)) lt)
      (state_as (t ++ f ∷ []) y true false None (queued_is y ∙ (ap (λ b. nat_lt 0 (length (if b then commands y (queue t) ++ k ∷ [] else commands y (queue t)))) (name_itself y) ∙ last (commands y (queue t)))) (confirmed_is y ∙ h.idle y new) (given_same y ∙ h.ungiven y (ap (λ b. b && not (is_confirmed y t)) new)))
      (λ i l far. stays (get_or (names_of c) i []) (others c is n lt i (within c i l) far));
  idle = λ e lacks. confirmed_is e ∙ h.idle e (before e lacks);
  ungiven = λ e lacks. given_same e ∙ by_name (given e t ≡ None) y e (λ same b. subst (λ z. given z t ≡ None) same (h.ungiven y (ap (λ b. b && not (is_confirmed y t)) new)))
      (λ b. h.ungiven e (sym (ap (λ q. q && not (is_confirmed e (t ++ f ∷ []))) (other_queued e b) ∙ ap (λ q. is_queued e t && not q) (confirmed_is e)) ∙ lacks));
}
  where
    y : List ℕ
    y = name_at c n

    f : Fact
    f = fact.Queued 1 y 1 k

    queued_is : (e : List ℕ) → is_queued e (t ++ f ∷ []) ≡ nat_lt 0 (length (if is_name y e then commands e (queue t) ++ k ∷ [] else commands e (queue t)))
    queued_is e = (entry_words t f e refl).0

    confirmed_is : (e : List ℕ) → is_confirmed e (t ++ f ∷ []) ≡ is_confirmed e t
    confirmed_is e = (entry_words t f e refl).1

    given_same : (e : List ℕ) → given e (t ++ f ∷ []) ≡ given e t
    given_same e = given_more e t f

    last : (l : List Command) → nat_lt 0 (length (l ++ k ∷ [])) ≡ true
    last [] = positive 0
    last (x ∷ xs) = positive (length (xs ++ k ∷ []))

    other_queued : (e : List ℕ) → is_name y e ≡ false → is_queued e (t ++ f ∷ []) ≡ is_queued e t
    other_queued e b = queued_is e ∙ ap (λ b. nat_lt 0 (length (if b then commands e (queue t) ++ k ∷ [] else commands e (queue t)))) b

    stays : (e : List ℕ) → is_name y e ≡ false → state_of (t ++ f ∷ []) e ≡ state_of t e
    stays e b = state_as (t ++ f ∷ []) e (is_queued e t) (is_confirmed e t) (given e t) (other_queued e b) (confirmed_is e) (given_same e)

    before : (e : List ℕ) → is_queued e (t ++ f ∷ []) ≡ false → is_queued e t ≡ false
    before e lacks = by (is_queued e t) refl
      where
        by : (b : Bool) → is_queued e t ≡ b → is_queued e t ≡ false
        by true g = absurd (true_is_not_false (sym (queued_stays e t f g) ∙ lacks))
        by false g = g

-- of a free job
pub free_parts : (e : List ℕ) (t : List Fact) → is_free e t ≡ true → (is_queued e t ≡ true) × (is_confirmed e t ≡ false)
free_parts e t h =
    let m : ((is_queued e t && not (is_confirmed e t)) ≡ true) × (is_none (given e t) ≡ true) = and_both (is_queued e t && not (is_confirmed e t)) (is_none (given e t)) h in
    let n : (is_queued e t ≡ true) × (not (is_confirmed e t) ≡ true) = and_both (is_queued e t) (not (is_confirmed e t)) m.0 in
    (n.0, of_not (is_confirmed e t) n.1)

pub states_given : (c : Script) (t : List Fact) (states : List JobState) (n : ℕ) (x : Incarnation) → IsPulled c → n < length (sends c 1) → is_free (name_at c n) t ≡ true → AreStates c t states → AreStates c (t ++ fact.Given (name_at c n) x ∷ []) (set states n (state.Given x))
states_given c t states n x is lt free h = record {
  states_are = ap (λ l. set l n (state.Given x)) h.states_are ∙ map_set (state_of t) (state_of (t ++ f ∷ [])) (names_of c) n (state.Given x) (subst (λ m. n < m) (sym (names_long c)) lt)
      (state_as (t ++ f ∷ []) y true false (Some x) ((words y).0 ∙ parts.0) ((words y).1 ∙ parts.1) (given_more y t f ∙ ap (λ b. if b then Some x else given y t) (name_itself y)))
      (λ i l far. stays (get_or (names_of c) i []) (others c is n lt i (within c i l) far));
  idle = λ e lacks. (words e).1 ∙ h.idle e (sym (words e).0 ∙ lacks);
  ungiven = λ e lacks. given_more e t f ∙ by_name ((if is_name y e then Some x else given e t) ≡ None) y e
      (λ same b. absurd (true_is_not_false (sym (ap (λ q. q && not (is_confirmed y t)) parts.0 ∙ ap not parts.1) ∙ subst (λ z. (is_queued z t && not (is_confirmed z t)) ≡ false) (sym same) (was e lacks))))
      (λ b. ap (λ q. if q then Some x else given e t) b ∙ h.ungiven e (was e lacks));
}
  where
    y : List ℕ
    y = name_at c n

    f : Fact
    f = fact.Given y x

    parts : (is_queued y t ≡ true) × (is_confirmed y t ≡ false)
    parts = free_parts y t free

    words : (e : List ℕ) → (is_queued e (t ++ f ∷ []) ≡ is_queued e t) × (is_confirmed e (t ++ f ∷ []) ≡ is_confirmed e t)
    words e = queue_words t f e refl

    was : (e : List ℕ) → (is_queued e (t ++ f ∷ []) && not (is_confirmed e (t ++ f ∷ []))) ≡ false → (is_queued e t && not (is_confirmed e t)) ≡ false
    was e lacks = sym (ap (λ b. b && not (is_confirmed e (t ++ f ∷ []))) (words e).0 ∙ ap (λ b. is_queued e t && not b) (words e).1) ∙ lacks

    stays : (e : List ℕ) → is_name y e ≡ false → state_of (t ++ f ∷ []) e ≡ state_of t e
    stays e b = state_as (t ++ f ∷ []) e (is_queued e t) (is_confirmed e t) (given e t) (words e).0 (words e).1 (given_more e t f ∙ ap (λ q. if q then Some x else given e t) b)

pub states_confirmed : (c : Script) (t : List Fact) (states : List JobState) (n : ℕ) → IsPulled c → n < length (sends c 1) → is_queued (name_at c n) t ≡ true → AreStates c t states → AreStates c (t ++ fact.Confirmed 1 (name_at c n) 1 ∷ []) (set states n state.Confirmed)
states_confirmed c t states n is lt here h = record {
  states_are = ap (λ l. set l n state.Confirmed) h.states_are ∙ map_set (state_of t) (state_of (t ++ f ∷ [])) (names_of c) n state.Confirmed (subst (λ m. n < m) (sym (names_long c)) lt)
      (state_as (t ++ f ∷ []) y true true None (queued_is y ∙ here) (confirmed_is y ∙ ap (λ b. nat_lt 0 (if b then 1 else confirmed y (queue t))) (name_itself y)) (given_more y t f ∙ ap (λ b. if b then None else given y t) (name_itself y)))
      (λ i l far. stays (get_or (names_of c) i []) (others c is n lt i (within c i l) far));
  idle = λ e lacks. confirmed_is e ∙ by_name (nat_lt 0 (if is_name y e then 1 else confirmed e (queue t)) ≡ false) y e
      (λ same b. absurd (true_is_not_false (sym here ∙ subst (λ z. is_queued z t ≡ false) (sym same) (sym (queued_is e) ∙ lacks))))
      (λ b. ap (λ q. nat_lt 0 (if q then 1 else confirmed e (queue t))) b ∙ h.idle e (sym (queued_is e) ∙ lacks));
  ungiven = λ e lacks. given_more e t f ∙ by_name ((if is_name y e then None else given e t) ≡ None) y e
      (λ same b. ap (λ q. if q then None else given e t) b)
      (λ b. ap (λ q. if q then None else given e t) b ∙ h.ungiven e (sym (ap (λ q. q && not (is_confirmed e (t ++ f ∷ []))) (queued_is e) ∙ ap (λ q. is_queued e t && not q) (other_confirmed e b)) ∙ lacks));
}
  where
    y : List ℕ
    y = name_at c n

    f : Fact
    f = fact.Confirmed 1 y 1

    queued_is : (e : List ℕ) → is_queued e (t ++ f ∷ []) ≡ is_queued e t
    queued_is e = (entry_words t f e refl).0

    confirmed_is : (e : List ℕ) → is_confirmed e (t ++ f ∷ []) ≡ nat_lt 0 (if is_name y e then 1 else confirmed e (queue t))
    confirmed_is e = (entry_words t f e refl).1

    other_confirmed : (e : List ℕ) → is_name y e ≡ false → is_confirmed e (t ++ f ∷ []) ≡ is_confirmed e t
    other_confirmed e b = confirmed_is e ∙ ap (λ q. nat_lt 0 (if q then 1 else confirmed e (queue t))) b

    stays : (e : List ℕ) → is_name y e ≡ false → state_of (t ++ f ∷ []) e ≡ state_of t e
    stays e b = state_as (t ++ f ∷ []) e (is_queued e t) (is_confirmed e t) (given e t) (queued_is e) (other_confirmed e b) (given_more e t f ∙ ap (λ q. if q then None else given e t) b)

-- What a state says.

pub state_is : (c : Script) (t : List Fact) (states : List JobState) (i : ℕ) → AreStates c t states → i < length (sends c 1) → state_at states i ≡ state_of t (name_at c i)
state_is c t states i k lt = ap (λ l. state_at l i) k.states_are ∙ get_or-map (state_of t) (names_of c) i [] state.Unqueued (subst (λ n. i < n) (sym (names_long c)) lt)

pub states_long : (c : Script) (t : List Fact) (states : List JobState) → AreStates c t states → length states ≡ length (sends c 1)
states_long c t states k = ap length k.states_are ∙ (length-map (names_of c) (state_of t) ∙ names_long c)

free_by : (q c : Bool) (g : Option Incarnation) → is_free_state (state_by q c g) ≡ (q && not c && is_none g)
free_by false true g = refl
free_by false false g = refl
free_by true true g = refl
free_by true false None = refl
free_by true false (Some x) = refl

pub free_is : (t : List Fact) (e : List ℕ) → is_free_state (state_of t e) ≡ is_free e t
free_is t e = free_by (is_queued e t) (is_confirmed e t) (given e t)

given_by : (q c : Bool) (g : Option Incarnation) → ((q && not c) ≡ false → g ≡ None) → given_of (state_by q c g) ≡ g
given_by false true g h = sym (h refl)
given_by false false g h = sym (h refl)
given_by true true g h = sym (h refl)
given_by true false None h = refl
given_by true false (Some x) h = refl

pub given_is : (c : Script) (t : List Fact) (states : List JobState) → AreStates c t states → (e : List ℕ) → given_of (state_of t e) ≡ given e t
given_is c t states k e = given_by (is_queued e t) (is_confirmed e t) (given e t) (k.ungiven e)

closed_by : (q c : Bool) (g : Option Incarnation) → (q ≡ false → c ≡ false) → is_closed_state (state_by q c g) ≡ c
closed_by false c g h = sym (h refl)
closed_by true true g h = refl
closed_by true false None h = refl
closed_by true false (Some x) h = refl

pub closed_is : (c : Script) (t : List Fact) (states : List JobState) → AreStates c t states → (e : List ℕ) → is_closed_state (state_of t e) ≡ is_confirmed e t
closed_is c t states k e = closed_by (is_queued e t) (is_confirmed e t) (given e t) (k.idle e)

free_state : (s : JobState) → is_free_state s ≡ true → s ≡ state.Free
free_state state.Free e = refl
free_state s e = absurd (true_is_not_false (sym e))

pub free_at : (c : Script) (t : List Fact) (states : List JobState) (i : ℕ) → AreStates c t states → i < length (sends c 1) → is_free (name_at c i) t ≡ true → state_at states i ≡ state.Free
free_at c t states i k lt free = free_state (state_at states i) (ap is_free_state (state_is c t states i k lt) ∙ (free_is t (name_at c i) ∙ free))

pub unqueued_at : (c : Script) (t : List Fact) (states : List JobState) (i : ℕ) → AreStates c t states → i < length (sends c 1) → is_queued (name_at c i) t ≡ false → state_at states i ≡ state.Unqueued
unqueued_at c t states i k lt lacks = state_is c t states i k lt ∙ ap (λ b. state_by b (is_confirmed (name_at c i) t) (given (name_at c i) t)) lacks

-- before the first fact
pub states_none : (c : Script) (states : List JobState) → states ≡ map (λ (e : List ℕ). state.Unqueued) (names_of c) → AreStates c [] states
states_none c states e = record { states_are = e; idle = λ e n. refl; ungiven = λ e n. refl }
