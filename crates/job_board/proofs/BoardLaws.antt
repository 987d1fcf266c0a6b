-- What is kept of the jobs and the workers.
use Rattle.std.proofs.Common.{◌≡◌, ◌≢◌, ℕ, zero, suc, ◌+◌, ◌-◌, ◌<◌, ◌≤◌, sym, ap, ◌∙◌, refl, subst, arith, length, get_or, set}
use Rattle.std.specs.Prelude.{Bool, true, false, ◌&&◌, ◌||◌, nat_lt, not, List, [], ◌∷◌, ◌++◌, map, filter, find, take, drop, remove, replicate, count_by, is_some, IfSome, IfNone, Option, Some, None, if◌then◌else◌}
use Rattle.std.specs.Option.{option_map}
use Rattle.std.proofs.lemmas.List.{get_or-set_same, get_or-set_other, length-set, length-map, length_push, length-replicate, append-nil, take_more, take_all, drop_all, map-set, same_lists, get_or_default}
use Rattle.std.proofs.Math.ListN.{get_or-map as map_got}
use Rattle.std.proofs.lemmas.List.Sums.{sum_by-set, sum_by-cons}
use Rattle.std.proofs.lemmas.List.Edits.{map_over_more, length-remove, get_or-remove_below, get_or-remove_above}
use Rattle.std.proofs.Math.Seq.{map-set_same}
use Rattle.place_set.specs.Places.{Places, is_in}
use Rattle.yard_model.specs.declared.incarnation.Incarnation.{Incarnation}
use Rattle.yard_model.specs.Words.{is_same, is_at, is_among}
use Rattle.plain_laws.proofs.Booleans.{get_replicate, true_is_not_false, and_both, both, of_not, not_of, or_both, not_below, left_of, right_of, below}
use Rattle.plain_laws.proofs.Lists.{none_is_not_some, some_is, by_place}
use Rattle.plain_laws.proofs.Members.{same_is, same_itself, itself_is, turned, differ, differ_push, among_front, among_last}
use Rattle.job_board.specs.declared.state.JobState.{JobState}
use Rattle.job_board.specs.declared.state.JobState.TheVariants as state
use Rattle.job_board.specs.declared.worker.Worker.{Worker}
use Rattle.job_board.specs.Boards.{Seat, Board, IsWorker, IsBoard, is_free_state, given_of, is_given_to, freed_from, freed, load_of, state_at, whos, asking, not_asking, is_ready, seat_of}

abbrev pub who_of : Worker → Incarnation
who_of w = w.who

abbrev pub all_who : List Worker → List Incarnation
all_who ws = map (λ (w : Worker). w.who) ws

-- A list with one place written.

pub of_change : {X : Type 0} (P : X → Type 0) (xs : List X) (k j : ℕ) (v d : X) → k < length xs → (j ≡ k → P v) → (j ≢ k → P (get_or xs j d)) → P (get_or (set xs k v) j d)
of_change P xs k j v d lt same other =
    by_place (P (get_or (set xs k v) j d)) j k
    (λ e. subst P (sym (ap (λ i. get_or (set xs k v) i d) e ∙ get_or-set_same xs k v d lt)) (same e))
    (λ n. subst P (sym (get_or-set_other xs k j v d n)) (other n))

abbrev one_if : Bool → ℕ
one_if b = if b then 1 else 0

zero_more : (n : ℕ) → 0 + n ≡ n
zero_more n = omega arith

-- how many there are, where one place is written
count_set : (p : JobState → Bool) (xs : List JobState) (i : ℕ) (v : JobState) → i < length xs → p v ≡ p (state_at xs i) → count_by p (set xs i v) ≡ count_by p xs
count_set p xs i v lt e = by (p v) refl
  where
    by : (b : Bool) → p v ≡ b → count_by p (set xs i v) ≡ count_by p xs
    by true f = let s : count_by p (set xs i v) + one_if (p (state_at xs i)) ≡ count_by p xs + one_if (p v) = sum_by-set (λ x. one_if (p x)) xs i v state.Unqueued lt in
        let a : one_if (p v) ≡ 1 = ap one_if f in
        let b : one_if (p (state_at xs i)) ≡ 1 = ap one_if (sym e ∙ f) in
        omega (arith, s, a, b)
    by false f = let s : count_by p (set xs i v) + one_if (p (state_at xs i)) ≡ count_by p xs + one_if (p v) = sum_by-set (λ x. one_if (p x)) xs i v state.Unqueued lt in
        let a : one_if (p v) ≡ 0 = ap one_if f in
        let b : one_if (p (state_at xs i)) ≡ 0 = ap one_if (sym e ∙ f) in
        omega (arith, s, a, b)

count_gain : (p : JobState → Bool) (xs : List JobState) (i : ℕ) (v : JobState) → i < length xs → p v ≡ true → p (state_at xs i) ≡ false → count_by p (set xs i v) ≡ count_by p xs + 1
count_gain p xs i v lt f g =
    let s : count_by p (set xs i v) + one_if (p (state_at xs i)) ≡ count_by p xs + one_if (p v) = sum_by-set (λ x. one_if (p x)) xs i v state.Unqueued lt in
    let a : one_if (p v) ≡ 1 = ap one_if f in
    let b : one_if (p (state_at xs i)) ≡ 0 = ap one_if g in
    omega (arith, s, a, b)

count_loss : (p : JobState → Bool) (xs : List JobState) (i : ℕ) (v : JobState) → i < length xs → p v ≡ false → p (state_at xs i) ≡ true → count_by p (set xs i v) ≡ count_by p xs - 1
count_loss p xs i v lt f g =
    let s : count_by p (set xs i v) + one_if (p (state_at xs i)) ≡ count_by p xs + one_if (p v) = sum_by-set (λ x. one_if (p x)) xs i v state.Unqueued lt in
    let a : one_if (p v) ≡ 0 = ap one_if f in
    let b : one_if (p (state_at xs i)) ≡ 1 = ap one_if g in
    omega (arith, s, a, b)

count_map : (p : JobState → Bool) (g : JobState → JobState) → ((s : JobState) → p (g s) ≡ p s) → (xs : List JobState) → count_by p (map g xs) ≡ count_by p xs
count_map p g h [] = refl
count_map p g h (x ∷ xs) =
    sum_by-cons (λ y. one_if (p y)) (g x) (map g xs)
    ∙ (ap (λ b. one_if b + count_by p (map g xs)) (h x)
    ∙ (ap (λ n. one_if (p x) + n) (count_map p g h xs) ∙ sym (sum_by-cons (λ y. one_if (p y)) x xs)))

count_none : (p : JobState → Bool) (g : JobState → JobState) → ((s : JobState) → p (g s) ≡ false) → (xs : List JobState) → count_by p (map g xs) ≡ 0
count_none p g h [] = refl
count_none p g h (x ∷ xs) =
    sum_by-cons (λ y. one_if (p y)) (g x) (map g xs)
    ∙ (ap (λ b. one_if b + count_by p (map g xs)) (h x) ∙ (zero_more (count_by p (map g xs)) ∙ count_none p g h xs))

-- A job's state is changed.

-- a worker that hasn't to do with it
pub beside : (states : List JobState) (w : Worker) (i : ℕ) (v : JobState) → i < length states → is_given_to w.who v ≡ is_given_to w.who (state_at states i) → IsWorker states w → IsWorker (set states i v) w
beside states w i v lt e h = record {
  bound_is = h.bound_is ∙ sym (length-set states i v);
  given_are = λ j l. of_change (λ s. is_in w.given j ≡ is_given_to w.who s) states i j v state.Unqueued lt
      (λ f. h.given_are j (subst (λ n. j < n) (length-set states i v) l) ∙ (ap (λ n. is_given_to w.who (state_at states n)) f ∙ sym e))
      (λ n. h.given_are j (subst (λ n. j < n) (length-set states i v) l));
  load_is = h.load_is ∙ sym (count_set (is_given_to w.who) states i v lt e);
}

-- a job comes to a worker
pub comes : (states : List JobState) (w new : Worker) (i : ℕ) → i < length states → is_given_to w.who (state_at states i) ≡ false → new.who ≡ w.who → new.given.bound ≡ w.given.bound → is_in new.given i ≡ true
    → ((j : ℕ) → j ≢ i → is_in new.given j ≡ is_in w.given j) → new.load ≡ w.load + 1 → IsWorker states w → IsWorker (set states i (state.Given w.who)) new
comes states w new i lt none who bound it others load h =
    subst (λ x. IsWorker (set states i (state.Given x)) new) who (record {
      bound_is = bound ∙ (h.bound_is ∙ sym (length-set states i (state.Given new.who)));
      given_are = λ j l. of_change (λ s. is_in new.given j ≡ is_given_to new.who s) states i j (state.Given new.who) state.Unqueued lt
          (λ f. ap (is_in new.given) f ∙ (it ∙ sym (same_itself new.who)))
          (λ n. others j n ∙ (h.given_are j (subst (λ m. j < m) (length-set states i (state.Given new.who)) l) ∙ ap (λ x. is_given_to x (state_at states j)) (sym who)));
      load_is = load ∙ (ap (λ n. n + 1) (h.load_is ∙ ap (λ x. load_of x states) (sym who)) ∙ sym (count_gain (is_given_to new.who) states i (state.Given new.who) lt (same_itself new.who) (ap (λ x. is_given_to x (state_at states i)) who ∙ none)));
    })

-- a job that was at a worker is free
pub leaves : (states : List JobState) (w new : Worker) (i : ℕ) → i < length states → is_given_to w.who (state_at states i) ≡ true → new.who ≡ w.who → new.given.bound ≡ w.given.bound → is_in new.given i ≡ false
    → ((j : ℕ) → j ≢ i → is_in new.given j ≡ is_in w.given j) → new.load ≡ w.load - 1 → IsWorker states w → IsWorker (set states i state.Free) new
leaves states w new i lt at who bound it others load h = record {
  bound_is = bound ∙ (h.bound_is ∙ sym (length-set states i state.Free));
  given_are = λ j l. of_change (λ s. is_in new.given j ≡ is_given_to new.who s) states i j state.Free state.Unqueued lt
      (λ f. ap (is_in new.given) f ∙ it)
      (λ n. others j n ∙ (h.given_are j (subst (λ m. j < m) (length-set states i state.Free) l) ∙ ap (λ x. is_given_to x (state_at states j)) (sym who)));
  load_is = load ∙ (ap (λ n. n - 1) (h.load_is ∙ ap (λ x. load_of x states) (sym who)) ∙ sym (count_loss (is_given_to new.who) states i state.Free lt refl (ap (λ x. is_given_to x (state_at states i)) who ∙ at)));
}

-- which are free
pub free_changed : (states : List JobState) (old new : Places) (i : ℕ) (v : JobState) → i < length states → is_in new i ≡ is_free_state v → ((j : ℕ) → j ≢ i → is_in new j ≡ is_in old j) → ((j : ℕ) → j < length states → is_in old j ≡ is_free_state (state_at states j))
    → (j : ℕ) → j < length (set states i v) → is_in new j ≡ is_free_state (state_at (set states i v) j)
free_changed states old new i v lt it others h j l = of_change (λ s. is_in new j ≡ is_free_state s) states i j v state.Unqueued lt (λ f. ap (is_in new) f ∙ it) (λ n. others j n ∙ h j (subst (λ m. j < m) (length-set states i v) l))

-- who is given a job is up
pub up_changed : (states : List JobState) (xs : List Incarnation) (i : ℕ) (v : JobState) → i < length states → ((x : Incarnation) → given_of v ≡ Some x → is_among x xs ≡ true) → ((j : ℕ) (x : Incarnation) → given_of (state_at states j) ≡ Some x → is_among x xs ≡ true)
    → (j : ℕ) (x : Incarnation) → given_of (state_at (set states i v) j) ≡ Some x → is_among x xs ≡ true
up_changed states xs i v lt new h j x = of_change (λ s. given_of s ≡ Some x → is_among x xs ≡ true) states i j v state.Unqueued lt (λ f. new x) (λ n. h j x)

-- Workers are different.

not_there : (x : Incarnation) (ws : List Worker) (k : ℕ) (d : Worker) → is_among x (all_who ws) ≡ false → k < length ws → is_same x (get_or ws k d).who ≡ false
not_there x [] k d e lt = absurd (below_none k lt)
  where
    below_none : (k : ℕ) → k < 0 → ⊥
    below_none k lt = omega (arith, lt)
not_there x (w ∷ ws) zero d e lt = (or_both (is_same x w.who) (is_among x (all_who ws)) e).0
not_there x (w ∷ ws) (suc k) d e lt = not_there x ws k d (or_both (is_same x w.who) (is_among x (all_who ws)) e).1 (omega (arith, lt))

pub there : (x : Incarnation) (ws : List Worker) (k : ℕ) (d : Worker) → k < length ws → x ≡ (get_or ws k d).who → is_among x (all_who ws) ≡ true
there x [] k d lt e = absurd (below_none k lt)
  where
    below_none : (k : ℕ) → k < 0 → ⊥
    below_none k lt = omega (arith, lt)
there x (w ∷ ws) zero d lt e = left_of (is_same x w.who) (is_among x (all_who ws)) (itself_is x w.who e)
there x (w ∷ ws) (suc k) d lt e = right_of (is_same x w.who) (is_among x (all_who ws)) (there x ws k d (omega (arith, lt)) e)

pub apart : (ws : List Worker) (j k : ℕ) (d e : Worker) → differ (all_who ws) ≡ true → j < length ws → k < length ws → j ≢ k → is_same (get_or ws j d).who (get_or ws k e).who ≡ false
apart [] j k d e all jl kl n = absurd (below_none j jl)
  where
    below_none : (k : ℕ) → k < 0 → ⊥
    below_none k lt = omega (arith, lt)
apart (w ∷ ws) zero zero d e all jl kl n = absurd (n refl)
apart (w ∷ ws) zero (suc k) d e all jl kl n = not_there w.who ws k e (of_not (is_among w.who (all_who ws)) (and_both (not (is_among w.who (all_who ws))) (differ (all_who ws)) all).0) (omega (arith, kl))
apart (w ∷ ws) (suc j) zero d e all jl kl n = turned w.who (get_or ws j d).who (not_there w.who ws j d (of_not (is_among w.who (all_who ws)) (and_both (not (is_among w.who (all_who ws))) (differ (all_who ws)) all).0) (omega (arith, jl)))
apart (w ∷ ws) (suc j) (suc k) d e all jl kl n = apart ws j k d e (and_both (not (is_among w.who (all_who ws))) (differ (all_who ws)) all).1 (omega (arith, jl)) (omega (arith, kl)) (λ f. n (ap suc f))

-- One worker is changed, who stays the same.

pub same_whos : (ws : List Worker) (k : ℕ) (new d : Worker) → new.who ≡ (get_or ws k d).who → all_who (set ws k new) ≡ all_who ws
same_whos ws k new d e = map-set_same who_of ws k new d e

pub same_seats : (ws : List Worker) (k : ℕ) (new d : Worker) → new.who ≡ (get_or ws k d).who → new.asked ≡ (get_or ws k d).asked → map seat_of (set ws k new) ≡ map seat_of ws
same_seats ws k new d e a =
    let with_who : Incarnation → Seat = λ x. record { who = x; asked = new.asked } in
    let with_asked : Bool → Seat = λ b. record { who = (get_or ws k d).who; asked = b } in
    map-set_same seat_of ws k new d (ap with_who e ∙ ap with_asked a)

pub seats_whos : (ws : List Worker) → whos (map seat_of ws) ≡ all_who ws
seats_whos [] = refl
seats_whos (w ∷ ws) = ap (λ xs. w.who ∷ xs) (seats_whos ws)

-- a job is given to the worker at place k
pub board_given : (states : List JobState) (free left : Places) (ws : List Worker) (k i : ℕ) (w new : Worker) (who : Incarnation) → IsBoard states free ws → i < length states → k < length ws → w ≡ get_or ws k w → w.who ≡ who → state_at states i ≡ state.Free
    → left.bound ≡ free.bound → is_in left i ≡ false → ((j : ℕ) → j ≢ i → is_in left j ≡ is_in free j)
    → new.who ≡ w.who → new.given.bound ≡ w.given.bound → is_in new.given i ≡ true → ((j : ℕ) → j ≢ i → is_in new.given j ≡ is_in w.given j) → new.load ≡ w.load + 1
    → IsBoard (set states i (state.Given who)) left (set ws k new)
board_given states free left ws k i w new who b lt kl at who_is was bound out others new_who new_bound it news load =
    subst (λ x. IsBoard (set states i (state.Given x)) left (set ws k new)) who_is (record {
      bound_is = bound ∙ (b.bound_is ∙ sym (length-set states i (state.Given w.who)));
      free_are = free_changed states free left i (state.Given w.who) lt out others b.free_are;
      workers_are = λ j d l. of_change (λ v. IsWorker (set states i (state.Given w.who)) v) ws k j new d kl
          (λ e. comes states w new i lt (ap (is_given_to w.who) was) new_who new_bound it news load (subst (λ v. IsWorker states v) (sym at) (b.workers_are k w kl)))
          (λ n. beside states (get_or ws j d) i (state.Given w.who) lt (other j d n (subst (λ m. j < m) (length-set ws k new) l) ∙ sym (ap (is_given_to (get_or ws j d).who) was)) (b.workers_are j d (subst (λ m. j < m) (length-set ws k new) l)));
      differ_are = ap differ (same_whos ws k new w (new_who ∙ ap who_of at)) ∙ b.differ_are;
      up_are = λ j x g. ap (is_among x) (same_whos ws k new w (new_who ∙ ap who_of at)) ∙ up_changed states (all_who ws) i (state.Given w.who) lt (λ y f. there y ws k w kl (sym (some_is w.who y f) ∙ ap who_of at)) b.up_are j x g;
    })
  where
    other : (j : ℕ) (d : Worker) → j ≢ k → j < length ws → is_same (get_or ws j d).who w.who ≡ false
    other j d n l = ap (is_same (get_or ws j d).who) (ap who_of at) ∙ apart ws j k d w b.differ_are l kl n

-- a job that was at the worker at place k is free
pub board_taken : (states : List JobState) (free left : Places) (ws : List Worker) (k i : ℕ) (w new : Worker) (who : Incarnation) → IsBoard states free ws → i < length states → k < length ws → w ≡ get_or ws k w → w.who ≡ who → state_at states i ≡ state.Given who
    → left.bound ≡ free.bound → is_in left i ≡ true → ((j : ℕ) → j ≢ i → is_in left j ≡ is_in free j)
    → new.who ≡ w.who → new.given.bound ≡ w.given.bound → is_in new.given i ≡ false → ((j : ℕ) → j ≢ i → is_in new.given j ≡ is_in w.given j) → new.load ≡ w.load - 1
    → IsBoard (set states i state.Free) left (set ws k new)
board_taken states free left ws k i w new who b lt kl at who_is was bound out others new_who new_bound it news load = record {
  bound_is = bound ∙ (b.bound_is ∙ sym (length-set states i state.Free));
  free_are = free_changed states free left i state.Free lt out others b.free_are;
  workers_are = λ j d l. of_change (λ v. IsWorker (set states i state.Free) v) ws k j new d kl
      (λ e. leaves states w new i lt (ap (is_given_to w.who) was ∙ itself_is w.who who who_is) new_who new_bound it news load (subst (λ v. IsWorker states v) (sym at) (b.workers_are k w kl)))
      (λ n. beside states (get_or ws j d) i state.Free lt (sym (ap (is_given_to (get_or ws j d).who) was ∙ other j d n (subst (λ m. j < m) (length-set ws k new) l))) (b.workers_are j d (subst (λ m. j < m) (length-set ws k new) l)));
  differ_are = ap differ (same_whos ws k new w (new_who ∙ ap who_of at)) ∙ b.differ_are;
  up_are = λ j x g. ap (is_among x) (same_whos ws k new w (new_who ∙ ap who_of at)) ∙ up_changed states (all_who ws) i state.Free lt (λ y f. absurd (none_is_not_some y f)) b.up_are j x g;
}
  where
    other : (j : ℕ) (d : Worker) → j ≢ k → j < length ws → is_same (get_or ws j d).who who ≡ false
    other j d n l = ap (is_same (get_or ws j d).who) (sym who_is ∙ ap who_of at) ∙ apart ws j k d w b.differ_are l kl n

-- a job that is at no worker becomes one that is at none
pub board_set : (states : List JobState) (free left : Places) (ws : List Worker) (i : ℕ) (v : JobState) → IsBoard states free ws → i < length states → given_of (state_at states i) ≡ None → given_of v ≡ None
    → left.bound ≡ free.bound → is_in left i ≡ is_free_state v → ((j : ℕ) → j ≢ i → is_in left j ≡ is_in free j) → IsBoard (set states i v) left ws
board_set states free left ws i v b lt was now bound it others = record {
  bound_is = bound ∙ (b.bound_is ∙ sym (length-set states i v));
  free_are = free_changed states free left i v lt it others b.free_are;
  workers_are = λ j d l. beside states (get_or ws j d) i v lt (ap (is_at (get_or ws j d).who) now ∙ sym (ap (is_at (get_or ws j d).who) was)) (b.workers_are j d l);
  differ_are = b.differ_are;
  up_are = up_changed states (all_who ws) i v lt (λ y f. absurd (none_is_not_some y (sym now ∙ f))) b.up_are;
}

-- Who is ready.

pub ready_found : (states : List JobState) (window : ℕ) (ws : List Worker) → ((k : ℕ) (w : Worker) → k < length ws → IsWorker states (get_or ws k w))
    → option_map (λ (w : Worker). w.who) (find (λ (w : Worker). w.asked && nat_lt w.load window) ws) ≡ option_map (λ (s : Seat). s.who) (find (is_ready window states) (map seat_of ws))
ready_found states window [] h = refl
ready_found states window (w ∷ ws) h = by (h 0 w (omega arith)) (ready_found states window ws (λ k v lt. h (suc k) v (omega (arith, lt))))
  where
    from : List Worker → Option Incarnation
    from vs = option_map (λ (v : Worker). v.who) (find (λ (v : Worker). v.asked && nat_lt v.load window) vs)

    seen : List Worker → Option Incarnation
    seen vs = option_map (λ (s : Seat). s.who) (find (is_ready window states) (map seat_of vs))

    pick : (b : Bool) → from ws ≡ seen ws → option_map (λ (v : Worker). v.who) (if b then Some w else find (λ (v : Worker). v.asked && nat_lt v.load window) ws) ≡ option_map (λ (s : Seat). s.who) (if b then Some (seat_of w) else find (is_ready window states) (map seat_of ws))
    pick true rest = refl
    pick false rest = rest

    by : IsWorker states w → from ws ≡ seen ws → from (w ∷ ws) ≡ seen (w ∷ ws)
    by one rest = ap (λ n. option_map (λ (v : Worker). v.who) (if w.asked && nat_lt n window then Some w else find (λ (v : Worker). v.asked && nat_lt v.load window) ws)) one.load_is ∙ pick (w.asked && nat_lt (load_of w.who states) window) rest

-- What is at a worker is free.

freed_is : (x : Incarnation) (s : JobState) → is_given_to x (freed_from x s) ≡ false
freed_is x s = by (is_given_to x s) refl
  where
    by : (b : Bool) → is_given_to x s ≡ b → is_given_to x (if b then state.Free else s) ≡ false
    by true e = refl
    by false e = e

pub freed_none : (x : Incarnation) (s : JobState) → is_given_to x (freed_from x s) ≡ false
freed_none x s = freed_is x s

freed_beside : (x y : Incarnation) (s : JobState) → is_same y x ≡ false → is_given_to y (freed_from x s) ≡ is_given_to y s
freed_beside x y state.Unqueued n = refl
freed_beside x y state.Free n = refl
freed_beside x y state.Confirmed n = refl
freed_beside x y (state.Given z) n = by (is_same x z) refl
  where
    by : (b : Bool) → is_same x z ≡ b → is_given_to y (if b then state.Free else state.Given z) ≡ is_same y z
    by true e = sym (ap (is_same y) (sym (same_is x z e)) ∙ n)
    by false e = refl

freed_free : (x : Incarnation) (s : JobState) → (is_given_to x s || is_free_state s) ≡ is_free_state (freed_from x s)
freed_free x state.Unqueued = refl
freed_free x state.Free = refl
freed_free x state.Confirmed = refl
freed_free x (state.Given z) = by (is_same x z)
  where
    by : (b : Bool) → (b || false) ≡ is_free_state (if b then state.Free else state.Given z)
    by true = refl
    by false = refl

freed_given : (x y : Incarnation) (s : JobState) → given_of (freed_from x s) ≡ Some y → given_of s ≡ Some y
freed_given x y s = by (is_given_to x s)
  where
    by : (b : Bool) → given_of (if b then state.Free else s) ≡ Some y → given_of s ≡ Some y
    by true e = absurd (none_is_not_some y e)
    by false e = e

pub state_mapped : (x : Incarnation) (states : List JobState) (i : ℕ) → state_at (map (freed_from x) states) i ≡ freed_from x (state_at states i)
state_mapped x states i = map_got (freed_from x) states i state.Unqueued

-- the states after those of a worker are freed
pub freed_states : (x : Incarnation) (states new : List JobState) (given : Places) → length new ≡ length states → ((i : ℕ) → i < length states → state_at new i ≡ (if is_in given i then state.Free else state_at states i))
    → ((i : ℕ) → i < length states → is_in given i ≡ is_given_to x (state_at states i)) → new ≡ map (freed_from x) states
freed_states x states new given long h g = same_lists new (map (freed_from x) states) (long ∙ sym (length-map states (freed_from x))) (λ k d lt.
    let l : k < length states = subst (λ n. k < n) long lt in
    get_or_default new k d state.Unqueued lt ∙ (h k l ∙ (ap (λ b. if b then state.Free else state_at states k) (g k l) ∙ (sym (state_mapped x states k) ∙ get_or_default (map (freed_from x) states) k state.Unqueued d (subst (λ n. k < n) (sym (length-map states (freed_from x))) l)))))

-- the worker at place k has no job any more
pub board_cleared : (states : List JobState) (free left : Places) (ws : List Worker) (k : ℕ) (w new : Worker) → IsBoard states free ws → k < length ws → w ≡ get_or ws k w
    → left.bound ≡ free.bound → ((i : ℕ) → i < length states → is_in left i ≡ (is_in w.given i || is_in free i))
    → new.who ≡ w.who → new.given.bound ≡ w.given.bound → ((i : ℕ) → is_in new.given i ≡ false) → new.load ≡ 0 → IsBoard (map (freed_from w.who) states) left (set ws k new)
board_cleared states free left ws k w new b kl at bound frees who new_bound none load = record {
  bound_is = bound ∙ (b.bound_is ∙ sym (length-map states f));
  free_are = λ i l. frees i (shorter i l) ∙ (ap (λ t. t || is_in free i) (one.given_are i (shorter i l)) ∙ (ap (λ t. is_given_to w.who (state_at states i) || t) (b.free_are i (shorter i l)) ∙ (freed_free w.who (state_at states i) ∙ ap is_free_state (sym (state_mapped w.who states i)))));
  workers_are = λ j d l. of_change (λ v. IsWorker (map f states) v) ws k j new d kl (λ e. cleared) (λ n. other (get_or ws j d) (ap (is_same (get_or ws j d).who) (ap who_of at) ∙ apart ws j k d w b.differ_are (few j l) kl n) (b.workers_are j d (few j l)));
  differ_are = ap differ (same_whos ws k new w (who ∙ ap who_of at)) ∙ b.differ_are;
  up_are = λ j x g. ap (is_among x) (same_whos ws k new w (who ∙ ap who_of at)) ∙ b.up_are j x (freed_given w.who x (state_at states j) (ap given_of (sym (state_mapped w.who states j)) ∙ g));
}
  where
    f : JobState → JobState
    f = freed_from w.who

    one : IsWorker states w
    one = subst (λ v. IsWorker states v) (sym at) (b.workers_are k w kl)

    shorter : (i : ℕ) → i < length (map f states) → i < length states
    shorter i l = subst (λ n. i < n) (length-map states f) l

    few : (j : ℕ) → j < length (set ws k new) → j < length ws
    few j l = subst (λ m. j < m) (length-set ws k new) l

    cleared : IsWorker (map f states) new
    cleared = record {
      bound_is = new_bound ∙ (one.bound_is ∙ sym (length-map states f));
      given_are = λ i l. none i ∙ sym (ap (is_given_to new.who) (state_mapped w.who states i) ∙ (ap (λ x. is_given_to x (freed_from w.who (state_at states i))) who ∙ freed_is w.who (state_at states i)));
      load_is = load ∙ sym (ap (λ x. load_of x (map f states)) who ∙ count_none (is_given_to w.who) f (freed_is w.who) states);
    }

    other : (v : Worker) → is_same v.who w.who ≡ false → IsWorker states v → IsWorker (map f states) v
    other v n h = record {
      bound_is = h.bound_is ∙ sym (length-map states f);
      given_are = λ i l. h.given_are i (shorter i l) ∙ sym (ap (is_given_to v.who) (state_mapped w.who states i) ∙ freed_beside w.who v.who (state_at states i) n);
      load_is = h.load_is ∙ sym (count_map (is_given_to v.who) f (λ s. freed_beside w.who v.who s n) states);
    }

-- A worker is gone.

pub seat_at : (x : Incarnation) (ws : List Worker) (k : ℕ) (s : Seat) → k < length ws → ((w : Worker) → (get_or ws k w).who ≡ x) → (get_or (map seat_of ws) k s).who ≡ x
seat_at x [] k s lt h = absurd (below_none k lt)
  where
    below_none : (k : ℕ) → k < 0 → ⊥
    below_none k lt = omega (arith, lt)
seat_at x (w ∷ ws) zero s lt h = h w
seat_at x (w ∷ ws) (suc k) s lt h = seat_at x ws k s (omega (arith, lt)) h

-- and back
pub who_at : (x : Incarnation) (ws : List Worker) (k : ℕ) (d : Worker) → k < length ws → ((s : Seat) → (get_or (map seat_of ws) k s).who ≡ x) → (get_or ws k d).who ≡ x
who_at x [] k d lt h = absurd (below_none k lt)
  where
    below_none : (k : ℕ) → k < 0 → ⊥
    below_none k lt = omega (arith, lt)
who_at x (w ∷ ws) zero d lt h = h (seat_of w)
who_at x (w ∷ ws) (suc k) d lt h = who_at x ws k d (omega (arith, lt)) h

not_among_rest : (x : Incarnation) (ws : List Worker) (k : ℕ) → is_among x (all_who ws) ≡ false → is_among x (all_who (remove ws k)) ≡ false
not_among_rest x [] zero e = refl
not_among_rest x [] (suc k) e = refl
not_among_rest x (w ∷ ws) zero e = (or_both (is_same x w.who) (is_among x (all_who ws)) e).1
not_among_rest x (w ∷ ws) (suc k) e =
    let m : (is_same x w.who ≡ false) × (is_among x (all_who ws) ≡ false) = or_both (is_same x w.who) (is_among x (all_who ws)) e in
    ap (λ b. b || is_among x (all_who (remove ws k))) m.0 ∙ not_among_rest x ws k m.1

differ_rest : (ws : List Worker) (k : ℕ) → differ (all_who ws) ≡ true → differ (all_who (remove ws k)) ≡ true
differ_rest [] zero e = refl
differ_rest [] (suc k) e = refl
differ_rest (w ∷ ws) zero e = (and_both (not (is_among w.who (all_who ws))) (differ (all_who ws)) e).1
differ_rest (w ∷ ws) (suc k) e =
    let m : (not (is_among w.who (all_who ws)) ≡ true) × (differ (all_who ws) ≡ true) = and_both (not (is_among w.who (all_who ws))) (differ (all_who ws)) e in
    both (not (is_among w.who (all_who (remove ws k)))) (differ (all_who (remove ws k))) (not_of (is_among w.who (all_who (remove ws k))) (not_among_rest w.who ws k (of_not (is_among w.who (all_who ws)) m.0))) (differ_rest ws k m.1)

among_rest : (y : Incarnation) (ws : List Worker) (k : ℕ) (d : Worker) → k < length ws → is_same y (get_or ws k d).who ≡ false → is_among y (all_who ws) ≡ true → is_among y (all_who (remove ws k)) ≡ true
among_rest y [] k d lt n e = absurd (true_is_not_false (sym e))
among_rest y (w ∷ ws) zero d lt n e = ap (λ b. b || is_among y (all_who ws)) (sym n) ∙ e
among_rest y (w ∷ ws) (suc k) d lt n e = by (among_rest y ws k d (omega (arith, lt)) n) (is_same y w.who) e
  where
    by : (is_among y (all_who ws) ≡ true → is_among y (all_who (remove ws k)) ≡ true) → (b : Bool) → (b || is_among y (all_who ws)) ≡ true → (b || is_among y (all_who (remove ws k))) ≡ true
    by rest true f = refl
    by rest false f = rest f

-- the seats that are left
none_gone : (x : Incarnation) (ws : List Worker) → is_among x (all_who ws) ≡ false → filter (λ (s : Seat). not (is_same x s.who)) (map seat_of ws) ≡ map seat_of ws
none_gone x [] e = refl
none_gone x (w ∷ ws) e =
    let m : (is_same x w.who ≡ false) × (is_among x (all_who ws) ≡ false) = or_both (is_same x w.who) (is_among x (all_who ws)) e in
    ap (λ b. if not b then seat_of w ∷ filter (λ (s : Seat). not (is_same x s.who)) (map seat_of ws) else filter (λ (s : Seat). not (is_same x s.who)) (map seat_of ws)) m.0 ∙ ap (λ l. seat_of w ∷ l) (none_gone x ws m.1)

pub seats_left : (x : Incarnation) (ws : List Worker) (k : ℕ) (d : Worker) → k < length ws → (get_or ws k d).who ≡ x → differ (all_who ws) ≡ true → map seat_of (remove ws k) ≡ filter (λ (s : Seat). not (is_same x s.who)) (map seat_of ws)
seats_left x [] k d lt at e = absurd (below_none k lt)
  where
    below_none : (k : ℕ) → k < 0 → ⊥
    below_none k lt = omega (arith, lt)
seats_left x (w ∷ ws) zero d lt at e = sym (
    ap (λ b. if not b then seat_of w ∷ filter (λ (s : Seat). not (is_same x s.who)) (map seat_of ws) else filter (λ (s : Seat). not (is_same x s.who)) (map seat_of ws)) (itself_is x w.who (sym at))
    ∙ none_gone x ws (ap (λ y. is_among y (all_who ws)) (sym at) ∙ of_not (is_among w.who (all_who ws)) (and_both (not (is_among w.who (all_who ws))) (differ (all_who ws)) e).0))
seats_left x (w ∷ ws) (suc k) d lt at e =
    let m : (not (is_among w.who (all_who ws)) ≡ true) × (differ (all_who ws) ≡ true) = and_both (not (is_among w.who (all_who ws))) (differ (all_who ws)) e in
    let here : is_same x w.who ≡ false = ap (λ y. is_same y w.who) (sym at) ∙ turned w.who (get_or ws k d).who (not_there w.who ws k d (of_not (is_among w.who (all_who ws)) m.0) (omega (arith, lt))) in
    ap (λ l. seat_of w ∷ l) (seats_left x ws k d (omega (arith, lt)) at m.1)
    ∙ sym (ap (λ b. if not b then seat_of w ∷ filter (λ (s : Seat). not (is_same x s.who)) (map seat_of ws) else filter (λ (s : Seat). not (is_same x s.who)) (map seat_of ws)) here)

-- a worker with no job goes
pub board_left : (states : List JobState) (free : Places) (ws : List Worker) (k : ℕ) (w : Worker) → IsBoard states free ws → k < length ws → w ≡ get_or ws k w → ((i : ℕ) → is_given_to w.who (state_at states i) ≡ false) → IsBoard states free (remove ws k)
board_left states free ws k w b kl at none = record {
  bound_is = b.bound_is;
  free_are = b.free_are;
  workers_are = λ j d l. by j d (omega (arith, l, length-remove ws k kl)) (nat_lt j k) refl;
  differ_are = differ_rest ws k b.differ_are;
  up_are = λ j x g. among_rest x ws k w kl (ap (λ (v : Worker). is_same x v.who) (sym at) ∙ turned w.who x (sym (ap (is_at w.who) g) ∙ none j)) (b.up_are j x g);
}
  where
    by : (j : ℕ) (d : Worker) → j + 1 < length ws → (t : Bool) → nat_lt j k ≡ t → IsWorker states (get_or (remove ws k) j d)
    by j d l true e = subst (λ v. IsWorker states v) (sym (get_or-remove_below ws k d j (below j k e) kl)) (b.workers_are j d (omega (arith, l)))
    by j d l false e = subst (λ v. IsWorker states v) (sym (get_or-remove_above ws k d j (not_below j k e) kl)) (b.workers_are (j + 1) d l)

-- A worker comes.

-- nothing is at one that isn't up
none_at : (states : List JobState) (free : Places) (ws : List Worker) (x : Incarnation) → IsBoard states free ws → is_among x (all_who ws) ≡ false → (i : ℕ) → is_given_to x (state_at states i) ≡ false
none_at states free ws x b new i = by (given_of (state_at states i)) refl
  where
    by : (o : Option Incarnation) → given_of (state_at states i) ≡ o → is_at x o ≡ false
    by None e = refl
    by (Some y) e = pick (is_same x y) refl
      where
        pick : (t : Bool) → is_same x y ≡ t → is_same x y ≡ false
        pick true f = absurd (true_is_not_false (sym (b.up_are i y e) ∙ (ap (λ z. is_among z (all_who ws)) (sym (same_is x y f)) ∙ new)))
        pick false f = f

count_all : (p : JobState → Bool) (xs : List JobState) → ((i : ℕ) → p (state_at xs i) ≡ false) → count_by p xs ≡ 0
count_all p [] h = refl
count_all p (x ∷ xs) h = sum_by-cons (λ y. one_if (p y)) x xs ∙ (ap (λ b. one_if b + count_by p xs) (h 0) ∙ (zero_more (count_by p xs) ∙ count_all p xs (λ i. h (suc i))))

whos_push : (ws : List Worker) (w : Worker) → all_who (ws ++ w ∷ []) ≡ all_who ws ++ w.who ∷ []
whos_push [] w = refl
whos_push (v ∷ ws) w = ap (λ l. v.who ∷ l) (whos_push ws w)

pub seats_push : (ws : List Worker) (w : Worker) (x : Incarnation) → w.who ≡ x → w.asked ≡ false → map seat_of (ws ++ w ∷ []) ≡ map seat_of ws ++ (record { who = x; asked = false }) ∷ []
seats_push [] w x e f =
    let with_who : Incarnation → Seat = λ y. record { who = y; asked = w.asked } in
    let with_asked : Bool → Seat = λ b. record { who = x; asked = b } in
    ap (λ (s : Seat). s ∷ []) (ap with_who e ∙ ap with_asked f)
seats_push (v ∷ ws) w x e f = ap (λ l. seat_of v ∷ l) (seats_push ws w x e f)

got_push : (ws : List Worker) (w : Worker) (P : Worker → Type 0) → ((k : ℕ) (d : Worker) → k < length ws → P (get_or ws k d)) → P w → (k : ℕ) (d : Worker) → k < length ws + 1 → P (get_or (ws ++ w ∷ []) k d)
got_push [] w P h p zero d lt = p
got_push [] w P h p (suc k) d lt = absurd (beyond k lt)
  where
    beyond : (k : ℕ) → suc k < 0 + 1 → ⊥
    beyond k lt = omega (arith, lt)
got_push (v ∷ ws) w P h p zero d lt = h 0 v (omega arith)
got_push (v ∷ ws) w P h p (suc k) d lt = got_push ws w P (λ j e l. h (suc j) e (omega (arith, l))) p k d (omega (arith, lt))

pub board_added : (states : List JobState) (free : Places) (ws : List Worker) (w : Worker) (x : Incarnation) → IsBoard states free ws → is_among x (all_who ws) ≡ false → w.who ≡ x → w.given.bound ≡ length states → ((i : ℕ) → is_in w.given i ≡ false) → w.load ≡ 0 → IsBoard states free (ws ++ w ∷ [])
board_added states free ws w x b new who bound none load = record {
  bound_is = b.bound_is;
  free_are = b.free_are;
  workers_are = λ k d l. got_push ws w (λ v. IsWorker states v) b.workers_are fresh k d (subst (λ n. k < n) (length_push ws w) l);
  differ_are = ap differ (whos_push ws w) ∙ differ_push (all_who ws) w.who b.differ_are (ap (λ y. is_among y (all_who ws)) who ∙ new);
  up_are = λ j y g. ap (is_among y) (whos_push ws w) ∙ among_front y w.who (all_who ws) (b.up_are j y g);
}
  where
    none_here : (i : ℕ) → is_given_to w.who (state_at states i) ≡ false
    none_here i = ap (λ y. is_given_to y (state_at states i)) who ∙ none_at states free ws x b new i

    fresh : IsWorker states w
    fresh = record { bound_is = bound; given_are = λ i l. none i ∙ sym (none_here i); load_is = load ∙ sym (count_all (is_given_to w.who) states none_here) }

-- Who asked is changed.

same_worker : (states : List JobState) (v w : Worker) → w.who ≡ v.who → w.given ≡ v.given → w.load ≡ v.load → IsWorker states v → IsWorker states w
same_worker states v w e g n h = record {
  bound_is = ap (λ (p : Places). p.bound) g ∙ h.bound_is;
  given_are = λ i l. ap (λ p. is_in p i) g ∙ (h.given_are i l ∙ ap (λ x. is_given_to x (state_at states i)) (sym e));
  load_is = n ∙ (h.load_is ∙ ap (λ x. load_of x states) (sym e));
}

pub board_asked : (states : List JobState) (free : Places) (ws : List Worker) (k : ℕ) (w new : Worker) → IsBoard states free ws → k < length ws → w ≡ get_or ws k w → new.who ≡ w.who → new.given ≡ w.given → new.load ≡ w.load → IsBoard states free (set ws k new)
board_asked states free ws k w new b kl at e g n = record {
  bound_is = b.bound_is;
  free_are = b.free_are;
  workers_are = λ j d l. of_change (λ v. IsWorker states v) ws k j new d kl (λ f. same_worker states w new e g n (subst (λ v. IsWorker states v) (sym at) (b.workers_are k w kl))) (λ m. b.workers_are j d (subst (λ i. j < i) (length-set ws k new) l));
  differ_are = ap differ (same_whos ws k new w (e ∙ ap who_of at)) ∙ b.differ_are;
  up_are = λ j x h. ap (is_among x) (same_whos ws k new w (e ∙ ap who_of at)) ∙ b.up_are j x h;
}

none_asking : (x : Incarnation) (ws : List Worker) → is_among x (all_who ws) ≡ false → map seat_of ws ≡ map (asking x) (map seat_of ws)
none_asking x [] e = refl
none_asking x (w ∷ ws) e =
    let m : (is_same x w.who ≡ false) × (is_among x (all_who ws) ≡ false) = or_both (is_same x w.who) (is_among x (all_who ws)) e in
    ap (λ l. seat_of w ∷ l) (none_asking x ws m.1) ∙ ap (λ b. (if b then record { who = w.who; asked = true } else seat_of w) ∷ map (asking x) (map seat_of ws)) (sym m.0)

pub nobody_asks : (x : Incarnation) (ws : List Worker) → is_among x (all_who ws) ≡ false → map seat_of ws ≡ map (asking x) (map seat_of ws)
nobody_asks x ws e = none_asking x ws e

-- the worker at place k is x, and has asked now
pub one_asks : (x : Incarnation) (ws : List Worker) (k : ℕ) (new d : Worker) → k < length ws → differ (all_who ws) ≡ true → (get_or ws k d).who ≡ x → new.who ≡ x → new.asked ≡ true → map seat_of (set ws k new) ≡ map (asking x) (map seat_of ws)
one_asks x [] k new d lt all at e a = absurd (below_none k lt)
  where
    below_none : (k : ℕ) → k < 0 → ⊥
    below_none k lt = omega (arith, lt)
one_asks x (w ∷ ws) zero new d lt all at e a =
    let with_who : Incarnation → Seat = λ y. record { who = y; asked = new.asked } in
    let with_asked : Bool → Seat = λ b. record { who = w.who; asked = b } in
    ap (λ s. s ∷ map seat_of ws) (ap with_who (e ∙ sym at) ∙ ap with_asked a)
    ∙ (ap (λ l. (record { who = w.who; asked = true }) ∷ l) (none_asking x ws (ap (λ y. is_among y (all_who ws)) (sym at) ∙ of_not (is_among w.who (all_who ws)) (and_both (not (is_among w.who (all_who ws))) (differ (all_who ws)) all).0))
    ∙ ap (λ b. (if b then record { who = w.who; asked = true } else seat_of w) ∷ map (asking x) (map seat_of ws)) (sym (itself_is x w.who (sym at))))
one_asks x (w ∷ ws) (suc k) new d lt all at e a =
    let m : (not (is_among w.who (all_who ws)) ≡ true) × (differ (all_who ws) ≡ true) = and_both (not (is_among w.who (all_who ws))) (differ (all_who ws)) all in
    let here : is_same x w.who ≡ false = ap (λ y. is_same y w.who) (sym at) ∙ turned w.who (get_or ws k d).who (not_there w.who ws k d (of_not (is_among w.who (all_who ws)) m.0) (omega (arith, lt))) in
    ap (λ l. seat_of w ∷ l) (one_asks x ws k new d (omega (arith, lt)) m.1 at e a) ∙ ap (λ b. (if b then record { who = w.who; asked = true } else seat_of w) ∷ map (asking x) (map seat_of ws)) (sym here)

-- Nothing is given.

freed_again : (x : Incarnation) (s : JobState) → freed (freed_from x s) ≡ freed s
freed_again x state.Unqueued = refl
freed_again x state.Free = refl
freed_again x state.Confirmed = refl
freed_again x (state.Given z) = by (is_same x z)
  where
    by : (b : Bool) → freed (if b then state.Free else state.Given z) ≡ state.Free
    by true = refl
    by false = refl

freed_each : (x : Incarnation) (states : List JobState) → map freed (map (freed_from x) states) ≡ map freed states
freed_each x [] = refl
freed_each x (s ∷ states) = ap (λ t. t ∷ map freed (map (freed_from x) states)) (freed_again x s) ∙ ap (λ l. freed s ∷ l) (freed_each x states)

-- the jobs of the workers before this place are free
pub record Freeing (start now : Board) (place : ℕ) : Type 0 where
  pub seats_are : now.seats ≡ start.seats
  pub left : map freed now.states ≡ map freed start.states
  pub none : (j : ℕ) (s : Seat) → j < place → (i : ℕ) → is_given_to (get_or start.seats j s).who (state_at now.states i) ≡ false
  pub up : (i : ℕ) (x : Incarnation) → given_of (state_at now.states i) ≡ Some x → is_among x (whos now.seats) ≡ true

pub freeing_begins : (b : Board) → ((i : ℕ) (x : Incarnation) → given_of (state_at b.states i) ≡ Some x → is_among x (whos b.seats) ≡ true) → Freeing b b 0
freeing_begins b up = record { seats_are = refl; left = refl; none = λ j s lt. absurd (below_none j lt); up = up }
  where
    below_none : (k : ℕ) → k < 0 → ⊥
    below_none k lt = omega (arith, lt)

still_none : (x y : Incarnation) (s : JobState) → is_given_to x s ≡ false → is_given_to x (freed_from y s) ≡ false
still_none x y s e = by (is_given_to y s)
  where
    by : (b : Bool) → is_given_to x (if b then state.Free else s) ≡ false
    by true = refl
    by false = e

pub freeing_next : (start now new : Board) (place : ℕ) (s : Seat) → Freeing start now place → place < length start.seats → ((s : Seat) → new ≡ record { states = map (freed_from (get_or now.seats place s).who) now.states; seats = now.seats }) → Freeing start new (place + 1)
freeing_next start now new place s f lt is = record {
  seats_are = ap (λ (b : Board). b.seats) (is s) ∙ f.seats_are;
  left = ap (λ (b : Board). map freed b.states) (is s) ∙ (freed_each (get_or now.seats place s).who now.states ∙ f.left);
  none = λ j r l i. by_place (is_given_to (get_or start.seats j r).who (state_at new.states i) ≡ false) j place
      (λ e. ap (λ t. is_given_to (get_or start.seats j r).who t) (state_now r i) ∙ (ap (λ y. is_given_to y (freed_from (get_or now.seats place r).who (state_at now.states i))) (ap (λ n. (get_or start.seats n r).who) e ∙ ap (λ l. (get_or l place r).who) (sym f.seats_are)) ∙ freed_is (get_or now.seats place r).who (state_at now.states i)))
      (λ n. ap (λ t. is_given_to (get_or start.seats j r).who t) (state_now r i) ∙ still_none (get_or start.seats j r).who (get_or now.seats place r).who (state_at now.states i) (f.none j r (grind (arith, l, n)) i));
  up = λ i x g. ap (λ (b : Board). is_among x (whos b.seats)) (is s) ∙ f.up i x (freed_given (get_or now.seats place s).who x (state_at now.states i) (ap given_of (sym (state_now s i)) ∙ g));
}
  where
    state_now : (r : Seat) (i : ℕ) → state_at new.states i ≡ freed_from (get_or now.seats place r).who (state_at now.states i)
    state_now r i = ap (λ (b : Board). state_at b.states i) (is r) ∙ state_mapped (get_or now.seats place r).who now.states i

none_among : (x : Incarnation) (seats : List Seat) → ((j : ℕ) (s : Seat) → j < length seats → is_same (get_or seats j s).who x ≡ false) → is_among x (whos seats) ≡ false
none_among x [] h = refl
none_among x (s ∷ seats) h = ap (λ b. b || is_among x (whos seats)) (turned s.who x (h 0 s (omega arith))) ∙ none_among x seats (λ j r l. h (suc j) r (omega (arith, l)))

all_freed : (states : List JobState) → ((i : ℕ) (x : Incarnation) → given_of (state_at states i) ≡ Some x → ⊥) → states ≡ map freed states
all_freed [] h = refl
all_freed (state.Unqueued ∷ states) h = ap (λ l. state.Unqueued ∷ l) (all_freed states (λ i. h (suc i)))
all_freed (state.Free ∷ states) h = ap (λ l. state.Free ∷ l) (all_freed states (λ i. h (suc i)))
all_freed (state.Confirmed ∷ states) h = ap (λ l. state.Confirmed ∷ l) (all_freed states (λ i. h (suc i)))
all_freed (state.Given x ∷ states) h = absurd (h 0 x refl)

pub freeing_ends : (start now : Board) (place : ℕ) → Freeing start now place → length start.seats ≤ place → now ≡ record { states = map freed start.states; seats = start.seats }
freeing_ends start now place f past =
    let with_states : List JobState → Board = λ l. record { states = l; seats = now.seats } in
    let with_seats : List Seat → Board = λ l. record { states = map freed start.states; seats = l } in
    ap with_states (all_freed now.states (λ i x g. true_is_not_false (sym (f.up i x g) ∙ (ap (λ l. is_among x (whos l)) f.seats_are ∙ none_among x start.seats (λ j s l. sym (ap (is_at (get_or start.seats j s).who) g) ∙ f.none j s (omega (arith, l, past)) i)))) ∙ f.left) ∙ ap with_seats f.seats_are

-- None is queued, and nobody is up.
pub board_none : (count : ℕ) (free : Places) → free.bound ≡ count → ((i : ℕ) → is_in free i ≡ false) → IsBoard (replicate count state.Unqueued) free []
board_none count free bound none = record {
  bound_is = bound ∙ sym (length-replicate count state.Unqueued);
  free_are = λ i l. none i ∙ sym (ap is_free_state (get_replicate count i state.Unqueued));
  workers_are = λ k w l. absurd (below_none k l);
  differ_are = refl;
  up_are = λ i x g. absurd (none_is_not_some x (sym (ap given_of (get_replicate count i state.Unqueued)) ∙ g));
}
  where
    below_none : (k : ℕ) → k < 0 → ⊥
    below_none k lt = omega (arith, lt)

-- The first workers aren't x.

pub not_yet : (x : Incarnation) (ws : List Worker) (k : ℕ) (d : Worker) → k < length ws → is_among x (all_who (take k ws)) ≡ false → is_same x (get_or ws k d).who ≡ false → is_among x (all_who (take (k + 1) ws)) ≡ false
not_yet x ws k d lt e n = ap (λ l. is_among x (all_who l)) (take_more ws k d lt) ∙ (ap (is_among x) (whos_push (take k ws) (get_or ws k d)) ∙ (among_last x (get_or ws k d).who (all_who (take k ws)) ∙ (ap (λ b. b || (is_same x (get_or ws k d).who || false)) e ∙ ap (λ b. b || false) n)))

pub none_left : (x : Incarnation) (ws : List Worker) (k : ℕ) → length ws ≤ k → is_among x (all_who (take k ws)) ≡ false → is_among x (all_who ws) ≡ false
none_left x ws k le e = ap (λ l. is_among x (all_who l)) (sym (take_all k ws le)) ∙ e

-- Asks are forgotten, one after another.

pub forgot_one : (ws : List Worker) (k : ℕ) (new w : Worker) (s : Seat) → k < length ws → w ≡ get_or ws k w → new.who ≡ w.who → new.asked ≡ false → map seat_of (set ws k new) ≡ set (map seat_of ws) k (not_asking (get_or (map seat_of ws) k s))
forgot_one ws k new w s lt at e a =
    let with_who : Incarnation → Seat = λ x. record { who = x; asked = new.asked } in
    let with_asked : Bool → Seat = λ b. record { who = w.who; asked = b } in
    map-set seat_of ws k new ∙ ap (set (map seat_of ws) k) (ap with_who e ∙ (ap with_asked a ∙ ap not_asking (ap seat_of at ∙ sym (get_or_default (map seat_of ws) k s (seat_of w) (subst (λ n. k < n) (sym (length-map ws seat_of)) lt) ∙ map_got seat_of ws k w))))

pub record Forgetting (start now : Board) (place : ℕ) : Type 0 where
  pub states_are : now.states ≡ start.states
  pub seats_are : now.seats ≡ map not_asking (take place start.seats) ++ drop place start.seats
  pub long : length now.seats ≡ length start.seats

pub forgetting_begins : (b : Board) → Forgetting b b 0
forgetting_begins b = record { states_are = refl; seats_are = refl; long = refl }

pub forgetting_next : (start now new : Board) (place : ℕ) → Forgetting start now place → place < length start.seats → ((s : Seat) → new ≡ record { states = now.states; seats = set now.seats place (not_asking (get_or now.seats place s)) }) → Forgetting start new (place + 1)
forgetting_next start now new place f lt is =
    let nobody : Seat = record { who = record { node = 0; number = 0 }; asked = false } in
    let here : place < length now.seats = subst (λ n. place < n) (sym f.long) lt in
    let x : Seat = get_or now.seats place nobody in
    record {
      states_are = ap (λ (b : Board). b.states) (is nobody) ∙ f.states_are;
      seats_are = ap (λ (b : Board). b.seats) (is nobody) ∙ map_over_more not_asking start.seats now.seats place x lt f.seats_are (get_or_default now.seats place nobody x here);
      long = ap (λ (b : Board). length b.seats) (is nobody) ∙ (length-set now.seats place (not_asking x) ∙ f.long);
    }

pub forgetting_ends : (start now : Board) (place : ℕ) → Forgetting start now place → length start.seats ≤ place → now ≡ record { states = start.states; seats = map not_asking start.seats }
forgetting_ends start now place f past =
    let with_states : List JobState → Board = λ l. record { states = l; seats = now.seats } in
    let with_seats : List Seat → Board = λ l. record { states = start.states; seats = l } in
    ap with_states f.states_are ∙ ap with_seats (f.seats_are ∙ (ap (λ l. map not_asking l ++ drop place start.seats) (take_all place start.seats past) ∙ (ap (λ l. map not_asking start.seats ++ l) (drop_all place start.seats past) ∙ append-nil (map not_asking start.seats))))

-- The jobs of a set are freed, one after another.

pub record Clearing (given : Places) (start : List JobState) (begun : Places) (states : List JobState) (free : Places) (job : ℕ) : Type 0 where
  pub long : length states ≡ length start
  pub bound_is : free.bound ≡ begun.bound
  pub passed : (i : ℕ) → i < job → state_at states i ≡ (if is_in given i then state.Free else state_at start i)
  pub left : (i : ℕ) → job ≤ i → state_at states i ≡ state_at start i
  pub free_passed : (i : ℕ) → i < job → is_in free i ≡ (is_in given i || is_in begun i)
  pub free_left : (i : ℕ) → job ≤ i → is_in free i ≡ is_in begun i
  pub within_is : job ≤ length start
  pub it : job < length start → is_in given job ≡ true

pub clearing_begins : (given : Places) (start : List JobState) (begun : Places) (job : ℕ) → job ≤ length start → (job < length start → is_in given job ≡ true) → ((i : ℕ) → 0 ≤ i → i < job → is_in given i ≡ false) → Clearing given start begun start begun job
clearing_begins given start begun job le it between = record {
  long = refl;
  bound_is = refl;
  passed = λ i lt. sym (ap (λ b. if b then state.Free else state_at start i) (between i (omega arith) lt));
  left = λ i le. refl;
  free_passed = λ i lt. sym (ap (λ b. b || is_in begun i) (between i (omega arith) lt));
  free_left = λ i le. refl;
  within_is = le;
  it = it;
}

pub clearing_next : (given : Places) (start : List JobState) (begun : Places) (states : List JobState) (free new : Places) (job next : ℕ) → Clearing given start begun states free job → job < length states → new.bound ≡ free.bound → is_in new job ≡ true → ((i : ℕ) → i ≢ job → is_in new i ≡ is_in free i)
    → job + 1 ≤ next → next ≤ length start → (next < length start → is_in given next ≡ true) → ((i : ℕ) → job + 1 ≤ i → i < next → is_in given i ≡ false) → Clearing given start begun (set states job state.Free) new next
clearing_next given start begun states free new job next k lt bound it others from le at between = record {
  long = length-set states job state.Free ∙ k.long;
  bound_is = bound ∙ k.bound_is;
  passed = λ i l. of_change (λ s. s ≡ (if is_in given i then state.Free else state_at start i)) states job i state.Free state.Unqueued lt
      (λ e. sym (ap (λ b. if b then state.Free else state_at start i) (ap (is_in given) e ∙ here)))
      (λ n. by i l n (nat_lt i job) refl);
  left = λ i l. get_or-set_other states job i state.Free state.Unqueued (past i l) ∙ k.left i (omega (arith, from, l));
  free_passed = λ i l. by_place (is_in new i ≡ (is_in given i || is_in begun i)) i job
      (λ e. ap (is_in new) e ∙ (it ∙ sym (ap (λ b. b || is_in begun i) (ap (is_in given) e ∙ here))))
      (λ n. others i n ∙ free_by i l n (nat_lt i job) refl);
  free_left = λ i l. others i (past i l) ∙ k.free_left i (omega (arith, from, l));
  within_is = le;
  it = at;
}
  where
    here : is_in given job ≡ true
    here = k.it (subst (λ n. job < n) k.long lt)

    past : (i : ℕ) → next ≤ i → i ≢ job
    past i l e = omega (arith, from, l, e)

    later : (i : ℕ) → i ≢ job → nat_lt i job ≡ false → job + 1 ≤ i
    later i n e = later_by i n (not_below i job e)
      where
        later_by : (i : ℕ) → i ≢ job → job ≤ i → job + 1 ≤ i
        later_by i n l = grind (arith, l, n)

    by : (i : ℕ) → i < next → i ≢ job → (b : Bool) → nat_lt i job ≡ b → state_at states i ≡ (if is_in given i then state.Free else state_at start i)
    by i l n true e = k.passed i (below i job e)
    by i l n false e = k.left i (omega (arith, later i n e)) ∙ sym (ap (λ b. if b then state.Free else state_at start i) (between i (later i n e) l))

    free_by : (i : ℕ) → i < next → i ≢ job → (b : Bool) → nat_lt i job ≡ b → is_in free i ≡ (is_in given i || is_in begun i)
    free_by i l n true e = k.free_passed i (below i job e)
    free_by i l n false e = k.free_left i (omega (arith, later i n e)) ∙ sym (ap (λ b. b || is_in begun i) (between i (later i n e) l))

pub up_as_kept : (states : List JobState) (free : Places) (ws : List Worker) → IsBoard states free ws → (i : ℕ) (x : Incarnation) → given_of (state_at states i) ≡ Some x → is_among x (whos (map seat_of ws)) ≡ true
up_as_kept states free ws b i x g = ap (is_among x) (seats_whos ws) ∙ b.up_are i x g

-- Who is up.

pub there_any : (x : Incarnation) (ws : List Worker) (k : ℕ) → k < length ws → ((w : Worker) → (get_or ws k w).who ≡ x) → is_among x (all_who ws) ≡ true
there_any x [] k lt h = absurd (below_none k lt)
  where
    below_none : (k : ℕ) → k < 0 → ⊥
    below_none k lt = omega (arith, lt)
there_any x (w ∷ ws) zero lt h = left_of (is_same x w.who) (is_among x (all_who ws)) (itself_is x w.who (sym (h w)))
there_any x (w ∷ ws) (suc k) lt h = right_of (is_same x w.who) (is_among x (all_who ws)) (there_any x ws k (omega (arith, lt)) h)

pub up_is : (o : Option ℕ) (x : Incarnation) (ws : List Worker) → IfSome o (λ k. k < length ws) → IfSome o (λ k. (w : Worker) → (get_or ws k w).who ≡ x) → IfNone o (is_among x (all_who ws) ≡ false) → is_some o ≡ is_among x (all_who ws)
up_is None x ws a b n = sym n
up_is (Some k) x ws a b n = sym (there_any x ws k a b)

-- what was read is what is at its place
pub same_place : (ws : List Worker) (k : ℕ) (v w : Worker) → k < length ws → v ≡ get_or ws k v → w ≡ get_or ws k w → v ≡ w
same_place ws k v w lt e f = e ∙ (get_or_default ws k v w lt ∙ sym f)

pub each_place : (ws : List Worker) (k : ℕ) (v : Worker) → k < length ws → v ≡ get_or ws k v → (w : Worker) → (get_or ws k w).who ≡ v.who
each_place ws k v lt e w = ap who_of (get_or_default ws k w v lt ∙ sym e)

-- a job that is freed is at no worker
pub none_given : (s : JobState) → given_of (freed s) ≡ None
none_given state.Unqueued = refl
none_given state.Free = refl
none_given (state.Given x) = refl
none_given state.Confirmed = refl

-- a job that is at none is as it was
pub freed_same : (s : JobState) → given_of s ≡ None → freed s ≡ s
freed_same state.Unqueued e = refl
freed_same state.Free e = refl
freed_same (state.Given x) e = absurd (none_is_not_some x (sym e))
freed_same state.Confirmed e = refl
