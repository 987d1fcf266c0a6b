-- A producer begins.
use Rattle.std.proofs.Common.{◌≡◌, ◌≢◌, ℕ, ◌<◌, ◌+◌, List, [], ◌∷◌, ◌++◌, length, length-append, map, replicate, sym, ap, subst, ◌∙◌, refl, arith}
use Rattle.std.specs.Prelude.{Some, slice_index_or}
use Rattle.std.proofs.Math.ListN.{get_or-append}
use Rattle.std.proofs.Math.Seq.{get_or-append_seam}
use Rattle.std.specs.List.Sorted.{IsStrictlySortedBy}
use Rattle.std.specs.Ordering.{nat_cmp}
use Rattle.std.specs.Cmp.Lexicographic.{slice_cmp}
use Rattle.std.proofs.lemmas.List.{length-map, length-replicate, get_or-map, get_or-replicate, ext_get_or}
use Rattle.yard_model.specs.declared.fact.Fact.{Fact}
use Rattle.yard_model.specs.declared.incarnation.Incarnation.{Incarnation}
use Rattle.yard_model.specs.Producer.{no_progress, new_producer}
use Rattle.yard_model.specs.Script.{setting}
use Rattle.yard_model.specs.SlotReads.{holder, queued, confirmed}
use Rattle.durable_queue.specs.Queue.{Queue}
use Rattle.place_set.specs.Places.{Places, is_in}
use Rattle.plain_laws.proofs.Lists.{by_place}
use Rattle.send_window.specs.declared.pair.Pair.{Pair}
use Rattle.producer_ctl.specs.Paired.{IsPair, is_waiting, name_at, new_pair, no_pair, progress_of}
use Rattle.producer_ctl.specs.Produced.{IsProduced, produced}

-- the pair of each name below k was read
abbrev pub AreRead : List (List ℕ) → List Fact → ℕ → List Pair → Type 0
AreRead names entries k pairs = (i : ℕ) → i < k → slice_index_or pairs i no_pair ≡ new_pair (name_at names i) entries

-- one pair more is behind the others
last_is : (pairs : List Pair) (x : Pair) (k : ℕ) → length pairs ≡ k → slice_index_or (pairs ++ x ∷ []) k no_pair ≡ x
last_is pairs x k long = ap (λ n. slice_index_or (pairs ++ x ∷ []) n no_pair) (sym long) ∙ get_or-append_seam pairs x [] no_pair

first_are : (pairs : List Pair) (x : Pair) (k i : ℕ) → length pairs ≡ k → i < k → slice_index_or (pairs ++ x ∷ []) i no_pair ≡ slice_index_or pairs i no_pair
first_are pairs x k i long below = get_or-append pairs (x ∷ []) no_pair i (subst (λ n. i < n) (sym long) below)

less : (i k : ℕ) → i < k + 1 → (i ≡ k → ⊥) → i < k
less i k a b = omega (arith, a, b)

pub length_more : (pairs new : List Pair) (x : Pair) (k : ℕ) → length pairs ≡ k → new ≡ pairs ++ x ∷ [] → length new ≡ k + 1
length_more pairs new x k long is = ap length is ∙ (length-append pairs (x ∷ []) ∙ ap (λ n. n + 1) long)

pub read_more : (names : List (List ℕ)) (entries : List Fact) (pairs : List Pair) (x : Pair) (k q r : ℕ) → length pairs ≡ k → x ≡ record { demand = 0; sent = 0; queued = q; confirmed = r } → q ≡ queued (name_at names k) entries → r ≡ confirmed (name_at names k) entries
    → AreRead names entries k pairs → AreRead names entries (k + 1) (pairs ++ x ∷ [])
read_more names entries pairs x k q r long x_is q_is r_is old i below = by_place (slice_index_or (pairs ++ x ∷ []) i no_pair ≡ new_pair (name_at names i) entries) i k
    (λ same. ap (λ n. slice_index_or (pairs ++ x ∷ []) n no_pair) same ∙ (last_is pairs x k long ∙ (made ∙ ap (λ n. new_pair (name_at names n) entries) (sym same))))
    (λ apart. first_are pairs x k i long (less i k below apart) ∙ old i (less i k below apart))
  where
    made : x ≡ new_pair (name_at names k) entries
    made = x_is ∙ (ap (λ n. record { demand = 0; sent = 0; queued = n; confirmed = r }) q_is
        ∙ ap (λ n. record { demand = 0; sent = 0; queued = queued (name_at names k) entries; confirmed = n }) r_is)

-- the set has the places of those among the first k that wait
abbrev pub AreMarkedTo : ℕ → List Pair → Places → Type 0
AreMarkedTo k pairs waiting = (i : ℕ) → i < k → is_in waiting i ≡ is_waiting (slice_index_or pairs i no_pair)

pub marked_more : (pairs new : List Pair) (x : Pair) (k : ℕ) (waiting marked : Places) → length pairs ≡ k → new ≡ pairs ++ x ∷ [] → is_in marked k ≡ is_waiting x → ((i : ℕ) → i ≢ k → is_in marked i ≡ is_in waiting i) → AreMarkedTo k pairs waiting → AreMarkedTo (k + 1) new marked
marked_more pairs new x k waiting marked long is it others old i below =
    subst (λ l. is_in marked i ≡ is_waiting (slice_index_or l i no_pair)) (sym is) (by_place (is_in marked i ≡ is_waiting (slice_index_or (pairs ++ x ∷ []) i no_pair)) i k
    (λ same. ap (is_in marked) same ∙ (it ∙ ap is_waiting (sym (ap (λ n. slice_index_or (pairs ++ x ∷ []) n no_pair) same ∙ last_is pairs x k long))))
    (λ apart. others i apart ∙ (old i (less i k below apart) ∙ ap is_waiting (sym (first_are pairs x k i long (less i k below apart))))))

pub begun_stands : {who : Incarnation} {number : ℕ} {store : Queue} {pairs : List Pair} → store.producer ≡ number → holder store.entries ≡ Some who → IsStrictlySortedBy (slice_cmp nat_cmp) (setting store.script).names
    → length pairs ≡ length (setting store.script).names → AreRead (setting store.script).names store.entries (length (setting store.script).names) pairs → IsProduced who number store pairs
begun_stands {who} {number} {store} {pairs} its leased sorted there read = record {
  number_is = its;
  leased = leased;
  sorted = sorted;
  there = there;
  each = λ i inside. subst (IsPair store.script.config.window (name_at (setting store.script).names i) store.entries) (sym (read i inside)) (record { queued_is = refl; confirmed_is = refl; bounded = omega arith });
}

pub begun_seen : (who : Incarnation) (number : ℕ) (store : Queue) (pairs : List Pair) → length pairs ≡ length (setting store.script).names → AreRead (setting store.script).names store.entries (length (setting store.script).names) pairs
    → produced who number store pairs ≡ record { script = store.script; state = new_producer (setting store.script) who number store.entries; room = store.spare }
begun_seen who number store pairs there read = ap (λ l. record { script = store.script; state = record { who = who; set = setting store.script; number = number; entries = store.entries; pairs = l }; room = store.spare }) same
  where
    size : length (map progress_of pairs) ≡ length (setting store.script).names
    size = length-map pairs progress_of ∙ there

    one : (i : ℕ) → i < length (map progress_of pairs) → slice_index_or (map progress_of pairs) i no_progress ≡ slice_index_or (replicate (length (setting store.script).names) no_progress) i no_progress
    one i below =
        let inside : i < length (setting store.script).names = subst (λ n. i < n) size below in
        get_or-map progress_of pairs i no_pair no_progress (subst (λ n. i < n) (sym there) inside) ∙ (ap progress_of (read i inside) ∙ sym (get_or-replicate (length (setting store.script).names) i no_progress no_progress inside))

    same : map progress_of pairs ≡ replicate (length (setting store.script).names) no_progress
    same = ext_get_or no_progress (map progress_of pairs) (replicate (length (setting store.script).names) no_progress) (size ∙ sym (length-replicate (length (setting store.script).names) no_progress)) one
