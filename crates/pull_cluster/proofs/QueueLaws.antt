-- The queue: what its list says of the jobs.
use Rattle.std.proofs.Common.{◌≡◌, ◌≢◌, ℕ, zero, suc, ◌+◌, ◌<◌, ◌≤◌, sym, ap, ◌∙◌, refl, subst, arith, length, get_or}
use Rattle.std.specs.Prelude.{Bool, true, false, nat_lt, List, [], ◌∷◌, ◌++◌, drop, take, Some, if◌then◌else◌}
use Rattle.std.specs.List.{slice_get}
use Rattle.std.proofs.lemmas.List.{append-nil, append_assoc, length-append, take-take}
use Rattle.std.proofs.Math.Seq.{take-append_seam}
use Rattle.std.proofs.lemmas.List.Sums.{fold_push}
use Rattle.durable_queue.specs.Queue.{Queue}
use Rattle.yard_model.specs.declared.charter.Sending.{Sending}
use Rattle.yard_model.specs.declared.event.Command.{Command}
use Rattle.yard_model.specs.declared.fact.Fact.{Fact}
use Rattle.yard_model.specs.declared.fact.Fact.TheVariants as fact
use Rattle.yard_model.specs.Script.{Script, is_name, count_to, sends}
use Rattle.yard_model.specs.SlotReads.{queued, commands, commands_step, queued_in_all, queued_in_all_step}
use Rattle.plain_laws.proofs.Lists.{none_is_not_some, some_is}
use Rattle.pull_laws.specs.Pulled.{queue, queue_step, jobs, jobs_step, waiting, waiting_step, is_queued}
use Rattle.pull_laws.specs.PullSafe.{IsPulled}
use Rattle.pull_laws.proofs.Small.{get_behind}
use Rattle.pull_laws.proofs.Sound.{queue_more, jobs_more, waiting_more}
use Rattle.pull_cluster.specs.Cluster.{name_at}
use Rattle.pull_cluster.specs.Kept.{IsQueued}
use Rattle.pull_cluster.proofs.NameLaws.{get_front, got_below, got_is, named_none, some_named, count_push, name_is, names_differ}

-- Fronts of a list.

take_next : {A : Type 0} (xs : List A) (n : ℕ) (x : A) → slice_get xs n ≡ Some x → take (suc n) xs ≡ take n xs ++ x ∷ []
take_next [] n x g = absurd (none_is_not_some x g)
take_next (y ∷ ys) zero x g = ap (λ z. z ∷ []) (some_is y x g)
take_next (y ∷ ys) (suc n) x g = ap (λ zs. y ∷ zs) (take_next ys n x g)

get_take : {A : Type 0} (xs : List A) (n i : ℕ) → i < n → slice_get (take n xs) i ≡ slice_get xs i
get_take xs zero i lt = absurd (below_none i lt)
  where
    below_none : (i : ℕ) → i < 0 → ⊥
    below_none i lt = omega (arith, lt)
get_take [] (suc n) i lt = refl
get_take (x ∷ xs) (suc n) zero lt = refl
get_take (x ∷ xs) (suc n) (suc i) lt = get_take xs n i (omega (arith, lt))

long_take : {A : Type 0} (xs : List A) (n : ℕ) → n ≤ length xs → length (take n xs) ≡ n
long_take xs zero le = refl
long_take [] (suc n) le = absurd (none_below n le)
  where
    none_below : (n : ℕ) → suc n ≤ 0 → ⊥
    none_below n le = omega (arith, le)
long_take (x ∷ xs) (suc n) le = ap suc (long_take xs n (omega (arith, le)))

-- What was sent.

pub sent_long : (c : Script) (t : List Fact) (q : Queue) (sent : ℕ) → IsQueued c t q sent → length (jobs t) + length (waiting t) ≡ sent
sent_long c t q sent k = sym (length-append (jobs t) (waiting t)) ∙ (ap length k.all_are ∙ long_take (sends c 1) sent k.sent_is)

pub jobs_few : (c : Script) (t : List Fact) (q : Queue) (sent : ℕ) → IsQueued c t q sent → length (jobs t) ≤ length (sends c 1)
jobs_few c t q sent k = few (length (jobs t)) (length (waiting t)) sent (length (sends c 1)) (sent_long c t q sent k) k.sent_is
  where
    few : (a b n m : ℕ) → a + b ≡ n → n ≤ m → a ≤ m
    few a b n m e le = omega (arith, e, le)

-- the jobs are the first sends
pub job_is : (c : Script) (t : List Fact) (q : Queue) (sent : ℕ) → IsQueued c t q sent → (i : ℕ) → i < length (jobs t) → slice_get (jobs t) i ≡ slice_get (sends c 1) i
job_is c t q sent k i lt =
    sym (get_front (jobs t) (waiting t) i lt)
    ∙ (ap (λ l. slice_get l i) k.all_are ∙ get_take (sends c 1) sent i (within i (length (jobs t)) (length (waiting t)) sent (sent_long c t q sent k) lt))
  where
    within : (i a b n : ℕ) → a + b ≡ n → i < a → i < n
    within i a b n e l = omega (arith, e, l)

pub jobs_front : (c : Script) (t : List Fact) (q : Queue) (sent : ℕ) → IsQueued c t q sent → jobs t ≡ take (length (jobs t)) (sends c 1)
jobs_front c t q sent k =
    sym (take-append_seam (jobs t) (waiting t)) ∙ (ap (take (length (jobs t))) k.all_are ∙ take-take (length (jobs t)) sent (sends c 1) (few (length (jobs t)) (length (waiting t)) sent (sent_long c t q sent k)))
  where
    few : (a b n : ℕ) → a + b ≡ n → a ≤ n
    few a b n e = omega (arith, e)

-- and the next one is the first that waits
pub next_waits : (c : Script) (t : List Fact) (q : Queue) (sent : ℕ) (j : Sending) (left : List Sending) → IsQueued c t q sent → waiting t ≡ j ∷ left → slice_get (sends c 1) (length (jobs t)) ≡ Some j
next_waits c t q sent j left k e =
    sym (get_take (sends c 1) sent (length (jobs t)) (within (length (jobs t)) (length left) sent (ap (λ l. length (jobs t) + length l) (sym e) ∙ sent_long c t q sent k)))
    ∙ (ap (λ l. slice_get l (length (jobs t))) (sym k.all_are) ∙ (ap (λ l. slice_get (jobs t ++ l) (length (jobs t))) e ∙ get_behind (jobs t) j left))
  where
    within : (a b n : ℕ) → a + suc b ≡ n → a < n
    within a b n e = omega (arith, e)

-- Which jobs are queued.

pub queued_below : (c : Script) (t : List Fact) (q : Queue) (sent : ℕ) → IsQueued c t q sent → (i : ℕ) → i < length (jobs t) → is_queued (name_at c i) t ≡ true
queued_below c t q sent k i lt = by (jobs t) refl
  where
    by : (js : List Sending) → jobs t ≡ js → is_queued (name_at c i) t ≡ true
    by [] e = absurd (below_none i (subst (λ (l : List Sending). i < length l) e lt))
      where
        below_none : (i : ℕ) → i < 0 → ⊥
        below_none i lt = omega (arith, lt)
    by (d ∷ ds) e =
        let j : Sending = get_or (jobs t) i d in
        let g : slice_get (jobs t) i ≡ Some j = got_is (jobs t) i d lt in
        ap (nat_lt 0) (k.queued_are (name_at c i)) ∙ (ap (λ n. nat_lt 0 (count_to n (jobs t))) (name_is c i j (sym (job_is c t q sent k i lt) ∙ g)) ∙ some_named (jobs t) i j g)

pub unqueued_above : (c : Script) (t : List Fact) (q : Queue) (sent : ℕ) → IsPulled c → IsQueued c t q sent → (i : ℕ) → length (jobs t) ≤ i → i < length (sends c 1) → is_queued (name_at c i) t ≡ false
unqueued_above c t q sent is k i le lt = ap (nat_lt 0) (k.queued_are (name_at c i) ∙ named_none (name_at c i) (jobs t) other)
  where
    far : (j i a n : ℕ) → j < a → a ≤ i → j ≢ i
    far j i a n l le e = omega (arith, l, le, e)

    less : (j a n : ℕ) → j < a → a ≤ n → j < n
    less j a n l le = omega (arith, l, le)

    other : (j : ℕ) (x : Sending) → slice_get (jobs t) j ≡ Some x → is_name x.entity (name_at c i) ≡ false
    other j x g =
        let jl : j < length (jobs t) = got_below (jobs t) j x g in
        ap (λ n. is_name n (name_at c i)) (sym (name_is c j x (sym (job_is c t q sent k j jl) ∙ g)))
        ∙ names_differ c is j i (less j (length (jobs t)) (length (sends c 1)) jl (jobs_few c t q sent k)) lt (far j i (length (jobs t)) (length (sends c 1)) jl le)

-- One fact more.

pub queued_same : (c : Script) (t : List Fact) (q : Queue) (sent : ℕ) (f : Fact) → queue_step (queue t) f ≡ queue t → jobs_step (jobs t) f ≡ jobs t → waiting_step (waiting t) f ≡ waiting t → IsQueued c t q sent → IsQueued c (t ++ f ∷ []) q sent
queued_same c t q sent f qe je we k = record {
  script_is = k.script_is;
  producer_is = k.producer_is;
  entries_are = k.entries_are ∙ sym queue_is;
  sent_is = k.sent_is;
  all_are = ap (λ l. l ++ waiting (t ++ f ∷ [])) jobs_is ∙ (ap (λ l. jobs t ++ l) (waiting_more t f ∙ we) ∙ k.all_are);
  total_is = ap queued_in_all queue_is ∙ (k.total_is ∙ ap length (sym jobs_is));
  queued_are = λ e. ap (λ l. queued e l) queue_is ∙ (k.queued_are e ∙ ap (count_to e) (sym jobs_is));
}
  where
    queue_is : queue (t ++ f ∷ []) ≡ queue t
    queue_is = queue_more t f ∙ qe

    jobs_is : jobs (t ++ f ∷ []) ≡ jobs t
    jobs_is = jobs_more t f ∙ je

-- an entry of the queue that queues nothing
pub queued_entry : (c : Script) (t : List Fact) (q new : Queue) (sent : ℕ) (f : Fact) → queue_step (queue t) f ≡ queue t ++ f ∷ [] → jobs_step (jobs t) f ≡ jobs t → waiting_step (waiting t) f ≡ waiting t
    → ((n : ℕ) → queued_in_all_step n f ≡ n) → ((e : List ℕ) (l : List Command) → commands_step e l f ≡ l) → new.script ≡ q.script → new.producer ≡ q.producer → new.entries ≡ q.entries ++ f ∷ [] → IsQueued c t q sent → IsQueued c (t ++ f ∷ []) new sent
queued_entry c t q new sent f qe je we all each script producer entries k = record {
  script_is = script ∙ k.script_is;
  producer_is = producer ∙ k.producer_is;
  entries_are = entries ∙ (ap (λ l. l ++ f ∷ []) k.entries_are ∙ sym queue_is);
  sent_is = k.sent_is;
  all_are = ap (λ l. l ++ waiting (t ++ f ∷ [])) jobs_is ∙ (ap (λ l. jobs t ++ l) (waiting_more t f ∙ we) ∙ k.all_are);
  total_is = ap queued_in_all queue_is ∙ (fold_push queued_in_all_step 0 (queue t) f ∙ (all (queued_in_all (queue t)) ∙ (k.total_is ∙ ap length (sym jobs_is))));
  queued_are = λ e. ap (λ l. queued e l) queue_is ∙ (ap length (fold_push (commands_step e) [] (queue t) f ∙ each e (commands e (queue t))) ∙ (k.queued_are e ∙ ap (count_to e) (sym jobs_is)));
}
  where
    queue_is : queue (t ++ f ∷ []) ≡ queue t ++ f ∷ []
    queue_is = queue_more t f ∙ qe

    jobs_is : jobs (t ++ f ∷ []) ≡ jobs t
    jobs_is = jobs_more t f ∙ je

-- room was made
pub queued_reserved : (c : Script) (t : List Fact) (q new : Queue) (sent : ℕ) → new.script ≡ q.script → new.producer ≡ q.producer → new.entries ≡ q.entries → IsQueued c t q sent → IsQueued c t new sent
queued_reserved c t q new sent script producer entries k = record {
  script_is = script ∙ k.script_is;
  producer_is = producer ∙ k.producer_is;
  entries_are = entries ∙ k.entries_are;
  sent_is = k.sent_is;
  all_are = k.all_are;
  total_is = k.total_is;
  queued_are = k.queued_are;
}

abbrev pub first_of : List ℕ → Command → Sending
first_of e k = record { entity = e; number = 1; command = k }

-- the next job is queued
pub queued_more : (c : Script) (t : List Fact) (q new : Queue) (sent now : ℕ) (e : List ℕ) (k : Command) → now ≤ length (sends c 1) → (jobs t ++ first_of e k ∷ []) ++ drop 1 (waiting t) ≡ take now (sends c 1)
    → new.script ≡ q.script → new.producer ≡ q.producer → new.entries ≡ q.entries ++ fact.Queued 1 e 1 k ∷ [] → IsQueued c t q sent → IsQueued c (t ++ fact.Queued 1 e 1 k ∷ []) new now
queued_more c t q new sent now e k few all script producer entries h = record {
  script_is = script ∙ h.script_is;
  producer_is = producer ∙ h.producer_is;
  entries_are = entries ∙ (ap (λ l. l ++ f ∷ []) h.entries_are ∙ sym (queue_more t f));
  sent_is = few;
  all_are = ap (λ l. l ++ waiting (t ++ f ∷ [])) (jobs_more t f) ∙ (ap (λ l. (jobs t ++ first_of e k ∷ []) ++ l) (waiting_more t f) ∙ all);
  total_is = ap queued_in_all (queue_more t f) ∙ (fold_push queued_in_all_step 0 (queue t) f ∙ (ap (λ n. n + 1) h.total_is ∙ (sym (length-append (jobs t) (first_of e k ∷ [])) ∙ ap length (sym (jobs_more t f)))));
  queued_are = λ y. ap (λ l. queued y l) (queue_more t f) ∙ (ap length (fold_push (commands_step y) [] (queue t) f) ∙ (grown y (is_name e y) ∙ (ap (λ n. n + (if is_name e y then 1 else 0)) (h.queued_are y) ∙ (sym (count_push y (jobs t) (first_of e k)) ∙ ap (count_to y) (sym (jobs_more t f))))));
}
  where
    f : Fact
    f = fact.Queued 1 e 1 k

    none_more : (n : ℕ) → n ≡ n + 0
    none_more n = omega arith

    grown : (y : List ℕ) (b : Bool) → length (if b then commands y (queue t) ++ k ∷ [] else commands y (queue t)) ≡ queued y (queue t) + (if b then 1 else 0)
    grown y true = length-append (commands y (queue t)) (k ∷ [])
    grown y false = none_more (queued y (queue t))

-- where none waits
pub queued_sent : (c : Script) (t : List Fact) (q new : Queue) (sent : ℕ) (e : List ℕ) (k : Command) → waiting t ≡ [] → slice_get (sends c 1) (length (jobs t) + length (waiting t)) ≡ Some (first_of e k)
    → new.script ≡ q.script → new.producer ≡ q.producer → new.entries ≡ q.entries ++ fact.Queued 1 e 1 k ∷ [] → IsQueued c t q sent → IsQueued c (t ++ fact.Queued 1 e 1 k ∷ []) new (sent + 1)
queued_sent c t q new sent e k none next script producer entries h = queued_more c t q new sent (sent + 1) e k
    (above sent (length (sends c 1)) (got_below (sends c 1) sent (first_of e k) here))
    (ap (λ w. (jobs t ++ first_of e k ∷ []) ++ drop 1 w) none ∙ (append-nil (jobs t ++ first_of e k ∷ []) ∙ (ap (λ l. l ++ first_of e k ∷ []) front ∙ (sym (take_next (sends c 1) sent (first_of e k) here) ∙ ap (λ n. take n (sends c 1)) (one sent)))))
    script producer entries h
  where
    one : (n : ℕ) → suc n ≡ n + 1
    one n = omega arith

    above : (n m : ℕ) → n < m → n + 1 ≤ m
    above n m lt = omega (arith, lt)

    here : slice_get (sends c 1) sent ≡ Some (first_of e k)
    here = ap (slice_get (sends c 1)) (sym (sent_long c t q sent h)) ∙ next

    front : jobs t ≡ take sent (sends c 1)
    front = sym (append-nil (jobs t)) ∙ (ap (λ w. jobs t ++ w) (sym none) ∙ h.all_are)

-- the first that waits
pub queued_waited : (c : Script) (t : List Fact) (q new : Queue) (sent : ℕ) (j : Sending) (left : List Sending) → waiting t ≡ j ∷ left → j.number ≡ 1
    → new.script ≡ q.script → new.producer ≡ q.producer → new.entries ≡ q.entries ++ fact.Queued 1 j.entity 1 j.command ∷ [] → IsQueued c t q sent → IsQueued c (t ++ fact.Queued 1 j.entity 1 j.command ∷ []) new sent
queued_waited c t q new sent j left waits number script producer entries h = queued_more c t q new sent sent j.entity j.command h.sent_is
    (ap (λ w. (jobs t ++ first_of j.entity j.command ∷ []) ++ drop 1 w) waits ∙ (append_assoc (jobs t) (first_of j.entity j.command ∷ []) left ∙ (ap (λ i. jobs t ++ i ∷ left) (ap (λ n. with_number n) (sym number)) ∙ (ap (λ w. jobs t ++ w) (sym waits) ∙ h.all_are))))
    script producer entries h
  where
    with_number : ℕ → Sending
    with_number n = record { entity = j.entity; number = n; command = j.command }

-- a job waits
pub queued_waits : (c : Script) (t : List Fact) (q : Queue) (sent : ℕ) (e : List ℕ) (k : Command) → slice_get (sends c 1) (length (jobs t) + length (waiting t)) ≡ Some (first_of e k) → IsQueued c t q sent → IsQueued c (t ++ fact.Waits 1 e k ∷ []) q (sent + 1)
queued_waits c t q sent e k next h = record {
  script_is = h.script_is;
  producer_is = h.producer_is;
  entries_are = h.entries_are ∙ sym (queue_more t f);
  sent_is = above sent (length (sends c 1)) (got_below (sends c 1) sent (first_of e k) here);
  all_are = ap (λ l. l ++ waiting (t ++ f ∷ [])) (jobs_more t f) ∙ (ap (λ l. jobs t ++ l) (waiting_more t f) ∙ (sym (append_assoc (jobs t) (waiting t) (first_of e k ∷ [])) ∙ (ap (λ l. l ++ first_of e k ∷ []) h.all_are
      ∙ (sym (take_next (sends c 1) sent (first_of e k) here) ∙ ap (λ n. take n (sends c 1)) (one sent)))));
  total_is = ap queued_in_all (queue_more t f) ∙ (h.total_is ∙ ap length (sym (jobs_more t f)));
  queued_are = λ y. ap (λ l. queued y l) (queue_more t f) ∙ (h.queued_are y ∙ ap (count_to y) (sym (jobs_more t f)));
}
  where
    f : Fact
    f = fact.Waits 1 e k

    one : (n : ℕ) → suc n ≡ n + 1
    one n = omega arith

    above : (n m : ℕ) → n < m → n + 1 ≤ m
    above n m lt = omega (arith, lt)

    here : slice_get (sends c 1) sent ≡ Some (first_of e k)
    here = ap (slice_get (sends c 1)) (sym (sent_long c t q sent h)) ∙ next
