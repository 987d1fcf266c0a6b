-- The numbers of incarnations and epochs: none is above the number of lines that were played.
use Rattle.std.proofs.Common.{◌≡◌, ℕ, zero, suc, ◌+◌, ◌<◌, ◌≤◌, sym, ap, ◌∙◌, refl, subst, arith, length}
use Rattle.std.specs.Prelude.{Bool, true, false, ◌==◌, ◌&&◌, not, List, [], ◌∷◌, ◌++◌, take, Some, slice_get, if◌then◌else◌}
use Rattle.std.proofs.lemmas.List.Sums.{fold_push}
use Rattle.yard_model.specs.declared.charter.Line.{Line}
use Rattle.yard_model.specs.declared.charter.Order.{Order}
use Rattle.yard_model.specs.declared.charter.Order.TheVariants as order
use Rattle.yard_model.specs.declared.charter.Sending.{Sending}
use Rattle.yard_model.specs.declared.event.Command.{Command}
use Rattle.yard_model.specs.declared.fact.Fact.{Fact}
use Rattle.yard_model.specs.declared.fact.Fact.TheVariants as fact
use Rattle.yard_model.specs.declared.incarnation.Cause.TheVariants as cause
use Rattle.yard_model.specs.declared.incarnation.Incarnation.{Incarnation}
use Rattle.yard_model.specs.declared.incarnation.Slot.TheVariants as slot
use Rattle.yard_model.specs.Script.{Script}
use Rattle.yard_model.specs.SlotReads.{epoch, epoch_step}
use Rattle.yard_model.specs.Words.{is_among, is_empty}
use Rattle.plain_laws.proofs.Lists.{none_is_not_some}
use Rattle.pull_laws.specs.Pulled.{members, worker_at, last_number, number_step, wire, packet, fresh, queue, queue_step, is_running, job_names, waiting, is_confirmed, is_free, given_to, has_done, first_ready}
use Rattle.pull_laws.specs.Pulling.{Pulling, tell, in_turn, for_each, none, where_some, nothing, post_ask, post_job, post_done, give, assign_job, assign, do_once, take_packet, deliver, come_up, up, crash, tick, queue_job, take_queue, produce, rest, send, play_input, deliver_next, drain, pump, play, play_line, play_lines, nothing_told, pulled}
use Rattle.pull_laws.proofs.Small.{some_keeps, if_keeps, each_keeps}
use Rattle.pull_laws.proofs.Sound.{queue_more}
use Rattle.pull_laws.proofs.Steps.{post_leads}

pub record Few (k : ℕ) (t : List Fact) : Type 0 where
  pub numbers : (n : ℕ) → last_number n t ≤ k
  pub epochs : epoch (queue t) ≤ k

more : (j k : ℕ) (t : List Fact) → j ≤ k → Few j t → Few k t
more j k t le f = record { numbers = λ n. on (last_number n t) j k (f.numbers n) le; epochs = on (epoch (queue t)) j k f.epochs le }
  where
    on : (a b c : ℕ) → a ≤ b → b ≤ c → a ≤ c
    on a b c f g = omega (arith, f, g)

-- a fact that begins no incarnation and no epoch
still : (k : ℕ) (t : List Fact) (f : Fact) → ((n old : ℕ) → number_step n old f ≡ old) → epoch (queue_step (queue t) f) ≡ epoch (queue t) → Few k t → Few k (t ++ f ∷ [])
still k t f ne ee h = record {
  numbers = λ n. subst (λ m. m ≤ k) (sym (fold_push (number_step n) 0 t f ∙ ne n (last_number n t))) (h.numbers n);
  epochs = subst (λ m. m ≤ k) (sym (ap epoch (queue_more t f) ∙ ee)) h.epochs;
}

entry : (k : ℕ) (t : List Fact) (f : Fact) → ((n old : ℕ) → number_step n old f ≡ old) → queue_step (queue t) f ≡ queue t ++ f ∷ [] → ((n : ℕ) → epoch_step n f ≡ n) → Few k t → Few k (t ++ f ∷ [])
entry k t f ne qe ee h = still k t f ne (ap epoch qe ∙ (fold_push epoch_step 0 (queue t) f ∙ ee (epoch (queue t)))) h

-- Steps.

ask_few : (k : ℕ) (x : Incarnation) (s : Pulling) → Few k s.told → Few k (post_ask x s).told
ask_few k x s h = post_leads (Few k) (λ n. fact.SentAsk n x) s h (still k s.told (fact.SentAsk (length (wire s.told) + 1) x) (λ n old. refl) refl h)

job_few : (k : ℕ) (x : Incarnation) (e : List ℕ) (s : Pulling) → Few k s.told → Few k (post_job x e s).told
job_few k x e s h = post_leads (Few k) (λ n. fact.SentJob n x e) s h (still k s.told (fact.SentJob (length (wire s.told) + 1) x e) (λ n old. refl) refl h)

done_few : (k : ℕ) (x : Incarnation) (e : List ℕ) (s : Pulling) → Few k s.told → Few k (post_done x e s).told
done_few k x e s h = post_leads (Few k) (λ n. fact.SentDone n x e) s h (still k s.told (fact.SentDone (length (wire s.told) + 1) x e) (λ n old. refl) refl h)

nothing_few : (k : ℕ) (s : Pulling) → Few k s.told → Few k (nothing s).told
nothing_few k s h = still k s.told fact.Nothing (λ n old. refl) refl h

assign_job_few : (k : ℕ) (e : List ℕ) (s : Pulling) → Few k s.told → Few k (assign_job e s).told
assign_job_few k e s h =
    if_keeps (λ u. Few k u.told) (is_free e s.told) (where_some (give e) none (first_ready s.window s.told) s) s
    (λ free. some_keeps (λ u. Few k u.told) (give e) none (first_ready s.window s.told) s
    (λ x first. job_few k x e (tell (fact.Given e x) s) (still k s.told (fact.Given e x) (λ n old. refl) refl h)) h)
    (λ e. h)

assign_few : (k : ℕ) (s : Pulling) → Few k s.told → Few k (assign s).told
assign_few k s h = if_keeps (λ u. Few k u.told) (is_running s.told) (for_each assign_job (job_names s.told) s) s (λ runs. each_keeps (λ u. Few k u.told) assign_job (λ e u r. assign_job_few k e u r) (job_names s.told) s h) (λ e. h)

take_few : (k : ℕ) (f : Fact) (s : Pulling) → Few k s.told → Few k (take_packet f s).told
take_few k (fact.SentAsk n x) s h =
    if_keeps (λ u. Few k u.told) (is_running s.told && is_among x (members s.told)) (in_turn (for_each (post_job x) (given_to x s.told)) assign s) s
    (λ b. assign_few k (for_each (post_job x) (given_to x s.told) s) (each_keeps (λ u. Few k u.told) (post_job x) (λ e u r. job_few k x e u r) (given_to x s.told) s h))
    (λ b. h)
take_few k (fact.SentJob n x e) s h =
    if_keeps (λ u. Few k u.told) (is_among x (members s.told)) (in_turn (do_once x e) (post_done x e) s) s
    (λ b. done_few k x e (do_once x e s) (if_keeps (λ u. Few k u.told) (has_done x e s.told) s (tell (fact.Did x e) s) (λ d. h) (λ d. still k s.told (fact.Did x e) (λ n old. refl) refl h)))
    (λ b. h)
take_few k (fact.SentDone n x e) s h =
    if_keeps (λ u. Few k u.told) (is_running s.told && not (is_confirmed e s.told)) (in_turn (tell (fact.Confirmed 1 e 1)) assign s) s
    (λ b. assign_few k (tell (fact.Confirmed 1 e 1) s) (entry k s.told (fact.Confirmed 1 e 1) (λ n old. refl) refl (λ n. refl) h))
    (λ b. h)
take_few k f s h = h

deliver_few : (k n : ℕ) (s : Pulling) → Few k s.told → Few k (deliver n s).told
deliver_few k n s h =
    some_keeps (λ u. Few k u.told) (λ f. in_turn (tell (fact.Got n)) (take_packet f)) nothing (packet n s.told) s
    (λ f is. take_few k f (tell (fact.Got n) s) (still k s.told (fact.Got n) (λ m old. refl) refl h))
    (nothing_few k s h)

-- Orders.

at_most_next : (k : ℕ) → k ≤ suc k
at_most_next k = omega arith

up_few : (k n : ℕ) (s : Pulling) → Few k s.told → Few (suc k) (up n s).told
up_few k n s h = some_keeps (λ u. Few (suc k) u.told) (λ x. nothing) (come_up who) (worker_at n s.told) s
    (λ x e. more k (suc k) (nothing s).told (at_most_next k) (nothing_few k s h))
    (ask_few (suc k) who (tell (fact.Up who) s) (record {
      numbers = λ m. subst (λ a. a ≤ suc k) (sym (fold_push (number_step m) 0 s.told (fact.Up who))) (by m (n == m));
      epochs = subst (λ a. a ≤ suc k) (sym (ap epoch (queue_more s.told (fact.Up who)))) (on (epoch (queue s.told)) k h.epochs);
    }))
  where
    who : Incarnation
    who = record { node = n; number = last_number n s.told + 1 }

    on : (a b : ℕ) → a ≤ b → a ≤ suc b
    on a b f = omega (arith, f)

    next : (a b : ℕ) → a ≤ b → a + 1 ≤ suc b
    next a b f = omega (arith, f)

    by : (m : ℕ) (b : Bool) → (if b then last_number n s.told + 1 else last_number m s.told) ≤ suc k
    by m true = next (last_number n s.told) k (h.numbers n)
    by m false = on (last_number m s.told) k (h.numbers m)

queue_few : (k : ℕ) (j : Sending) (s : Pulling) → Few k s.told → Few k (queue_job j s).told
queue_few k j s h = entry k s.told (fact.Queued 1 j.entity 1 j.command) (λ n old. refl) refl (λ n. refl) h

produce_few : (k n : ℕ) (s : Pulling) → Few k s.told → Few (suc k) (produce n s).told
produce_few k n s h = if_keeps (λ u. Few (suc k) u.told) (is_running s.told) (nothing s) (in_turn (take_queue n) (for_each queue_job (waiting s.told)) s)
    (λ e. more k (suc k) (nothing s).told (at_most_next k) (nothing_few k s h))
    (λ e. each_keeps (λ u. Few (suc k) u.told) queue_job (λ j u r. queue_few (suc k) j u r) (waiting s.told) (take_queue n s) (record {
      numbers = λ m. subst (λ a. a ≤ suc k) (sym (fold_push (number_step m) 0 s.told f)) (on (last_number m s.told) k (h.numbers m));
      epochs = subst (λ a. a ≤ suc k) (sym (ap epoch (queue_more s.told f) ∙ fold_push epoch_step 0 (queue s.told) f)) (next (epoch (queue s.told)) k h.epochs);
    }))
  where
    f : Fact
    f = fact.Granted (slot.Queue 1) (epoch (queue s.told) + 1) (record { node = n; number = epoch (queue s.told) + 1 })

    on : (a b : ℕ) → a ≤ b → a ≤ suc b
    on a b f = omega (arith, f)

    next : (a b : ℕ) → a ≤ b → a + 1 ≤ suc b
    next a b f = omega (arith, f)

rest_few : (k : ℕ) (s : Pulling) → Few k s.told → Few k (rest s).told
rest_few k s h = if_keeps (λ u. Few k u.told) (is_running s.told) (tell (fact.Freed (slot.Queue 1) (epoch (queue s.told)) cause.Released) s) (nothing s)
    (λ b. entry k s.told (fact.Freed (slot.Queue 1) (epoch (queue s.told)) cause.Released) (λ n old. refl) refl (λ n. refl) h)
    (λ b. nothing_few k s h)

send_few : (k : ℕ) (e : List ℕ) (c : Command) (s : Pulling) → Few k s.told → Few k (send e c s).told
send_few k e c s h = if_keeps (λ u. Few k u.told) (is_running s.told) (in_turn (tell (fact.Queued 1 e 1 c)) assign s) (tell (fact.Waits 1 e c) s)
    (λ b. assign_few k (tell (fact.Queued 1 e 1 c) s) (entry k s.told (fact.Queued 1 e 1 c) (λ n old. refl) refl (λ n. refl) h))
    (λ b. still k s.told (fact.Waits 1 e c) (λ n old. refl) refl h)

crash_few : (k n : ℕ) (s : Pulling) → Few k s.told → Few k (crash n s).told
crash_few k n s h = some_keeps (λ u. Few k u.told) (λ x. in_turn (tell (fact.Gone x)) assign) nothing (worker_at n s.told) s
    (λ x e. assign_few k (tell (fact.Gone x) s) (still k s.told (fact.Gone x) (λ m old. refl) refl h))
    (nothing_few k s h)

tick_few : (k n : ℕ) (s : Pulling) → Few k s.told → Few k (tick n s).told
tick_few k n s h = some_keeps (λ u. Few k u.told) post_ask nothing (worker_at n s.told) s (λ x e. ask_few k x s h) (nothing_few k s h)

order_few : (k : ℕ) (o : Order) (s : Pulling) → Few k s.told → Few (suc k) (play_input o s).told
order_few k (order.Up n) s h = up_few k n s h
order_few k (order.Crash n) s h = more k (suc k) (crash n s).told (at_most_next k) (crash_few k n s h)
order_few k (order.Tick n) s h = more k (suc k) (tick n s).told (at_most_next k) (tick_few k n s h)
order_few k (order.Produce p n) s h = produce_few k n s h
order_few k (order.Rest p) s h = more k (suc k) (rest s).told (at_most_next k) (rest_few k s h)
order_few k (order.Send p e c) s h = more k (suc k) (send e c s).told (at_most_next k) (send_few k e c s h)
order_few k (order.Deliver n) s h = more k (suc k) (deliver n s).told (at_most_next k) (deliver_few k n s h)
order_few k o s h = more k (suc k) (nothing s).told (at_most_next k) (nothing_few k s h)

ended_few : (k : ℕ) (t : Pulling) → Few k t.told → Few k (if t.full then tell fact.WireFull t else t).told
ended_few k t h = if_keeps (λ u. Few k u.told) t.full (tell fact.WireFull t) t (λ e. still k t.told fact.WireFull (λ n old. refl) refl h) (λ e. h)

next_few : (k : ℕ) (ks : List ℕ) (s : Pulling) → Few k s.told → Few k (deliver_next ks s).told
next_few k [] s h = h
next_few k (n ∷ ns) s h = ended_few k (deliver n s) (deliver_few k n s h)

drain_few : (k n : ℕ) (s : Pulling) → Few k s.told → Few k (drain n s).told
drain_few k zero s h = h
drain_few k (suc n) s h =
    let t : Pulling = deliver_next (fresh s.told) s in
    let next : Few k t.told = next_few k (fresh s.told) s h in
    if_keeps (λ u. Few k u.told) t.full t (drain n t) (λ e. next) (λ e. drain_few k n t next)

pump_few : (k n : ℕ) (s : Pulling) → Few k s.told → Few (suc k) (pump n s).told
pump_few k n s h = if_keeps (λ u. Few (suc k) u.told) (is_empty (fresh s.told)) (nothing s) (drain n s)
    (λ e. more k (suc k) (nothing s).told (at_most_next k) (nothing_few k s h))
    (λ e. more k (suc k) (drain n s).told (at_most_next k) (drain_few k n s h))

play_few : (k : ℕ) (o : Order) (s : Pulling) → Few k s.told → Few (suc k) (play o s).told
play_few k (order.Pump n) s h = pump_few k n s h
play_few k o s h = ended_few (suc k) (play_input o s) (order_few k o s h)

line_few : (k : ℕ) (l : Line) (s : Pulling) → Few k s.told → Few (suc k) (play_line l s).told
line_few k l s h = play_few k l.order (tell (fact.At l.number) s) (still k s.told (fact.At l.number) (λ n old. refl) refl h)

lines_few : (ls : List Line) (k m : ℕ) (s : Pulling) → k + length ls ≤ m → Few k s.told → Few m (play_lines ls s).told
lines_few [] k m s le h = more k m s.told (still_in k m le) h
  where
    still_in : (k m : ℕ) → k + 0 ≤ m → k ≤ m
    still_in k m le = omega (arith, le)
lines_few (l ∷ ls) k m s le h =
    let t : Pulling = play_line l s in
    let next : Few (suc k) t.told = line_few k l s h in
    if_keeps (λ u. Few m u.told) t.full t (play_lines ls t) (λ e. more (suc k) m t.told (over k (length ls) m le) next) (λ e. lines_few ls (suc k) m t (moved k (length ls) m le) next)
  where
    over : (k n m : ℕ) → k + suc n ≤ m → suc k ≤ m
    over k n m le = omega (arith, le)

    moved : (k n m : ℕ) → k + suc n ≤ m → suc k + n ≤ m
    moved k n m le = omega (arith, le)

short : (ls : List Line) (n : ℕ) → 0 + length (take n ls) ≤ n
short ls zero = omega arith
short [] (suc n) = omega arith
short (l ∷ ls) (suc n) = by (length (take n ls)) n (short ls n)
  where
    by : (a b : ℕ) → 0 + a ≤ b → 0 + suc a ≤ suc b
    by a b h = omega (arith, h)

pub pulled_few : (c : Script) (limit n : ℕ) → Few n (pulled c limit n).told
pulled_few c limit n = lines_few (take n c.orders) 0 n (nothing_told c limit) (short c.orders n) (record { numbers = λ m. least 0; epochs = least 0 })
  where
    least : (n : ℕ) → 0 ≤ n
    least n = omega arith

-- a line that is there is one of at most 200,000
got_below : (ls : List Line) (n : ℕ) (l : Line) → slice_get ls n ≡ Some l → n < length ls
got_below [] n l e = absurd (none_is_not_some l e)
got_below (k ∷ ls) zero l e = positive_length (length ls)
  where
    positive_length : (n : ℕ) → 0 < suc n
    positive_length n = omega arith
got_below (k ∷ ls) (suc n) l e = above n (length ls) (got_below ls n l e)
  where
    above : (n m : ℕ) → n < m → suc n < suc m
    above n m h = omega (arith, h)

few_enough : (a n m : ℕ) → a ≤ n → n < m → m ≤ 3000000 → a < 4294967295
few_enough a n m f g h = omega (arith, f, g, h)

pub number_fits : (c : Script) (limit n m : ℕ) (l : Line) → length c.orders ≤ 3000000 → slice_get c.orders n ≡ Some l → last_number m (pulled c limit n).told < 4294967295
number_fits c limit n m l few here = few_enough (last_number m (pulled c limit n).told) n (length c.orders) ((pulled_few c limit n).numbers m) (got_below c.orders n l here) few

pub epoch_fits : (c : Script) (limit n : ℕ) (l : Line) → length c.orders ≤ 3000000 → slice_get c.orders n ≡ Some l → epoch (queue (pulled c limit n).told) < 4294967295
epoch_fits c limit n l few here = few_enough (epoch (queue (pulled c limit n).told)) n (length c.orders) (pulled_few c limit n).epochs (got_below c.orders n l here) few
