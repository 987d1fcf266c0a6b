-- What is kept, as one fact more is told.
use Rattle.std.proofs.Common.{◌≡◌, ℕ, zero, suc, ◌+◌, ◌-◌, ◌<◌, ◌≤◌, sym, ap, ◌∙◌, refl, subst, arith, length, get_or, set}
use Rattle.std.specs.Prelude.{Bool, true, false, ◌==◌, ◌&&◌, not, List, [], ◌∷◌, ◌++◌, map, filter, find, nat_le, nat_lt, replicate, Option, Some, None, IfSome, if◌then◌else◌}
use Rattle.std.specs.List.{slice_get}
use Rattle.std.specs.Option.{option_map}
use Rattle.std.proofs.lemmas.Bool.Decides.{nat_tests}
use Rattle.std.proofs.lemmas.List.{append-nil}
use Rattle.std.proofs.lemmas.List.Sums.{count_by-le-length}
use Rattle.durable_queue.specs.Queue.{Queue}
use Rattle.yard_model.specs.declared.charter.Sending.{Sending}
use Rattle.yard_model.specs.declared.event.Command.{Command}
use Rattle.yard_model.specs.declared.fact.Fact.{Fact}
use Rattle.yard_model.specs.declared.fact.Fact.TheVariants as fact
use Rattle.yard_model.specs.declared.incarnation.Cause.TheVariants as cause
use Rattle.yard_model.specs.declared.incarnation.Incarnation.{Incarnation}
use Rattle.yard_model.specs.declared.incarnation.Slot.TheVariants as slot
use Rattle.yard_model.specs.Behaviour.{is_in}
use Rattle.yard_model.specs.Genuine.{is_producer}
use Rattle.yard_model.specs.Script.{Script, sends}
use Rattle.yard_model.specs.SlotReads.{confirmed, queued, queued_in_all}
use Rattle.yard_model.specs.Words.{is_same, is_at, is_among}
use Rattle.yard_model.specs.World.{members_step, wire_limit}
use Rattle.plain_laws.proofs.Booleans.{true_is_not_false, and_both, below, not_below}
use Rattle.plain_laws.proofs.Lists.{some_is, none_is_not_some}
use Rattle.plain_laws.proofs.Members.{each_among}
use Rattle.pull_laws.proofs.Small.{found}
use Rattle.pull_laws.specs.Pulled.{members, last_number, number_step, is_sent, wire, packet, fresh, fresh_step, queue, queue_step, jobs, jobs_step, waiting, waiting_step, given, given_step, is_free, is_confirmed, asking_step}
use Rattle.pull_laws.specs.Pulled.{asking as asks_of}
use Rattle.pull_laws.specs.Pulling.{Pulling, Step, tell, post}
use Rattle.pull_laws.specs.PullSafe.{IsPulled}
use Rattle.job_board.specs.Boards.{Board, Seat, freed, freed_from, is_free_state, is_given_to, load_of, not_asking, state_at}
use Rattle.job_board.specs.Parcels.{Parcels}
use Rattle.job_board.specs.declared.parcel.Parcel.{Parcel}
use Rattle.job_board.specs.declared.parcel.Parcel.TheVariants as parcel
use Rattle.job_board.specs.declared.state.JobState.{JobState}
use Rattle.job_board.specs.declared.state.JobState.TheVariants as state
use Rattle.pull_cluster.specs.Cluster.{Cluster, Leads, IsOfJobs, MayPost, is_plain, names_of, name_at, parcel_fact}
use Rattle.pull_cluster.specs.Kept.{told_of, IsKept, IsQueued, AreStates, AreSeats, ArePosted, IsKnown, asked_by, doer_of}
use Rattle.pull_cluster.proofs.DoerLaws.{doers_same, doers_did}
use Rattle.pull_cluster.proofs.NameLaws.{got_below, got_is, name_is, number_one, names_long, sends_few}
use Rattle.pull_cluster.proofs.QueueLaws.{job_is, queued_same, queued_entry, queued_reserved, queued_sent, queued_waited, queued_waits, first_of, jobs_few, next_waits, sent_long, queued_below, unqueued_above}
use Rattle.pull_cluster.proofs.SeatLaws.{seats_same, seats_up, seats_gone, seats_granted, seats_got, numbers_same, numbers_up, last_grows}
use Rattle.pull_cluster.proofs.StateLaws.{states_long, unqueued_at, state_is, free_is, given_is, states_same, states_gone, states_freed, states_queued, states_given, states_confirmed, states_none}
use Rattle.pull_cluster.proofs.WireLaws.{next_number, posted_same, posted_got, posted_more, posted_none, known_there, itself, pushed}

-- a fact that changes no word
pub record Quiet (t : List Fact) (f : Fact) : Type 0 where
  pub queue_is : queue_step (queue t) f ≡ queue t
  pub jobs_are : jobs_step (jobs t) f ≡ jobs t
  pub waiting_are : waiting_step (waiting t) f ≡ waiting t
  pub given_is : (e : List ℕ) → given_step e (given e t) f ≡ given e t
  pub members_are : members_step (members t) f ≡ members t
  pub numbers_are : (n : ℕ) → number_step n (last_number n t) f ≡ last_number n t
  pub asked_are : (asking_step (asks_of t) f).asked ≡ (asks_of t).asked
  pub doers_are : (e : List ℕ) → doer_of e f ≡ []
  pub no_packet : is_sent f ≡ false
  pub fresh_are : fresh_step (fresh t) f ≡ fresh t

plain_is_quiet : (t : List Fact) (f : Fact) → is_plain f ≡ true → Quiet t f
plain_is_quiet t (fact.At n) e = record { queue_is = refl; jobs_are = refl; waiting_are = refl; given_is = λ e. refl; members_are = refl; numbers_are = λ n. refl; asked_are = refl; doers_are = λ e. refl; no_packet = refl; fresh_are = refl }
plain_is_quiet t fact.Nothing e = record { queue_is = refl; jobs_are = refl; waiting_are = refl; given_is = λ e. refl; members_are = refl; numbers_are = λ n. refl; asked_are = refl; doers_are = λ e. refl; no_packet = refl; fresh_are = refl }
plain_is_quiet t fact.WireFull e = record { queue_is = refl; jobs_are = refl; waiting_are = refl; given_is = λ e. refl; members_are = refl; numbers_are = λ n. refl; asked_are = refl; doers_are = λ e. refl; no_packet = refl; fresh_are = refl }
plain_is_quiet t f e = absurd (true_is_not_false (sym e))

same_most : (n m : ℕ) → m ≡ n → n ≤ m
same_most n m e = subst (λ k. n ≤ k) (sym e) (itself n)

pub kept_plain : (c : Script) (p : ℕ) (t : List Fact) (q : Queue) (sent : ℕ) (b : Board) (doers : List (List Incarnation)) (numbers : List ℕ) (parcels : Parcels) (f : Fact) → is_plain f ≡ true → IsKept c p t q sent b doers numbers parcels → IsKept c p (t ++ f ∷ []) q sent b doers numbers parcels
kept_plain c p t q sent b doers numbers parcels f plain k =
    let quiet : Quiet t f = plain_is_quiet t f plain in
    record {
      pulled_is = k.pulled_is;
      first_is = k.first_is;
      queue_is = queued_same c t q sent f quiet.queue_is quiet.jobs_are quiet.waiting_are k.queue_is;
      states_are = states_same c t b.states f quiet.queue_is quiet.given_is k.states_are;
      seats_are = seats_same t b.seats f quiet.members_are quiet.numbers_are quiet.asked_are k.seats_are;
      doers_are = doers_same c t doers f quiet.doers_are k.doers_are;
      numbers_are = numbers_same t numbers f quiet.numbers_are k.numbers_are;
      parcels_are = posted_same c t parcels f quiet.no_packet quiet.fresh_are (λ n. same_most (last_number n t) (number_step n (last_number n t) f) (quiet.numbers_are n)) (same_most (length (jobs t)) (length (jobs_step (jobs t) f)) (ap length quiet.jobs_are)) k.parcels_are;
    }

-- the states and the seats of a board
states_as : (c : Script) (t : List Fact) (b : Board) (states : List JobState) (seats : List Seat) → b ≡ record { states = states; seats = seats } → AreStates c t states → AreStates c t b.states
states_as c t b states seats e h = subst (λ (x : Board). AreStates c t x.states) (sym e) h

seats_as : (t : List Fact) (b : Board) (states : List JobState) (seats : List Seat) → b ≡ record { states = states; seats = seats } → AreSeats t seats → AreSeats t b.seats
seats_as t b states seats e h = subst (λ (x : Board). AreSeats t x.seats) (sym e) h

-- a worker comes up
pub kept_up : (c : Script) (p : ℕ) (t : List Fact) (q : Queue) (sent : ℕ) (b new : Board) (doers : List (List Incarnation)) (numbers : List ℕ) (parcels : Parcels) (x : Incarnation) → x.number ≡ last_number x.node t + 1 → 0 < x.node → x.node ≤ 16
    → new ≡ record { states = b.states; seats = b.seats ++ (record { who = x; asked = false }) ∷ [] } → IsKept c p t q sent b doers numbers parcels → IsKept c p (t ++ fact.Up x ∷ []) q sent new doers (set numbers (x.node - 1) x.number) parcels
kept_up c p t q sent b new doers numbers parcels x next low high e k = record {
  pulled_is = k.pulled_is;
  first_is = k.first_is;
  queue_is = queued_same c t q sent (fact.Up x) refl refl refl k.queue_is;
  states_are = states_as c (t ++ fact.Up x ∷ []) new b.states (b.seats ++ (record { who = x; asked = false }) ∷ []) e (states_same c t b.states (fact.Up x) refl (λ e. refl) k.states_are);
  seats_are = seats_as (t ++ fact.Up x ∷ []) new b.states (b.seats ++ (record { who = x; asked = false }) ∷ []) e (seats_up t b.seats x next k.seats_are);
  doers_are = doers_same c t doers (fact.Up x) (λ e. refl) k.doers_are;
  numbers_are = numbers_up t numbers x low high k.numbers_are;
  parcels_are = posted_same c t parcels (fact.Up x) refl refl (λ n. last_grows t x n next) (itself (length (jobs t))) k.parcels_are;
}

-- a worker is gone
pub kept_gone : (c : Script) (p : ℕ) (t : List Fact) (q : Queue) (sent : ℕ) (b new : Board) (doers : List (List Incarnation)) (numbers : List ℕ) (parcels : Parcels) (x : Incarnation)
    → new ≡ record { states = map (freed_from x) b.states; seats = filter (λ (s : Seat). not (is_same x s.who)) b.seats } → IsKept c p t q sent b doers numbers parcels → IsKept c p (t ++ fact.Gone x ∷ []) q sent new doers numbers parcels
kept_gone c p t q sent b new doers numbers parcels x e k = record {
  pulled_is = k.pulled_is;
  first_is = k.first_is;
  queue_is = queued_same c t q sent (fact.Gone x) refl refl refl k.queue_is;
  states_are = states_as c (t ++ fact.Gone x ∷ []) new (map (freed_from x) b.states) (filter (λ (s : Seat). not (is_same x s.who)) b.seats) e (states_gone c t b.states x k.states_are);
  seats_are = seats_as (t ++ fact.Gone x ∷ []) new (map (freed_from x) b.states) (filter (λ (s : Seat). not (is_same x s.who)) b.seats) e (seats_gone t b.seats x k.seats_are);
  doers_are = doers_same c t doers (fact.Gone x) (λ e. refl) k.doers_are;
  numbers_are = numbers_same t numbers (fact.Gone x) (λ n. refl) k.numbers_are;
  parcels_are = posted_same c t parcels (fact.Gone x) refl refl (λ n. itself (last_number n t)) (itself (length (jobs t))) k.parcels_are;
}

-- a packet is delivered
pub kept_got : (c : Script) (p : ℕ) (t : List Fact) (q : Queue) (sent : ℕ) (b new : Board) (doers : List (List Incarnation)) (numbers : List ℕ) (parcels after : Parcels) (n : ℕ) (r : Parcel) → 0 < n → packet n t ≡ Some (parcel_fact c n r)
    → after.posted ≡ parcels.posted → after.fresh ≡ filter (λ j. not (j == n)) parcels.fresh → new ≡ record { states = b.states; seats = asked_by r b.seats } → IsKept c p t q sent b doers numbers parcels → IsKept c p (t ++ fact.Got n ∷ []) q sent new doers numbers after
kept_got c p t q sent b new doers numbers parcels after n r above is posted fresh e k = record {
  pulled_is = k.pulled_is;
  first_is = k.first_is;
  queue_is = queued_same c t q sent (fact.Got n) refl refl refl k.queue_is;
  states_are = states_as c (t ++ fact.Got n ∷ []) new b.states (asked_by r b.seats) e (states_same c t b.states (fact.Got n) refl (λ e. refl) k.states_are);
  seats_are = seats_as (t ++ fact.Got n ∷ []) new b.states (asked_by r b.seats) e (seats_got c t b.seats n r is (known_there c t parcels n r above is k.parcels_are) k.seats_are);
  doers_are = doers_same c t doers (fact.Got n) (λ e. refl) k.doers_are;
  numbers_are = numbers_same t numbers (fact.Got n) (λ n. refl) k.numbers_are;
  parcels_are = posted_got c t parcels after n posted fresh k.parcels_are;
}

-- room was made for an entry
pub kept_reserved : (c : Script) (p : ℕ) (t : List Fact) (q new : Queue) (sent : ℕ) (b : Board) (doers : List (List Incarnation)) (numbers : List ℕ) (parcels : Parcels) → new.script ≡ q.script → new.producer ≡ q.producer → new.entries ≡ q.entries → IsKept c p t q sent b doers numbers parcels → IsKept c p t new sent b doers numbers parcels
kept_reserved c p t q new sent b doers numbers parcels script producer entries k = record {
  pulled_is = k.pulled_is;
  first_is = k.first_is;
  queue_is = queued_reserved c t q new sent script producer entries k.queue_is;
  states_are = k.states_are;
  seats_are = k.seats_are;
  doers_are = k.doers_are;
  numbers_are = k.numbers_are;
  parcels_are = k.parcels_are;
}

-- the producer begins to run
pub kept_granted : (c : Script) (p : ℕ) (t : List Fact) (q new : Queue) (sent : ℕ) (b mid after : Board) (doers : List (List Incarnation)) (numbers : List ℕ) (parcels : Parcels) (n : ℕ) (x : Incarnation)
    → new.script ≡ q.script → new.producer ≡ q.producer → new.entries ≡ q.entries ++ fact.Granted (slot.Queue q.producer) n x ∷ [] → mid ≡ record { states = map freed b.states; seats = b.seats } → after ≡ record { states = mid.states; seats = map not_asking mid.seats }
    → IsKept c p t q sent b doers numbers parcels → IsKept c p (t ++ fact.Granted (slot.Queue p) n x ∷ []) new sent after doers numbers parcels
kept_granted c p t q new sent b mid after doers numbers parcels n x script producer entries freed_is asked_is k = subst P (sym k.first_is) (record {
  pulled_is = k.pulled_is;
  first_is = k.first_is;
  queue_is = queued_entry c t q new sent f refl refl refl (λ n. refl) (λ e l. refl) script producer (entries ∙ ap (λ m. q.entries ++ fact.Granted (slot.Queue m) n x ∷ []) k.queue_is.producer_is) k.queue_is;
  states_are = states_as c (t ++ f ∷ []) after (map freed b.states) (map not_asking b.seats) is (states_freed c t b.states f refl (λ e l. refl) (λ e n. refl) (λ e. refl) k.states_are);
  seats_are = seats_as (t ++ f ∷ []) after (map freed b.states) (map not_asking b.seats) is (seats_granted t b.seats (slot.Queue 1) n x k.seats_are);
  doers_are = doers_same c t doers f (λ e. refl) k.doers_are;
  numbers_are = numbers_same t numbers f (λ n. refl) k.numbers_are;
  parcels_are = posted_same c t parcels f refl refl (λ n. itself (last_number n t)) (itself (length (jobs t))) k.parcels_are;
})
  where
    f : Fact
    f = fact.Granted (slot.Queue 1) n x

    P : ℕ → Type 0
    P m = IsKept c p (t ++ fact.Granted (slot.Queue m) n x ∷ []) new sent after doers numbers parcels

    is : after ≡ record { states = map freed b.states; seats = map not_asking b.seats }
    is = asked_is ∙ ap (λ (m : Board). record { states = m.states; seats = map not_asking m.seats }) freed_is

-- the producer rests
pub kept_freed : (c : Script) (p : ℕ) (t : List Fact) (q new : Queue) (sent : ℕ) (b after : Board) (doers : List (List Incarnation)) (numbers : List ℕ) (parcels : Parcels) (n : ℕ)
    → new.script ≡ q.script → new.producer ≡ q.producer → new.entries ≡ q.entries ++ fact.Freed (slot.Queue q.producer) n cause.Released ∷ [] → after ≡ record { states = map freed b.states; seats = b.seats }
    → IsKept c p t q sent b doers numbers parcels → IsKept c p (t ++ fact.Freed (slot.Queue p) n cause.Released ∷ []) new sent after doers numbers parcels
kept_freed c p t q new sent b after doers numbers parcels n script producer entries freed_is k = subst P (sym k.first_is) (record {
  pulled_is = k.pulled_is;
  first_is = k.first_is;
  queue_is = queued_entry c t q new sent f refl refl refl (λ n. refl) (λ e l. refl) script producer (entries ∙ ap (λ m. q.entries ++ fact.Freed (slot.Queue m) n cause.Released ∷ []) k.queue_is.producer_is) k.queue_is;
  states_are = states_as c (t ++ f ∷ []) after (map freed b.states) b.seats freed_is (states_freed c t b.states f refl (λ e l. refl) (λ e n. refl) (λ e. refl) k.states_are);
  seats_are = seats_as (t ++ f ∷ []) after (map freed b.states) b.seats freed_is (seats_same t b.seats f refl (λ n. refl) refl k.seats_are);
  doers_are = doers_same c t doers f (λ e. refl) k.doers_are;
  numbers_are = numbers_same t numbers f (λ n. refl) k.numbers_are;
  parcels_are = posted_same c t parcels f refl refl (λ n. itself (last_number n t)) (itself (length (jobs t))) k.parcels_are;
})
  where
    f : Fact
    f = fact.Freed (slot.Queue 1) n cause.Released

    P : ℕ → Type 0
    P m = IsKept c p (t ++ fact.Freed (slot.Queue m) n cause.Released ∷ []) new sent after doers numbers parcels

-- a job waits
pub kept_waits : (c : Script) (p : ℕ) (t : List Fact) (q : Queue) (sent : ℕ) (b : Board) (doers : List (List Incarnation)) (numbers : List ℕ) (parcels : Parcels) (e : List ℕ) (d : Command)
    → slice_get (sends c 1) (length (jobs t) + length (waiting t)) ≡ Some (first_of e d) → IsKept c p t q sent b doers numbers parcels → IsKept c p (t ++ fact.Waits p e d ∷ []) q (sent + 1) b doers numbers parcels
kept_waits c p t q sent b doers numbers parcels e d next k = subst P (sym k.first_is) (record {
  pulled_is = k.pulled_is;
  first_is = k.first_is;
  queue_is = queued_waits c t q sent e d next k.queue_is;
  states_are = states_same c t b.states f refl (λ e. refl) k.states_are;
  seats_are = seats_same t b.seats f refl (λ n. refl) refl k.seats_are;
  doers_are = doers_same c t doers f (λ e. refl) k.doers_are;
  numbers_are = numbers_same t numbers f (λ n. refl) k.numbers_are;
  parcels_are = posted_same c t parcels f refl refl (λ n. itself (last_number n t)) (itself (length (jobs t))) k.parcels_are;
})
  where
    f : Fact
    f = fact.Waits 1 e d

    P : ℕ → Type 0
    P m = IsKept c p (t ++ fact.Waits m e d ∷ []) q (sent + 1) b doers numbers parcels

-- the next job is queued
kept_next : (c : Script) (p : ℕ) (t : List Fact) (q new : Queue) (sent now : ℕ) (b after : Board) (doers : List (List Incarnation)) (numbers : List ℕ) (parcels : Parcels) (e : List ℕ) (d : Command)
    → slice_get (sends c 1) (length (jobs t)) ≡ Some (first_of e d) → IsQueued c (t ++ fact.Queued 1 e 1 d ∷ []) new now → after ≡ record { states = set b.states (length (jobs t)) state.Free; seats = b.seats }
    → IsKept c p t q sent b doers numbers parcels → IsKept c p (t ++ fact.Queued 1 e 1 d ∷ []) new now after doers numbers parcels
kept_next c p t q new sent now b after doers numbers parcels e d next queue_new is k = record {
  pulled_is = k.pulled_is;
  first_is = k.first_is;
  queue_is = queue_new;
  states_are = states_as c (t ++ f ∷ []) after (set b.states n state.Free) b.seats is (subst (λ y. AreStates c (t ++ fact.Queued 1 y 1 d ∷ []) (set b.states n state.Free)) (name_is c n (first_of e d) next)
      (states_queued c t b.states n d k.pulled_is here (unqueued_above c t q sent k.pulled_is k.queue_is n (itself n) here) k.states_are));
  seats_are = seats_as (t ++ f ∷ []) after (set b.states n state.Free) b.seats is (seats_same t b.seats f refl (λ n. refl) refl k.seats_are);
  doers_are = doers_same c t doers f (λ e. refl) k.doers_are;
  numbers_are = numbers_same t numbers f (λ n. refl) k.numbers_are;
  parcels_are = posted_same c t parcels f refl refl (λ n. itself (last_number n t)) (pushed (jobs t) (first_of e d)) k.parcels_are;
}
  where
    n : ℕ
    n = length (jobs t)

    f : Fact
    f = fact.Queued 1 e 1 d

    here : length (jobs t) < length (sends c 1)
    here = got_below (sends c 1) (length (jobs t)) (first_of e d) next

-- the place of the next job in the queue
pub place_is : (c : Script) (t : List Fact) (q : Queue) (sent : ℕ) → IsQueued c t q sent → queued_in_all q.entries ≡ length (jobs t)
place_is c t q sent k = ap queued_in_all k.entries_are ∙ k.total_is

-- what the queue takes next
next_of : (c : Script) (t : List Fact) (q : Queue) (sent : ℕ) (r : Sending) → slice_get (sends q.script q.producer) (queued_in_all q.entries) ≡ Some r → IsQueued c t q sent → slice_get (sends c 1) (length (jobs t)) ≡ Some r
next_of c t q sent r next k = sym (ap (λ d. slice_get (sends d q.producer) (queued_in_all q.entries)) k.script_is ∙ (ap (λ m. slice_get (sends c m) (queued_in_all q.entries)) k.producer_is ∙ ap (slice_get (sends c 1)) (place_is c t q sent k))) ∙ next

no_more : (n : ℕ) → n + 0 ≡ n
no_more n = omega arith

pub all_sent : (c : Script) (t : List Fact) (q : Queue) (sent : ℕ) → waiting t ≡ [] → IsQueued c t q sent → length (jobs t) ≡ sent
all_sent c t q sent none k = sym (no_more (length (jobs t))) ∙ (ap (λ (w : List Sending). length (jobs t) + length w) (sym none) ∙ sent_long c t q sent k)

pub kept_sent : (c : Script) (p : ℕ) (t : List Fact) (q new : Queue) (sent : ℕ) (b after : Board) (doers : List (List Incarnation)) (numbers : List ℕ) (parcels : Parcels) (e : List ℕ) (d : Command) (r : Sending)
    → waiting t ≡ [] → slice_get (sends c 1) (length (jobs t) + length (waiting t)) ≡ Some (first_of e d) → slice_get (sends q.script q.producer) (queued_in_all q.entries) ≡ Some r
    → new.script ≡ q.script → new.producer ≡ q.producer → new.entries ≡ q.entries ++ fact.Queued q.producer r.entity r.number r.command ∷ [] → after ≡ record { states = set b.states sent state.Free; seats = b.seats }
    → IsKept c p t q sent b doers numbers parcels → IsKept c p (t ++ fact.Queued p e 1 d ∷ []) new (sent + 1) after doers numbers parcels
kept_sent c p t q new sent b after doers numbers parcels e d r none next taken script producer entries is k = subst P (sym k.first_is)
    (kept_next c p t q new sent (sent + 1) b after doers numbers parcels e d here
    (queued_sent c t q new sent e d none next script producer (entries ∙ (ap (λ m. q.entries ++ fact.Queued m r.entity r.number r.command ∷ []) k.queue_is.producer_is ∙ ap (λ (s : Sending). q.entries ++ fact.Queued 1 s.entity s.number s.command ∷ []) same)) k.queue_is)
    (is ∙ ap (λ n. record { states = set b.states n state.Free; seats = b.seats }) (sym (all_sent c t q sent none k.queue_is))) k)
  where
    P : ℕ → Type 0
    P m = IsKept c p (t ++ fact.Queued m e 1 d ∷ []) new (sent + 1) after doers numbers parcels

    here : slice_get (sends c 1) (length (jobs t)) ≡ Some (first_of e d)
    here = ap (slice_get (sends c 1)) (sym (ap (λ (w : List Sending). length (jobs t) + length w) none ∙ no_more (length (jobs t)))) ∙ next

    same : r ≡ first_of e d
    same = some_is r (first_of e d) (sym (next_of c t q sent r taken k.queue_is) ∙ here)

pub kept_queued : (c : Script) (p : ℕ) (t : List Fact) (q new : Queue) (sent place : ℕ) (b after : Board) (doers : List (List Incarnation)) (numbers : List ℕ) (parcels : Parcels) (j : Sending) (left : List Sending) (r : Sending)
    → waiting t ≡ j ∷ left → slice_get (sends q.script q.producer) (queued_in_all q.entries) ≡ Some r → place ≡ length (jobs t)
    → new.script ≡ q.script → new.producer ≡ q.producer → new.entries ≡ q.entries ++ fact.Queued q.producer r.entity r.number r.command ∷ [] → after ≡ record { states = set b.states place state.Free; seats = b.seats }
    → IsKept c p t q sent b doers numbers parcels → IsKept c p (t ++ fact.Queued p j.entity 1 j.command ∷ []) new sent after doers numbers parcels
kept_queued c p t q new sent place b after doers numbers parcels j left r waits taken at script producer entries is k = subst P (sym k.first_is)
    (kept_next c p t q new sent sent b after doers numbers parcels j.entity j.command (here ∙ ap with_number one)
    (queued_waited c t q new sent j left waits one script producer (entries ∙ (ap (λ m. q.entries ++ fact.Queued m r.entity r.number r.command ∷ []) k.queue_is.producer_is ∙ (ap (λ (s : Sending). q.entries ++ fact.Queued 1 s.entity s.number s.command ∷ []) same ∙ ap (λ n. q.entries ++ fact.Queued 1 j.entity n j.command ∷ []) one))) k.queue_is)
    (is ∙ ap (λ n. record { states = set b.states n state.Free; seats = b.seats }) at) k)
  where
    P : ℕ → Type 0
    P m = IsKept c p (t ++ fact.Queued m j.entity 1 j.command ∷ []) new sent after doers numbers parcels

    with_number : ℕ → Option Sending
    with_number n = Some (record { entity = j.entity; number = n; command = j.command })

    here : slice_get (sends c 1) (length (jobs t)) ≡ Some j
    here = next_waits c t q sent j left k.queue_is waits

    one : j.number ≡ 1
    one = number_one c k.pulled_is (length (jobs t)) j here

    same : r ≡ j
    same = some_is r j (sym (next_of c t q sent r taken k.queue_is) ∙ here)

-- a job is given to a worker
pub kept_given : (c : Script) (p : ℕ) (t : List Fact) (q : Queue) (sent : ℕ) (b after : Board) (doers : List (List Incarnation)) (numbers : List ℕ) (parcels : Parcels) (n : ℕ) (x : Incarnation) → n < length (jobs t) → is_free (name_at c n) t ≡ true
    → after ≡ record { states = set b.states n (state.Given x); seats = b.seats } → IsKept c p t q sent b doers numbers parcels → IsKept c p (t ++ fact.Given (name_at c n) x ∷ []) q sent after doers numbers parcels
kept_given c p t q sent b after doers numbers parcels n x lt free is k = record {
  pulled_is = k.pulled_is;
  first_is = k.first_is;
  queue_is = queued_same c t q sent f refl refl refl k.queue_is;
  states_are = states_as c (t ++ f ∷ []) after (set b.states n (state.Given x)) b.seats is (states_given c t b.states n x k.pulled_is (less n (length (jobs t)) (length (sends c 1)) lt (jobs_few c t q sent k.queue_is)) free k.states_are);
  seats_are = seats_as (t ++ f ∷ []) after (set b.states n (state.Given x)) b.seats is (seats_same t b.seats f refl (λ n. refl) refl k.seats_are);
  doers_are = doers_same c t doers f (λ e. refl) k.doers_are;
  numbers_are = numbers_same t numbers f (λ n. refl) k.numbers_are;
  parcels_are = posted_same c t parcels f refl refl (λ n. itself (last_number n t)) (itself (length (jobs t))) k.parcels_are;
}
  where
    f : Fact
    f = fact.Given (name_at c n) x

    less : (i a m : ℕ) → i < a → a ≤ m → i < m
    less i a m l le = omega (arith, l, le)

-- a worker has done a job
pub kept_did : (c : Script) (p : ℕ) (t : List Fact) (q : Queue) (sent : ℕ) (b : Board) (doers after : List (List Incarnation)) (numbers : List ℕ) (parcels : Parcels) (n : ℕ) (x : Incarnation) → n < length (jobs t)
    → after ≡ set doers n (get_or doers n [] ++ x ∷ []) → IsKept c p t q sent b doers numbers parcels → IsKept c p (t ++ fact.Did x (name_at c n) ∷ []) q sent b after numbers parcels
kept_did c p t q sent b doers after numbers parcels n x lt is k = record {
  pulled_is = k.pulled_is;
  first_is = k.first_is;
  queue_is = queued_same c t q sent f refl refl refl k.queue_is;
  states_are = states_same c t b.states f refl (λ e. refl) k.states_are;
  seats_are = seats_same t b.seats f refl (λ n. refl) refl k.seats_are;
  doers_are = is ∙ doers_did c t doers n x k.pulled_is (less n (length (jobs t)) (length (sends c 1)) lt (jobs_few c t q sent k.queue_is)) k.doers_are;
  numbers_are = numbers_same t numbers f (λ n. refl) k.numbers_are;
  parcels_are = posted_same c t parcels f refl refl (λ n. itself (last_number n t)) (itself (length (jobs t))) k.parcels_are;
}
  where
    f : Fact
    f = fact.Did x (name_at c n)

    less : (i a m : ℕ) → i < a → a ≤ m → i < m
    less i a m l le = omega (arith, l, le)

-- a job is confirmed
pub kept_confirmed : (c : Script) (p : ℕ) (t : List Fact) (q new : Queue) (sent : ℕ) (b after : Board) (doers : List (List Incarnation)) (numbers : List ℕ) (parcels : Parcels) (n : ℕ) → n < length (jobs t)
    → new.script ≡ q.script → new.producer ≡ q.producer → new.entries ≡ q.entries ++ fact.Confirmed q.producer (name_at c n) 1 ∷ [] → after ≡ record { states = set b.states n state.Confirmed; seats = b.seats }
    → IsKept c p t q sent b doers numbers parcels → IsKept c p (t ++ fact.Confirmed p (name_at c n) 1 ∷ []) new sent after doers numbers parcels
kept_confirmed c p t q new sent b after doers numbers parcels n lt script producer entries is k = subst P (sym k.first_is) (record {
  pulled_is = k.pulled_is;
  first_is = k.first_is;
  queue_is = queued_entry c t q new sent f refl refl refl (λ n. refl) (λ e l. refl) script producer (entries ∙ ap (λ m. q.entries ++ fact.Confirmed m (name_at c n) 1 ∷ []) k.queue_is.producer_is) k.queue_is;
  states_are = states_as c (t ++ f ∷ []) after (set b.states n state.Confirmed) b.seats is (states_confirmed c t b.states n k.pulled_is (less n (length (jobs t)) (length (sends c 1)) lt (jobs_few c t q sent k.queue_is)) (queued_below c t q sent k.queue_is n lt) k.states_are);
  seats_are = seats_as (t ++ f ∷ []) after (set b.states n state.Confirmed) b.seats is (seats_same t b.seats f refl (λ n. refl) refl k.seats_are);
  doers_are = doers_same c t doers f (λ e. refl) k.doers_are;
  numbers_are = numbers_same t numbers f (λ n. refl) k.numbers_are;
  parcels_are = posted_same c t parcels f refl refl (λ n. itself (last_number n t)) (itself (length (jobs t))) k.parcels_are;
})
  where
    f : Fact
    f = fact.Confirmed 1 (name_at c n) 1

    P : ℕ → Type 0
    P m = IsKept c p (t ++ fact.Confirmed m (name_at c n) 1 ∷ []) new sent after doers numbers parcels

    less : (i a m : ℕ) → i < a → a ≤ m → i < m
    less i a m l le = omega (arith, l, le)

-- a packet is posted
pub kept_posted : (c : Script) (p : ℕ) (t : List Fact) (q : Queue) (sent : ℕ) (b : Board) (doers : List (List Incarnation)) (numbers : List ℕ) (parcels after : Parcels) (r : Parcel) → after.posted ≡ parcels.posted ++ r ∷ [] → after.fresh ≡ parcels.fresh ++ (length parcels.posted + 1) ∷ [] → IsKnown t r
    → IsKept c p t q sent b doers numbers parcels → IsKept c p (t ++ parcel_fact c (length parcels.posted + 1) r ∷ []) q sent b doers numbers after
kept_posted c p t q sent b doers numbers parcels after r posted fresh known k = by r refl
  where
    n : ℕ
    n = length parcels.posted + 1

    whole : (f : Fact) → parcel_fact c (length parcels.posted + 1) r ≡ f → queue_step (queue t) f ≡ queue t → jobs_step (jobs t) f ≡ jobs t → waiting_step (waiting t) f ≡ waiting t → ((e : List ℕ) → given_step e (given e t) f ≡ given e t)
        → members_step (members t) f ≡ members t → ((m : ℕ) → number_step m (last_number m t) f ≡ last_number m t) → (asking_step (asks_of t) f).asked ≡ (asks_of t).asked → ((e : List ℕ) → doer_of e f ≡ []) → IsKept c p (t ++ f ∷ []) q sent b doers numbers after
    whole f is qe je we ge me ne ae de = record {
      pulled_is = k.pulled_is;
      first_is = k.first_is;
      queue_is = queued_same c t q sent f qe je we k.queue_is;
      states_are = states_same c t b.states f qe ge k.states_are;
      seats_are = seats_same t b.seats f me ne ae k.seats_are;
      doers_are = doers_same c t doers f de k.doers_are;
      numbers_are = numbers_same t numbers f ne k.numbers_are;
      parcels_are = subst (λ g. ArePosted c (t ++ g ∷ []) after) is (posted_more c t parcels after r posted fresh known k.parcels_are);
    }

    P : Fact → Type 0
    P f = IsKept c p (t ++ f ∷ []) q sent b doers numbers after

    by : (s : Parcel) → r ≡ s → IsKept c p (t ++ parcel_fact c (length parcels.posted + 1) r ∷ []) q sent b doers numbers after
    by (parcel.Ask x) e = let is : parcel_fact c n r ≡ parcel_fact c n (parcel.Ask x) = ap (parcel_fact c n) e in subst P (sym is) (whole (parcel_fact c n (parcel.Ask x)) is refl refl refl (λ e. refl) refl (λ m. refl) refl (λ e. refl))
    by (parcel.Job x i) e = let is : parcel_fact c n r ≡ parcel_fact c n (parcel.Job x i) = ap (parcel_fact c n) e in subst P (sym is) (whole (parcel_fact c n (parcel.Job x i)) is refl refl refl (λ e. refl) refl (λ m. refl) refl (λ e. refl))
    by (parcel.Done x i) e = let is : parcel_fact c n r ≡ parcel_fact c n (parcel.Done x i) = ap (parcel_fact c n) e in subst P (sym is) (whole (parcel_fact c n (parcel.Done x i)) is refl refl refl (λ e. refl) refl (λ m. refl) refl (λ e. refl))

-- Before the first fact.

same_each : {A B : Type 0} (v : B) (xs : List A) (n : ℕ) → n ≡ length xs → replicate n v ≡ map (λ (x : A). v) xs
same_each v xs n e = ap (λ m. replicate m v) e ∙ each v xs
  where
    each : {A B : Type 0} (v : B) (xs : List A) → replicate (length xs) v ≡ map (λ (x : A). v) xs
    each v [] = refl
    each v (x ∷ xs) = ap (λ l. v ∷ l) (each v xs)

numbers_at : (n i : ℕ) → get_or {A = ℕ} (replicate n 0) i 0 ≡ 0
numbers_at zero i = refl
numbers_at (suc n) zero = refl
numbers_at (suc n) (suc i) = numbers_at n i

pub kept_none : (c : Script) (p : ℕ) (q : Queue) (count : ℕ) (b : Board) (doers : List (List Incarnation)) (parcels : Parcels) → IsPulled c → p ≡ 1 → q.script ≡ c → q.producer ≡ p → q.entries ≡ [] → count ≡ length (sends c 1)
    → b ≡ record { states = replicate count state.Unqueued; seats = [] } → doers ≡ replicate count [] → parcels ≡ record { posted = []; fresh = [] } → IsKept c p [] q 0 b doers (replicate 16 0) parcels
kept_none c p q count b doers parcels is first script producer entries many board none parcel_none = record {
  pulled_is = is;
  first_is = first;
  queue_is = record { script_is = script; producer_is = producer ∙ first; entries_are = entries; sent_is = least (length (sends c 1)); all_are = refl; total_is = refl; queued_are = λ e. refl };
  states_are = states_none c b.states (ap (λ (x : Board). x.states) board ∙ same_each state.Unqueued (names_of c) count (many ∙ sym (names_long c)));
  seats_are = record { seats_are = ap (λ (x : Board). x.seats) board; came = λ x a. absurd (true_is_not_false (sym a)); asked_came = λ x a. absurd (true_is_not_false (sym a)) };
  doers_are = none ∙ same_each [] (names_of c) count (many ∙ sym (names_long c));
  numbers_are = record { long = refl; numbers_are = λ n a b. numbers_at 16 (n - 1) };
  parcels_are = posted_none c parcels (ap (λ (x : Parcels). x.posted) parcel_none) (ap (λ (x : Parcels). x.fresh) parcel_none);
}
  where
    least : (n : ℕ) → 0 ≤ n
    least n = omega arith

-- What is seen of one fact more.

abbrev pub seen_of : Script → List Fact → Bool → Cluster
seen_of c t full = record { script = c; pulling = told_of c t full }

pub told_leads : (c : Script) (t new : List Fact) (full : Bool) (f : Fact) (old : Cluster) (before after : List Fact) → seen_of c t full ≡ old → new ≡ t ++ f ∷ [] → after ≡ before ++ f ∷ [] → Leads (tell f) old (seen_of c new full) before after
told_leads c t new full f old before after seen told out = record {
  new_is = ap (λ (l : List Fact). seen_of c l full) told ∙ ap (λ (k : Cluster). record { script = k.script; pulling = tell f k.pulling }) seen;
  facts = f ∷ [];
  told_is = refl;
  out_is = out;
}

-- a packet past the limit isn't posted
pub full_leads : (c : Script) (t : List Fact) (full : Bool) (f : ℕ → Fact) (p : Parcels) (old : Cluster) (out : List Fact) → seen_of c t full ≡ old → ArePosted c t p → wire_limit ≤ length p.posted → Leads (post f) old (seen_of c t true) out out
full_leads c t full f p old out seen posted past = subst (λ (k : Cluster). Leads (post f) k (seen_of c t true) out out) seen (record {
  new_is = ap (λ (s : Pulling). record { script = c; pulling = s }) (sym post_is);
  facts = [];
  told_is = ap (λ (s : Pulling). s.told) post_is ∙ sym (append-nil t);
  out_is = sym (append-nil out);
})
  where
    s : Pulling
    s = told_of c t full

    beyond : (n : ℕ) → wire_limit ≤ n → nat_le (n + 1) wire_limit ≡ false
    beyond n le = grind (arith, nat_tests, le)

    post_is : post f s ≡ told_of c t true
    post_is = ap (λ b. if b then tell (f (length (wire t) + 1)) s else record s { full = true }) (ap (λ n. nat_le n wire_limit) (next_number c t p posted) ∙ beyond (length p.posted) past)

pub post_leads : (c : Script) (t new : List Fact) (full : Bool) (r : Parcel) (p : Parcels) (old : Cluster) (before after : List Fact) → seen_of c t full ≡ old → ArePosted c t p → length p.posted < wire_limit
    → new ≡ t ++ parcel_fact c (length p.posted + 1) r ∷ [] → after ≡ before ++ parcel_fact c (length p.posted + 1) r ∷ [] → Leads (post (λ k. parcel_fact old.script k r)) old (seen_of c new full) before after
post_leads c t new full r p old before after seen posted few told out = subst (λ (k : Cluster). Leads (post (λ n. parcel_fact k.script n r)) k (seen_of c new full) before after) seen (record {
  new_is = ap (λ (l : List Fact). seen_of c l full) told ∙ ap (λ (s : Pulling). record { script = c; pulling = s }) (sym post_is);
  facts = parcel_fact c (length p.posted + 1) r ∷ [];
  told_is = ap (λ (s : Pulling). s.told) post_is;
  out_is = out;
})
  where
    s : Pulling
    s = told_of c t full

    f : ℕ → Fact
    f n = parcel_fact c n r

    inside : (n : ℕ) → n < wire_limit → nat_le (n + 1) wire_limit ≡ true
    inside n lt = grind (arith, nat_tests, lt)

    post_is : post (λ n. parcel_fact c n r) s ≡ told_of c (t ++ parcel_fact c (length p.posted + 1) r ∷ []) full
    post_is =
        ap (λ n. if nat_le n wire_limit then tell (parcel_fact c n r) s else record s { full = true }) (next_number c t p posted)
        ∙ ap (λ b. if b then tell (parcel_fact c (length p.posted + 1) r) s else record s { full = true }) (inside (length p.posted) few)

-- a packet that may be posted is known
pub known_of : (t : List Fact) (seats : List Seat) (r : Parcel) → AreSeats t seats → MayPost t r → IsKnown t r
known_of t seats (parcel.Ask x) k h = k.came x h
known_of t seats (parcel.Job x i) k h = h
known_of t seats (parcel.Done x i) k h = h

pub jobs_of : (t : List Fact) (r : Parcel) → MayPost t r → IsOfJobs t r
jobs_of t (parcel.Ask x) h = tt
jobs_of t (parcel.Job x i) h = h
jobs_of t (parcel.Done x i) h = h

pub leads_as : (p q : Step) (a b : Cluster) (x y : List Fact) → p a.pulling ≡ q a.pulling → Leads p a b x y → Leads q a b x y
leads_as p q a b x y e l =
    let with_pulling : Pulling → Cluster = λ s. record { script = a.script; pulling = s } in
    record { new_is = l.new_is ∙ ap with_pulling e; facts = l.facts; told_is = ap (λ s. s.told) (sym e) ∙ l.told_is; out_is = l.out_is }

-- What the queue and the board are asked for.

-- one send more is counted
pub sent_fits : (c : Script) (t : List Fact) (q : Queue) (sent : ℕ) (e : List ℕ) (d : Command) → IsPulled c → IsQueued c t q sent → slice_get (sends c 1) (length (jobs t) + length (waiting t)) ≡ Some (first_of e d) → sent + 1 < 18446744073709551616
sent_fits c t q sent e d is k next = fits sent (length (sends c 1)) (length c.orders) (got_below (sends c 1) sent (first_of e d) (ap (slice_get (sends c 1)) (sym (sent_long c t q sent k)) ∙ next)) (sends_few 1 c.orders) is.script.fits
  where
    fits : (a n m : ℕ) → a < n → n ≤ m → m ≤ 3000000 → a + 1 < 18446744073709551616
    fits a n m f g h = omega (arith, f, g, h)

-- where none waits the next send has the place of the next job
pub sent_here : (c : Script) (t : List Fact) (q : Queue) (sent : ℕ) (e : List ℕ) (d : Command) → IsQueued c t q sent → waiting t ≡ [] → slice_get (sends c 1) (length (jobs t) + length (waiting t)) ≡ Some (first_of e d) → (length (jobs t) < length (sends c 1)) × (sent < length (sends c 1))
sent_here c t q sent e d k none next =
    let lt : sent < length (sends c 1) = got_below (sends c 1) sent (first_of e d) (ap (slice_get (sends c 1)) (sym (sent_long c t q sent k)) ∙ next) in
    (subst (λ n. n < length (sends c 1)) (sym (all_sent c t q sent none k)) lt, lt)

pub queue_left : (c : Script) (t : List Fact) (q : Queue) (sent : ℕ) → IsQueued c t q sent → length (jobs t) < length (sends c 1) → queued_in_all q.entries < length (sends q.script q.producer)
queue_left c t q sent k lt = subst (λ n. n < length (sends q.script q.producer)) (sym (place_is c t q sent k)) (subst (λ (d : Script). length (jobs t) < length (sends d q.producer)) (sym k.script_is) (subst (λ p. length (jobs t) < length (sends c p)) (sym k.producer_is) lt))

-- the next job isn't queued yet
pub next_unqueued : (c : Script) (t : List Fact) (q : Queue) (sent : ℕ) (states : List JobState) (n : ℕ) → IsPulled c → IsQueued c t q sent → AreStates c t states → n ≡ length (jobs t) → n < length (sends c 1) → state_at states n ≡ state.Unqueued
next_unqueued c t q sent states n is k s e lt = unqueued_at c t states n s lt (unqueued_above c t q sent is k n (subst (λ m. m ≤ n) e (itself n)) lt)

-- one job of those that wait
pub waited_here : (c : Script) (t : List Fact) (q : Queue) (sent : ℕ) → IsQueued c t q sent → 0 < length (waiting t) → length (jobs t) < length (sends c 1)
waited_here c t q sent k some = less (length (jobs t)) (length (waiting t)) sent (length (sends c 1)) (sent_long c t q sent k) some k.sent_is
  where
    less : (a b n m : ℕ) → a + b ≡ n → 0 < b → n ≤ m → a < m
    less a b n m e f g = omega (arith, e, f, g)

pub job_here : (c : Script) (t : List Fact) (q : Queue) (sent n : ℕ) → IsQueued c t q sent → n < length (jobs t) → n < length (sends c 1)
job_here c t q sent n k lt = less n (length (jobs t)) (length (sends c 1)) lt (jobs_few c t q sent k)
  where
    less : (i a m : ℕ) → i < a → a ≤ m → i < m
    less i a m l le = omega (arith, l, le)

-- how many jobs a worker has fits
pub load_fits : (c : Script) (t : List Fact) (states : List JobState) (x : Incarnation) → IsPulled c → AreStates c t states → load_of x states < 4294967295
load_fits c t states x is k = fits (load_of x states) (length states) (length (sends c 1)) (length c.orders) (count_by-le-length (is_given_to x) states) (states_long c t states k) (sends_few 1 c.orders) is.script.fits
  where
    fits : (a n s m : ℕ) → a ≤ n → n ≡ s → s ≤ m → m ≤ 3000000 → a < 4294967295
    fits a n s m f e g h = omega (arith, f, e, g, h)

-- a job that is queued and not confirmed may be confirmed
pub confirm_words : (c : Script) (t : List Fact) (q : Queue) (sent n : ℕ) → IsQueued c t q sent → n < length (jobs t) → is_confirmed (name_at c n) t ≡ false → (1 ≤ queued (name_at c n) q.entries) × (confirmed (name_at c n) q.entries < 1)
confirm_words c t q sent n k lt lacks = (
  subst (λ l. 1 ≤ queued (name_at c n) l) (sym k.entries_are) (at_least (queued (name_at c n) (queue t)) (queued_below c t q sent k n lt)),
  subst (λ l. confirmed (name_at c n) l < 1) (sym k.entries_are) (none_yet (confirmed (name_at c n) (queue t)) lacks),
)
  where
    at_least : (m : ℕ) → nat_lt 0 m ≡ true → 1 ≤ m
    at_least m e = by m (below 0 m e)
      where
        by : (m : ℕ) → 0 < m → 1 ≤ m
        by m h = omega (arith, h)

    none_yet : (m : ℕ) → nat_lt 0 m ≡ false → m < 1
    none_yet m e = by m (not_below 0 m e)
      where
        by : (m : ℕ) → m ≤ 0 → m < 1
        by m h = omega (arith, h)

-- producer 1 is one of the script's
third : (a b c d e f g : Bool) → (a && b && c && d && e && f && g) ≡ true → c ≡ true
third a b c d e f g h = (and_both (a && b) c (and_both (a && b && c) d (and_both (a && b && c && d) e (and_both (a && b && c && d && e) f (and_both (a && b && c && d && e && f) g h).0).0).0).0).1

pub first_producer : (c : Script) (p : ℕ) → p ≡ 1 → IsPulled c → is_producer c p ≡ true
first_producer c p e is =
    let n : ℕ = c.config.producers in
    ap (is_producer c) e ∙ (and_both (nat_le 1 n) (nat_le n 32)
    (third (is_in 1 16 c.config.nodes) (is_in 1 128 c.config.shards) (is_in 1 32 n) (is_in 1 1000 c.config.buffer) (is_in 1 64 c.config.window) (is_in 1 10000 c.config.snapshot) (is_in 1 10 c.config.keep) is.script.config)).0

-- The first job that waits.

-- what was read at its place
pub read_is : (c : Script) (t : List Fact) (q : Queue) (sent : ℕ) (l : List Sending) (i : ℕ) (j : Sending) → IsQueued c t q sent → 0 < length (waiting t) → l ≡ sends c 1 → i ≡ length (jobs t) → j ≡ get_or l i j → slice_get (sends c 1) (length (jobs t)) ≡ Some j
read_is c t q sent l i j k some all at e =
    got_is (sends c 1) (length (jobs t)) j (waited_here c t q sent k some) ∙ ap Some (sym (e ∙ (ap (λ (m : List Sending). get_or m i j) all ∙ ap (λ n. get_or (sends c 1) n j) at)))

pub waiting_is : (c : Script) (t : List Fact) (q : Queue) (sent : ℕ) (j : Sending) → IsQueued c t q sent → 0 < length (waiting t) → slice_get (sends c 1) (length (jobs t)) ≡ Some j → (left : List Sending) × (waiting t ≡ j ∷ left)
waiting_is c t q sent j k some here = by (waiting t) refl
  where
    none_below : 0 < 0 → ⊥
    none_below lt = omega (arith, lt)

    by : (ws : List Sending) → waiting t ≡ ws → (left : List Sending) × (waiting t ≡ j ∷ left)
    by [] e = absurd (none_below (subst (λ (w : List Sending). 0 < length w) e some))
    by (i ∷ left) e = (left, e ∙ ap (λ (s : Sending). s ∷ left) (some_is i j (sym (next_waits c t q sent i left k e) ∙ here)))

pub first_is : (c : Script) (t : List Fact) (q : Queue) (sent : ℕ) (i j : Sending) (left : List Sending) → IsQueued c t q sent → slice_get (sends c 1) (length (jobs t)) ≡ Some i → waiting t ≡ j ∷ left → i ≡ j
first_is c t q sent i j left k here e = some_is i j (sym here ∙ next_waits c t q sent j left k e)

-- What is read.

pub found_up : (n : ℕ) (ms : List Incarnation) (r : Option Incarnation) → r ≡ find (λ (x : Incarnation). x.node == n) ms → IfSome r (λ x. is_among x ms ≡ true)
found_up n ms None e = tt
found_up n ms (Some x) e = found (λ (y : Incarnation). y.node == n) (λ y. is_among y ms) ms x (each_among ms) (sym e)

-- the names of the jobs, by place
pub job_named : (c : Script) (t : List Fact) (q : Queue) (sent : ℕ) → IsQueued c t q sent → (i : ℕ) → i < length (jobs t) → option_map (λ (j : Sending). j.entity) (slice_get (jobs t) i) ≡ Some (name_at c i)
job_named c t q sent k i lt = by (slice_get (jobs t) i) refl
  where
    there : (js : List Sending) (i : ℕ) → i < length js → slice_get js i ≡ None → ⊥
    there [] i lt e = below_none i lt
      where
        below_none : (i : ℕ) → i < 0 → ⊥
        below_none i lt = omega (arith, lt)
    there (j ∷ js) zero lt e = none_is_not_some j (sym e)
    there (j ∷ js) (suc i) lt e = there js i (less i (length js) lt) e
      where
        less : (i n : ℕ) → suc i < suc n → i < n
        less i n h = omega (arith, h)

    by : (o : Option Sending) → slice_get (jobs t) i ≡ o → option_map (λ (j : Sending). j.entity) (slice_get (jobs t) i) ≡ Some (name_at c i)
    by None e = absurd (there (jobs t) i lt e)
    by (Some j) e = ap (option_map (λ (x : Sending). x.entity)) e ∙ ap Some (sym (name_is c i j (sym (job_is c t q sent k i lt) ∙ e)))

pub waiting_long : (c : Script) (t : List Fact) (q : Queue) (sent n : ℕ) → IsQueued c t q sent → n ≡ queued_in_all q.entries → (n ≤ sent) × (sent - n ≡ length (waiting t))
waiting_long c t q sent n k e = (at_most n (length (jobs t)) (length (waiting t)) sent (e ∙ place_is c t q sent k) (sent_long c t q sent k), left n (length (jobs t)) (length (waiting t)) sent (e ∙ place_is c t q sent k) (sent_long c t q sent k))
  where
    at_most : (n a b s : ℕ) → n ≡ a → a + b ≡ s → n ≤ s
    at_most n a b s e f = omega (arith, e, f)

    left : (n a b s : ℕ) → n ≡ a → a + b ≡ s → s - n ≡ b
    left n a b s e f = omega (arith, e, f)

-- the next place of some kind among the queued ones: r is the next among all
pub record IsNextOf (p : ℕ → Bool) (n from result : ℕ) : Type 0 where
  pub from_is : from ≤ result
  pub within : result ≤ n
  pub it : result < n → p result ≡ true
  pub between : (i : ℕ) → from ≤ i → i < result → p i ≡ false

pub next_of_queued : (p q : ℕ → Bool) (n m from r result : ℕ) → from ≤ n → n ≤ m → ((i : ℕ) → i < m → q i ≡ p i) → from ≤ r → (r < m → q r ≡ true) → ((i : ℕ) → from ≤ i → i < r → q i ≡ false) → (r < n → result ≡ r) → (n ≤ r → result ≡ n) → IsNextOf p n from result
next_of_queued p q n m from r result le few same above it between first second = by (nat_lt r n) refl
  where
    on : (a b c : ℕ) → a < b → b ≤ c → a < c
    on a b c f g = omega (arith, f, g)

    none : (a : ℕ) → a < a → ⊥
    none a f = omega (arith, f)

    at_most : (a b : ℕ) → a < b → a ≤ b
    at_most a b f = omega (arith, f)

    itself_most : (a : ℕ) → a ≤ a
    itself_most a = omega arith

    whole : (k : ℕ) → result ≡ k → from ≤ k → k ≤ n → (k < n → p k ≡ true) → ((i : ℕ) → from ≤ i → i < k → p i ≡ false) → IsNextOf p n from result
    whole k is f w t b = subst (IsNextOf p n from) (sym is) (record { from_is = f; within = w; it = t; between = b })

    by : (b : Bool) → nat_lt r n ≡ b → IsNextOf p n from result
    by true f =
        let lt : r < n = below r n f in
        whole r (first lt) above (at_most r n lt) (λ l. sym (same r (on r n m lt few)) ∙ it (on r n m lt few)) (λ i a l. sym (same i (on i r m l (at_most r m (on r n m lt few)))) ∙ between i a l)
    by false f =
        let past : n ≤ r = not_below r n f in
        whole n (second past) le (itself_most n) (λ l. absurd (none n l)) (λ i a l. sym (same i (on i n m l few)) ∙ between i a (on i n r l past))

-- which jobs are free, and which are at a worker, by place
pub free_place : (c : Script) (t : List Fact) (states : List JobState) → AreStates c t states → (i : ℕ) → i < length states → is_free_state (state_at states i) ≡ is_free (name_at c i) t
free_place c t states k i lt = ap is_free_state (state_is c t states i k (subst (λ n. i < n) (states_long c t states k) lt)) ∙ free_is t (name_at c i)

pub given_place : (c : Script) (t : List Fact) (states : List JobState) (x : Incarnation) → AreStates c t states → (i : ℕ) → i < length states → is_given_to x (state_at states i) ≡ is_at x (given (name_at c i) t)
given_place c t states x k i lt = ap (is_given_to x) (state_is c t states i k (subst (λ n. i < n) (states_long c t states k) lt)) ∙ ap (is_at x) (given_is c t states k (name_at c i))

pub jobs_within : (c : Script) (t : List Fact) (q : Queue) (sent : ℕ) (states : List JobState) → IsQueued c t q sent → AreStates c t states → length (jobs t) ≤ length states
jobs_within c t q sent states k s = subst (λ n. length (jobs t) ≤ n) (sym (states_long c t states s)) (jobs_few c t q sent k)

-- the command of a job
pub command_is : (c : Script) (t : List Fact) (q : Queue) (sent : ℕ) (i : ℕ) (l : List Sending) (j : Sending) → IsQueued c t q sent → i < length (jobs t) → l ≡ sends c 1 → j ≡ get_or l i j → option_map (λ (x : Sending). x.command) (slice_get (jobs t) i) ≡ Some j.command
command_is c t q sent i l j k lt all e =
    ap (option_map (λ (x : Sending). x.command)) (job_is c t q sent k i lt ∙ (got_is (sends c 1) i j (job_here c t q sent i k lt) ∙ ap Some (sym (e ∙ ap (λ (m : List Sending). get_or m i j) all))))

pub name_read : (c : Script) (t : List Fact) (q : Queue) (sent : ℕ) (i : ℕ) (l : List Sending) (j : Sending) → IsQueued c t q sent → i < length (jobs t) → l ≡ sends c 1 → j ≡ get_or l i j → j.entity ≡ name_at c i
name_read c t q sent i l j k lt all e = sym (name_is c i j (got_is (sends c 1) i j (job_here c t q sent i k lt) ∙ ap Some (sym (e ∙ ap (λ (m : List Sending). get_or m i j) all))))

pub entity_is : (c : Script) (t : List Fact) (q : Queue) (sent : ℕ) (i : ℕ) (l : List Sending) (j : Sending) → IsQueued c t q sent → i < length (jobs t) → l ≡ sends c 1 → j ≡ get_or l i j → option_map (λ (x : Sending). x.entity) (slice_get (jobs t) i) ≡ Some j.entity
entity_is c t q sent i l j k lt all e =
    ap (option_map (λ (x : Sending). x.entity)) (job_is c t q sent k i lt ∙ (got_is (sends c 1) i j (job_here c t q sent i k lt) ∙ ap Some (sym (e ∙ ap (λ (m : List Sending). get_or m i j) all))))

pub job_few : (c : Script) (t : List Fact) (q : Queue) (sent n : ℕ) → IsPulled c → IsQueued c t q sent → n < length (jobs t) → n < 3000001
job_few c t q sent n is k lt = few n (length (sends c 1)) (length c.orders) (job_here c t q sent n k lt) (sends_few 1 c.orders) is.script.fits
  where
    few : (a s m : ℕ) → a < s → s ≤ m → m ≤ 3000000 → a < 3000001
    few a s m f g h = omega (arith, f, g, h)
