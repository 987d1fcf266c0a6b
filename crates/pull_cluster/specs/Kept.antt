-- What is kept beside a trace of work pulling, and what it says of the trace.
use Rattle.std.specs.Prelude.{◌≡◌, ℕ, ◌+◌, ◌-◌, ◌<◌, ◌≤◌, Bool, true, false, ◌&&◌, nat_lt, not, List, [], ◌∷◌, ◌++◌, length, map, take, Option, Some, None, slice_index_or, if◌then◌else◌}
use Rattle.std.specs.List.{flat_map, list_all, slice_get}
use Rattle.durable_queue.specs.Queue.{Queue}
use Rattle.yard_model.specs.declared.fact.Fact.{Fact}
use Rattle.yard_model.specs.declared.fact.Fact.TheVariants as fact
use Rattle.yard_model.specs.declared.incarnation.Incarnation.{Incarnation}
use Rattle.yard_model.specs.Script.{Script, is_name, count_to, sends}
use Rattle.yard_model.specs.SlotReads.{queued, queued_in_all}
use Rattle.yard_model.specs.Words.{is_among}
use Rattle.yard_model.specs.World.{wire_limit}
use Rattle.pull_laws.specs.Pulled.{members, last_number, wire, fresh, queue, jobs, waiting, is_queued, is_confirmed, given, has_asked}
use Rattle.pull_laws.specs.Pulling.{Pulling}
use Rattle.pull_laws.specs.PullSafe.{IsPulled}
use Rattle.job_board.specs.Boards.{Board, Seat, asking}
use Rattle.job_board.specs.Parcels.{Parcels}
use Rattle.job_board.specs.declared.parcel.Parcel.{Parcel}
use Rattle.job_board.specs.declared.parcel.Parcel.TheVariants as parcel
use Rattle.job_board.specs.declared.state.JobState.{JobState}
use Rattle.job_board.specs.declared.state.JobState.TheVariants as state
use Rattle.pull_cluster.specs.Cluster.{names_of, parcel_fact}

abbrev pub told_of : Script → List Fact → Bool → Pulling
told_of c told full = record { window = c.config.window; limit = wire_limit; told = told; full = full }

-- The queue.

-- the queue's list is the trace's; the jobs that were queued, and those that wait, are the first so many sends
pub record IsQueued (c : Script) (t : List Fact) (q : Queue) (sent : ℕ) : Type 0 where
  pub script_is : q.script ≡ c
  pub producer_is : q.producer ≡ 1
  pub entries_are : q.entries ≡ queue t
  pub sent_is : sent ≤ length (sends c 1)
  pub all_are : jobs t ++ waiting t ≡ take sent (sends c 1)
  pub total_is : queued_in_all (queue t) ≡ length (jobs t)
  pub queued_are : (e : List ℕ) → queued e (queue t) ≡ count_to e (jobs t)

-- The jobs.

abbrev pub given_state : Option Incarnation → JobState
given_state None = state.Free
given_state (Some x) = state.Given x

abbrev pub state_by : Bool → Bool → Option Incarnation → JobState
state_by queued confirmed given = if queued then (if confirmed then state.Confirmed else given_state given) else state.Unqueued

abbrev pub is_closed_state : JobState → Bool
is_closed_state state.Confirmed = true
is_closed_state s = false

-- what the trace says of a job
abbrev pub state_of : List Fact → List ℕ → JobState
state_of t e = state_by (is_queued e t) (is_confirmed e t) (given e t)

-- the state of each job is what the trace says; a job is confirmed only once it is queued, and is given only while it is queued and not confirmed
pub record AreStates (c : Script) (t : List Fact) (states : List JobState) : Type 0 where
  pub states_are : states ≡ map (state_of t) (names_of c)
  pub idle : (e : List ℕ) → is_queued e t ≡ false → is_confirmed e t ≡ false
  pub ungiven : (e : List ℕ) → (is_queued e t && not (is_confirmed e t)) ≡ false → given e t ≡ None

-- The workers.

abbrev pub seat_in : List Fact → Incarnation → Seat
seat_in t x = record { who = x; asked = has_asked x t }

-- the incarnation has been up
abbrev pub HasCome : List Fact → Incarnation → Type 0
HasCome t x = x.number ≤ last_number x.node t

pub record AreSeats (t : List Fact) (seats : List Seat) : Type 0 where
  pub seats_are : seats ≡ map (seat_in t) (members t)
  pub came : (x : Incarnation) → is_among x (members t) ≡ true → HasCome t x
  pub asked_came : (x : Incarnation) → has_asked x t ≡ true → HasCome t x

-- a worker has asked, where it asks by this packet
abbrev pub asked_by : Parcel → List Seat → List Seat
asked_by (parcel.Ask x) seats = map (asking x) seats
asked_by p seats = seats

-- the number of the last incarnation of each node, by its place
pub record AreNumbers (t : List Fact) (numbers : List ℕ) : Type 0 where
  pub long : length numbers ≡ 16
  pub numbers_are : (n : ℕ) → 0 < n → n ≤ 16 → slice_index_or numbers (n - 1) 0 ≡ last_number n t

-- who did a job by this fact
abbrev pub doer_of : List ℕ → Fact → List Incarnation
doer_of e (fact.Did x y) = if is_name y e then x ∷ [] else []
doer_of e f = []

-- the workers that have done a job
abbrev pub doers_of : List Fact → List ℕ → List Incarnation
doers_of t e = flat_map (doer_of e) t

-- The wire.

-- the facts that parcels are posted as, from number k on
abbrev pub facts_from : Script → ℕ → List Parcel → List Fact
facts_from c k [] = []
facts_from c k (p ∷ ps) = parcel_fact c k p ∷ facts_from c (k + 1) ps

-- its job is queued, or its worker has been up
abbrev pub IsKnown : List Fact → Parcel → Type 0
IsKnown t (parcel.Ask x) = HasCome t x
IsKnown t (parcel.Job x i) = i < length (jobs t)
IsKnown t (parcel.Done x i) = i < length (jobs t)

pub record ArePosted (c : Script) (t : List Fact) (p : Parcels) : Type 0 where
  pub wire_is : wire t ≡ facts_from c 1 p.posted
  pub fresh_is : fresh t ≡ p.fresh
  pub above : list_all (nat_lt 0) p.fresh ≡ true
  pub known : (k : ℕ) (q : Parcel) → slice_get p.posted k ≡ Some q → IsKnown t q

-- All.

pub record IsKept (c : Script) (producer : ℕ) (t : List Fact) (q : Queue) (sent : ℕ) (b : Board) (doers : List (List Incarnation)) (numbers : List ℕ) (p : Parcels) : Type 0 where
  pub pulled_is : IsPulled c
  pub first_is : producer ≡ 1
  pub queue_is : IsQueued c t q sent
  pub states_are : AreStates c t b.states
  pub seats_are : AreSeats t b.seats
  pub doers_are : doers ≡ map (doers_of t) (names_of c)
  pub numbers_are : AreNumbers t numbers
  pub parcels_are : ArePosted c t p
