-- What a contract sees of the jobs and the workers, and how it is kept.
use Rattle.std.specs.Prelude.{◌≡◌, ℕ, ◌<◌, Bool, true, false, ◌&&◌, nat_lt, List, length, map, Option, Some, None, count_by, slice_index_or, if◌then◌else◌}
use Rattle.place_set.specs.Places.{Places, is_in}
use Rattle.yard_model.specs.declared.incarnation.Incarnation.{Incarnation}
use Rattle.yard_model.specs.Words.{is_same, is_at, is_among}
use Rattle.plain_laws.proofs.Members.{differ}
use Rattle.job_board.specs.declared.state.JobState.{JobState}
use Rattle.job_board.specs.declared.state.JobState.TheVariants as state
use Rattle.job_board.specs.declared.worker.Worker.{Worker}

-- a worker that is up
pub record Seat : Type 0 where
  pub who : Incarnation
  pub asked : Bool  -- it asked for work

pub record Board : Type 0 where
  pub states : List JobState  -- of each job, by its place
  pub seats : List Seat  -- the workers that are up, oldest first

abbrev pub is_free_state : JobState → Bool
is_free_state state.Free = true
is_free_state s = false

-- the worker at which a job is
abbrev pub given_of : JobState → Option Incarnation
given_of (state.Given x) = Some x
given_of s = None

abbrev pub is_given_to : Incarnation → JobState → Bool
is_given_to x s = is_at x (given_of s)

-- it is free, where it was at x
abbrev pub freed_from : Incarnation → JobState → JobState
freed_from x s = if is_given_to x s then state.Free else s

-- it is free, where it was at a worker
abbrev pub freed : JobState → JobState
freed (state.Given x) = state.Free
freed s = s

-- how many jobs are at x
abbrev pub load_of : Incarnation → List JobState → ℕ
load_of x states = count_by (is_given_to x) states

abbrev pub state_at : List JobState → ℕ → JobState
state_at states i = slice_index_or states i state.Unqueued

abbrev pub whos : List Seat → List Incarnation
whos seats = map (λ (s : Seat). s.who) seats

-- it has asked, if it is x
abbrev pub asking : Incarnation → Seat → Seat
asking x s = if is_same x s.who then record { who = s.who; asked = true } else s

abbrev pub not_asking : Seat → Seat
not_asking s = record { who = s.who; asked = false }

-- it has asked, and fewer jobs than this are at it
abbrev pub is_ready : ℕ → List JobState → Seat → Bool
is_ready window states s = s.asked && nat_lt (load_of s.who states) window

-- How it is kept.

abbrev pub seat_of : Worker → Seat
seat_of w = record { who = w.who; asked = w.asked }

-- the jobs that are kept of a worker are those at it
pub record IsWorker (states : List JobState) (w : Worker) : Type 0 where
  pub bound_is : w.given.bound ≡ length states
  pub given_are : (i : ℕ) → i < length states → is_in w.given i ≡ is_given_to w.who (state_at states i)
  pub load_is : w.load ≡ load_of w.who states

pub record IsBoard (states : List JobState) (free : Places) (workers : List Worker) : Type 0 where
  pub bound_is : free.bound ≡ length states
  pub free_are : (i : ℕ) → i < length states → is_in free i ≡ is_free_state (state_at states i)
  pub workers_are : (k : ℕ) (w : Worker) → k < length workers → IsWorker states (slice_index_or workers k w)
  pub differ_are : differ (map (λ (w : Worker). w.who) workers) ≡ true
  pub up_are : (i : ℕ) (x : Incarnation) → given_of (state_at states i) ≡ Some x → is_among x (map (λ (w : Worker). w.who) workers) ≡ true
