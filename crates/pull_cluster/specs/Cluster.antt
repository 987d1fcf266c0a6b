-- What a contract sees of the workers, the wire and the producer.
use Rattle.std.specs.Prelude.{◌≡◌, ℕ, ◌<◌, Bool, true, false, length, List, [], ◌++◌, map, slice_index_or}
use Rattle.yard_model.specs.declared.charter.Sending.{Sending}
use Rattle.yard_model.specs.declared.fact.Fact.{Fact}
use Rattle.yard_model.specs.declared.fact.Fact.TheVariants as fact
use Rattle.yard_model.specs.Script.{Script, sends}
use Rattle.yard_model.specs.Words.{is_among}
use Rattle.pull_laws.specs.Pulled.{jobs, members}
use Rattle.pull_laws.specs.Pulling.{Pulling, Step}
use Rattle.job_board.specs.declared.parcel.Parcel.{Parcel}
use Rattle.job_board.specs.declared.parcel.Parcel.TheVariants as parcel

pub record Cluster : Type 0 where
  pub script : Script
  pub pulling : Pulling  -- what was told so far

-- the names of the jobs, in the order of the sends
abbrev pub names_of : Script → List (List ℕ)
names_of c = map (λ (j : Sending). j.entity) (sends c 1)

-- the name of the job at a place, from 0
abbrev pub name_at : Script → ℕ → List ℕ
name_at c i = slice_index_or (names_of c) i []

-- the fact that a parcel is posted as packet k
abbrev pub parcel_fact : Script → ℕ → Parcel → Fact
parcel_fact c k (parcel.Ask x) = fact.SentAsk k x
parcel_fact c k (parcel.Job x i) = fact.SentJob k x (name_at c i)
parcel_fact c k (parcel.Done x i) = fact.SentDone k x (name_at c i)

-- a step was made, and its facts are told
pub record Leads (p : Step) (old new : Cluster) (before after : List Fact) : Type 0 where
  pub new_is : new ≡ record { script = old.script; pulling = p old.pulling }
  pub facts : List Fact
  pub told_is : (p old.pulling).told ≡ old.pulling.told ++ facts
  pub out_is : after ≡ before ++ facts

-- a fact that changes no word
abbrev pub is_plain : Fact → Bool
is_plain (fact.At n) = true
is_plain fact.Nothing = true
is_plain fact.WireFull = true
is_plain f = false

-- its job is queued
abbrev pub IsOfJobs : List Fact → Parcel → Type 0
IsOfJobs t (parcel.Ask x) = Unit {0}
IsOfJobs t (parcel.Job x i) = i < length (jobs t)
IsOfJobs t (parcel.Done x i) = i < length (jobs t)

-- it may be posted: a worker asks while it is up, and a job is queued
abbrev pub MayPost : List Fact → Parcel → Type 0
MayPost t (parcel.Ask x) = is_among x (members t) ≡ true
MayPost t (parcel.Job x i) = i < length (jobs t)
MayPost t (parcel.Done x i) = i < length (jobs t)
