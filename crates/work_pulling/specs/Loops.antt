-- What stands in a loop over jobs.
use Rattle.std.specs.Prelude.{◌≡◌, ℕ, ◌+◌, ◌<◌, ◌≤◌, true, List, drop, filter, length}
use Rattle.yard_model.specs.declared.fact.Fact.{Fact}
use Rattle.yard_model.specs.declared.incarnation.Incarnation.{Incarnation}
use Rattle.yard_model.specs.Words.{is_at}
use Rattle.pull_laws.specs.Pulled.{jobs, job_names, given, is_free, is_running, waiting}
use Rattle.pull_laws.specs.Pulling.{for_each, assign_job, post_job, queue_job, drain}
use Rattle.pull_cluster.specs.Cluster.{Cluster, Leads, name_at}

-- some steps were made
abbrev pub On : Cluster → Cluster → List Fact → List Fact → Type 0
On old new before after = Leads (λ s. new.pulling) old new before after

-- the jobs before this place are assigned; this one is free, if it is one
pub record Assigning (start now : Cluster) (before after : List Fact) (job : ℕ) : Type 0 where
  pub on : On start now before after
  pub jobs_are : jobs now.pulling.told ≡ jobs start.pulling.told
  pub left : for_each assign_job (drop job (job_names start.pulling.told)) now.pulling ≡ for_each assign_job (job_names start.pulling.told) start.pulling
  pub within : job ≤ length (jobs now.pulling.told)
  pub free : job < length (jobs now.pulling.told) → is_free (name_at now.script job) now.pulling.told ≡ true

-- of the jobs given to a worker those before this place are posted; this one is given to it, if it is one
pub record Posting (x : Incarnation) (start now : Cluster) (before after : List Fact) (job : ℕ) : Type 0 where
  pub on : On start now before after
  pub jobs_are : jobs now.pulling.told ≡ jobs start.pulling.told
  pub given_are : (e : List ℕ) → given e now.pulling.told ≡ given e start.pulling.told
  pub left : for_each (post_job x) (filter (λ e. is_at x (given e start.pulling.told)) (drop job (job_names start.pulling.told))) now.pulling
      ≡ for_each (post_job x) (filter (λ e. is_at x (given e start.pulling.told)) (job_names start.pulling.told)) start.pulling
  pub within : job ≤ length (jobs now.pulling.told)
  pub given_is : job < length (jobs now.pulling.told) → is_at x (given (name_at now.script job) now.pulling.told) ≡ true

-- the producer runs, and the jobs that waited when it began are queued one after another
pub record Queueing (start first now : Cluster) (before after : List Fact) (count end : ℕ) : Type 0 where
  pub on : On start now before after
  pub runs : is_running now.pulling.told ≡ true
  pub left : for_each queue_job (waiting now.pulling.told) now.pulling ≡ for_each queue_job (waiting first.pulling.told) first.pulling
  pub many : count + length (waiting now.pulling.told) ≡ end

-- so many packets were delivered, and what is left of so many goes on from here
pub record Draining (start now : Cluster) (before after : List Fact) (count end : ℕ) : Type 0 where
  pub on : On start now before after
  pub left : (m : ℕ) → count + m ≡ end → drain m now.pulling ≡ drain end start.pulling
