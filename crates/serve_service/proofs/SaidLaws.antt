-- The books of a log, or which frame of it is foreign.
use Rattle.std.proofs.Common.{◌≡◌, ◌<◌, ◌≤◌, ℕ, ◌+◌, List, [], inr, length, min, refl, ◌∙◌, ap, subst, arith}
use Rattle.std.specs.Prelude.{IsTrue, Option, Some}
use Rattle.yard_model.specs.declared.charter.Config.{Config}
use Rattle.yard_model.specs.declared.fact.Fact.{Fact}
use Rattle.yard_model.specs.Script.{Script}
use Rattle.yard_model.specs.Text.{Bytes}
use Rattle.log_resume.specs.declared.fault.ResumeFault.{ResumeFault}
use Rattle.log_resume.specs.declared.fault.ResumeFault.TheVariants as resume
use Rattle.log_resume.specs.Restored.{IsForeign, are_taken, entries}
use Rattle.serve_laws.specs.Hearings.{IsHeard}
use Rattle.serve_laws.specs.Served.{Desk, grouped}
use Rattle.serve_lines.specs.Heads.{IsHeadOf}
use Rattle.serve_answers.specs.Told.{desk_at}
use Rattle.serve_service.specs.declared.fault.OpenFault.TheVariants as fault
use Rattle.serve_service.specs.declared.opening.Queued.{Queued}
use Rattle.serve_service.specs.declared.opening.Queued.TheVariants as queued
use Rattle.serve_service.specs.Faults.{of_resume}
use Rattle.serve_service.specs.Openings.{IsForeignBehind, IsSaid, QueuedIn, script_of}

-- a fault of the entries
pub was_foreign : (r : ResumeFault) (frame : ℕ) → of_resume r ≡ fault.Foreign frame → (k : ℕ) × (r ≡ resume.Foreign k) × (frame ≡ min (k + 1) 4294967295)
was_foreign resume.OutOfMemory frame e = cc
was_foreign (resume.Foreign k) frame e = (k, refl, cc)

least : (a b : ℕ) → a ≤ b → min a b ≡ a
least a b le = omega (arith, le)

module _ (head : Bytes) (found : Option Config) (config : Config) (batches : List (List Fact)) (q : Queued) (desk : Script) (is_head : IsHeadOf head found) (is : found ≡ Some config) (is_queued : QueuedIn config batches q) (all : q ≡ queued.All desk) where
  headed : IsHeadOf head (Some config)
  headed = subst (IsHeadOf head) is is_head

  desk_is : desk ≡ script_of config (entries batches)
  desk_is = subst (QueuedIn config batches) all is_queued

  pub said_of : (d : Desk) → IsHeard desk → IsTrue (are_taken desk (entries batches)) → d ≡ grouped (desk_at desk batches) [] → IsSaid head batches d
  said_of d heard taken carried = record {
    config = config;
    head_is = headed.1;
    valid = headed.0;
    heard = subst IsHeard desk_is heard;
    taken = subst (λ c. IsTrue (are_taken c (entries batches))) desk_is taken;
    desk = carried ∙ ap (λ c. grouped (desk_at c batches) []) desk_is;
  }

  pub foreign_behind : (frame k : ℕ) → frame ≡ min (k + 1) 4294967295 → length batches < 4294967295 → IsForeign desk batches k → IsForeignBehind head batches frame
  foreign_behind frame k is_frame few foreign =
      inr (config, headed.1, headed.0, k, is_frame ∙ least (k + 1) 4294967295 (omega (arith, few, foreign.there)), inr (subst (λ c. IsForeign c batches k) desk_is foreign))
