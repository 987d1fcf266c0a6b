-- Which refusals come of a commit.
use Rattle.std.proofs.Common.{◌≡◌, ℕ, refl}
use Rattle.log_orders.specs.declared.orders.CommitFault.{CommitFault}
use Rattle.log_orders.specs.declared.orders.CommitFault.TheVariants as commit
use Rattle.serve_service.specs.Faults.{opening_of_commit}
use Rattle.serve_service.specs.declared.fault.OpenFault.TheVariants as fault

pub commit_failed : (f : CommitFault) → opening_of_commit f ≡ fault.Failed → f ≡ commit.Failed
commit_failed commit.Failed e = refl
commit_failed commit.OutOfMemory e = cc

pub commit_damaged : (f : CommitFault) (at : ℕ) → opening_of_commit f ≡ fault.Damaged at → ⊥
commit_damaged commit.Failed at e = cc
commit_damaged commit.OutOfMemory at e = cc

pub commit_foreign : (f : CommitFault) (frame : ℕ) → opening_of_commit f ≡ fault.Foreign frame → ⊥
commit_foreign commit.Failed frame e = cc
commit_foreign commit.OutOfMemory frame e = cc
