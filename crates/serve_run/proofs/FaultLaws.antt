-- Which stops come of which faults.
use Rattle.std.proofs.Common.{◌≡◌, refl, sym, subst}
use Rattle.std.specs.Prelude.{Err, OnErr, Result}
use Rattle.log_orders.specs.declared.orders.CommitFault.{CommitFault}
use Rattle.log_orders.specs.declared.orders.CommitFault.TheVariants as commit
use Rattle.yard_io.specs.declared.transfer.ReadError.{ReadError}
use Rattle.yard_io.specs.declared.transfer.ReadError.TheVariants as read_error
use Rattle.serve_run.specs.Faults.{of_commit, of_read}
use Rattle.serve_run.specs.declared.stop.Stop.TheVariants as stop

pub commit_disk : (f : CommitFault) → of_commit f ≡ stop.Disk → f ≡ commit.Failed
commit_disk commit.Failed e = refl
commit_disk commit.OutOfMemory e = cc

pub commit_read : (f : CommitFault) → of_commit f ≡ stop.Read → ⊥
commit_read commit.Failed e = cc
commit_read commit.OutOfMemory e = cc

pub commit_write : (f : CommitFault) → of_commit f ≡ stop.Write → ⊥
commit_write commit.Failed e = cc
commit_write commit.OutOfMemory e = cc

pub read_read : (f : ReadError) → of_read f ≡ stop.Read → f ≡ read_error.Failed
read_read read_error.Failed e = refl
read_read read_error.OutOfMemory e = cc

pub read_write : (f : ReadError) → of_read f ≡ stop.Write → ⊥
read_write read_error.Failed e = cc
read_write read_error.OutOfMemory e = cc

pub read_disk : (f : ReadError) → of_read f ≡ stop.Disk → ⊥
read_disk read_error.Failed e = cc
read_disk read_error.OutOfMemory e = cc

-- what a `?` passes on is an error
pub on_err : {T E P : Type 0} (r : Result T E) (e : E) → r ≡ Err e → P → OnErr r P
on_err {T} {E} {P} r e is p = subst (λ (x : Result T E). OnErr x P) (sym is) p
