-- Results.
use Rattle.std.proofs.Common.{◌≡◌, ℕ, List, subst, refl}
use Rattle.std.specs.Prelude.{Result, Ok, Err, IfOk, IsTrue}
use Rattle.yard_model.specs.declared.charter.Config.{Config}
use Rattle.yard_model.specs.declared.event.Command.{Command}
use Rattle.yard_model.specs.Behaviour.{is_in, is_of_kind}
use Rattle.yard_model.specs.Script.{is_order}
use Rattle.script_text.specs.declared.fault.Why.{Why}
use Rattle.script_text.specs.Orders.{joined}

-- what holds of any value that is there
pub if_ok : {A E : Type 0} {r : Result A E} {x : A} → (P : A → Type 0) → r ≡ Ok x → IfOk r P → P x
if_ok P e h = subst (λ s. IfOk s P) e h

-- a send of valid parts is valid
pub joined_valid : (c : Config) (p : Result ℕ Why) (e : Result (List ℕ) Why) (k : Result Command Why) → IfOk p (λ n. IsTrue (is_in 1 c.producers n)) → IfOk k (λ x. IsTrue (is_of_kind c.kind x))
    → IfOk (joined p e k) (λ o. IsTrue (is_order c o))
joined_valid c (Ok p) (Ok e) (Ok k) served kind = rw (served, kind) refl
joined_valid c (Ok p) (Ok e) (Err w) served kind = tt
joined_valid c (Ok p) (Err v) (Ok k) served kind = tt
joined_valid c (Ok p) (Err v) (Err w) served kind = tt
joined_valid c (Err u) (Ok e) (Ok k) served kind = tt
joined_valid c (Err u) (Ok e) (Err w) served kind = tt
joined_valid c (Err u) (Err v) (Ok k) served kind = tt
joined_valid c (Err u) (Err v) (Err w) served kind = tt
