-- Facts of results.
use Rattle.std.specs.Prelude.{Result, Ok, Err, IfOk}

-- a fact of a result, of two
pub if_ok_both : {A E : Type 0} (P Q R : A → Type 0) → ((x : A) → P x → Q x → R x) → (r : Result A E) → IfOk r P → IfOk r Q → IfOk r R
if_ok_both P Q R h (Ok x) p q = h x p q
if_ok_both P Q R h (Err e) p q = tt
