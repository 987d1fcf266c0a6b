-- What is so is so where there is nothing.
use Rattle.std.specs.Prelude.{Option, Some, None, IfNone}

pub if_none : {A : Type 0} (o : Option A) (P : Type 0) → P → IfNone o P
if_none None P p = p
if_none (Some x) P p = tt
