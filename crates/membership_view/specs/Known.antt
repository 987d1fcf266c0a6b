-- What a contract sees of a view.
use Rattle.std.specs.Prelude.{ℕ, List}
use Rattle.yard_model.specs.declared.incarnation.Incarnation.{Incarnation}

-- how new it is, and the members, oldest first
pub record Known : Type 0 where
  pub version : ℕ
  pub members : List Incarnation
