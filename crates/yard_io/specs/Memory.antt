use Rattle.std.specs.Prelude.{ℕ, List}

-- the calls that were made, and the numbers of those that fail; the first call is number 1
pub record Calls : Type 0 where
  pub made : ℕ
  pub failing : List ℕ

-- a source in memory: its bytes that are left, its calls, and how many failed
pub record Feed : Type 0 where
  pub bytes : List ℕ
  pub calls : Calls
  pub faults : ℕ

-- a sink in memory: the bytes that it took, how many are flushed, its calls, and how many failed
pub record Drain : Type 0 where
  pub bytes : List ℕ
  pub flushed : ℕ
  pub calls : Calls
  pub faults : ℕ
