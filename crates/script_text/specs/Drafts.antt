-- A script that is being read, and what is kept at hand beside it.
use Rattle.std.specs.Prelude.{◌≡◌, ℕ, min, nat_lt, List, length, IsTrue}
use Rattle.std.specs.List.{list_any, list_all}
use Rattle.yard_model.specs.declared.charter.Line.{Line}
use Rattle.yard_model.specs.Counts.{Counted, names, count_of}
use Rattle.script_text.specs.Fit.{pings}
use Rattle.yard_model.specs.Script.{Script, Pair, is_pair, names_in, pairs_in, is_config, is_order}

-- these pairs are counted, and so many they are, up to 4,294,967,295
pub record KeepsPairs (counts : Counted) (number : ℕ) (pairs : List Pair) : Type 0 where
  pub count : number ≡ min (length pairs) 4294967295
  pub same : (p : ℕ) (e : List ℕ) → nat_lt 0 (count_of counts p e) ≡ list_any (is_pair p e) pairs

-- the script, the names and pairs that are counted, how many pairs and how many pings there are
pub record IsDraft (s : Script) (counts : Counted) (number pinged : ℕ) : Type 0 where
  pub config : IsTrue (is_config s.config)
  pub orders : IsTrue (list_all (λ (l : Line). is_order s.config l.order) s.orders)
  pub names : names counts ≡ names_in s.orders
  pub pairs : KeepsPairs counts number (pairs_in s.orders)
  pub pings : pinged ≡ min (pings s.orders) 4294967295
