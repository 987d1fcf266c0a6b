-- What a charter keeps at hand.
use Rattle.std.specs.Prelude.{◌≡◌, ℕ, ◌+◌, ◌<◌, List, [], length, map, slice_index_or}
use Rattle.std.specs.Ordering.{nat_cmp}
use Rattle.std.specs.Cmp.Lexicographic.{slice_cmp}
use Rattle.std.specs.List.Sorted.{IsStrictlySortedBy}
use Rattle.yard_model.specs.declared.charter.Line.{Line}
use Rattle.yard_model.specs.declared.charter.Sending.{Sending}
use Rattle.yard_model.specs.Counts.{Counted, names, count_of}
use Rattle.yard_model.specs.Words.{numbers}
use Rattle.yard_model.specs.Script.{Script, IsScript, names_in, sends_in, count_to}

-- the counts and the lists of sends are those of the orders so far
pub record KeepsSends (c : Counted) (sent : List (List Sending)) (done : List Line) : Type 0 where
  pub names : names c ≡ names_in done
  pub long : length sent ≡ 32
  pub sends : (i : ℕ) → i < 32 → slice_index_or sent i [] ≡ sends_in (i + 1) done
  pub counts : (i : ℕ) (e : List ℕ) → i < 32 → count_of c (i + 1) e ≡ count_to e (sends_in (i + 1) done)

-- what is kept is that of the orders
pub record IsCharter (c : Script) (kept : List (List ℕ)) (sent : List (List Sending)) (counts : Counted) : Type 0 where
  pub script : IsScript c
  pub names : kept ≡ names_in c.orders
  pub sorted : IsStrictlySortedBy (slice_cmp nat_cmp) kept
  pub keeps : KeepsSends counts sent c.orders
