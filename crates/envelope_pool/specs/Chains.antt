-- Places in chains: each place tells the next of its chain, and a chain its first, its last and its length.
use Rattle.std.specs.Prelude.{◌≡◌, ℕ, zero, suc, ◌+◌, ◌-◌, ◌<◌, ◌≤◌, ◌==◌, ◌^◌, cond, nat_lt, List, [], ◌∷◌, length, map, sum_by, slice_index, slice_index_or}
use Rattle.envelope_pool.specs.declared.links.Chain.{Chain}

-- so many places, each the next of the one before
abbrev pub walk : List ℕ → ℕ → ℕ → List ℕ
walk next p zero = []
walk next p (suc n) = p ∷ walk next (slice_index next p) n

abbrev pub places_of : List ℕ → Chain → List ℕ
places_of next c = walk next c.first c.len

abbrev pub chains_of : List ℕ → List Chain → List (List ℕ)
chains_of next cs = map (places_of next) cs

abbrev pub no_chain : Chain
no_chain = record { first = 0; last = 0; len = 0 }

abbrev pub chain_at : List Chain → ℕ → Chain
chain_at cs k = slice_index_or cs k no_chain

-- how often a place stands in a chain
abbrev pub times : ℕ → List ℕ → ℕ
times p [] = 0
times p (q ∷ qs) = cond (q == p) 1 0 + times p qs

-- one for each place below n
abbrev pub room : ℕ → ℕ → ℕ
room n p = cond (nat_lt p n) 1 0

-- each place stands in one chain at most, and so many stand in none
pub record IsLinked (next : List ℕ) (cs : List Chain) (out : ℕ) : Type 0 where
  pub once : (p : ℕ) → sum_by (times p) (chains_of next cs) ≤ room (length next) p
  pub ends : (k : ℕ) → k < length cs → 0 < (chain_at cs k).len → slice_index (places_of next (chain_at cs k)) ((chain_at cs k).len - 1) ≡ (chain_at cs k).last
  pub all : sum_by length (chains_of next cs) + out ≡ length next
  pub small : length next < 2 ^ 16
