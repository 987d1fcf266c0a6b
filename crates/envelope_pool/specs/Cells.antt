-- How a pool is kept: cells in chains, of which the first is that of the free cells, and then one for each key.
use Rattle.std.specs.Prelude.{◌≡◌, ℕ, ◌<◌, ◌≤◌, ◌^◌, List, [], ◌∷◌, length, map, drop, Option, Some, None, slice_index_or}
use Rattle.envelope_pool.specs.declared.links.Chain.{Chain}
use Rattle.envelope_pool.specs.Chains.{IsLinked, chains_of}

module _ {A : Type 0} where
  abbrev pub with_item : Option A → List A → List A
  with_item None xs = xs
  with_item (Some x) xs = x ∷ xs

  -- what stands in these cells
  abbrev pub gather : List (Option A) → List ℕ → List A
  gather items [] = []
  gather items (p ∷ ps) = with_item (slice_index_or items p None) (gather items ps)

  -- the list of each key
  abbrev pub lists_of : List (Option A) → List (List ℕ) → List (List A)
  lists_of items chains = map (gather items) (drop 1 chains)

  pub record IsPool (next : List ℕ) (cs : List Chain) (items : List (Option A)) (size next_room item_room : ℕ) : Type 0 where
    pub linked : IsLinked next cs 0
    pub sized : length items ≡ length next
    pub cells : length next ≤ size
    pub fits : size < 2 ^ 16
    pub places_fit : size ≤ next_room
    pub items_fit : size ≤ item_room
    pub chains : 0 < length cs
    pub filled : map length (lists_of items (chains_of next cs)) ≡ map length (drop 1 (chains_of next cs))
