-- Which shares a round meets.
use Rattle.std.specs.Prelude.{◌≡◌, ℕ, zero, suc, ◌+◌, ◌<◌, ◌≤◌, true, nat_le, List, [], length, map, max, slice_index_or, Some, None, if◌then◌else◌}
use Rattle.yard_model.specs.Members.{no_member}
use Rattle.yard_model.specs.Words.{is_same}
use Rattle.yard_model.specs.Coordinator.{Share, smallest, largest, with_pick}

abbrev pub no_share : Share
no_share = record { region = no_member; rest = []; count = 0 }

abbrev pub share_at : List Share → ℕ → Share
share_at xs i = slice_index_or xs i no_share

-- Those of one region are one, and one that is above another by two or more is all there to be picked: no share that a pick counted to is ever picked from.
pub record IsFair (xs : List Share) : Type 0 where
  pub one : (i j : ℕ) → i < length xs → j < length xs → is_same (share_at xs i).region (share_at xs j).region ≡ true → share_at xs i ≡ share_at xs j
  pub there : (i j : ℕ) → i < length xs → j < length xs → (share_at xs i).count ≤ max (length (share_at xs i).rest) ((share_at xs j).count + 1)

-- no count is above n
abbrev pub CountsWithin : ℕ → List Share → Type 0
CountsWithin n xs = (i : ℕ) → i < length xs → (share_at xs i).count ≤ n

-- the counts differ by at most one
abbrev pub AreEvenShares : List Share → Type 0
AreEvenShares xs = (i j : ℕ) → i < length xs → j < length xs → (share_at xs i).count ≤ (share_at xs j).count + 1

-- the shares once at most so many picks are counted, while the largest is by two or more above the smallest
abbrev pub moved : ℕ → List Share → List Share
moved zero xs = xs
moved (suc n) xs = elim (largest xs) as (λ o. List Share) [
  | None ↦ xs
  | Some x ↦ elim (smallest xs) as (λ o. List Share) [
    | None ↦ xs
    | Some y ↦ if nat_le (y.count + 2) x.count then moved n (map (with_pick x y) xs) else xs
  ]
]
