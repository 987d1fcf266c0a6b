-- Sets of shards, as the bits of one number.
use Rattle.std.specs.Prelude.{ℕ, ◌^◌, Bool, ◌==◌, List, fold, bit_or}
use Rattle.std.specs.Int.{bit_at}

-- the shard is in the set
abbrev pub has : ℕ → ℕ → Bool
has set s = bit_at set s == 1

-- the set with one shard more
abbrev pub with_shard : ℕ → ℕ → ℕ
with_shard set s = bit_or set (2 ^ s)

-- the set of these shards
abbrev pub set_of : List ℕ → ℕ
set_of shards = fold with_shard 0 shards
