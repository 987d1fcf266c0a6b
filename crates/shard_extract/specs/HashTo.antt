-- A hash of the bytes up to a place: with those behind it, it gives that of all.
use Rattle.std.specs.Prelude.{◌≡◌, ℕ, ◌+◌, ◌*◌, ◌%◌, List, drop, fold}
use Rattle.yard_model.specs.Shard.{java_hash}

abbrev pub IsHashTo : List ℕ → ℕ → ℕ → Type 0
IsHashTo bytes i hash = fold (λ h b. (31 * h + b) % 4294967296) hash (drop i bytes) ≡ java_hash bytes
