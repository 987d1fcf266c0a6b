use Rattle.std.specs.Prelude.{ℕ, List, ◌++◌, ◌≡◌, ◌≤◌, length, take, drop, Option, Some, None}

-- what is told, and then these bytes; where nothing is told, nothing is told
abbrev pub followed_by : Option (List ℕ) → List ℕ → Option (List ℕ)
followed_by None bytes = None
followed_by (Some xs) bytes = Some (xs ++ bytes)

-- what is told without its first n bytes
abbrev pub without_first : ℕ → Option (List ℕ) → Option (List ℕ)
without_first n None = None
without_first n (Some xs) = Some (drop n xs)

-- how many bytes are told
abbrev pub count_of : Option (List ℕ) → Option ℕ
count_of None = None
count_of (Some xs) = Some (length xs)

-- a front of these bytes was taken, which may be all or none of them
abbrev pub TakesFront : Option (List ℕ) → Option (List ℕ) → List ℕ → Type 0
TakesFront old new bytes = (n : ℕ) × (n ≤ length bytes) × (new ≡ followed_by old (take n bytes))

-- at most this many bytes were read
abbrev pub LosesUpTo : Option (List ℕ) → Option (List ℕ) → ℕ → Type 0
LosesUpTo old new most = (n : ℕ) × (n ≤ most) × (new ≡ without_first n old)
