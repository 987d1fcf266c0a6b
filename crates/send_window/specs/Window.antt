-- Which numbers may be sent.
use Rattle.std.specs.Prelude.{ℕ, ◌+◌, List, min, max}
use Rattle.yard_model.specs.Words.{from_to}
use Rattle.send_window.specs.declared.pair.Pair.{Pair}
use Rattle.send_window.specs.declared.pair.Sends.{Sends}

-- the number that may be sent up to
abbrev pub allowed_of : Pair → ℕ
allowed_of k = min k.queued (max k.demand (k.confirmed + 1))

-- the numbers that are sent
abbrev pub numbers_of : Sends → List ℕ
numbers_of s = from_to (s.after + 1) s.last
