-- Which instance a name is of.
use Rattle.std.specs.Prelude.{ℕ, ◌+◌, ◌*◌, ◌%◌, ◌==◌, List, length, slice_index_or, if◌then◌else◌}

-- what the digit at this place stands for
abbrev pub digit_in : List ℕ → ℕ → ℕ
digit_in e i = slice_index_or e i 0 % 16

-- the number of the instance that has this name, if one has it
abbrev pub number_in : List ℕ → ℕ
number_in e = if length e == 8 then digit_in e 7 else if length e == 9 then 10 * digit_in e 7 + digit_in e 8 else 0
