-- Words of a line, numbers and names.
use Rattle.std.specs.Prelude.{◌≡◌, ℕ, ◌<◌, ◌+◌, ◌-◌, ◌*◌, Bool, true, false, ◌==◌, ◌&&◌, ◌||◌, nat_lt, nat_le, nat_eq, List, [], ◌∷◌, length, filter, fold, slice_index}
use Rattle.std.specs.List.{slice_split, list_all}
use Rattle.std.specs.Cmp.Lexicographic.{pointwise}
use Rattle.yard_model.specs.Name.{is_name_byte}

-- a space or a tab
abbrev pub is_gap : ℕ → Bool
is_gap b = (b == 32) || (b == 9)

abbrev pub is_some_word : List ℕ → Bool
is_some_word w = nat_lt 0 (length w)

-- the words of a line: its parts between spaces and tabs, but for empty ones
unfoldable pub words : List ℕ → List (List ℕ)
words line = filter is_some_word (slice_split is_gap line)

-- a word is this text
abbrev pub is_text : List ℕ → List ℕ → Bool
is_text w text = pointwise nat_eq w text

abbrev pub begins_comment : List ℕ → Bool
begins_comment w = slice_index w 0 == 35

-- a line without a word is blank, and so is a comment
abbrev pub is_blank : List (List ℕ) → Bool
is_blank [] = true
is_blank (w ∷ ws) = begins_comment w

abbrev pub is_comment : List (List ℕ) → Bool
is_comment [] = false
is_comment (w ∷ ws) = begins_comment w

-- printable ASCII, or a tab
abbrev pub is_plain : ℕ → Bool
is_plain b = (nat_le 32 b && nat_le b 126) || (b == 9)

-- printable ASCII
abbrev pub is_printable : ℕ → Bool
is_printable b = nat_le 32 b && nat_le b 126

-- the first n bytes are printable
abbrev pub ArePrintable : List ℕ → ℕ → Type 0
ArePrintable bytes n = (k : ℕ) → k < n → is_printable (slice_index bytes k) ≡ true

abbrev pub is_digit : ℕ → Bool
is_digit b = nat_le 48 b && nat_le b 57

-- a number has 1 to 18 digits
abbrev pub is_number : List ℕ → Bool
is_number w = nat_lt 0 (length w) && nat_le (length w) 18 && list_all is_digit w

abbrev pub with_digit : ℕ → ℕ → ℕ
with_digit n b = n * 10 + (b - 48)

abbrev pub value_of : List ℕ → ℕ
value_of w = fold with_digit 0 w

-- a name has 1 to 32 letters, digits, dashes and underscores
abbrev pub is_name_text : List ℕ → Bool
is_name_text w = nat_lt 0 (length w) && nat_le (length w) 32 && list_all is_name_byte w
