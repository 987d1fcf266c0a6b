-- What a step that wants memory leaves of a text.
use Rattle.std.specs.Prelude.{◌≡◌, ◌++◌, Result, MatchResult, length, take}
use Rattle.yard_model.specs.Text.{Bytes}

-- so much more behind it; without memory the text as it was
abbrev pub Appends : {T E : Type 0} → Result T E → Bytes → Bytes → Bytes → Type 0
Appends r old new more = MatchResult r (λ _. new ≡ old ++ more) (λ _. new ≡ old)

-- the text is still in front
abbrev pub Begins : Bytes → Bytes → Type 0
Begins old new = take (length old) new ≡ old

-- so much more behind it; without memory some of that
abbrev pub Grows : {T E : Type 0} → Result T E → Bytes → Bytes → Bytes → Type 0
Grows r old new more = MatchResult r (λ _. new ≡ old ++ more) (λ _. Begins old new)
