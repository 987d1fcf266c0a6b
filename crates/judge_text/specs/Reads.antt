-- What is read of a source.
use Rattle.std.specs.Prelude.{◌≡◌, ℕ, List, [], ◌++◌, Option, Some, None}
use Rattle.yard_model.specs.Script.{Script}
use Rattle.verdict_laws.specs.declared.answer.Answer.{Answer}
use Rattle.verdict_laws.specs.Verdict.{verdict}
use Rattle.judge_text.specs.Hears.{Told, answer_of}

-- these bytes, and then what is told
abbrev pub ahead : List ℕ → Option (List ℕ) → Option (List ℕ)
ahead bytes None = None
ahead bytes (Some xs) = Some (bytes ++ xs)

-- the bytes that are left, where they are told
abbrev pub left_of : Option (List ℕ) → List ℕ
left_of None = []
left_of (Some xs) = xs

-- so many bytes came, behind these
pub record Came (old new : List ℕ) (count : ℕ) (had has : Option (List ℕ)) : Type 0 where
  pub bytes : List ℕ
  pub behind : new ≡ old ++ bytes
  pub told : had ≡ ahead bytes has
  pub end : count ≡ 0 → (bytes ≡ []) × (left_of has ≡ [])

-- some bytes came, and it goes on so
pub record GoesOn (old : Told) (window : List ℕ) (new : Told) (next : List ℕ) (had has : Option (List ℕ)) : Type 0 where
  pub bytes : List ℕ
  pub told : had ≡ ahead bytes has
  pub goes_on : (more : List ℕ) → answer_of old (window ++ (bytes ++ more)) ≡ answer_of new (next ++ more)

-- or this is answered, of all that was to come
pub record Ends (old : Told) (window : List ℕ) (a : Answer) (had has : Option (List ℕ)) : Type 0 where
  pub bytes : List ℕ
  pub told : had ≡ ahead bytes has
  pub answer_is : answer_of old (window ++ (bytes ++ left_of has)) ≡ a

abbrev pub Turns : Told → List ℕ → Option Answer → Told → List ℕ → Option (List ℕ) → Option (List ℕ) → Type 0
Turns old window None new next had has = GoesOn old window new next had has
Turns old window (Some a) new next had has = Ends old window a had has

-- this is answered of these bytes, and of all that the source had; where it tells its bytes, no other came
pub record IsJudged (c : Script) (first : List ℕ) (had has : Option (List ℕ)) (a : Answer) : Type 0 where
  pub bytes : List ℕ
  pub told : had ≡ ahead bytes has
  pub answer_is : verdict c (first ++ (bytes ++ left_of has)) ≡ a
