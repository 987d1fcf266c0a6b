-- The reasons for which a script is refused, and results that may be refused.
use Rattle.std.specs.Prelude.{ℕ, ◌≡◌, Bool, nat_le, if◌then◌else◌, Result, Ok, Err}
use Rattle.script_text.specs.declared.fault.Why.{Why}
use Rattle.script_text.specs.declared.fault.Why.TheVariants as why
use Rattle.script_text.specs.declared.fault.Stop.{Stop}
use Rattle.script_text.specs.declared.fault.Stop.TheVariants as stop

-- the number of a reason
abbrev pub number_of : Why → ℕ
number_of why.NotText = 1
number_of why.LongLine = 2
number_of why.NoConfig = 3
number_of why.SecondConfig = 4
number_of why.UnknownWord = 5
number_of why.MissingWord = 6
number_of why.ExtraWord = 7
number_of why.BadNumber = 8
number_of why.OutOfRange = 9
number_of why.BadName = 10
number_of why.TooManyLines = 11
number_of why.TooLong = 12
number_of why.WrongMode = 13
number_of why.SecondJob = 15
number_of why.WrongKind = 16
number_of why.TooManyPings = 17

-- what comes after a part that isn't refused
infixl 10 ◌>>=◌
abbrev pub ◌>>=◌ : {A B : Type 0} → Result A Why → (A → Result B Why) → Result B Why
(Ok x) >>= f = f x
(Err w) >>= f = Err w

-- nothing where the test fails, and else a refusal
abbrev pub refuse : Bool → Why → Result (Unit {0}) Why
refuse b w = if b then Err w else Ok tt

-- of two reasons the one that is tried first
abbrev pub earlier : Why → Why → Why
earlier v w = if nat_le (number_of v) (number_of w) then v else w

-- two parts, refused for the first of their reasons
infixl 20 ◌&◌
abbrev pub ◌&◌ : {A B : Type 0} → Result A Why → Result B Why → Result (A × B) Why
(Ok x) & (Ok y) = Ok (x, y)
(Ok x) & (Err w) = Err w
(Err v) & (Ok y) = Err v
(Err v) & (Err w) = Err (earlier v w)

-- what was returned is what is defined, unless memory ran out
abbrev pub Stops : {X : Type 0} → Stop → Result X Why → Type 0
Stops stop.OutOfMemory defined = Unit {0}
Stops (stop.Refused w) defined = defined ≡ Err w

abbrev pub Gives : {X : Type 0} → Result X Stop → Result X Why → Type 0
Gives (Ok x) defined = defined ≡ Ok x
Gives (Err e) defined = Stops e defined

-- the same, for what was left in a place
abbrev pub Leaves : {X : Type 0} → Result (Unit {0}) Stop → Result X Why → X → Type 0
Leaves (Ok u) defined left = defined ≡ Ok left
Leaves (Err e) defined left = Stops e defined

-- the same, for what holds references, seen by view
abbrev pub Reads : {X Y : Type 0} → (X → Y) → Result X Why → Result Y Why → Type 0
Reads view (Ok x) defined = defined ≡ Ok (view x)
Reads view (Err w) defined = defined ≡ Err w
