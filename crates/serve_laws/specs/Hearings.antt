-- What is so however a line is heard.
use Rattle.std.specs.Prelude.{◌≡◌, ◌<◌, ◌≤◌, ◌⊎◌, ℕ, ◌+◌, ◌-◌, Bool, true, false, List, ◌++◌, length, slice_index_or, Option, Some, None, Ok, IsTrue}
use Rattle.std.specs.List.{list_all}
use Rattle.yard_model.specs.declared.charter.Line.{Line}
use Rattle.yard_model.specs.declared.event.Command.{Command}
use Rattle.yard_model.specs.Behaviour.{is_in}
use Rattle.yard_model.specs.Script.{Script, IsScript, plan}
use Rattle.script_text.specs.Fit.{is_send}
use Rattle.script_text.specs.Words.{words}
use Rattle.yard_model.specs.Grown.{GoesOn}
use Rattle.serve_laws.specs.Hearing.{Answer, InForce, Done, Request, ToDo, after_all, answers_all, ask, heard, most_accepted, still, with_request}

-- Scripts.

-- a script of sends alone, and of so many at most
pub record IsHeard (c : Script) : Type 0 where
  pub script : IsScript c
  pub sends : IsTrue (list_all (λ (l : Line). is_send l.order) c.orders)
  pub few : length c.orders ≤ most_accepted

-- if settings are in force
abbrev pub AreHeard : Option Script → Type 0
AreHeard None = Unit {0}
AreHeard (Some c) = IsHeard c

-- what is in force stays so, and what was accepted, too
abbrev pub StaysWith : Option Script → Script → Type 0
StaysWith None c = ⊥
StaysWith (Some d) c = (d.config ≡ c.config) × GoesOn c d

abbrev pub GoOn : Option Script → Option Script → Type 0
GoOn None so = Unit {0}
GoOn (Some c) so = StaysWith so c

-- a line keeps a script a script
abbrev pub HeardIsScript : Type 0
HeardIsScript = (so : Option Script) (line : List ℕ) → AreHeard so → AreHeard (heard so line).so_far

-- and it goes on
abbrev pub HeardGoesOn : Type 0
HeardGoesOn = (so : Option Script) (line : List ℕ) → GoOn so (heard so line).so_far

-- so do lines, and groups of them
abbrev pub AllAreScripts : Type 0
AllAreScripts = (so : Option Script) (ls : List (List ℕ)) → AreHeard so → AreHeard (after_all so ls)

abbrev pub AllGoOn : Type 0
AllGoOn = (so : Option Script) (ls : List (List ℕ)) → GoOn so (after_all so ls)

-- Answers.

-- only these two answers change anything
abbrev pub may_change : Answer → Bool
may_change InForce = true
may_change (Done p e n) = true
may_change a = false

-- any other, so `gap` and `conflict`, changes nothing
abbrev pub OthersChangeNothing : Type 0
OthersChangeNothing = (so : Option Script) (line : List ℕ) → may_change (heard so line).answer ≡ false → (heard so line).so_far ≡ so

-- the accepted commands of the pair have this one at this number
pub record HasNumber (c : Script) (p : ℕ) (e : List ℕ) (n : ℕ) (k : Command) : Type 0 where
  pub producer : IsTrue (is_in 1 c.config.producers p)
  pub above : 0 < n
  pub within : n ≤ length (plan c p e)
  pub there : slice_index_or (plan c p e) (n - 1) k ≡ k

abbrev pub Has : Option Script → ℕ → List ℕ → ℕ → Command → Type 0
Has None p e n k = ⊥
Has (Some c) p e n k = HasNumber c p e n k

-- the line asks for this command
abbrev pub Asks : Option Script → List ℕ → Request → Type 0
Asks None line r = ⊥
Asks (Some c) line r = ask c.config (words line) ≡ Ok (ToDo r)

abbrev pub request_for : ℕ → List ℕ → ℕ → Command → Request
request_for p e n k = record { producer = p; entity = e; number = n; command = k }

-- where `done` is answered, the line asked for a command with this number, and they have it there
abbrev pub DoneHasNumber : Type 0
DoneHasNumber = (so : Option Script) (line : List ℕ) (p : ℕ) (e : List ℕ) (n : ℕ) → (heard so line).answer ≡ Done p e n → (k : Command) × Asks so line (request_for p e n k) × Has (heard so line).so_far p e n k

-- a line that changes what was accepted asks for the next command of its pair, which is accepted, and answered `done`
abbrev pub AcceptedIsNext : Type 0
AcceptedIsNext = (c : Script) (line : List ℕ) → ((heard (Some c) line).so_far ≡ Some c)
    ⊎ ((r : Request) × Asks (Some c) line r × (r.number ≡ length (plan c r.producer r.entity) + 1) × (heard (Some c) line ≡ record { so_far = Some (with_request c r); answer = Done r.producer r.entity r.number }))

-- that stays so
abbrev pub NumbersStay : Type 0
NumbersStay = (so : Option Script) (ls : List (List ℕ)) (p : ℕ) (e : List ℕ) (n : ℕ) (k : Command) → Has so p e n k → Has (after_all so ls) p e n k

-- and the line heard again, at once or after others, is answered the same and changes nothing
abbrev pub AgainIsDone : Type 0
AgainIsDone = (so : Option Script) (line : List ℕ) (ls : List (List ℕ)) (p : ℕ) (e : List ℕ) (n : ℕ) → (heard so line).answer ≡ Done p e n
    → let later : Option Script = after_all (heard so line).so_far ls in heard later line ≡ still later (Done p e n)

-- Cuts.

-- lines in two groups are heard as in one
abbrev pub CutsDontMatter : Type 0
CutsDontMatter = (so : Option Script) (xs ys : List (List ℕ)) → (after_all so (xs ++ ys) ≡ after_all (after_all so xs) ys) × (answers_all so (xs ++ ys) ≡ answers_all so xs ++ answers_all (after_all so xs) ys)
