-- What a script says: the charter that its bytes spell, or the first fault. The lines are read in turn, and the
-- first that is refused ends the reading. On one line the tests stand here in the order of their reasons.
use Rattle.std.specs.Prelude.{◌≡◌, ◌≤◌, ℕ, ◌+◌, Bool, true, false, ◌==◌, ◌||◌, ◌&&◌, not, nat_lt, if◌then◌else◌, List, [], ◌∷◌, ◌++◌, length, Option, Some, None, Result, Ok, Err, codes}
use Rattle.std.specs.List.{list_all, list_any}
use Rattle.std.specs.Str.Lines.{lines}
use Rattle.yard_model.specs.declared.charter.Order.{Order}
use Rattle.yard_model.specs.declared.charter.Order.TheVariants as order
use Rattle.yard_model.specs.declared.event.Kind.{Kind}
use Rattle.yard_model.specs.declared.event.Kind.TheVariants as kind
use Rattle.yard_model.specs.Script.{Script, Pair, is_pair, names_in, pairs_in}
use Rattle.script_text.specs.declared.fault.Mode.{Mode}
use Rattle.script_text.specs.declared.fault.Mode.TheVariants as mode
use Rattle.script_text.specs.declared.fault.ScriptFault.{ScriptFault}
use Rattle.script_text.specs.declared.fault.ScriptFault.TheVariants as fault
use Rattle.script_text.specs.declared.fault.Stop.{Stop}
use Rattle.script_text.specs.declared.fault.Stop.TheVariants as stop
use Rattle.script_text.specs.declared.fault.Why.{Why}
use Rattle.script_text.specs.declared.fault.Why.TheVariants as why
use Rattle.script_text.specs.Faults.{◌>>=◌, refuse}
use Rattle.script_text.specs.Fit.{IsFit, pings}
use Rattle.script_text.specs.Words.{words, is_text, is_blank, is_comment, is_plain}
use Rattle.script_text.specs.Orders.{order_of}
use Rattle.script_text.specs.Settings.{settings}

-- the charter that the bytes spell, or the line that is refused and why
pub data Reading : Type 0 where
  Spelled : Script → Reading
  Refused : ℕ → Why → Reading

-- whether the command takes this order
abbrev pub takes : Mode → Order → Bool
takes mode.Solo (order.Send p e c) = true
takes mode.Solo (order.Deliver k) = true
takes mode.Solo o = false
takes mode.Replay (order.Ping p) = false
takes mode.Replay o = true
takes mode.Live (order.Deliver k) = false
takes mode.Live (order.Pump k) = false
takes mode.Live (order.FailWrite e k) = false
takes mode.Live (order.Reshard n) = false
takes mode.Live order.Upgrade = false
takes mode.Live (order.Ping p) = false
takes mode.Live o = true
takes mode.Pull (order.Up n) = true
takes mode.Pull (order.Crash n) = true
takes mode.Pull (order.Tick n) = true
takes mode.Pull (order.Produce p n) = true
takes mode.Pull (order.Rest p) = true
takes mode.Pull (order.Send p e c) = true
takes mode.Pull (order.Deliver k) = true
takes mode.Pull (order.Pump k) = true
takes mode.Pull o = false
takes mode.Daemon (order.Send p e c) = false
takes mode.Daemon (order.FailWrite e k) = false
takes mode.Daemon (order.Reshard n) = false
takes mode.Daemon order.Upgrade = false
takes mode.Daemon o = true
takes mode.Log (order.Reshard n) = false
takes mode.Log order.Upgrade = false
takes mode.Log (order.Ping p) = false
takes mode.Log o = true

-- a script with one order more, on this line
abbrev pub with_line : Script → ℕ → Order → Script
with_line s n o = record { config = s.config; orders = s.orders ++ record { number = n; order = o } ∷ [] }

-- the most names: beside those of `daemon` there are its instances
abbrev pub most_names : Mode → ℕ
most_names mode.Daemon = 900
most_names m = 1000

-- too many names, or more than 4,000 pairs of producer and entity
abbrev pub is_over : Mode → Script → Bool
is_over m s = nat_lt (most_names m) (length (names_in s.orders)) || nat_lt 4000 (length (pairs_in s.orders))

-- the instances of a daemon are counters
abbrev pub is_wrong_kind : Mode → Kind → Bool
is_wrong_kind mode.Daemon kind.Account = true
is_wrong_kind mode.Daemon kind.Cart = true
is_wrong_kind m k = false

-- a send of a pair that is among these
abbrev pub is_sent : List Pair → Order → Bool
is_sent pairs (order.Send p e c) = list_any (is_pair p e) pairs
is_sent pairs o = false

abbrev pub is_pull : Mode → Bool
is_pull mode.Pull = true
is_pull m = false

-- under `pull` each name is one job
abbrev pub is_second_job : Mode → Script → Order → Bool
is_second_job m s o = is_pull m && is_sent (pairs_in s.orders) o

-- more than 1,000 pings
abbrev pub has_many_pings : Script → Bool
has_many_pings s = nat_lt 1000 (pings s.orders)

-- the first line too many
abbrev pub is_late : ℕ → Bool
is_late n = n == 20001

-- the tests that come first, of any line
unfoldable pub plain : List ℕ → Result (Unit {0}) Why
plain line = do
  text ← refuse (not (is_comment (words line)) && not (list_all is_plain line)) why.NotText
  refuse (nat_lt 256 (length line)) why.LongLine

-- the words of the first line that isn't blank, with the tests in the order of their reasons
unfoldable pub first_line : Mode → ℕ → List (List ℕ) → Result Script Why
first_line m n [] = Err why.NoConfig
first_line m n (w ∷ ws) = do
  first ← refuse (not (is_text w (codes "config"))) why.NoConfig
  c ← settings ws
  early ← refuse (is_late n) why.TooManyLines
  kind ← refuse (is_wrong_kind m c.kind) why.WrongKind
  Ok (record { config = c; orders = [] })

-- a `config`
abbrev pub is_config_line : List (List ℕ) → Bool
is_config_line [] = false
is_config_line (w ∷ ws) = is_text w (codes "config")

-- the words of a later line, with the tests in the order of their reasons
unfoldable pub next_line : Mode → Script → ℕ → List (List ℕ) → Result Script Why
next_line m s n ws = do
  once ← refuse (is_config_line ws) why.SecondConfig
  o ← order_of m s.config ws
  within ← refuse (is_over m (with_line s n o)) why.OutOfRange
  early ← refuse (is_late n) why.TooManyLines
  taken ← refuse (not (takes m o)) why.WrongMode
  job ← refuse (is_second_job m s o) why.SecondJob
  few ← refuse (has_many_pings (with_line s n o)) why.TooManyPings
  Ok (with_line s n o)

-- what was read, with these words
abbrev pub with_words : Mode → Option Script → ℕ → List (List ℕ) → Result Script Why
with_words m None n ws = first_line m n ws
with_words m (Some s) n ws = next_line m s n ws

-- what was read, with the words of a line that has some; a comment adds nothing
abbrev pub text_read : Mode → Option Script → ℕ → List (List ℕ) → Result (Option Script) Why
text_read m so n ws =
    if is_blank ws then (refuse (is_late n) why.TooManyLines >>= λ early. Ok so)
    else (with_words m so n ws >>= λ s. Ok (Some s))

-- what was read, with this line, or the reason for which it is refused; a blank line adds nothing
unfoldable pub line_read : Mode → Option Script → ℕ → List ℕ → Result (Option Script) Why
line_read m so n line =
    plain line >>= λ ok.
    if is_blank (words line) then (refuse (is_late n) why.TooManyLines >>= λ early. Ok so)
    else (with_words m so n (words line) >>= λ s. Ok (Some s))

-- after this line, from here on
abbrev pub going_on : ℕ → Result (Option Script) Why → (Option Script → Reading) → Reading
going_on n (Ok so) rest = rest so
going_on n (Err w) rest = Refused n w

-- the end: without settings there is no script
abbrev pub ended : Option Script → Reading
ended None = Refused 1 why.NoConfig
ended (Some s) = Spelled s

-- the lines from number n on, after what was read
abbrev pub lines_read : Mode → Option Script → ℕ → List (List ℕ) → Reading
lines_read m so n [] = ended so
lines_read m so n (l ∷ ls) = going_on n (line_read m so n l) (λ more. lines_read m more (n + 1) ls)

-- more than 4 MiB
abbrev pub is_too_long : List ℕ → Bool
is_too_long bytes = nat_lt 4194304 (length bytes)

-- what the bytes say under this command
unfoldable pub reading : Mode → List ℕ → Reading
reading m bytes = if is_too_long bytes then Refused 0 why.TooLong else lines_read m None 1 (lines bytes)

-- the fault that is told is the first one
abbrev pub TellsFault : ScriptFault → Reading → Type 0
TellsFault (fault.At line w) r = r ≡ Refused line w
TellsFault fault.OutOfMemory r = Unit {0}

-- within the limits, with at most n orders, and fit for the command
pub record IsFitWithin (m : Mode) (n : ℕ) (s : Script) : Type 0 where
  pub few_names : length (names_in s.orders) ≤ 1000
  pub few_pairs : length (pairs_in s.orders) ≤ 4000
  pub few_orders : length s.orders ≤ n
  pub fit : IsFit m s

abbrev pub IsWithin : Mode → ℕ → Option Script → Type 0
IsWithin m n None = Unit {0}
IsWithin m n (Some s) = IsFitWithin m n s

-- the fault of a line
abbrev pub stopped_at : ℕ → Stop → ScriptFault
stopped_at n (stop.Refused w) = fault.At n w
stopped_at n stop.OutOfMemory = fault.OutOfMemory
