-- What a script is that `pull` or `daemon` takes, beyond what every script is.
use Rattle.std.specs.Prelude.{◌≡◌, ◌≤◌, ℕ, Bool, true, false, ◌==◌, not, List, length, filter, IsTrue}
use Rattle.std.specs.List.{list_all}
use Rattle.yard_model.specs.declared.charter.Line.{Line}
use Rattle.yard_model.specs.declared.charter.Order.{Order}
use Rattle.yard_model.specs.declared.charter.Order.TheVariants as order
use Rattle.yard_model.specs.declared.charter.Sending.{Sending}
use Rattle.yard_model.specs.declared.event.Kind.TheVariants as kind
use Rattle.yard_model.specs.Script.{Script, names_in, sends}
use Rattle.script_text.specs.declared.fault.Mode.{Mode}
use Rattle.script_text.specs.declared.fault.Mode.TheVariants as mode

abbrev pub is_send : Order → Bool
is_send (order.Send p e c) = true
is_send o = false

abbrev pub is_ping : Order → Bool
is_ping (order.Ping p) = true
is_ping o = false

-- how many pings there are
abbrev pub pings : List Line → ℕ
pings ls = length (filter (λ (l : Line). is_ping l.order) ls)

-- counters, no send, at most 900 names and 1,000 pings
pub record IsPinged (c : Script) : Type 0 where
  pub counters : c.config.kind ≡ kind.Counter
  pub silent : IsTrue (list_all (λ (l : Line). not (is_send l.order)) c.orders)
  pub few_names : length (names_in c.orders) ≤ 900
  pub few_pings : pings c.orders ≤ 1000

-- an order of `pull`: of producer 1, where it is of one
abbrev pub is_pulled : Order → Bool
is_pulled (order.Up n) = true
is_pulled (order.Crash n) = true
is_pulled (order.Tick n) = true
is_pulled (order.Produce p n) = p == 1
is_pulled (order.Rest p) = p == 1
is_pulled (order.Send p e c) = p == 1
is_pulled (order.Deliver k) = true
is_pulled (order.Pump k) = true
is_pulled o = false

-- such orders alone, and each send is the first to its name
pub record IsPulled (c : Script) : Type 0 where
  pub orders : IsTrue (list_all (λ (l : Line). is_pulled l.order) c.orders)
  pub once : IsTrue (list_all (λ (j : Sending). j.number == 1) (sends c 1))

abbrev pub IsFit : Mode → Script → Type 0
IsFit mode.Pull c = IsPulled c
IsFit mode.Daemon c = IsPinged c
IsFit m c = Unit {0}
