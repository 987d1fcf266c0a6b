-- A daemon of n instances: their names, and a script whose pings are sends to each.
use Rattle.std.specs.Prelude.{◌≡◌, ℕ, ◌≤◌, Bool, true, false, not, List, [], ◌∷◌, ◌++◌, length, map, codes, decimal, filter, IsTrue}
use Rattle.std.specs.List.{flat_map, list_all}
use Rattle.yard_model.specs.declared.charter.Line.{Line}
use Rattle.yard_model.specs.declared.charter.Order.{Order}
use Rattle.yard_model.specs.declared.charter.Order.TheVariants as order
use Rattle.yard_model.specs.declared.event.Command.TheVariants as command
use Rattle.yard_model.specs.declared.event.Kind.TheVariants as kind
use Rattle.yard_model.specs.Script.{Script, IsScript, names_in}
use Rattle.yard_model.specs.Words.{numbers}

-- the name of instance i: `daemon-0`, `daemon-1` and on
abbrev pub daemon : ℕ → List ℕ
daemon i = codes "daemon-" ++ decimal i

-- the names of n instances
abbrev pub daemons : ℕ → List (List ℕ)
daemons n = map daemon (numbers 0 n)

-- what a ping of producer p sends to an instance, on the ping's own line
abbrev pub read_line : ℕ → ℕ → List ℕ → Line
read_line l p e = record { number = l; order = order.Send p e command.Read }

abbrev pub order_lines : List (List ℕ) → ℕ → Order → List Line
order_lines names l (order.Ping p) = map (read_line l p) names
order_lines names l o = record { number = l; order = o } ∷ []

abbrev pub expanded_line : List (List ℕ) → Line → List Line
expanded_line names l = order_lines names l.number l.order

-- each ping becomes a `read` to each instance, rising, all with its line
abbrev pub expanded : ℕ → Script → Script
expanded n c = record { config = c.config; orders = flat_map (expanded_line (daemons n)) c.orders }

-- What a script with pings may be.

abbrev pub is_send : Order → Bool
is_send (order.Send p e c) = true
is_send o = false

abbrev pub is_ping : Order → Bool
is_ping (order.Ping p) = true
is_ping o = false

abbrev pub pings : List Line → ℕ
pings ls = length (filter (λ (l : Line). is_ping l.order) ls)

-- no order is a send, and there are few names, orders and pings
pub record IsPinged (c : Script) : Type 0 where
  pub silent : IsTrue (list_all (λ (l : Line). not (is_send l.order)) c.orders)
  pub names : length (names_in c.orders) ≤ 900
  pub orders : length c.orders ≤ 20000
  pub pings : pings c.orders ≤ 1000

-- it is then a script that a charter may be made of, also where its pings are sends to at most 100 counters
abbrev pub ExpandedIsScript : Type 0
ExpandedIsScript = (c : Script) (n : ℕ) → IsScript c → c.config.kind ≡ kind.Counter → n ≤ 100 → IsPinged c → IsScript (expanded n c)
