-- What a script says: its settings and its orders; what is read off them: names, sends, plans.
use Rattle.std.specs.Prelude.{ℕ, ◌+◌, Bool, true, false, ◌==◌, ◌&&◌, ◌≤◌, nat_eq, List, [], ◌∷◌, ◌++◌, length, map, filter, fold, Option, Some, None, if◌then◌else◌, IsTrue}
use Rattle.std.specs.List.{list_any, list_all}
use Rattle.std.specs.Ordering.{nat_cmp}
use Rattle.std.specs.Cmp.Lexicographic.{pointwise, slice_cmp}
use Rattle.std.specs.BTreeSet.{insert_key}
use Rattle.yard_model.specs.declared.charter.Config.{Config}
use Rattle.yard_model.specs.declared.charter.Line.{Line}
use Rattle.yard_model.specs.declared.charter.Order.{Order}
use Rattle.yard_model.specs.declared.charter.Order.TheVariants as order
use Rattle.yard_model.specs.declared.charter.Sending.{Sending}
use Rattle.yard_model.specs.declared.event.Command.{Command}
use Rattle.yard_model.specs.Behaviour.{is_in, is_of_kind}

-- a script
pub record Script : Type 0 where
  pub config : Config
  pub orders : List Line

-- the same name
abbrev pub is_name : List ℕ → List ℕ → Bool
is_name a b = pointwise nat_eq a b

-- the name that an order brings
abbrev pub brought : Order → Option (List ℕ)
brought (order.Send p e c) = Some e
brought (order.Passivate e) = Some e
brought (order.FailWrite e k) = Some e
brought o = None

-- a name among names in order, once
abbrev pub with_brought : List (List ℕ) → Option (List ℕ) → List (List ℕ)
with_brought names None = names
with_brought names (Some e) = insert_key (slice_cmp nat_cmp) names e

abbrev pub with_name_of : List (List ℕ) → Line → List (List ℕ)
with_name_of names l = with_brought names (brought l.order)

-- the names that the orders bring: each once, in the order of their bytes
abbrev pub names_in : List Line → List (List ℕ)
names_in orders = fold with_name_of [] orders

-- how many of the sends are to this name
abbrev pub count_to : List ℕ → List Sending → ℕ
count_to e sends = length (filter (λ (x : Sending). is_name x.entity e) sends)

-- one send more, with its number in its pair
abbrev pub with_send : List Sending → List ℕ → Command → List Sending
with_send sends e c = sends ++ record { entity = e; number = count_to e sends + 1; command = c } ∷ []

abbrev pub with_order : ℕ → List Sending → Order → List Sending
with_order p sends (order.Send q e c) = if q == p then with_send sends e c else sends
with_order p sends o = sends

abbrev pub with_send_of : ℕ → List Sending → Line → List Sending
with_send_of p sends l = with_order p sends l.order

-- Sends(p): the sends of a producer, in script order
abbrev pub sends_in : ℕ → List Line → List Sending
sends_in p orders = fold (with_send_of p) [] orders

abbrev pub sends : Script → ℕ → List Sending
sends c p = sends_in p c.orders

-- Plan(p, e): the commands from p to e, in order
abbrev pub plan : Script → ℕ → List ℕ → List Command
plan c p e = map (λ (x : Sending). x.command) (filter (λ (x : Sending). is_name x.entity e) (sends c p))

-- a pair of producer and entity
pub record Pair : Type 0 where
  pub producer : ℕ
  pub entity : List ℕ

abbrev pub is_pair : ℕ → List ℕ → Pair → Bool
is_pair p e x = (x.producer == p) && is_name x.entity e

abbrev pub with_pair : List Pair → Order → List Pair
with_pair pairs (order.Send p e c) = if list_any (is_pair p e) pairs then pairs else pairs ++ record { producer = p; entity = e } ∷ []
with_pair pairs o = pairs

-- the different pairs of the sends, in script order
abbrev pub pairs_in : List Line → List Pair
pairs_in orders = fold (λ pairs (l : Line). with_pair pairs l.order) [] orders

-- the settings are in range
abbrev pub is_config : Config → Bool
is_config c = is_in 1 16 c.nodes && is_in 1 128 c.shards && is_in 1 32 c.producers && is_in 1 1000 c.buffer && is_in 1 64 c.window
    && is_in 1 10000 c.snapshot && is_in 1 10 c.keep

-- the numbers of an order are in range, and its command is of the script's kind
abbrev pub is_order : Config → Order → Bool
is_order c (order.Up n) = is_in 1 c.nodes n
is_order c (order.Crash n) = is_in 1 c.nodes n
is_order c (order.Leave n) = is_in 1 c.nodes n
is_order c (order.Tick n) = is_in 1 c.nodes n
is_order c (order.Produce p n) = is_in 1 c.producers p && is_in 1 c.nodes n
is_order c (order.Rest p) = is_in 1 c.producers p
is_order c (order.Send p e k) = is_in 1 c.producers p && is_of_kind c.kind k
is_order c (order.Passivate e) = true
is_order c (order.FailWrite e k) = true
is_order c (order.Deliver k) = is_in 1 1000000 k
is_order c (order.Pump k) = is_in 1 10000 k
is_order c (order.Rebalance l) = is_in 1 128 l
is_order c order.Settle = true
is_order c (order.Reshard n) = is_in 1 128 n
is_order c order.Upgrade = true
is_order c (order.Ping p) = is_in 1 c.producers p

-- what a charter may be made of
pub record IsScript (c : Script) : Type 0 where
  pub config : IsTrue (is_config c.config)
  pub orders : IsTrue (list_all (λ (l : Line). is_order c.config l.order) c.orders)
  pub names : length (names_in c.orders) ≤ 1000
  pub pairs : length (pairs_in c.orders) ≤ 4000
  pub fits : length c.orders ≤ 3000000

-- the same script with so many shards
abbrev pub with_shards : ℕ → Script → Script
with_shards n c = record { config = record c.config { shards = n }; orders = c.orders }

abbrev pub is_upgrade : Order → Bool
is_upgrade order.Upgrade = true
is_upgrade o = false

-- the versions of behaviours that a script admits
abbrev pub versions : Script → List ℕ
versions c = if list_any (λ (l : Line). is_upgrade l.order) c.orders then 1 ∷ 2 ∷ [] else 1 ∷ []

abbrev pub is_version : Script → ℕ → Bool
is_version c v = list_any (λ w. w == v) (versions c)

-- what the actors know of a script: its settings and its names
pub record Setting : Type 0 where
  pub config : Config
  pub names : List (List ℕ)

abbrev pub setting : Script → Setting
setting c = record { config = c.config; names = names_in c.orders }
