-- The script of a number: what is drawn, and the orders that it makes.
use Rattle.std.specs.Prelude.{ℕ, zero, suc, ◌+◌, ◌*◌, ◌%◌, ◌==◌, true, nat_le, List, [], ◌∷◌, ◌++◌, length, map, codes, decimal, if◌then◌else◌}
use Rattle.rand_core.specs.Pcg32Seed.{pcg32_seed}
use Rattle.rand_pcg.specs.Lcg.{Lcg}
use Rattle.rand_pcg.specs.Pcg.{pcg32, pcg32_of_seed}
use Rattle.yard_model.specs.declared.charter.Config.{Config}
use Rattle.yard_model.specs.declared.charter.Line.{Line}
use Rattle.yard_model.specs.declared.charter.Order.{Order}
use Rattle.yard_model.specs.declared.charter.Order.TheVariants as order
use Rattle.yard_model.specs.declared.event.Command.TheVariants as command
use Rattle.yard_model.specs.declared.event.Kind.TheVariants as kind
use Rattle.yard_model.specs.Script.{Script}
use Rattle.yard_model.specs.Words.{numbers}

-- the generator of a number
unfoldable pub seeded : ℕ → Lcg
seeded n = pcg32_of_seed (pcg32_seed 16 n)

-- the next word modulo k, and the generator after it
unfoldable pub draw : ℕ → Lcg → ℕ × Lcg
draw k g = ((pcg32 g).0 % k, (pcg32 g).1)

-- the same, from 1 to k
abbrev pub one_to : ℕ → Lcg → ℕ × Lcg
one_to k g = (1 + (draw k g).0, (draw k g).1)

-- `e0`, `e1` and on
abbrev pub entity : ℕ → List ℕ
entity n = codes "e" ++ decimal n

-- The orders of each kind, and the generator after what they draw.

abbrev pub sent : Lcg → List Order × Lcg
sent g =
    let p = one_to 4 g in
    let e = draw 64 p.1 in
    let k = one_to 1000 e.1 in
    (order.Send p.0 (entity e.0) (command.Add k.0) ∷ order.Pump 8 ∷ [], k.1)

abbrev pub ticked : Lcg → List Order × Lcg
ticked g = let n = one_to 4 g in (order.Tick n.0 ∷ order.Pump 32 ∷ [], n.1)

abbrev pub rebalanced : Lcg → List Order × Lcg
rebalanced g = let l = one_to 3 g in (order.Rebalance l.0 ∷ [], l.1)

abbrev pub crashed : Lcg → List Order × Lcg
crashed g = let n = one_to 4 g in (order.Crash n.0 ∷ order.Up n.0 ∷ [], n.1)

abbrev pub passivated : Lcg → List Order × Lcg
passivated g = let e = draw 64 g in (order.Passivate (entity e.0) ∷ [], e.1)

abbrev pub taken : Lcg → List Order × Lcg
taken g =
    let p = one_to 4 g in
    let n = one_to 4 p.1 in
    (order.Produce p.0 n.0 ∷ [], n.1)

-- of 16 kinds, nine are sends and three are ticks
abbrev pub of_kind : ℕ → Lcg → List Order × Lcg
of_kind w g =
    if nat_le w 8 then sent g
    else if nat_le w 11 then ticked g
    else if w == 12 then rebalanced g
    else if w == 13 then crashed g
    else if w == 14 then passivated g
    else taken g

abbrev pub one_drawn : Lcg → List Order × Lcg
one_drawn g = of_kind (draw 16 g).0 (draw 16 g).1

-- the orders of so many drawings
abbrev pub drawn : ℕ → Lcg → List Order
drawn zero g = []
drawn (suc n) g = (one_drawn g).0 ++ drawn n (one_drawn g).1

-- four nodes come up, and each takes a queue
abbrev pub opening : List Order
opening = map (λ n. order.Up n) (numbers 1 4) ++ order.Pump 200 ∷ map (λ n. order.Produce n n) (numbers 1 4) ++ order.Pump 200 ∷ []

abbrev pub bulk_orders : ℕ → List Order
bulk_orders n = opening ++ drawn (6 * n) (seeded n) ++ order.Settle ∷ []

-- orders on lines of their own, from line n on
abbrev pub lines_from : ℕ → List Order → List Line
lines_from n [] = []
lines_from n (o ∷ os) = record { number = n; order = o } ∷ lines_from (n + 1) os

-- these orders on the lines after those that are there
abbrev pub with_lines : List Line → List Order → List Line
with_lines ls os = ls ++ lines_from (2 + length ls) os

abbrev pub bulk_config : Config
bulk_config = record { nodes = 4; shards = 32; producers = 4; buffer = 64; window = 16; snapshot = 8; keep = 2; remember = true; kind = kind.Counter }

-- the script of a number; its settings are line 1
abbrev pub bulk_script : ℕ → Script
bulk_script n = record { config = bulk_config; orders = lines_from 2 (bulk_orders n) }
