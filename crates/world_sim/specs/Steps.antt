-- Parts of the world's steps that the code has functions for.
use Rattle.std.specs.Prelude.{ℕ, ◌+◌, ◌-◌, List, [], ◌∷◌, Option, Some, None, map, slice_index_or}
use Rattle.yard_model.specs.declared.fact.Fact.TheVariants as fact
use Rattle.yard_model.specs.declared.incarnation.Incarnation.{Incarnation}
use Rattle.yard_model.specs.declared.input.Input.{Input}
use Rattle.yard_model.specs.declared.input.Input.TheVariants as input
use Rattle.yard_model.specs.declared.out.Item.{Item}
use Rattle.yard_model.specs.declared.out.Item.TheVariants as item
use Rattle.yard_model.specs.declared.packet.Body.TheVariants as body
use Rattle.yard_model.specs.Node.{Node}
use Rattle.yard_model.specs.Script.{Script, setting}
use Rattle.yard_model.specs.Setting.{producers}
use Rattle.yard_model.specs.Words.{numbers}
use Rattle.yard_model.specs.World.{World, Step, tell, then_step, in_order, nothing, give, give_or, node_at, send_all_waiting, produce, drain, go_down, come_up, tick_while_left, settle_end, greatest_epoch}

-- a node comes up, and nobody is told yet
abbrev pub entered : ℕ → Step
entered n w = tell (fact.Up (record { node = n; number = slice_index_or w.ups (n - 1) 0 + 1 }) ∷ []) w

-- a packet of this number is delivered
abbrev pub marked : ℕ → Step
marked k w = tell (fact.Got k ∷ []) w

-- a view of these members, of this version, for one of them
abbrev pub view_item : ℕ → List Incarnation → Incarnation → Item
view_item version members x = item.Post (record { from = x; to = x; body = body.View version members })

-- the node of this number is given an input
abbrev pub given : ℕ → Input → Step
given n i w = give i (node_at w n) w

-- the node of this number, where there is a number
abbrev pub node_to : Option ℕ → World → Option Node
node_to None w = None
node_to (Some n) w = node_at w n

-- and it is given an input; else nothing happens
abbrev pub asked : Option ℕ → Input → Step
asked to i w = give_or i (node_to to w) nothing w

-- Settle, from each of its steps on: c is the script with the number of shards in force.

abbrev pub from_ticks : ℕ → ℕ → Step
from_ticks from bound = in_order (tick_while_left from bound bound ∷ settle_end from ∷ [])

abbrev pub from_second : ℕ → ℕ → Step
from_second from bound = in_order (drain from bound ∷ tick_while_left from bound bound ∷ settle_end from ∷ [])

-- node 1 takes every queue
abbrev pub all_taken : Script → Step
all_taken c = in_order (map (λ p. produce p 1) (producers (setting c)))

abbrev pub from_taking : Script → ℕ → ℕ → Step
from_taking c from bound w = then_step (all_taken c w) (from_second from bound)

abbrev pub from_first : Script → ℕ → ℕ → Step
from_first c from bound w = then_step (drain from bound w) (from_taking c from bound)

abbrev pub from_up : Script → ℕ → ℕ → Step
from_up c from bound w = then_step (come_up 1 w) (from_first c from bound)

-- every node goes down
abbrev pub all_down : Script → Step
all_down c = in_order (map go_down (numbers 1 c.config.nodes))

abbrev pub settled_by : Script → ℕ → ℕ → Step
settled_by c from bound w = then_step (all_down c w) (from_up c from bound)

-- node 1 goes down, and all is settled
abbrev pub ended : Step
ended = in_order (go_down 1 ∷ tell (fact.Settled ∷ []) ∷ [])

-- a tick at node 1, where it is up; then what is posted is delivered
abbrev pub ticked : ℕ → ℕ → Step
ticked from bound w = then_step (given 1 input.Tick w) (drain from bound)

-- the number of shards is another
abbrev pub resharded : ℕ → Step
resharded n w = tell (fact.Reshard n (greatest_epoch w.lists) ∷ []) w

-- another version is in force
abbrev pub upgraded : Step
upgraded = tell (fact.Upgrade 2 ∷ [])

-- the node of this number is given the queue of p, if it is free; then the sends that wait
abbrev pub produced : ℕ → ℕ → Step
produced p n w = then_step (given n (input.Produce p) w) (send_all_waiting p n)
