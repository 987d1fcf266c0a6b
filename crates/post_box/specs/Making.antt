-- What stands while the boxes are made.
use Rattle.std.specs.Prelude.{◌≡◌, ℕ, zero, suc, ◌+◌, ◌<◌, ◌≤◌, List, [], ◌∷◌, length, map, replicate, Option, vec_capacity}
use Rattle.std.specs.Global.{Vec}
use mathlib.Core.Option as maybe
use lib.ListN.{get_elem?}
use Rattle.atomic_table.specs.Seated.{TableId}
use Rattle.post_box.specs.declared.queue.Envelope.{Envelope}
use Rattle.post_box.specs.declared.queue.View.{View}
use Rattle.post_box.specs.Holding.{QueuePass, QueueState, Holder, new_holder, state, table_of}
use Rattle.post_box.specs.Rule.{taker, sender}

-- n and then the numbers below it, to 1
abbrev pub down : ℕ → List ℕ
down zero = []
down (suc n) = suc n ∷ down n

module _ {P : Type 0} where
  -- a pass that has taken nothing, whose next sender is this node's
  abbrev pub idle_taker : ℕ → QueueState P
  idle_taker next = (taker next [], [])

  -- a pass that has posted nothing
  abbrev pub idle_sender : ℕ → QueueState P
  idle_sender node = (sender node [], [])

  -- a pass of each queue in this state
  pub record AreAll (ids : List TableId) (s : QueueState P) (passes : List (QueuePass P)) : Type 0 where
    pub tables : map table_of passes ≡ ids
    pub states : map state passes ≡ replicate (length ids) s

  -- a row of senders for each node
  pub record AreRows (tables : List TableId) (n : ℕ) (rows : List (Vec (QueuePass P))) : Type 0 where
    pub count : length rows ≡ n
    pub each : (k : ℕ) (r : Vec (QueuePass P)) → get_elem? rows k ≡ maybe.some r → AreAll tables (idle_sender (k + 1)) r.items

  -- the first n takers, of this state
  pub record AreTakers (tables : List TableId) (n : ℕ) (s : QueueState P) (passes : List (QueuePass P)) : Type 0 where
    pub count : length passes ≡ n
    pub each : (k : ℕ) (t : QueuePass P) → get_elem? passes k ≡ maybe.some t → (get_elem? tables k ≡ maybe.some t.table_id) × (state t ≡ s)

  -- the first passes of the nodes from n down
  abbrev pub dealt_down : List TableId → ℕ → List (Holder P)
  dealt_down tables n = map (new_holder tables) (down n)
