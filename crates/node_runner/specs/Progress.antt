-- How far the sends of a steady producer are queued by its worker.
use Rattle.std.specs.Prelude.{◌≡◌, ℕ, ◌+◌, ◌-◌, ◌*◌, ◌≤◌, ◌⊎◌, Bool, true, false, List, [], ◌∷◌, ◌++◌, length, count_by, Option, Some, None, is_some, IfSome, IsSomeAnd, MatchOption}
use Rattle.std.specs.List.{list_any}
use Rattle.atomic_table.specs.Seated.{TableId}
use Rattle.yard_model.specs.declared.charter.Order.{Order}
use Rattle.yard_model.specs.declared.incarnation.Slot.TheVariants as slot
use Rattle.yard_model.specs.declared.input.Input.{Input}
use Rattle.yard_model.specs.declared.input.Input.TheVariants as input
use Rattle.yard_model.specs.Genuine.{is_producer}
use Rattle.yard_model.specs.Node.{Node}
use Rattle.yard_model.specs.Script.{Script}
use Rattle.yard_model.specs.SlotReads.{queued_in_all}
use Rattle.yard_model.specs.Words.{at}
use Rattle.yard_model.specs.Workers.{is_up, is_steady, worker_orders}
use Rattle.actor_laws.specs.Hands.{held_list}
use Rattle.shard_store.specs.Stores.{place_of}
use Rattle.node_core.specs.Standing.{Standing}
use Rattle.lease_table.specs.Leasing.{Pass, Idle}
use Rattle.lease_table.specs.Lists.{seen_at}
use Rattle.live_laws.specs.Live.{is_produce_of, is_send, SawQueued}
use Rattle.node_runner.specs.Rested.{Rested, ArePublished}

-- so many commands of a producer are queued in the list that the pass has seen
abbrev pub queued_seen : Script → ℕ → Pass → ℕ
queued_seen c q p = queued_in_all (seen_at p.view.seen (place_of c.config (slot.Queue q)))

-- after the orders that were taken: each send is queued, and may be seen; the node is up where it came up, and has the queue in hand where it was to take it
pub record Progress (c : Script) (n q : ℕ) (taken : List Order) (p : Pass) (node : Option Standing) : Type 0 where
  pub sent : count_by (is_send q) taken ≤ queued_seen c q p
  pub up : list_any (is_up n) taken ≡ true → is_some node ≡ true
  pub held : list_any (is_produce_of q) taken ≡ true → IsSomeAnd node (λ v. is_some (at v.state.producers (q - 1)) ≡ true)

-- of the queues that a node has in hand, all may be seen
abbrev pub AreQueuesShown : Script → Pass → Node → Type 0
AreQueuesShown c p st = (q : ℕ) → is_producer c q ≡ true → IfSome (held_list (slot.Queue q) st) (λ list. seen_at p.view.seen (place_of c.config (slot.Queue q)) ≡ list)

abbrev pub QueuesAreShown : Type 0
QueuesAreShown = (c : Script) (p : Pass) (st : Node) → ArePublished c p st → AreQueuesShown c p st

-- a node that isn't up holds nothing; one that is rests on its pass, and what it has in hand may be seen
abbrev pub StandsAt : TableId → Script → ℕ → Pass → Option Standing → Type 0
StandsAt z c n p node = MatchOption node (Idle z c n p) (λ v. Rested z c n p v × ArePublished c p v.state)

-- with these orders left to the worker of node n
pub record Progressed (c : Script) (turns n : ℕ) (left : List Order) (p : Pass) (node : Option Standing) : Type 0 where
  pub taken : List Order
  pub all : worker_orders c n ≡ taken ++ left
  pub each : (q : ℕ) → is_producer c q ≡ true → is_steady c turns q n ≡ true → Progress c n q taken p node

-- whatever is left: so it stands after this as before
abbrev pub GoesOn : Script → ℕ → Pass → Option Standing → Pass → Option Standing → Type 0
GoesOn c n p node r after = (turns : ℕ) (left : List Order) → Progressed c turns n left p node → Progressed c turns n left r after

-- and with this order taken
abbrev pub Takes : Script → ℕ → Order → Pass → Option Standing → Pass → Option Standing → Type 0
Takes c n o p node r after = (turns : ℕ) (left : List Order) → Progressed c turns n (o ∷ left) p node → Progressed c turns n left r after

-- all sends of each steady producer are queued, as the pass has seen
abbrev pub SawAll : Script → ℕ → ℕ → Pass → Type 0
SawAll c turns n p = (q : ℕ) → is_producer c q ≡ true → is_steady c turns q n ≡ true → SawQueued c p.view q

abbrev pub is_rest : Input → Bool
is_rest (input.Rest q) = true
is_rest i = false
