-- What a live run rests on, over the definitions alone.
use Rattle.std.specs.Prelude.{◌≡◌, ℕ, ◌+◌, ◌-◌, ◌<◌, ◌≤◌, ◌⊎◌, Bool, true, false, ◌==◌, ◌||◌, not, nat_le, List, [], length, fold, count_by, Option, Some, None}
use Rattle.std.specs.List.{list_all, list_any}
use Rattle.yard_model.specs.declared.charter.Order.{Order}
use Rattle.yard_model.specs.declared.charter.Order.TheVariants as order
use Rattle.yard_model.specs.declared.charter.Sending.{Sending}
use Rattle.yard_model.specs.declared.fact.Fact.{Fact}
use Rattle.yard_model.specs.declared.incarnation.Slot.{Slot}
use Rattle.yard_model.specs.declared.incarnation.Slot.TheVariants as slot
use Rattle.yard_model.specs.declared.input.Input.{Input}
use Rattle.yard_model.specs.declared.input.Input.TheVariants as input
use Rattle.yard_model.specs.Follow.{each_follows}
use Rattle.yard_model.specs.Genuine.{is_slot_of, is_producer}
use Rattle.yard_model.specs.Lawful.{own, lawful}
use Rattle.yard_model.specs.Node.{Node, after, turn}
use Rattle.yard_model.specs.Producer.{Producer}
use Rattle.yard_model.specs.Script.{Script, IsScript, setting, sends}
use Rattle.yard_model.specs.Setting.{shard_of}
use Rattle.yard_model.specs.SlotLists.{SlotLists, shard_list, queue_list}
use Rattle.yard_model.specs.SlotReads.{holder, queued_in_all}
use Rattle.yard_model.specs.Trace.{list_at}
use Rattle.yard_model.specs.Words.{at}
use Rattle.yard_model.specs.World.{all_sends}
use Rattle.yard_model.specs.Workers.{is_up, worker_orders, is_queued_by, is_steady, worked}
use Rattle.shard_lease.specs.Meaning.{Begins, confirms}
use Rattle.shard_store.specs.declared.store.Store.{Store}
use Rattle.shard_store.specs.Stores.{lists_at, place_of}
use Rattle.lease_table.specs.declared.View.{View}
use Rattle.lease_table.specs.Lists.{seen_at, Has}
use Rattle.lease_table.specs.Leasing.{Closed}
use Rattle.lease_table.specs.Fits.{admits, is_fit, recorded}

-- What a closed table gives is lawful.

-- what the queues confirm is recorded in the shards
abbrev pub AreRecorded : Script → SlotLists → Type 0
AreRecorded c lists = (q : ℕ) (e : List ℕ) (p n : ℕ) → is_producer c q ≡ true → confirms e p n (queue_list lists q) ≡ true → recorded e p n (shard_list lists (shard_of (setting c) e)) ≡ true

abbrev pub TableIsLawful : Type 0
TableIsLawful = (c : Script) (lists : SlotLists) → IsScript c → length lists.shards ≡ c.config.shards → length lists.queues ≡ c.config.producers
    → ((s : Slot) → is_slot_of c s ≡ true → own c s (list_at lists s) ≡ true) → AreRecorded c lists → lawful c lists ≡ true

-- What is steady is worked.

-- the producer's queue goes to the one node that produces it
abbrev pub SteadyAlone : Type 0
SteadyAlone = (c : Script) (turns p n m : ℕ) → is_steady c turns p n ≡ true → admits c m (slot.Queue p) ≡ true → m ≡ n

-- of a queue whose grants are to one node, each command is queued by it
abbrev pub QueuedBy : Type 0
QueuedBy = (c : Script) (p n : ℕ) (list : List Fact) → own c (slot.Queue p) list ≡ true → ((m : ℕ) → admits c m (slot.Queue p) ≡ true → m ≡ n) → list_all (is_fit c (slot.Queue p)) list ≡ true → each_follows (is_queued_by n) [] list ≡ true

-- no more is queued than is sent
abbrev pub QueuedWithin : Type 0
QueuedWithin = (c : Script) (p : ℕ) (list : List Fact) → own c (slot.Queue p) list ≡ true → queued_in_all list ≤ length (sends c p)

abbrev pub QueuedGrows : Type 0
QueuedGrows = (xs ys : List Fact) → Begins xs ys → queued_in_all xs ≤ queued_in_all ys

-- a queue of a producer that has all of its sends, where a pass saw so many
pub record HasSeen (c : Script) (p : ℕ) (list : List Fact) : Type 0 where
  pub seen : List Fact
  pub begins : Begins seen list
  pub all : length (sends c p) ≤ queued_in_all seen

abbrev pub SteadyIsWorked : Type 0
SteadyIsWorked = (c : Script) (turns : ℕ) (lists : SlotLists) → ((p : ℕ) → is_producer c p ≡ true → own c (slot.Queue p) (queue_list lists p) ≡ true) → ((p : ℕ) → is_producer c p ≡ true → list_all (is_fit c (slot.Queue p)) (queue_list lists p) ≡ true)
    → ((p n : ℕ) → is_producer c p ≡ true → is_steady c turns p n ≡ true → HasSeen c p (queue_list lists p)) → worked c turns lists ≡ true

-- What a turn does to a queue.

-- the node has the queue in hand, with a list that begins so and so many commands queued
pub record HasQueue (st : Node) (p : ℕ) (from : List Fact) (least : ℕ) : Type 0 where
  pub producer : Producer
  pub there : at st.producers (p - 1) ≡ Some producer
  pub begins : Begins from producer.entries
  pub count : least ≤ queued_in_all producer.entries

-- a rest of this producer
abbrev pub is_rest : ℕ → Input → Bool
is_rest p (input.Rest q) = q == p
is_rest p i = false

-- where it is about a producer, there is such a number
abbrev pub is_own_input : Input → Bool
is_own_input (input.Produce q) = nat_le 1 q
is_own_input (input.Rest q) = nat_le 1 q
is_own_input (input.Send q) = nat_le 1 q
is_own_input i = true

-- each input but a rest of its producer keeps a queue in hand, and what is queued there
abbrev pub TurnKeepsQueue : Type 0
TurnKeepsQueue = (sends : List (List Sending)) (lists : SlotLists) (st : Node) (i : Input) (p : ℕ) (k : Producer) → 0 < p → is_rest p i ≡ false → is_own_input i ≡ true → at st.producers (p - 1) ≡ Some k
    → HasQueue (fold after st (turn sends lists i st)) p k.entries (queued_in_all k.entries)

-- a send queues the next of the producer's sends, where one is left
abbrev pub SendQueues : Type 0
SendQueues = (c : Script) (lists : SlotLists) (st : Node) (p : ℕ) (k : Producer) → is_producer c p ≡ true → at st.producers (p - 1) ≡ Some k → k.number ≡ p → queued_in_all k.entries < length (sends c p)
    → HasQueue (fold after st (turn (all_sends c) lists (input.Send p) st)) p k.entries (queued_in_all k.entries + 1)

-- where nobody holds the queue, it is in hand after a produce
abbrev pub ProduceTakes : Type 0
ProduceTakes = (sends : List (List Sending)) (lists : SlotLists) (st : Node) (p : ℕ) → 0 < p → p - 1 < length st.producers → at st.producers (p - 1) ≡ None → holder (queue_list lists p) ≡ None
    → HasQueue (fold after st (turn sends lists (input.Produce p) st)) p (queue_list lists p) (queued_in_all (queue_list lists p))

-- The orders of a steady producer's worker.

abbrev pub is_produce_of : ℕ → Order → Bool
is_produce_of p (order.Produce q m) = q == p
is_produce_of p o = false

abbrev pub is_send : ℕ → Order → Bool
is_send p (order.Send q e k) = q == p
is_send p o = false

-- no crash, and no rest of p; an up before each produce of p, a produce of p before each send
abbrev pub is_run_after : ℕ → ℕ → List Order → Order → Bool
is_run_after p n before (order.Rest q) = not (q == p)
is_run_after p n before (order.Crash m) = false
is_run_after p n before (order.Produce q m) = not (q == p) || list_any (is_up n) before
is_run_after p n before (order.Send q e k) = not (q == p) || list_any (is_produce_of p) before
is_run_after p n before o = true

pub record IsRun (c : Script) (p n : ℕ) (os : List Order) : Type 0 where
  pub follows : each_follows (is_run_after p n) [] os ≡ true
  pub count : count_by (is_send p) os ≡ length (sends c p)

abbrev pub SteadyRun : Type 0
SteadyRun = (c : Script) (turns p n : ℕ) → is_steady c turns p n ≡ true → IsRun c p n (worker_orders c n)

-- What a closed table gives.

-- its lists are lawful
abbrev pub ClosedIsLawful : Type 0
ClosedIsLawful = (c : Script) (v : View) (places : List (Option Store)) → Closed c v places → lawful c (lists_at c.config places) ≡ true

-- the pass, or one that was joined to it, has seen all of the producer's sends queued
pub record SawQueued (c : Script) (v : View) (p : ℕ) : Type 0 where
  pub list : List Fact
  pub saw : (list ≡ seen_at v.seen (place_of c.config (slot.Queue p))) ⊎ Has list (seen_at v.olds (place_of c.config (slot.Queue p)))
  pub all : length (sends c p) ≤ queued_in_all list

-- and worked, where the pass that closed it has seen all sends of each steady producer queued
abbrev pub ClosedIsWorked : Type 0
ClosedIsWorked = (c : Script) (turns : ℕ) (v : View) (places : List (Option Store)) → Closed c v places → ((p n : ℕ) → is_producer c p ≡ true → is_steady c turns p n ≡ true → SawQueued c v p) → worked c turns (lists_at c.config places) ≡ true

-- What goes on from worked lists.

-- lawful lists whose queues go on from those of worked ones are worked
abbrev pub WorkedGoesOn : Type 0
WorkedGoesOn = (c : Script) (turns : ℕ) (old new : SlotLists) → lawful c new ≡ true → ((p : ℕ) → Begins (queue_list old p) (queue_list new p)) → worked c turns old ≡ true → worked c turns new ≡ true
