-- What a settling leads to: within so many deliveries every send so far is queued, recorded and confirmed, and it ends with `settled`.
use Rattle.std.specs.Prelude.{◌≡◌, ◌<◌, ◌≤◌, ℕ, ◌+◌, ◌*◌, true, false, List, [], ◌∷◌, ◌++◌, length, map, take, sum, None}
use Rattle.std.proofs.Common.{◌⊎◌}
use Rattle.std.specs.List.{list_any}
use Rattle.yard_model.specs.declared.charter.Sending.{Sending}
use Rattle.yard_model.specs.declared.charter.Line.{Line}
use Rattle.yard_model.specs.declared.charter.Order.TheVariants as order
use Rattle.yard_model.specs.declared.fact.Fact.{Fact}
use Rattle.yard_model.specs.declared.fact.Fact.TheVariants as fact
use Rattle.yard_model.specs.declared.incarnation.Slot.{Slot}
use Rattle.yard_model.specs.Era.{era_of}
use Rattle.yard_model.specs.Genuine.{is_producer, is_slot_of}
use Rattle.yard_model.specs.Lawful.{lawful}
use Rattle.yard_model.specs.Script.{Script, IsScript, is_version, setting, sends}
use Rattle.yard_model.specs.Setting.{producers}
use Rattle.yard_model.specs.Settled.{settled}
use Rattle.yard_model.specs.SlotLists.{SlotLists, queue_list}
use Rattle.yard_model.specs.SlotReads.{holder, queued_in_all}
use Rattle.yard_model.specs.Trace.{list_at}
use Rattle.yard_model.specs.World.{World, Made, is_any_up, new_world, in_order, play_line, ordered_of, outstanding, settle, settled_from, settle_bound, given_world, all_sends, wire_limit}
use Rattle.play_laws.specs.Confirming.{MaySettle}
use Rattle.settle_laws.specs.Lonely.{deliveries_in, is_settled_fact, IsLonger}

-- the sends of each producer that were ordered so far
abbrev pub ordered_sends : Script → World → List (List Sending)
ordered_sends c w = map (λ p. take (ordered_of w p) (sends c p)) (producers (setting c))

-- how many commands were sent and aren't confirmed
abbrev pub outstanding_in_all : World → ℕ
outstanding_in_all w = sum (map (outstanding w) (producers w.set))

-- so many deliveries at most: 24 for each of these, 18 for each shard, one for each name, and three
abbrev pub most_deliveries : World → ℕ
most_deliveries w = 24 * outstanding_in_all w + 18 * w.set.config.shards + length w.set.names + 3

-- no slot of the script is held
abbrev pub IsUnheld : Script → SlotLists → Type 0
IsUnheld c lists = (s : Slot) → is_slot_of c s ≡ true → holder (list_at lists s) ≡ None

-- it ends with `settled`, told once, and every send so far is queued, recorded and confirmed; the lists go on with more and are lawful, no node is up, and nobody holds a slot
pub record EndsSettled (c : Script) (w : World) (m : Made) : Type 0 where
  pub not_full : m.world.full ≡ false
  pub counted : deliveries_in m.facts ≤ most_deliveries w
  pub front : List Fact
  pub ends : m.facts ≡ front ++ fact.Settled ∷ []
  pub once : list_any is_settled_fact front ≡ false
  pub settled_is : settled c (ordered_sends c w) m.world.lists ≡ true
  pub all_queued : (p : ℕ) → is_producer c p ≡ true → queued_in_all (queue_list m.world.lists p) ≡ ordered_of w p
  pub lawful_is : lawful c m.world.lists ≡ true
  pub none_up : is_any_up m.world ≡ false
  pub unheld : IsUnheld c m.world.lists
  pub longer : IsLonger w.lists m.world.lists

-- or the wire fills before, and the trace stops; then it had no room for the packets of so many deliveries
pub record EndsFull (w : World) (m : Made) : Type 0 where
  pub full : m.world.full ≡ true
  pub counted : deliveries_in m.facts ≤ most_deliveries w
  pub unsettled : list_any is_settled_fact m.facts ≡ false
  pub over : w.limit < length w.wire + most_deliveries w

abbrev pub Settles : Script → World → Made → Type 0
Settles c w m = EndsFull w m ⊎ EndsSettled c w m

-- The laws.

-- no budget of a settle is spent: it is at least so many
abbrev pub BudgetSuffices : Type 0
BudgetSuffices = (w : World) → most_deliveries w ≤ settle_bound w

pub record StoresEnd (c : Script) (version : ℕ) (lists : SlotLists) : Type 0 where
  pub ends : EndsSettled c (given_world c version lists) (settled_from c version lists)
  pub all_settled : settled c (all_sends c) (settled_from c version lists).world.lists ≡ true

-- given lists that are lawful and that nobody holds, of any script and a version that it admits, where the wire has room for so many packets: their settling ends, and every send of the script is settled
abbrev pub StoresSettle : Type 0
StoresSettle = (c : Script) (version : ℕ) (lists : SlotLists) → IsScript c → is_version c version ≡ true → lawful c lists ≡ true → IsUnheld c lists → most_deliveries (given_world c version lists) ≤ wire_limit → StoresEnd c version lists

-- though more may be recorded in such lists than is queued, it hands over nothing that confirms until node 1 has taken every queue, and then all that is recorded is queued
abbrev pub GivenMaySettle : Type 0
GivenMaySettle = (c : Script) (version : ℕ) (lists : SlotLists) → IsScript c → is_version c version ≡ true → lawful c lists ≡ true → IsUnheld c lists → let w : World = given_world c version lists in MaySettle c (length w.wire) (settle_bound w) w

-- the wire has that room where at most 40,000 commands were sent and aren't confirmed
abbrev pub OutstandingFits : Type 0
OutstandingFits = (c : Script) (version : ℕ) (lists : SlotLists) → IsScript c → outstanding_in_all (given_world c version lists) ≤ 40000 → most_deliveries (given_world c version lists) ≤ wire_limit

-- so it is where the script has at most 20,000 orders
abbrev pub FewOrdersFit : Type 0
FewOrdersFit = (c : Script) (version : ℕ) (lists : SlotLists) → IsScript c → length c.orders ≤ 20000 → most_deliveries (given_world c version lists) ≤ wire_limit

-- a settling after any number of the orders of any script, with any limit of packets: c is that script with the number of shards in force
abbrev pub OrdersSettle : Type 0
OrdersSettle = (c : Script) (limit n : ℕ) → IsScript c → let m : Made = in_order (map play_line (take n c.orders)) (new_world c limit) in m.world.full ≡ false → Settles (era_of c m.facts).script m.world (settle m.world)

-- and so the line that tells it
abbrev pub SettleLineSettles : Type 0
SettleLineSettles = (c : Script) (limit n number : ℕ) → IsScript c → let m : Made = in_order (map play_line (take n c.orders)) (new_world c limit) in m.world.full ≡ false → Settles (era_of c m.facts).script m.world (play_line (record { number = number; order = order.Settle }) m.world)

-- after each of these lines the wire isn't full, and after one that settles no node is up
abbrev pub AreSettled : List Line → World → Type 0
AreSettled [] w = Unit {0}
AreSettled (l ∷ ls) w = let v : World = (play_line l w).world in (v.full ≡ false) × (l.order ≡ order.Settle → is_any_up v ≡ false) × AreSettled ls v

-- so it is after any number of the orders, where the wire isn't full then
abbrev pub SettlesLeaveNone : Type 0
SettlesLeaveNone = (c : Script) (limit n : ℕ) → IsScript c → (in_order (map play_line (take n c.orders)) (new_world c limit)).world.full ≡ false → AreSettled (take n c.orders) (new_world c limit)
