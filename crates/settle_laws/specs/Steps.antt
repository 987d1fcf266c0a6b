-- What a delivery and a tick do to a node that is up by itself.
use Rattle.std.specs.Prelude.{◌≡◌, ◌<◌, ◌≤◌, ℕ, ◌+◌, ◌-◌, ◌*◌, Bool, true, false, nat_lt, List, [], ◌∷◌, sum_by, fold, Option, is_none, slice_index_or}
use Rattle.std.proofs.Common.{◌⊎◌}
use Rattle.std.specs.List.{list_any, list_all}
use Rattle.yard_model.specs.declared.packet.Packet.{Packet}
use Rattle.yard_model.specs.Node.{Node, Act, after, items_of, packet, tick}
use Rattle.yard_model.specs.Trace.{lists_step}
use Rattle.actor_laws.specs.Owes.{facts_in}
use Rattle.yard_model.specs.Producer.{Producer}
use Rattle.yard_model.specs.Setting.{shard_of, producers}
use Rattle.yard_model.specs.SlotLists.{SlotLists, shard_list}
use Rattle.yard_model.specs.Words.{at}
use Rattle.settle_laws.specs.Alone.{is_entered, Base, Alone, node_with, recorded, wire_after, is_home_at, confirmed_by, queued_by, producer_at, Each, is_active, Stands, none_later, IsFirst, IsSecond, IsThird, load, More, Goes}

-- every send is queued
abbrev pub AllQueued : Base → Alone → Type 0
AllQueued b z = (p : ℕ) (e : List ℕ) → 0 < p → queued_by e (producer_at z.producers p) ≡ b.made p e

-- the leases tell the lists of the shards that it doesn't host
abbrev pub Agrees : Base → Alone → SlotLists → Type 0
Agrees b z lists = (s : ℕ) → is_none (at z.hosted s) ≡ true → shard_list lists s ≡ shard_list b.lists s

-- These acts, on the first packet of the wire, lead to words that stand, with a lower load; what was reached stays.
pub record Taken (b : Base) (z : Alone) (p : Packet) (w : List Packet) (acts : List Act) : Type 0 where
  pub to : Alone
  pub node_is : fold after (node_with b z) acts ≡ node_with b to
  pub wire_is : fold wire_after w acts ≡ to.wire
  pub stands : Stands b none_later to
  pub falls : load b to + 1 ≤ load b z
  pub entered : list_all (is_entered b to.hosted) acts ≡ true
  pub more : More b z (record to { wire = p ∷ to.wire })
  pub asked_on : (s : ℕ) → slice_index_or z.asked s false ≡ true → (is_home_at b to.homes s ≡ true) ⊎ (slice_index_or to.asked s false ≡ true)
  pub third_on : (q : ℕ) (f : List ℕ) → 0 < q → IsThird b z q f → IsThird b to q f

-- each delivery keeps what stands, and lowers the load: whatever the packet, and whatever else is on the wire
abbrev pub DeliveryFalls : Type 0
DeliveryFalls = (b : Base) (z : Alone) (lists : SlotLists) (p : Packet) (w : List Packet) → Stands b none_later z → AllQueued b z → Agrees b z lists → z.wire ≡ p ∷ w → Taken b z p w (packet lists p.from p.body (node_with b z))

-- and so do the lists that go on with what is told
abbrev pub ListsAgree : Type 0
ListsAgree = (b : Base) (z to : Alone) (lists : SlotLists) (acts : List Act) → Agrees b z lists → ((s : ℕ) → is_none (at z.hosted s) ≡ false → is_none (at to.hosted s) ≡ false) → list_all (is_entered b to.hosted) acts ≡ true
    → Agrees b to (fold (lists_step b.set) lists (facts_in (items_of acts)))

-- what is kept along deliveries
pub record Onward (b : Base) (z to : Alone) : Type 0 where
  pub queued_on : (p : ℕ) (e : List ℕ) → queued_by e (producer_at to.producers p) ≡ queued_by e (producer_at z.producers p)
  pub holds_on : (p : ℕ) → is_none (producer_at z.producers p) ≡ false → is_none (producer_at to.producers p) ≡ false
  pub confirmed_on : (p : ℕ) (e : List ℕ) → confirmed_by e (producer_at z.producers p) ≤ confirmed_by e (producer_at to.producers p)
  pub first_on : (e : List ℕ) → IsFirst b z e → IsFirst b to e
  pub second_on : (e : List ℕ) → IsSecond b z e → IsSecond b to e
  pub third_on : (p : ℕ) (e : List ℕ) → 0 < p → IsThird b z p e → IsThird b to p e

-- The tick.

-- what is queued and not confirmed
abbrev pub out_by : List ℕ → Option Producer → ℕ
out_by e o = queued_by e o - confirmed_by e o

abbrev pub outs_at : Alone → ℕ → List (List ℕ) → ℕ
outs_at z p es = sum_by (λ e. out_by e (producer_at z.producers p)) es

abbrev pub all_outs : Base → Alone → List ℕ → ℕ
all_outs b z ps = sum_by (λ p. outs_at z p b.set.names) ps

-- nothing is confirmed, and no home forgotten
pub record Keeping (b : Base) (z to : Alone) : Type 0 where
  pub homes_are : to.homes ≡ z.homes
  pub asked_on : (s : ℕ) → slice_index_or z.asked s false ≡ true → slice_index_or to.asked s false ≡ true
  pub confirmed_are : (r : ℕ) (f : List ℕ) → confirmed_by f (producer_at to.producers r) ≡ confirmed_by f (producer_at z.producers r)

-- a pair that isn't confirmed goes on: the home is known or asked for; where it is known the entity exists; where that is active, more is recorded than confirmed, and acknowledged
pub record Repeats (b : Base) (z : Alone) (p : ℕ) (e : List ℕ) (to : Alone) : Type 0 where
  pub first : (queued_by e (producer_at z.producers p) ≤ confirmed_by e (producer_at z.producers p)) ⊎ IsFirst b to e
  pub second : is_home_at b z.homes (shard_of b.set e) ≡ true → (queued_by e (producer_at z.producers p) ≤ confirmed_by e (producer_at z.producers p)) ⊎ IsSecond b to e
  pub third : is_active b z.cells e ≡ true → IsThird b to p e

pub record Ticked (b : Base) (z to : Alone) : Type 0 where
  pub keeping : Keeping b z to
  pub repeats : Each (λ p. Each (λ e. Repeats b z p e to) b.set.names) (producers b.set)

-- a tick, with nothing on the wire, keeps what stands, and costs so much at most
abbrev pub TickCosts : Type 0
TickCosts = (b : Base) (z : Alone) (lists : SlotLists) → Stands b none_later z → z.wire ≡ [] → Goes b none_later (6 * b.set.config.shards + 6 * all_outs b z (producers b.set)) (Ticked b z) z (tick lists (node_with b z))

-- How it ends.

-- some queued number isn't confirmed
abbrev pub is_left_at : Node → Bool
is_left_at st = list_any (λ p. list_any (λ e. nat_lt (confirmed_by e (producer_at st.producers p)) (queued_by e (producer_at st.producers p))) st.set.names) (producers st.set)

-- a pair is settled: every send is queued, in the journal and confirmed
abbrev pub IsSettledPair : Base → Alone → ℕ → List ℕ → Type 0
IsSettledPair b z p e = (queued_by e (producer_at z.producers p) ≡ b.made p e) × (recorded b z.hosted p e ≡ b.made p e) × (confirmed_by e (producer_at z.producers p) ≡ b.made p e)
