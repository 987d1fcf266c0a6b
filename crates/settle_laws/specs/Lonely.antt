-- A world whose only node is up by itself: what waits past `from`, what is known of its lists, and how steps of it go.
use Rattle.std.specs.Prelude.{◌≡◌, ◌<◌, ◌≤◌, ℕ, ◌+◌, ◌-◌, Bool, true, false, nat_lt, List, [], ◌∷◌, ◌++◌, length, filter, Some}
use Rattle.std.specs.List.{list_any, list_all, slice_get}
use Rattle.std.proofs.Common.{◌⊎◌}
use Rattle.yard_model.specs.declared.fact.Fact.{Fact}
use Rattle.yard_model.specs.declared.fact.Fact.TheVariants as fact
use Rattle.yard_model.specs.declared.incarnation.Incarnation.{Incarnation}
use Rattle.yard_model.specs.declared.packet.Packet.{Packet}
use Rattle.yard_model.specs.Genuine.{is_genuine_packet}
use Rattle.yard_model.specs.Node.{Node}
use Rattle.yard_model.specs.Script.{Script, IsScript, setting}
use Rattle.yard_model.specs.SlotLists.{SlotLists, shard_list, queue_list}
use Rattle.yard_model.specs.Trace.{lists_of}
use Rattle.yard_model.specs.Words.{at}
use Rattle.yard_model.specs.World.{World, Made, all_sends}
use Rattle.node_laws.specs.Cluster.{IsCluster}
use Rattle.settle_laws.specs.Alone.{Base, Alone, node_with, Stands, none_later, load}
use Rattle.settle_laws.specs.Steps.{Agrees}

-- these numbers are those of these packets
abbrev pub ArePosted : List Packet → List ℕ → List Packet → Type 0
ArePosted wire [] [] = Unit {0}
ArePosted wire [] (p ∷ ps) = ⊥
ArePosted wire (k ∷ ks) [] = ⊥
ArePosted wire (k ∷ ks) (p ∷ ps) = (0 < k) × (slice_get wire (k - 1) ≡ Some p) × ArePosted wire ks ps

abbrev pub AreRising : ℕ → List ℕ → Type 0
AreRising a [] = Unit {0}
AreRising a (k ∷ ks) = (a < k) × AreRising k ks

-- node 1 alone is up, as st; since `from` packets were posted so many were delivered, and these wait, lowest number first
pub record IsBy (who : Incarnation) (from done : ℕ) (w : World) (st : Node) (wire : List Packet) : Type 0 where
  pub node_is : who.node ≡ 1
  pub is_up : at w.nodes 0 ≡ Some st
  pub others : (k : ℕ) (other : Node) → at w.nodes k ≡ Some other → k ≡ 0
  pub who_is : st.who ≡ who
  pub members_are : w.members ≡ who ∷ []
  pub not_full : w.full ≡ false
  pub past_is : w.past ≤ from
  pub wire_is : length w.wire ≡ from + done + length wire
  pub waiting : List ℕ
  pub waiting_is : filter (nat_lt from) w.fresh ≡ waiting
  pub rising : AreRising from waiting
  pub posted : ArePosted w.wire waiting wire

-- the facts of a trace lead to its lists, and are guarded; its nodes have their part of them in hand
pub record Known (c : Script) (w : World) : Type 0 where
  pub trace : List Fact
  pub script_is : IsScript c
  pub set_is : w.set ≡ setting c
  pub sends_are : w.sends ≡ all_sends c
  pub lists_are : w.lists ≡ lists_of (setting c) trace
  pub cluster : IsCluster c trace w.nodes

pub record IsLonely (c : Script) (b : Base) (from done : ℕ) (w : World) (z : Alone) : Type 0 where
  pub is_by : IsBy b.who from done w (node_with b z) z.wire
  pub base_is : b.set ≡ setting c
  pub ordered_is : w.ordered ≡ b.ordered
  pub known : Known c w
  pub genuine : list_all (is_genuine_packet c) z.wire ≡ true
  pub agrees : Agrees b z w.lists

-- How steps go.

-- a list goes on with more
abbrev pub IsFront : List Fact → List Fact → Type 0
IsFront old new = (more : List Fact) × (new ≡ old ++ more)

-- so does each slot's
pub record IsLonger (old new : SlotLists) : Type 0 where
  pub shards : (s : ℕ) → IsFront (shard_list old s) (shard_list new s)
  pub coordinator : IsFront old.coordinator new.coordinator
  pub queues : (p : ℕ) → IsFront (queue_list old p) (queue_list new p)

-- a delivery is one `got`
abbrev pub is_got : Fact → Bool
is_got (fact.Got k) = true
is_got f = false

abbrev pub deliveries_in : List Fact → ℕ
deliveries_in fs = length (filter is_got fs)

abbrev pub is_settled_fact : Fact → Bool
is_settled_fact fact.Settled = true
is_settled_fact f = false

-- the wire is full, so the trace stops: after at most so many deliveries, and since so many and those don't fit
pub record IsFull (limit before n : ℕ) (m : Made) : Type 0 where
  pub full : m.world.full ≡ true
  pub counted : deliveries_in m.facts ≤ n
  pub unsettled : list_any is_settled_fact m.facts ≡ false
  pub over : limit < before + n

-- it goes on alone: each delivery lowers the load, and the rest costs so much
pub record Comes (c : Script) (b : Base) (from done : ℕ) (w : World) (z : Alone) (cost : ℕ) (also : Alone → World → Type 0) (m : Made) : Type 0 where
  pub to : Alone
  pub lonely : IsLonely c b from (done + deliveries_in m.facts) m.world to
  pub stands : Stands b none_later to
  pub counted : deliveries_in m.facts + load b to ≤ load b z + cost
  pub unsettled : list_any is_settled_fact m.facts ≡ false
  pub limit_is : m.world.limit ≡ w.limit
  pub ordered_is : m.world.ordered ≡ w.ordered
  pub longer : IsLonger w.lists m.world.lists
  pub also_is : also to m.world

abbrev pub Outcome : Script → Base → ℕ → ℕ → World → Alone → ℕ → (Alone → World → Type 0) → Made → Type 0
Outcome c b from done w z cost also m = IsFull w.limit (from + done) (load b z + cost) m ⊎ Comes c b from done w z cost also m
