-- One node that is up by itself, as in a settling: it is the only member, the only region, and the coordinator; no round is open and nobody leaves. Its words that change, what stands of them, and the load of what is still to be done.
use Rattle.std.specs.Prelude.{◌≡◌, ◌<◌, ◌≤◌, ℕ, ◌+◌, ◌-◌, ◌*◌, Bool, true, false, ◌==◌, ◌&&◌, not, max, List, [], ◌∷◌, ◌++◌, length, sum_by, fold, Option, Some, None, is_none, slice_index_or}
use Rattle.std.specs.List.{list_any, list_all}
use Rattle.std.proofs.Common.{◌⊎◌}
use Rattle.yard_model.specs.declared.fact.Fact.{Fact}
use Rattle.yard_model.specs.declared.out.Item.TheVariants as item
use Rattle.yard_model.specs.declared.input.Phase.{Phase}
use Rattle.yard_model.specs.declared.input.Phase.TheVariants as phase
use Rattle.yard_model.specs.declared.packet.Body.{Body}
use Rattle.yard_model.specs.declared.packet.Body.TheVariants as body
use Rattle.yard_model.specs.declared.packet.Packet.{Packet}
use Rattle.yard_model.specs.declared.packet.Message.{Message}
use Rattle.yard_model.specs.declared.incarnation.Incarnation.{Incarnation}
use Rattle.yard_model.specs.declared.incarnation.Stamp.{Stamp}
use Rattle.yard_model.specs.declared.incarnation.Slot.{Slot}
use Rattle.yard_model.specs.declared.incarnation.Slot.TheVariants as slot
use Rattle.yard_model.specs.Trace.{slot_of}
use Rattle.yard_model.specs.Coordinator.{Coordinator}
use Rattle.yard_model.specs.Entities.{Cell, Hosted, Entities, cell_in, is_phase}
use Rattle.yard_model.specs.Move.{Move, made}
use Rattle.yard_model.specs.Node.{Node, Act, after, move_of}
use Rattle.yard_model.specs.Producer.{Producer, progress}
use Rattle.yard_model.specs.Region.{Region, no_stamp, kept_of}
use Rattle.yard_model.specs.Script.{Setting, is_name}
use Rattle.yard_model.specs.Setting.{shard_of, place}
use Rattle.yard_model.specs.SlotLists.{SlotLists, shard_list}
use Rattle.yard_model.specs.SlotReads.{holder, epoch, journal, position, regions, allocation, queued, confirmed}
use Rattle.yard_model.specs.Words.{at, is_at, is_below, is_empty}
use Rattle.plain_laws.specs.Names.{AllDiffer}

-- what stays
pub record Base : Type 0 where
  pub who : Incarnation
  pub set : Setting
  pub behaviour : ℕ  -- the version of its behaviour
  pub lists : SlotLists  -- as the leases tell them, of the shards that it doesn't host
  pub version : ℕ  -- of its view
  pub lease : ℕ  -- the epoch of the coordinator's slot
  pub ordered : List ℕ  -- per producer: how many of its sends were ordered
  pub made : ℕ → List ℕ → ℕ  -- of producer and entity: how many sends there are

-- what changes
pub record Alone : Type 0 where
  pub homes : List (Option Incarnation)
  pub marks : List Stamp
  pub asked : List Bool
  pub kept : List (List Message)
  pub hosted : List (Option Hosted)
  pub cells : List Cell
  pub producers : List (Option Producer)
  pub entries : List Fact  -- of the coordinator
  pub started : List Bool
  pub wire : List Packet  -- what was posted and not delivered, oldest first

-- the stamp of its coordinator
abbrev pub stamp_at : Base → Stamp
stamp_at b = record { epoch = b.lease; round = 0 }

abbrev pub region_at : Base → Alone → Region
region_at b z = record {
  who = b.who;
  set = b.set;
  version = b.version;
  view = b.who ∷ [];
  registered = Some b.who;
  leaving = false;
  homes = z.homes;
  marks = z.marks;
  asked = z.asked;
  kept = z.kept;
}

abbrev pub entities_at : Base → Alone → Entities
entities_at b z = record { who = b.who; set = b.set; version = b.behaviour; hosted = z.hosted; cells = z.cells }

abbrev pub coordinator_at : Base → Alone → Coordinator
coordinator_at b z = record { who = b.who; set = b.set; entries = z.entries; quitting = []; started = z.started; moving = []; begun = 0 }

-- the node with these words
abbrev pub node_with : Base → Alone → Node
node_with b z = record {
  who = b.who;
  set = b.set;
  region = region_at b z;
  entities = entities_at b z;
  producers = z.producers;
  coordinator = Some (coordinator_at b z);
}

-- what is posted joins the wire
abbrev pub wire_by : List Packet → Move → List Packet
wire_by old (made (item.Post p)) = old ++ p ∷ []
wire_by old m = old

abbrev pub wire_after : List Packet → Act → List Packet
wire_after old a = wire_by old (move_of a)

-- What is read.

abbrev pub is_home_at : Base → List (Option Incarnation) → ℕ → Bool
is_home_at b homes s = is_at b.who (at homes s)

abbrev pub list_in : List Fact → Option Hosted → List Fact
list_in list None = list
list_in list (Some h) = h.entries

-- how many commands of p to e are recorded
abbrev pub recorded : Base → List (Option Hosted) → ℕ → List ℕ → ℕ
recorded b hosted p e = position p (journal e (list_in (shard_list b.lists (shard_of b.set e)) (at hosted (shard_of b.set e))))

abbrev pub confirmed_by : List ℕ → Option Producer → ℕ
confirmed_by e None = 0
confirmed_by e (Some k) = confirmed e k.entries

abbrev pub queued_by : List ℕ → Option Producer → ℕ
queued_by e None = 0
queued_by e (Some k) = queued e k.entries

abbrev pub demand_by : List ℕ → Option Producer → ℕ
demand_by e None = 0
demand_by e (Some k) = (progress k e).demand

abbrev pub sent_by : List ℕ → Option Producer → ℕ
sent_by e None = 0
sent_by e (Some k) = (progress k e).sent

abbrev pub producer_at : List (Option Producer) → ℕ → Option Producer
producer_at producers p = at producers (p - 1)

-- the name is the script's
abbrev pub IsThere : Base → List ℕ → Type 0
IsThere b e = place b.set e < length b.set.names

abbrev pub is_live : Phase → Bool
is_live phase.Absent = false
is_live p = true

abbrev pub is_active : Base → List Cell → List ℕ → Bool
is_active b cells e = is_phase phase.Active (cell_in b.set cells e).phase

-- it isn't stopping, no write of it is to fail, and where it doesn't exist nothing is stashed
abbrev pub is_settled_by : Phase → List Message → Bool
is_settled_by phase.Absent stash = is_empty stash
is_settled_by phase.Stopping stash = false
is_settled_by p stash = true

abbrev pub is_settled : Cell → Bool
is_settled c = is_settled_by c.phase c.stash && is_none c.armed

abbrev pub Each : {A : Type 0} → (A → Type 0) → List A → Type 0
Each P [] = Unit {0}
Each P (x ∷ xs) = P x × Each P xs

-- it isn't hosted, or it is Running
abbrev pub runs : Option Hosted → Bool
runs None = true
runs (Some h) = is_none h.stopping

-- the message has a number that is recorded, or is the next, and that is queued
abbrev pub Fits : Base → List (Option Hosted) → List (Option Producer) → Message → Type 0
Fits b hosted producers m = (m.origin ≡ b.who) × (0 < m.producer) × IsThere b m.entity × (0 < m.number) × (m.number ≤ recorded b hosted m.producer m.entity + 1) × (m.number ≤ queued_by m.entity (producer_at producers m.producer))

-- the seven kinds of packets
abbrev pub IsPosted : Base → List (Option Hosted) → List Cell → Body → Type 0
IsPosted b hosted cells (body.GetShardHome s) = s < b.set.config.shards
IsPosted b hosted cells (body.HostShard s stamp) = (s < b.set.config.shards) × (stamp ≡ stamp_at b)
IsPosted b hosted cells (body.ShardHome s h stamp) = (s < b.set.config.shards) × (h ≡ b.who) × (stamp ≡ stamp_at b)
IsPosted b hosted cells (body.ShardStarted s) = Unit {0}
IsPosted b hosted cells (body.Recovered e) = IsThere b e
IsPosted b hosted cells (body.Ack p e n) = (0 < p) × IsThere b e × (is_active b cells e ≡ true) × (n ≤ recorded b hosted p e)
IsPosted b hosted cells (body.Request p e n u) = (0 < p) × IsThere b e × (is_active b cells e ≡ true) × (n ≤ recorded b hosted p e)
IsPosted b hosted cells x = ⊥

abbrev pub IsOwn : Base → List (Option Hosted) → List Cell → Packet → Type 0
IsOwn b hosted cells p = (p.from ≡ b.who) × (p.to ≡ b.who) × IsPosted b hosted cells p.body

-- it asks for the home of s, or tells it
abbrev pub asks_by : ℕ → Body → Bool
asks_by s (body.GetShardHome t) = t == s
asks_by s (body.ShardHome t h stamp) = t == s
asks_by s x = false

abbrev pub is_asking : ℕ → Packet → Bool
is_asking s p = asks_by s p.body

abbrev pub recovers_by : List ℕ → Body → Bool
recovers_by e (body.Recovered f) = is_name f e
recovers_by e x = false

abbrev pub is_recovering : List ℕ → Packet → Bool
is_recovering e p = recovers_by e p.body

abbrev pub requests_by : ℕ → List ℕ → Body → Bool
requests_by p e (body.Request q f n u) = (q == p) && is_name f e
requests_by p e x = false

abbrev pub is_requesting : ℕ → List ℕ → Packet → Bool
is_requesting p e x = requests_by p e x.body

abbrev pub acks_by : ℕ → List ℕ → ℕ → Body → Bool
acks_by p e n (body.Ack q f i) = (q == p) && is_name f e && (i == n)
acks_by p e n x = false

abbrev pub is_acking : ℕ → List ℕ → ℕ → Packet → Bool
is_acking p e n x = acks_by p e n x.body

-- What stands.

-- nothing is demanded or on its way, and one number more than confirmed was sent at most
abbrev pub IsCalm : Base → List (Option Producer) → List Packet → ℕ → List ℕ → Type 0
IsCalm b producers wire p e = (demand_by e (producer_at producers p) ≡ 0) × (sent_by e (producer_at producers p) ≤ confirmed_by e (producer_at producers p) + 1) × (list_any (is_requesting p e) wire ≡ false)

-- the entity is active, and what was sent is recorded (or is about to be)
abbrev pub IsFast : Base → Type 0 → List (Option Hosted) → List Cell → List (Option Producer) → ℕ → List ℕ → Type 0
IsFast b later hosted cells producers p e = (is_active b cells e ≡ true) × ((sent_by e (producer_at producers p) ≤ recorded b hosted p e) ⊎ later)

abbrev pub AreBounded : Base → List (Option Hosted) → List (Option Producer) → ℕ → List ℕ → Type 0
AreBounded b hosted producers p e =
    (confirmed_by e (producer_at producers p) ≤ recorded b hosted p e) × (confirmed_by e (producer_at producers p) ≤ queued_by e (producer_at producers p))
    × (queued_by e (producer_at producers p) ≤ b.made p e) × (recorded b hosted p e ≤ b.made p e)

-- of the script: it has shards, and its names are different
pub record IsBase (b : Base) : Type 0 where
  pub sharded : (e : List ℕ) → shard_of b.set e < b.set.config.shards
  pub differ : AllDiffer b.set.names

-- between any two rules; `later` tells of the pairs that are being pushed
pub record Stands (b : Base) (later : ℕ → List ℕ → Type 0) (z : Alone) : Type 0 where
  pub base_is : IsBase b
  pub homes_there : length z.homes ≡ b.set.config.shards
  pub asked_there : length z.asked ≡ b.set.config.shards
  pub kept_there : length z.kept ≡ b.set.config.shards
  pub hosted_there : length z.hosted ≡ b.set.config.shards
  pub cells_there : length z.cells ≡ length b.set.names
  -- each home is this node, and it hosts those shards, Running; nobody holds another
  pub homes : (s : ℕ) (x : Incarnation) → at z.homes s ≡ Some x → x ≡ b.who
  pub marks : (s : ℕ) → is_below (stamp_at b) (slice_index_or z.marks s no_stamp) ≡ false
  pub running : (s : ℕ) → runs (at z.hosted s) ≡ true
  pub free : (s : ℕ) → at z.hosted s ≡ None → holder (shard_list b.lists s) ≡ None
  pub hosts : (s : ℕ) → is_home_at b z.homes s ≡ true → is_none (at z.hosted s) ≡ false
  -- the coordinator has this one region
  pub regions_are : regions z.entries ≡ b.who ∷ []
  pub lease_is : epoch z.entries ≡ b.lease
  pub allocated : (s : ℕ) (x : Incarnation) → allocation s z.entries ≡ Some x → x ≡ b.who
  -- what goes on is going to be answered
  pub asking : (s : ℕ) → slice_index_or z.asked s false ≡ true → (is_home_at b z.homes s ≡ true) ⊎ (list_any (is_asking s) z.wire ≡ true)
  pub settled : (e : List ℕ) → is_settled (cell_in b.set z.cells e) ≡ true
  pub live : (e : List ℕ) → is_live (cell_in b.set z.cells e).phase ≡ true → is_home_at b z.homes (shard_of b.set e) ≡ true
  pub loading : (e : List ℕ) → is_phase phase.Loading (cell_in b.set z.cells e).phase ≡ true → list_any (is_recovering e) z.wire ≡ true
  -- messages and packets
  pub kept : (s : ℕ) → Each (λ m. (shard_of b.set m.entity ≡ s) × Fits b z.hosted z.producers m) (kept_of z.kept s)
  pub stashed : (e : List ℕ) → Each (λ m. (m.entity ≡ e) × Fits b z.hosted z.producers m) (cell_in b.set z.cells e).stash
  pub posted : Each (IsOwn b z.hosted z.cells) z.wire
  -- pairs of producer and entity
  pub producing : (p : ℕ) (k : Producer) → 0 < p → producer_at z.producers p ≡ Some k → (k.who ≡ b.who) × (k.set ≡ b.set) × (k.number ≡ p) × (length k.pairs ≡ length b.set.names)
  pub bounded : (p : ℕ) (e : List ℕ) → 0 < p → AreBounded b z.hosted z.producers p e
  pub paced : (p : ℕ) (e : List ℕ) → 0 < p → IsCalm b z.producers z.wire p e ⊎ IsFast b (later p e) z.hosted z.cells z.producers p e

-- no pair is being pushed
abbrev pub none_later : ℕ → List ℕ → Type 0
none_later p e = ⊥

-- How far a pair is.

-- the home of its shard is known, or asked for
abbrev pub IsFirst : Base → Alone → List ℕ → Type 0
IsFirst b z e = (is_home_at b z.homes (shard_of b.set e) ≡ true) ⊎ (slice_index_or z.asked (shard_of b.set e) false ≡ true)

-- its entity exists
abbrev pub IsSecond : Base → Alone → List ℕ → Type 0
IsSecond b z e = is_live (cell_in b.set z.cells e).phase ≡ true

-- all that is queued is confirmed, or more is recorded than confirmed, and the last of it is acknowledged
abbrev pub IsThird : Base → Alone → ℕ → List ℕ → Type 0
IsThird b z p e = (queued_by e (producer_at z.producers p) ≤ confirmed_by e (producer_at z.producers p))
    ⊎ ((confirmed_by e (producer_at z.producers p) < recorded b z.hosted p e) × (list_any (is_acking p e (recorded b z.hosted p e)) z.wire ≡ true))

-- The load.

abbrev pub weight : Body → ℕ
weight (body.GetShardHome s) = 4
weight (body.HostShard s stamp) = 2
weight x = 1

-- how many queued numbers are neither sent nor confirmed
abbrev pub left_by : List ℕ → Option Producer → ℕ
left_by e o = queued_by e o - max (sent_by e o) (confirmed_by e o)

abbrev pub left_of : List (List ℕ) → Option Producer → ℕ
left_of names o = sum_by (λ e. left_by e o) names

abbrev pub cell_load : Phase → List Message → ℕ
cell_load phase.Absent stash = 1
cell_load p stash = 2 * length stash

abbrev pub lefts : Base → List (Option Producer) → ℕ
lefts b producers = sum_by (left_of b.set.names) producers

abbrev pub cells_load : List Cell → ℕ
cells_load cells = sum_by (λ (c : Cell). cell_load c.phase c.stash) cells

abbrev pub kept_load : List (List Message) → ℕ
kept_load kept = sum_by length kept

abbrev pub wire_load : List Packet → ℕ
wire_load wire = sum_by (λ (p : Packet). weight p.body) wire

abbrev pub total : ℕ → ℕ → ℕ → ℕ → ℕ
total l v k w = 6 * l + v + 2 * k + w

-- each delivery lowers it
abbrev pub load : Base → Alone → ℕ
load b z = total (lefts b z.producers) (cells_load z.cells) (kept_load z.kept) (wire_load z.wire)

-- What a rule does.

-- a fact that is an entry of a shard is of one that is hosted
abbrev pub is_of_hosted : List (Option Hosted) → Option Slot → Bool
is_of_hosted hosted (Some (slot.Shard s)) = not (is_none (at hosted s))
is_of_hosted hosted o = true

abbrev pub is_entered_by : Base → List (Option Hosted) → Move → Bool
is_entered_by b hosted (made (item.Fact f)) = is_of_hosted hosted (slot_of b.set f)
is_entered_by b hosted m = true

abbrev pub is_entered : Base → List (Option Hosted) → Act → Bool
is_entered b hosted a = is_entered_by b hosted (move_of a)

-- what never goes back
pub record More (b : Base) (z to : Alone) : Type 0 where
  pub homes_on : (s : ℕ) → is_home_at b z.homes s ≡ true → is_home_at b to.homes s ≡ true
  pub live_on : (e : List ℕ) → is_live (cell_in b.set z.cells e).phase ≡ true → is_live (cell_in b.set to.cells e).phase ≡ true
  pub active_on : (e : List ℕ) → is_active b z.cells e ≡ true → is_active b to.cells e ≡ true
  pub recorded_on : (p : ℕ) (e : List ℕ) → recorded b z.hosted p e ≤ recorded b to.hosted p e
  pub confirmed_on : (p : ℕ) (e : List ℕ) → confirmed_by e (producer_at z.producers p) ≤ confirmed_by e (producer_at to.producers p)
  pub queued_on : (p : ℕ) (e : List ℕ) → queued_by e (producer_at to.producers p) ≡ queued_by e (producer_at z.producers p)
  pub holds_on : (p : ℕ) → is_none (producer_at z.producers p) ≡ false → is_none (producer_at to.producers p) ≡ false
  pub posted_on : (q : Packet → Bool) → list_any q z.wire ≡ true → list_any q to.wire ≡ true
  pub hosts_on : (s : ℕ) → is_none (at z.hosted s) ≡ false → is_none (at to.hosted s) ≡ false
  -- what is recorded on is acknowledged
  pub answered : (p : ℕ) (e : List ℕ) → (recorded b to.hosted p e ≡ recorded b z.hosted p e) ⊎ (list_any (is_acking p e (recorded b to.hosted p e)) to.wire ≡ true)

-- these acts lead to such words, at a cost
pub record Goes (b : Base) (later : ℕ → List ℕ → Type 0) (cost : ℕ) (also : Alone → Type 0) (z : Alone) (acts : List Act) : Type 0 where
  pub to : Alone
  pub node_is : fold after (node_with b z) acts ≡ node_with b to
  pub wire_is : fold wire_after z.wire acts ≡ to.wire
  pub stands : Stands b later to
  pub costs : load b to ≤ load b z + cost
  pub entered : list_all (is_entered b to.hosted) acts ≡ true
  pub more : More b z to
  pub also_is : also to
