-- How a settling begins at its node: it comes up alone, takes its view, leads, ends each region that is registered, and registers.
use Rattle.std.specs.Prelude.{◌≡◌, ◌<◌, ◌≤◌, ℕ, ◌+◌, false, true, List, [], ◌∷◌, ◌++◌, length, map, filter, fold, not, replicate, None, if◌then◌else◌}
use Rattle.yard_model.specs.declared.fact.Fact.{Fact}
use Rattle.yard_model.specs.declared.fact.Fact.TheVariants as fact
use Rattle.yard_model.specs.declared.incarnation.Slot.TheVariants as slot
use Rattle.yard_model.specs.declared.packet.Body.{Body}
use Rattle.yard_model.specs.declared.packet.Body.TheVariants as body
use Rattle.yard_model.specs.declared.packet.Packet.{Packet}
use Rattle.yard_model.specs.Entities.{new_cell}
use Rattle.yard_model.specs.Lawful.{own}
use Rattle.yard_model.specs.Node.{Node, after, new_node, packet, items_of}
use Rattle.yard_model.specs.Region.{no_stamp}
use Rattle.yard_model.specs.Script.{Script, Setting}
use Rattle.yard_model.specs.Trace.{lists_step}
use Rattle.actor_laws.specs.Owes.{facts_in}
use Rattle.yard_model.specs.Setting.{shard_of}
use Rattle.yard_model.specs.SlotLists.{SlotLists, shard_list}
use Rattle.yard_model.specs.SlotReads.{holder, epoch, regions, journal, position}
use Rattle.yard_model.specs.Words.{is_among}
use Rattle.settle_laws.specs.Alone.{Base, Alone, node_with, wire_after, IsBase, Stands, none_later, load}

-- nobody holds the coordinator or a shard, and no more is recorded than made
pub record CanBegin (c : Script) (b : Base) : Type 0 where
  pub base_is : IsBase b
  pub versioned : 0 < b.version
  pub lawful : own c slot.Coordinator b.lists.coordinator ≡ true
  pub led : holder b.lists.coordinator ≡ None
  pub lease_is : b.lease ≡ epoch b.lists.coordinator + 1
  pub free : (s : ℕ) → holder (shard_list b.lists s) ≡ None
  pub recorded_made : (p : ℕ) (e : List ℕ) → 0 < p → position p (journal e (shard_list b.lists (shard_of b.set e))) ≤ b.made p e

-- the coordinator's list: it is granted, and each other region is terminated
abbrev pub ended_entries : Base → List Fact
ended_entries b = (b.lists.coordinator ++ fact.Granted slot.Coordinator (epoch b.lists.coordinator + 1) b.who ∷ []) ++ map (λ r. fact.Terminated r) (filter (λ r. not (is_among r (b.who ∷ []))) (regions b.lists.coordinator))

-- and the node is registered, if it isn't yet
abbrev pub begun_entries : Base → List Fact
begun_entries b = ended_entries b ++ (if is_among b.who (regions (ended_entries b)) then [] else fact.Registered b.who ∷ [])

abbrev pub beginning : Base → Alone
beginning b = record {
  homes = replicate b.set.config.shards None;
  marks = replicate b.set.config.shards no_stamp;
  asked = replicate b.set.config.shards false;
  kept = replicate b.set.config.shards [];
  hosted = replicate b.set.config.shards None;
  cells = replicate (length b.set.names) (new_cell b.set);
  producers = replicate b.set.config.producers None;
  entries = begun_entries b;
  started = replicate b.set.config.shards false;
  wire = [];
}

abbrev pub own_packet : Base → Body → Packet
own_packet b x = record { from = b.who; to = b.who; body = x }

-- its three first deliveries: a view of itself, Register, RegisterAck
pub record Begins (b : Base) : Type 0 where
  pub viewed : Node
  pub registered : Node
  pub view_is : fold after (new_node b.set b.behaviour b.who) (packet b.lists b.who (body.View b.version (b.who ∷ [])) (new_node b.set b.behaviour b.who)) ≡ viewed
  pub view_posts : fold wire_after [] (packet b.lists b.who (body.View b.version (b.who ∷ [])) (new_node b.set b.behaviour b.who)) ≡ own_packet b body.Register ∷ []
  pub register_is : fold after viewed (packet b.lists b.who body.Register viewed) ≡ registered
  pub register_posts : fold wire_after [] (packet b.lists b.who body.Register viewed) ≡ own_packet b body.RegisterAck ∷ []
  pub ack_is : fold after registered (packet b.lists b.who body.RegisterAck registered) ≡ node_with b (beginning b)
  pub ack_posts : fold wire_after [] (packet b.lists b.who body.RegisterAck registered) ≡ []
  -- no shard's list changes, and no queue's
  pub view_stays : (set : Setting) (lists : SlotLists) → (fold (lists_step set) lists (facts_in (items_of (packet b.lists b.who (body.View b.version (b.who ∷ [])) (new_node b.set b.behaviour b.who))))).shards ≡ lists.shards
  pub view_leaves : (set : Setting) (lists : SlotLists) → (fold (lists_step set) lists (facts_in (items_of (packet b.lists b.who (body.View b.version (b.who ∷ [])) (new_node b.set b.behaviour b.who))))).queues ≡ lists.queues
  pub register_stays : (set : Setting) (lists : SlotLists) → (fold (lists_step set) lists (facts_in (items_of (packet b.lists b.who body.Register viewed)))).shards ≡ lists.shards
  pub register_leaves : (set : Setting) (lists : SlotLists) → (fold (lists_step set) lists (facts_in (items_of (packet b.lists b.who body.Register viewed)))).queues ≡ lists.queues
  pub stands : Stands b none_later (beginning b)
  pub loads : load b (beginning b) ≤ length b.set.names

abbrev pub NodeBegins : Type 0
NodeBegins = (c : Script) (b : Base) → CanBegin c b → Begins b
