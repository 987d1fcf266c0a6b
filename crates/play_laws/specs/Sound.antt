-- What is so of the world between any two inputs, and of the trace of its era that led there, whatever the orders.
use Rattle.std.specs.Prelude.{◌≡◌, ◌≤◌, ℕ, ◌-◌, true, List, length, fold, Some, slice_index_or, IsTrue}
use Rattle.std.specs.List.{slice_get}
use Rattle.yard_model.specs.declared.fact.Fact.{Fact}
use Rattle.yard_model.specs.declared.packet.Packet.{Packet}
use Rattle.yard_model.specs.declared.incarnation.Incarnation.{Incarnation}
use Rattle.yard_model.specs.Era.{Era, era_step, version_in}
use Rattle.yard_model.specs.Genuine.{is_genuine_packet}
use Rattle.yard_model.specs.Members.{are_of_different_nodes}
use Rattle.yard_model.specs.Node.{Node}
use Rattle.yard_model.specs.Safe.{live_at, safe_from}
use Rattle.yard_model.specs.Script.{Script, IsScript, is_version, setting}
use Rattle.yard_model.specs.Setting.{shard_of}
use Rattle.yard_model.specs.SlotLists.{SlotLists, shard_list, queue_list}
use Rattle.yard_model.specs.SlotReads.{journal, position, queued}
use Rattle.yard_model.specs.Trace.{lists_of}
use Rattle.yard_model.specs.Words.{is_among, at}
use Rattle.yard_model.specs.World.{World, Made, Step, all_sends}
use Rattle.node_laws.specs.Members.{IsThere, has_different_members}
use Rattle.node_laws.specs.Carried.{Carries, is_carried_body}
use Rattle.node_laws.specs.Cluster.{IsCluster}

-- a packet on the wire: it is made of the script, a view is of different nodes, a message is queued, and what is acknowledged is recorded
pub record IsWell (c : Script) (lists : SlotLists) (p : Packet) : Type 0 where
  pub genuine : is_genuine_packet c p ≡ true
  pub different : has_different_members p ≡ true
  pub carried : is_carried_body c lists p.body ≡ true

-- of each producer no more of its commands to an entity are recorded than are queued
abbrev pub AreQueued : Script → SlotLists → Type 0
AreQueued c lists = (p : ℕ) (e : List ℕ) → position p (journal e (shard_list lists (shard_of (setting c) e))) ≤ queued e (queue_list lists p)

-- what is live at a node has a number that was given to the node
abbrev pub AreNumbered : List ℕ → List Fact → Type 0
AreNumbered ups trace = (e : List ℕ) (x : Incarnation) → is_among x (live_at e trace) ≡ true → x.number ≤ slice_index_or ups (x.node - 1) 0

-- c is the script with the number of shards in force, and the trace that of the era: facts that come to the lists which the era begins with, and its own. What is recorded is queued, if T
pub record SoundIf (T : Type 0) (c : Script) (trace : List Fact) (w : World) : Type 0 where
  pub script_is : IsScript c
  pub set_is : w.set ≡ setting c
  pub behaviour_is : w.behaviour ≡ version_in trace
  pub admitted : is_version c w.behaviour ≡ true
  pub sends_are : w.sends ≡ all_sends c
  pub nodes_there : length w.nodes ≡ c.config.nodes
  pub ups_there : length w.ups ≡ c.config.nodes
  pub lists_are : w.lists ≡ lists_of (setting c) trace
  -- its facts are guarded, each node that is up has its part of them in hand, and who holds a slot is up
  pub cluster : IsCluster c trace w.nodes
  -- the members are the nodes that are up, of each node one at most
  pub members_are : (x : Incarnation) → is_among x w.members ≡ true → IsThere w x
  pub members_different : are_of_different_nodes w.members ≡ true
  pub are_members : (k : ℕ) (st : Node) → at w.nodes k ≡ Some st → is_among st.who w.members ≡ true
  -- the numbers of those that are up, and of those where something is live, were given
  pub given_are : (k : ℕ) (st : Node) → at w.nodes k ≡ Some st → st.who.number ≤ slice_index_or w.ups (st.who.node - 1) 0
  pub numbered_are : AreNumbered w.ups trace
  pub queued_are : T → AreQueued c w.lists
  -- each message that a node keeps or stashes is queued
  pub carries : (k : ℕ) (st : Node) → at w.nodes k ≡ Some st → Carries w.lists st
  -- each packet since the number of shards last changed
  pub wire_is : (j : ℕ) (p : Packet) → w.past ≤ j → slice_get w.wire j ≡ Some p → IsWell c w.lists p

abbrev pub Sound : Script → List Fact → World → Type 0
Sound c trace w = SoundIf (Unit {0}) c trace w

-- a step from a sound world leads to a sound one in the era where its facts end, and they are safe at each prefix
pub record LeadsOn (era : Era) (m : Made) : Type 0 where
  pub sound : let end : Era = fold era_step era m.facts in Sound end.script end.trace m.world
  pub safe : IsTrue (safe_from era m.facts)

abbrev pub StepLeadsOn : World → Step → Type 0
StepLeadsOn w q = (era : Era) → Sound era.script era.trace w → LeadsOn era (q w)
