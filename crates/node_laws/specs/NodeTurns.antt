-- A node by itself keeps what stands of it in each input, whatever the other nodes do.
use Rattle.std.specs.Prelude.{fold, ◌≡◌, ℕ, ◌-◌, ◌≤◌, Bool, true, List, [], length, Some}
use Rattle.std.specs.List.{list_all}
use Rattle.yard_model.specs.declared.fact.Fact.{Fact}
use Rattle.yard_model.specs.declared.charter.Sending.{Sending}
use Rattle.yard_model.specs.declared.input.Input.{Input}
use Rattle.yard_model.specs.declared.input.Input.TheVariants as input
use Rattle.yard_model.specs.declared.incarnation.Incarnation.{Incarnation}
use Rattle.yard_model.specs.declared.packet.Body.{Body}
use Rattle.yard_model.specs.declared.packet.Body.TheVariants as body
use Rattle.yard_model.specs.Genuine.{is_node, is_brought, is_producer, is_genuine_body}
use Rattle.yard_model.specs.Members.{are_of_different_nodes}
use Rattle.yard_model.specs.Node.{Node, after, new_node, turn, crash}
use Rattle.yard_model.specs.Producer.{Producer}
use Rattle.yard_model.specs.Script.{Script, IsScript, setting, is_version}
use Rattle.yard_model.specs.SlotLists.{SlotLists}
use Rattle.yard_model.specs.SlotReads.{queued}
use Rattle.yard_model.specs.Words.{at}
use Rattle.yard_model.specs.World.{all_sends}
use Rattle.actor_laws.specs.Owes.{Hand, guarded_in_hand}
use Rattle.actor_laws.specs.Held.{held_in_hand}
use Rattle.node_laws.specs.NodeStands.{is_own_fact, IsSoundNode, IsViewed, NodeInHand}
use Rattle.node_laws.specs.NodeFound.{NodeKeepsIf, Finds, AreLawful}

-- where the node has the queue of this producer, so many numbers to the entity are queued, and the last of them is vouched for
abbrev pub MayConfirm : (List ℕ → ℕ → ℕ → Bool) → Node → ℕ → List ℕ → ℕ → Type 0
MayConfirm vouches st p e n = (k : Producer) → at st.producers (p - 1) ≡ Some k → (n ≤ queued e k.entries) × (vouches e p n ≡ true)

-- what packets promise that their text doesn't: a view is of different nodes, and what is confirmed may be
abbrev pub Promised : (List ℕ → ℕ → ℕ → Bool) → Node → Body → Type 0
Promised vouches st (body.View v xs) = are_of_different_nodes xs ≡ true
Promised vouches st (body.Request p e n u) = MayConfirm vouches st p e n
Promised vouches st (body.Ack p e n) = MayConfirm vouches st p e n
Promised vouches st b = Unit {0}

pub record IsPromised (c : Script) (vouches : List ℕ → ℕ → ℕ → Bool) (st : Node) (from : Incarnation) (b : Body) : Type 0 where
  pub from_is : is_node c from ≡ true
  pub genuine : is_genuine_body c b ≡ true
  pub promised : Promised vouches st b

-- what an input promises
abbrev pub MayTake : Script → (List ℕ → ℕ → ℕ → Bool) → Node → Input → Type 0
MayTake c vouches st (input.Packet p) = IsPromised c vouches st p.from p.body
MayTake c vouches st (input.Produce p) = is_producer c p ≡ true
MayTake c vouches st (input.Rest p) = is_producer c p ≡ true
MayTake c vouches st (input.Send p) = is_producer c p ≡ true
MayTake c vouches st (input.Passivate e) = is_brought c e ≡ true
MayTake c vouches st (input.FailWrite e k) = is_brought c e ≡ true
MayTake c vouches st i = Unit {0}

abbrev pub TurnStands : Type 0
TurnStands = (c : Script) (vouches : List ℕ → ℕ → ℕ → Bool) (lists : SlotLists) (st : Node) (i : Input) → IsScript c → IsSoundNode c st → IsViewed st → AreLawful c lists
    → MayTake c vouches st i → NodeKeepsIf (Finds lists st) c vouches st (turn (all_sends c) lists i st)

-- where it is the coordinator, each registered region stays in its view
abbrev pub TurnViewed : Type 0
TurnViewed = (sends : List (List Sending)) (lists : SlotLists) (st : Node) (i : Input) → IsViewed st → IsViewed (fold after st (turn sends lists i st))

-- entries of slots that it holds, each of which may stand where it is told
pub record CrashIs (c : Script) (vouches : List ℕ → ℕ → ℕ → Bool) (st : Node) (h : Hand) (fs : List Fact) : Type 0 where
  pub guarded_are : guarded_in_hand c vouches st.who h fs ≡ true
  pub held_are : held_in_hand c st.who h fs ≡ true
  pub own_are : list_all (is_own_fact st.who) fs ≡ true

-- each slot that it holds is freed, once it is told that it is gone
abbrev pub CrashStands : Type 0
CrashStands = (c : Script) (vouches : List ℕ → ℕ → ℕ → Bool) (st : Node) (h : Hand) → IsSoundNode c st → NodeInHand c h st
    → CrashIs c vouches st (record { lists = h.lists; live = []; version = h.version }) (crash st)

-- a node that comes up, with a behaviour of a version that the script admits: it stands, and holds nothing
pub record IsNew (c : Script) (version : ℕ) (who : Incarnation) : Type 0 where
  pub stands : IsSoundNode c (new_node (setting c) version who)
  pub viewed : IsViewed (new_node (setting c) version who)
  pub in_hand : (h : Hand) → length h.lists.shards ≡ c.config.shards → length h.lists.queues ≡ c.config.producers → h.live ≡ [] → h.version ≡ version → NodeInHand c h (new_node (setting c) version who)

abbrev pub NodeBegins : Type 0
NodeBegins = (c : Script) (version : ℕ) (who : Incarnation) → is_node c who ≡ true → is_version c version ≡ true → IsNew c version who
