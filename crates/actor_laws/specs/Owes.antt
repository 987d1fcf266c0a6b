-- What a node's turn owes by itself, whatever gives it its leases: each fact is guarded by what the node has in hand, and what it posts is made of the script and comes from itself.
use Rattle.std.specs.Prelude.{◌≡◌, ℕ, Bool, true, ◌&&◌, not, List, [], ◌∷◌, ◌++◌, filter, Option, Some, None, IsTrue, false}
use Rattle.std.specs.List.{list_all, list_any}
use Rattle.yard_model.specs.declared.fact.Fact.{Fact}
use Rattle.yard_model.specs.declared.fact.Fact.TheVariants as fact
use Rattle.yard_model.specs.declared.out.Item.{Item}
use Rattle.yard_model.specs.declared.out.Item.TheVariants as item
use Rattle.yard_model.specs.declared.input.Phase.TheVariants as phase
use Rattle.yard_model.specs.declared.incarnation.Incarnation.{Incarnation}
use Rattle.yard_model.specs.declared.incarnation.Slot.{Slot}
use Rattle.yard_model.specs.declared.incarnation.Slot.TheVariants as slot
use Rattle.yard_model.specs.Entities.{is_in_phase}
use Rattle.yard_model.specs.Genuine.{is_slot_of, is_brought, is_genuine_packet}
use Rattle.yard_model.specs.Lawful.{own, may_follow, is_decided}
use Rattle.yard_model.specs.Node.{Node}
use Rattle.yard_model.specs.Safe.{is_journal_state}
use Rattle.yard_model.specs.Script.{Script, is_name, setting}
use Rattle.yard_model.specs.Setting.{shard_of, names_of}
use Rattle.yard_model.specs.SlotLists.{SlotLists, shard_list}
use Rattle.yard_model.specs.SlotReads.{holder, journal}
use Rattle.yard_model.specs.Trace.{slot_of, list_at, lists_step}
use Rattle.yard_model.specs.Words.{is_same, is_at}
use Rattle.actor_laws.specs.Hands.{held_list}

-- the lists of the slots that a node holds, beside others, the names that are live at it, and the version of its behaviour
pub record Hand : Type 0 where
  pub lists : SlotLists
  pub live : List (List ℕ)
  pub version : ℕ

abbrev pub has_name : List ℕ → List (List ℕ) → Bool
has_name e names = list_any (is_name e) names

abbrev pub without_name : List ℕ → List (List ℕ) → List (List ℕ)
without_name e names = filter (λ y. not (is_name e y)) names

-- the names that are live after a fact of the node
abbrev pub live_after : List (List ℕ) → Fact → List (List ℕ)
live_after old (fact.Start x e) = old ++ e ∷ []
live_after old (fact.Stop x e) = without_name e old
live_after old (fact.WriteFailed x e) = without_name e old
live_after old (fact.Gone x) = []
live_after old f = old

abbrev pub hand_after : Script → Hand → Fact → Hand
hand_after c h f = record { lists = lists_step (setting c) h.lists f; live = live_after h.live f; version = h.version }

-- an entry may follow in the list of its slot
abbrev pub follows_in_hand : Script → SlotLists → Fact → Option Slot → Bool
follows_in_hand c lists f None = true
follows_in_hand c lists f (Some s) = is_slot_of c s && may_follow c s (list_at lists s) f

-- a name that starts is the script's, isn't live, and its shard is held; one that is written is live, and decided in the node's version; a shard is freed when none of its names is live; an Active one is its journal; what is confirmed is vouched for
abbrev pub lives_in_hand : Script → (List ℕ → ℕ → ℕ → Bool) → Incarnation → Hand → Fact → Bool
lives_in_hand c vouches who h (fact.Start x e) = is_brought c e && is_same x who && is_at x (holder (shard_list h.lists (shard_of (setting c) e))) && not (has_name e h.live)
lives_in_hand c vouches who h (fact.Wrote e r) = has_name e h.live && is_decided h.version c (journal e (shard_list h.lists (shard_of (setting c) e))) r
lives_in_hand c vouches who h (fact.Freed (slot.Shard s) n why) = is_at who (holder (shard_list h.lists s)) && list_all (λ e. not (has_name e h.live)) (names_of (setting c) s)
lives_in_hand c vouches who h (fact.Active x e m st) = is_journal_state c m st (journal e (shard_list h.lists (shard_of (setting c) e)))
lives_in_hand c vouches who h (fact.Confirmed p e n) = vouches e p n
lives_in_hand c vouches who h (fact.Upgrade v) = false
lives_in_hand c vouches who h f = true

abbrev pub guard_in_hand : Script → (List ℕ → ℕ → ℕ → Bool) → Incarnation → Hand → Fact → Bool
guard_in_hand c vouches who h f = follows_in_hand c h.lists f (slot_of (setting c) f) && lives_in_hand c vouches who h f

-- each fact is guarded by what the node has in hand when it tells it
abbrev pub guarded_in_hand : Script → (List ℕ → ℕ → ℕ → Bool) → Incarnation → Hand → List Fact → Bool
guarded_in_hand c vouches who h [] = true
guarded_in_hand c vouches who h (f ∷ fs) = guard_in_hand c vouches who h f && guarded_in_hand c vouches who (hand_after c h f) fs

-- the names that are live at a node
abbrev pub live_names : Node → List (List ℕ)
live_names st = filter (λ e. not (is_in_phase phase.Absent st.entities e)) st.set.names

-- the facts among items
abbrev pub facts_in : List Item → List Fact
facts_in [] = []
facts_in (item.Fact f ∷ is) = f ∷ facts_in is
facts_in (item.Post p ∷ is) = facts_in is

-- what it posts comes from itself, and is made of the script's nodes, shards and sends
abbrev pub is_own_post : Script → Incarnation → Item → Bool
is_own_post c who (item.Fact f) = true
is_own_post c who (item.Post p) = is_same p.from who && is_genuine_packet c p

-- the items are guarded facts and its own posts
pub record AreOwed (c : Script) (vouches : List ℕ → ℕ → ℕ → Bool) (lists : SlotLists) (st : Node) (is : List Item) : Type 0 where
  pub guarded_are : IsTrue (guarded_in_hand c vouches st.who (record { lists = lists; live = live_names st; version = st.entities.version }) (facts_in is))
  pub posts_are : IsTrue (list_all (is_own_post c st.who) is)

-- each slot that the node doesn't hold has a list that is lawful by itself
abbrev pub AreElseLawful : Script → SlotLists → Node → Type 0
AreElseLawful c lists st = (s : Slot) → IsTrue (is_slot_of c s) → held_list s st ≡ None → IsTrue (own c s (list_at lists s))
