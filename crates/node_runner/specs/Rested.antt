-- A worker between two turns: what its node rests on of the pass.
use Rattle.std.specs.Prelude.{◌≡◌, ℕ, [], ◌∷◌, true, None, IfSome, IsTrue}
use Rattle.atomic_table.specs.Seated.{TableId}
use Rattle.yard_model.specs.declared.incarnation.Incarnation.{Incarnation}
use Rattle.yard_model.specs.declared.incarnation.Slot.{Slot}
use Rattle.yard_model.specs.Genuine.{is_node, is_slot_of}
use Rattle.yard_model.specs.Node.{Node, new_node}
use Rattle.yard_model.specs.Script.{Script, setting}
use Rattle.actor_laws.specs.Hands.{held_list}
use Rattle.shard_lease.specs.Meaning.{Meaning, Stays}
use Rattle.shard_store.specs.Stores.{place_of}
use Rattle.node_core.specs.Leased.{Rests}
use Rattle.node_core.specs.Standing.{Standing}
use Rattle.lease_table.specs.declared.View.{View}
use Rattle.lease_table.specs.Fits.{is_within}
use Rattle.lease_table.specs.Leasing.{Pass, Idle}
use Rattle.lease_table.specs.Lists.{seen_at}
use Rattle.lease_table.specs.Means.{meaning_of}
use Rattle.node_runner.specs.Whole.{SeesHeld}

-- what a pass means that acts for one node
abbrev pub means : ℕ → Pass → Meaning
means me p = meaning_of p.table p.view me

-- the node `me` is up, of this script, and rests on its pass at this table
pub record Rested (z : TableId) (c : Script) (me : ℕ) (p : Pass) (v : Standing) : Type 0 where
  pub table : p.table ≡ z
  pub charter : p.view.charter ≡ c
  pub numbers : p.view.numbers ≡ me ∷ []
  pub script : v.script ≡ c
  pub who : v.state.who.node ≡ me
  pub rests : Rests (means me p) c v.state
  pub whole : SeesHeld p.view

-- the list of each slot that the node holds is the one that its pass has seen: others may see it
abbrev pub ArePublished : Script → Pass → Node → Type 0
ArePublished c p st = (s : Slot) → IsTrue (is_slot_of c s) → IfSome (held_list s st) (λ list. seen_at p.view.seen (place_of c.config s) ≡ list)

-- a pass has seen no less than another of its table, script and node
abbrev pub SeesOn : ℕ → Pass → Pass → Type 0
SeesOn me old new = Stays (means me old) (means me new)

abbrev pub NewNodeRests : Type 0
NewNodeRests = (z : TableId) (c : Script) (version : ℕ) (who : Incarnation) (p : Pass) (v : Standing) → Idle z c who.node p → is_node c who ≡ true → is_within who.number ≡ true → v.script ≡ c → v.state ≡ new_node (setting c) version who
    → Rested z c who.node p v
