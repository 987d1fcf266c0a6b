-- What must hold of a slot's list alone, in a table of leases: it is lawful, each of its incarnations has a number within the limit, and each grant is to a node that the script lets have the slot.
use Rattle.std.specs.Prelude.{◌≡◌, ℕ, ◌+◌, ◌<◌, Bool, true, false, ◌&&◌, ◌==◌, nat_le, List}
use Rattle.std.specs.List.{list_all, list_any}
use Rattle.yard_model.specs.declared.charter.Line.{Line}
use Rattle.yard_model.specs.declared.charter.Order.{Order}
use Rattle.yard_model.specs.declared.charter.Order.TheVariants as order
use Rattle.yard_model.specs.declared.fact.Fact.{Fact}
use Rattle.yard_model.specs.declared.fact.Fact.TheVariants as fact
use Rattle.yard_model.specs.declared.incarnation.Slot.{Slot}
use Rattle.yard_model.specs.declared.incarnation.Slot.TheVariants as slot
use Rattle.yard_model.specs.Behaviour.{is_in}
use Rattle.yard_model.specs.Genuine.{is_slot_of}
use Rattle.yard_model.specs.Lawful.{own}
use Rattle.yard_model.specs.Limits.{number_limit}
use Rattle.yard_model.specs.Script.{Script, setting}
use Rattle.yard_model.specs.Setting.{shard_of}
use Rattle.yard_model.specs.SlotReads.{journal, position}
use Rattle.shard_lease.specs.Meaning.{confirms}
use Rattle.shard_store.specs.Stores.{slot_at}

-- how many slots a script has
abbrev pub slot_count : Script → ℕ
slot_count c = c.config.shards + c.config.producers + 1

-- no incarnation has a greater number
abbrev pub is_within : ℕ → Bool
is_within n = nat_le n number_limit

abbrev pub is_produce : ℕ → ℕ → Order → Bool
is_produce p n (order.Produce q m) = (q == p) && (m == n)
is_produce p n o = false

-- a queue is for the nodes that the script lets produce its producer
abbrev pub is_let : Script → ℕ → Slot → Bool
is_let c n (slot.Queue p) = list_any (λ (l : Line). is_produce p n l.order) c.orders
is_let c n s = true

-- the script lets the node have the slot
abbrev pub admits : Script → ℕ → Slot → Bool
admits c n s = is_in 1 c.config.nodes n && is_slot_of c s && is_let c n s

abbrev pub is_fit : Script → Slot → Fact → Bool
is_fit c s (fact.Granted t n x) = admits c x.node s && is_within x.number
is_fit c s (fact.Registered r) = is_within r.number
is_fit c s (fact.Terminated r) = is_within r.number
is_fit c s (fact.Allocated k r) = is_within r.number
is_fit c s f = true

pub record Fits (c : Script) (k : ℕ) (list : List Fact) : Type 0 where
  pub lawful : own c (slot_at c.config k) list ≡ true
  pub fit : list_all (is_fit c (slot_at c.config k)) list ≡ true

-- so many commands of the producer to the entity are recorded in the list
abbrev pub recorded : List ℕ → ℕ → ℕ → List Fact → Bool
recorded e p n list = nat_le n (position p (journal e list))

-- the shard of a name
abbrev pub home_of : Script → List ℕ → ℕ
home_of c e = shard_of (setting c) e

-- what a list confirms is recorded in the list of the entity's shard
abbrev pub AreConfirmed : Script → (ℕ → List Fact) → Type 0
AreConfirmed c hist = (k : ℕ) (e : List ℕ) (p n : ℕ) → k < slot_count c → confirms e p n (hist k) ≡ true → recorded e p n (hist (home_of c e)) ≡ true
