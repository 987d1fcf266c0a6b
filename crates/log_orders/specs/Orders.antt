-- What the orders of a run log and tell, each a list of facts.
use Rattle.std.specs.Prelude.{◌≡◌, ◌≤◌, ℕ, zero, suc, ◌+◌, ◌-◌, Bool, true, false, List, [], ◌∷◌, ◌++◌, length, take, filter, Option, IsTrue}
use Rattle.std.specs.List.{flat_map}
use Rattle.yard_io.specs.Told.{followed_by}
use Rattle.yard_model.specs.declared.fact.Fact.{Fact}
use Rattle.yard_model.specs.declared.fact.Fact.TheVariants as fact
use Rattle.disk_log.specs.Images.{Images}
use Rattle.disk_log.specs.Spelled.{lines, SpellsPrefix}

-- it belongs to a slot's list
abbrev pub belongs : Fact → Bool
belongs (fact.Granted s n x) = true
belongs (fact.Freed s n why) = true
belongs (fact.Registered x) = true
belongs (fact.Terminated x) = true
belongs (fact.Allocated s x) = true
belongs (fact.Deallocated s) = true
belongs (fact.Wrote e r) = true
belongs (fact.Snapshot e n) = true
belongs (fact.Remembered e) = true
belongs (fact.Forgotten e) = true
belongs (fact.Queued p e n k) = true
belongs (fact.Confirmed p e n) = true
belongs (fact.Reshard n k) = true
belongs (fact.Resharded s n k) = true
belongs f = false

abbrev pub listed : List Fact → List Fact
listed facts = filter belongs facts

-- a batch, if it has any facts
abbrev pub if_any : List Fact → List (List Fact)
if_any [] = []
if_any (f ∷ fs) = (f ∷ fs) ∷ []

-- the batch of an order, if it has one
abbrev pub batch_of : List Fact → List (List Fact)
batch_of facts = if_any (listed facts)

-- Batches: of each order with facts that belong to a list, these
abbrev pub batches : List (List Fact) → List (List Fact)
batches orders = flat_map batch_of orders

-- what orders tell
abbrev pub text_of : List (List Fact) → List ℕ
text_of orders = flat_map lines orders

-- how many batches belong to the orders of which something stands among the first k bytes of the text
abbrev pub begun : ℕ → List (List Fact) → ℕ
begun zero orders = 0
begun (suc k) [] = 0
begun (suc k) (facts ∷ orders) = length (batch_of facts) + begun (suc k - length (lines facts)) orders

-- A run's end: the first bytes of the text were written, and each crash leaves the batches of the orders of which a
-- byte is among them.
pub record Ends (orders : List (List Fact)) (tells : Bool) (before behind : Option (List ℕ)) (images : Images) : Type 0 where
  pub count : ℕ
  pub within : count ≤ length (text_of orders)
  pub taken : behind ≡ followed_by before (take count (text_of orders))
  pub crash : IsTrue tells → (c : List ℕ) → images.now c → SpellsPrefix (batches orders) (begun count orders) c
