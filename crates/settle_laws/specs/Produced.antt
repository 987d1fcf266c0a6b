-- What producing does at a node that is up by itself: each queue is taken, and the sends that wait are queued.
use Rattle.yard_model.specs.Words.{at}
use Rattle.std.specs.List.{list_all}
use Rattle.std.specs.Prelude.{false, true, is_none, ◌≡◌, ◌<◌, ◌≤◌, ℕ, ◌+◌, ◌-◌, List, length, sum_by, fold, None}
use Rattle.yard_model.specs.declared.fact.Fact.{Fact}
use Rattle.yard_model.specs.Node.{Act, after}
use Rattle.yard_model.specs.SlotReads.{holder, queued, confirmed}
use Rattle.settle_laws.specs.Alone.{is_entered, Base, Alone, node_with, wire_after, producer_at, recorded, Stands, none_later, load}

-- these acts lead to words that stand, at a cost
pub record Leads (b : Base) (cost : ℕ) (also : Alone → Type 0) (z : Alone) (acts : List Act) : Type 0 where
  pub to : Alone
  pub node_is : fold after (node_with b z) acts ≡ node_with b to
  pub wire_is : fold wire_after z.wire acts ≡ to.wire
  pub stands : Stands b none_later to
  pub costs : load b to ≤ load b z + cost
  pub hosts_on : (s : ℕ) → is_none (at z.hosted s) ≡ false → is_none (at to.hosted s) ≡ false
  pub entered : list_all (is_entered b to.hosted) acts ≡ true
  pub also_is : also to

-- how many numbers of a list are queued and not confirmed
abbrev pub outs_in : List (List ℕ) → List Fact → ℕ
outs_in names list = sum_by (λ e. queued e list - confirmed e list) names

-- a queue that nobody holds; what is confirmed in it is recorded and queued, and what is queued is made
pub record MayProduce (b : Base) (z : Alone) (p : ℕ) (list : List Fact) : Type 0 where
  pub above : 0 < p
  pub inside : p - 1 < length z.producers
  pub none : producer_at z.producers p ≡ None
  pub free : holder list ≡ None
  pub confirmed_recorded : (f : List ℕ) → confirmed f list ≤ recorded b z.hosted p f
  pub confirmed_queued : (f : List ℕ) → confirmed f list ≤ queued f list
  pub queued_made : (f : List ℕ) → queued f list ≤ b.made p f
