-- What the code keeps of a world, and the world of the definition that it stands for.
use Rattle.std.specs.Prelude.{◌≡◌, ℕ, ◌+◌, ◌-◌, ◌<◌, ◌≤◌, true, false, List, [], ◌++◌, length, map, Option, Some, IfSome, is_none, slice_index_or, slice_set}
use Rattle.std.specs.Option.{option_map}
use Rattle.yard_model.specs.declared.charter.Order.{Order}
use Rattle.yard_model.specs.declared.charter.Order.TheVariants as order
use Rattle.yard_model.specs.declared.event.Kind.{Kind}
use Rattle.yard_model.specs.declared.fact.Fact.{Fact}
use Rattle.yard_model.specs.declared.incarnation.Incarnation.{Incarnation}
use Rattle.yard_model.specs.declared.input.Input.{Input}
use Rattle.yard_model.specs.declared.packet.Packet.{Packet}
use Rattle.yard_model.specs.Script.{Script, setting}
use Rattle.yard_model.specs.Words.{at}
use Rattle.yard_model.specs.Node.{Node}
use Rattle.yard_model.specs.World.{World, Made, settle_bound, wire_limit}
use Rattle.shard_lease.specs.Book.{Book, meaning_of}
use Rattle.node_core.specs.Leased.{IfPacket, Tells}
use Rattle.node_core.specs.Standing.{Standing}
use Rattle.node_laws.specs.NodeTurns.{MayTake}
use Rattle.play_laws.specs.Confirming.{MayHand, MayDeliver, MayDrain, MayTakeAll, MayBegin, MayComeUp, MaySettle}
use Rattle.play_laws.specs.Sound.{AreQueued, IsWell}
use Rattle.world_sim.specs.Mail.{Mails}
use Rattle.world_sim.specs.Stands.{Stands}

-- what is in force
pub record Force : Type 0 where
  pub kind : Kind  -- of the behaviour
  pub version : ℕ  -- of the behaviour
  pub past : ℕ  -- how many were posted before the number of shards last changed

pub record Yard : Type 0 where
  pub script : Script  -- with the number of shards in force
  pub force : Force
  pub book : Book
  pub nodes : List (Option Standing)  -- per node, where it is up
  pub members : List Incarnation
  pub version : ℕ
  pub ups : List ℕ
  pub ordered : List ℕ
  pub mail : Mails

abbrev pub state_in : Option Standing → Option Node
state_in o = option_map (λ (v : Standing). v.state) o

-- each word stands for the world's; the lists are those that the leases tell, and that the nodes have in hand
pub record IsSeen (y : Yard) (w : World) : Type 0 where
  pub set_is : w.set ≡ setting y.script
  pub kind_is : y.force.kind ≡ y.script.config.kind
  pub behaviour_is : y.force.version ≡ w.behaviour
  pub past_is : y.force.past ≡ w.past
  pub limit_is : w.limit ≡ wire_limit
  pub members_are : y.members ≡ w.members
  pub version_is : y.version ≡ w.version
  pub ups_are : y.ups ≡ w.ups
  pub ordered_are : y.ordered ≡ w.ordered
  pub ordered_there : length y.ordered ≡ y.script.config.producers
  pub wire_is : y.mail.packets ≡ w.wire
  pub fresh_is : y.mail.fresh ≡ w.fresh
  pub full_is : y.mail.full ≡ w.full
  pub told_all : y.mail.items ≡ []
  pub nodes_are : map state_in y.nodes ≡ w.nodes
  pub scripts_are : (k : ℕ) → IfSome (at y.nodes k) (λ (v : Standing). v.script ≡ y.script)
  pub book_is : y.book.script ≡ y.script
  pub tells_is : Tells (meaning_of y.book) y.script w.lists

-- it stands for a world that stands
pub record IsFirm (y : Yard) (w : World) : Type 0 where
  pub seen_is : IsSeen y w
  pub stands_is : Stands y.script w

-- and whose trace goes on
pub record IsSound (y : Yard) (w : World) : Type 0 where
  pub seen_is : IsSeen y w
  pub stands_is : Stands y.script w
  pub going_is : w.full ≡ false

-- and this packet may be on its wire, by this number
pub record IsSoundFor (k : ℕ) (p : Packet) (y : Yard) (w : World) : Type 0 where
  pub sound : IsSound y w
  pub well : w.past < k → IsWell y.script w.lists p
  pub may : w.past < k → MayHand y.script w.lists p

-- and this is so of it
pub record IsSoundTo (M : Script → World → Type 0) (y : Yard) (w : World) : Type 0 where
  pub sound : IsSound y w
  pub may : M y.script w

-- all that is recorded is queued
abbrev pub Backed : Script → World → Type 0
Backed c w = AreQueued c w.lists

abbrev pub IsBacked : Yard → World → Type 0
IsBacked = IsSoundTo Backed

-- what a packet confirms is queued where it is handed over: in the delivery of this number, in a drain, and in a settle from each of its steps on
abbrev pub Delivers : ℕ → Script → World → Type 0
Delivers n c w = MayDeliver c w n

abbrev pub Drains : ℕ → ℕ → Script → World → Type 0
Drains from n c w = MayDrain c from n w

abbrev pub Takes : Script → World → Type 0
Takes c w = MayTakeAll c w

abbrev pub Begins : ℕ → ℕ → Script → World → Type 0
Begins from bound c w = MayBegin c from bound w

abbrev pub ComesUp : ℕ → ℕ → Script → World → Type 0
ComesUp from bound c w = MayComeUp c from bound w

abbrev pub SettlesBy : ℕ → ℕ → Script → World → Type 0
SettlesBy from bound c w = MaySettle c from bound w

abbrev pub Settles : Script → World → Type 0
Settles c w = MaySettle c (length w.wire) (settle_bound w) w

-- an input for this node, which keeps what it promises; all is vouched for
pub record IsOffered (c : Script) (i : Input) (st : Node) : Type 0 where
  pub addressed : IfPacket i (λ p. p.to ≡ st.who)
  pub may : MayTake c (λ e p n. true) st i

-- and the node of this number is up
pub record IsSoundAt (n : ℕ) (y : Yard) (w : World) : Type 0 where
  pub sound : IsSound y w
  pub some : 1 ≤ n
  pub up : is_none (at y.nodes (n - 1)) ≡ false

-- and may be given the input
pub record MayGive (i : Input) (n : ℕ) (y : Yard) (w : World) : Type 0 where
  pub stands_at : IsSoundAt n y w
  pub offered : (st : Node) → at w.nodes (n - 1) ≡ Some st → IsOffered y.script i st

-- or nobody is to be given it
pub record MayAsk (i : Input) (to : Option ℕ) (y : Yard) (w : World) : Type 0 where
  pub sound : IsSound y w
  pub may : IfSome to (λ n. MayGive i n y w)

-- a send is ordered
abbrev pub noted : Order → Yard → Yard
noted (order.Send p e k) y = record y { ordered = slice_set y.ordered (p - 1) (slice_index_or y.ordered (p - 1) 0 + 1) }
noted o y = y

-- it stands for the world that a step made, and the step's facts were told
pub record Goes (before after : List Fact) (y : Yard) (m : Made) : Type 0 where
  pub seen_is : IsSeen y m.world
  pub facts_are : after ≡ before ++ m.facts
