-- What the turn and the end of a node leave, whose leases a book gives out, in the mail, the book and the table of nodes.
use Rattle.std.specs.Prelude.{◌≡◌, ℕ, ◌-◌, true, List, Option, Some, slice_set}
use Rattle.yard_model.specs.declared.incarnation.Slot.TheVariants as slot
use Rattle.yard_model.specs.declared.input.Input.{Input}
use Rattle.yard_model.specs.Node.{turn}
use Rattle.yard_model.specs.Script.{Script}
use Rattle.yard_model.specs.World.{all_sends}
use Rattle.shard_lease.specs.Book.{Book, meaning_of}
use Rattle.node_laws.specs.NodeTurns.{MayTake}
use Rattle.node_core.specs.Gave.{moment}
use Rattle.node_core.specs.Leased.{Rests, IsFor, IfPacket, IfProduce}
use Rattle.node_core.specs.Standing.{Standing}
use Rattle.node_core.specs.Turned.{Turned, Ended}
use Rattle.world_sim.specs.Mail.{Mails}

-- nothing but what isn't told yet is changed
pub record IsBeside (old new : Mails) : Type 0 where
  pub packets_are : new.packets ≡ old.packets
  pub fresh_are : new.fresh ≡ old.fresh
  pub full_is : new.full ≡ old.full

-- a node of this script that may take the input
pub record MayHandle (c : Script) (i : Input) (book : Book) (node : Standing) : Type 0 where
  pub script_is : node.script ≡ c
  pub addressed : IfPacket i (IsFor (meaning_of book) node.state.who)
  pub may : MayTake node.script (meaning_of book).vouches node.state i
  pub produces : IfProduce i (λ p. (meaning_of book).admits node.state.who.node (slot.Queue p) ≡ true)
  pub rests : Rests (meaning_of book) node.script node.state

-- it handled the input
pub record Handled (i : Input) (book later : Book) (mail next : Mails) (node new : Standing) : Type 0 where
  pub script_is : new.script ≡ node.script
  pub turned : Turned node.script (λ lists. turn (all_sends node.script) lists i node.state) (moment (meaning_of book) node.state mail.items) (moment (meaning_of later) new.state next.items)
  pub beside : IsBeside mail next

-- and in the table it is as it is then, at the place of its number
pub record HandledAt (i : Input) (n : ℕ) (book later : Book) (mail next : Mails) (nodes after : List (Option Standing)) (node : Standing) : Type 0 where
  pub new : Standing
  pub handled : Handled i book later mail next node new
  pub nodes_are : after ≡ slice_set nodes (n - 1) (Some new)

-- it came to its end
pub record Ends (book later : Book) (mail next : Mails) (node : Standing) : Type 0 where
  pub ended : Ended node.script (moment (meaning_of book) node.state mail.items) (meaning_of later) next.items
  pub beside : IsBeside mail next
