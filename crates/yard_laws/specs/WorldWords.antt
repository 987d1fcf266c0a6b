-- The words of the world are folds of their steps over the facts that were told.
use Rattle.std.specs.Prelude.{◌≡◌, ℕ, Bool, List, fold}
use Rattle.yard_model.specs.declared.fact.Fact.{Fact}
use Rattle.yard_model.specs.declared.charter.Line.{Line}
use Rattle.yard_model.specs.declared.charter.Order.{Order}
use Rattle.yard_model.specs.declared.charter.Sending.{Sending}
use Rattle.yard_model.specs.declared.incarnation.Incarnation.{Incarnation}
use Rattle.yard_model.specs.declared.packet.Packet.{Packet}
use Rattle.yard_model.specs.Era.{upgrade_step}
use Rattle.yard_model.specs.Script.{Script, Setting}
use Rattle.yard_model.specs.SlotLists.{SlotLists}
use Rattle.yard_model.specs.World.{World, Made, set_step, members_step, version_step, ups_step, wire_step, fresh_step, past_step, lists_after, full_step, new_world, play, play_line, played}

-- the words of a world, apart from its nodes and what was ordered
pub record Words : Type 0 where
  pub set : Setting
  pub behaviour : ℕ
  pub sends : List (List Sending)
  pub limit : ℕ
  pub members : List Incarnation
  pub version : ℕ
  pub ups : List ℕ
  pub wire : List Packet
  pub fresh : List ℕ
  pub past : ℕ
  pub lists : SlotLists
  pub full : Bool

abbrev pub words_of : World → Words
words_of w = record {
  set = w.set;
  behaviour = w.behaviour;
  sends = w.sends;
  limit = w.limit;
  members = w.members;
  version = w.version;
  ups = w.ups;
  wire = w.wire;
  fresh = w.fresh;
  past = w.past;
  lists = w.lists;
  full = w.full;
}

-- each by its own step
abbrev pub words_after : Words → Fact → Words
words_after t f = record {
  set = set_step t.set f;
  behaviour = upgrade_step t.behaviour f;
  sends = t.sends;
  limit = t.limit;
  members = members_step t.members f;
  version = version_step t.version f;
  ups = ups_step t.ups f;
  wire = wire_step t.wire f;
  fresh = fresh_step t.fresh f;
  past = past_step t.wire t.past f;
  lists = lists_after t.set t.lists f;
  full = full_step t.full f;
}

-- what was told since this world leads to the words of the world after it; what the orders set stays
abbrev pub AreFolds : World → Made → Type 0
AreFolds w m = words_of m.world ≡ fold words_after (words_of w) m.facts

-- of a script that is played from its beginning
abbrev pub PlayedFolds : Type 0
PlayedFolds = (c : Script) (limit : ℕ) → AreFolds (new_world c limit) (played c limit)

-- of one order
abbrev pub OrderFolds : Type 0
OrderFolds = (o : Order) (w : World) → AreFolds w (play o w)

-- of one line
abbrev pub LineFolds : Type 0
LineFolds = (l : Line) (w : World) → AreFolds w (play_line l w)
