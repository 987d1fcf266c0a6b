-- What items tell, item by item, and what it is to the words of the world.
use Rattle.std.specs.Prelude.{◌≡◌, ℕ, ◌+◌, Bool, true, false, ◌||◌, List, [], ◌++◌, length, map, fold}
use Rattle.std.specs.List.{list_all}
use Rattle.yard_model.specs.declared.fact.Fact.{Fact}
use Rattle.yard_model.specs.declared.fact.Fact.TheVariants as fact
use Rattle.yard_model.specs.declared.out.Item.{Item}
use Rattle.yard_model.specs.declared.out.Item.TheVariants as item
use Rattle.yard_model.specs.declared.packet.Packet.{Packet}
use Rattle.yard_model.specs.declared.charter.Sending.{Sending}
use Rattle.yard_model.specs.declared.incarnation.Incarnation.{Incarnation}
use Rattle.yard_model.specs.declared.input.Input.{Input}
use Rattle.yard_model.specs.Node.{Node, items_of, turn}
use Rattle.yard_model.specs.SlotLists.{SlotLists}
use Rattle.yard_model.specs.Words.{numbers}
use Rattle.yard_model.specs.World.{World, input_facts, wire_step, fresh_step, full_step}
use Rattle.world_sim.specs.Mail.{Mails, facts_of, is_past, posts_of}

-- from one list of facts to another `said` was said, and of `whole` this is left
pub record ToldTo (old new whole left : List Fact) : Type 0 where
  pub said : List Fact
  pub new_is : new ≡ old ++ said
  pub whole_is : whole ≡ said ++ left

-- the mail once all its items are told, but for the flag
abbrev pub all_told : ℕ → Mails → Mails
all_told limit m =
    let ps : List Packet = posts_of limit (length m.packets) m.items in
    record {
      packets = m.packets ++ ps;
      fresh = m.fresh ++ numbers (length m.packets + 1) (length ps);
      items = [];
      spare = m.spare;
      full = m.full;
    }

-- a fact that a node may tell: none of who is a member, none of a packet's number, none of shards and versions, nor that the wire is full
abbrev pub is_own : Fact → Bool
is_own (fact.Up x) = false
is_own (fact.Gone x) = false
is_own (fact.Sent k p) = false
is_own (fact.Got k) = false
is_own fact.WireFull = false
is_own (fact.Reshard n k) = false
is_own (fact.Upgrade v) = false
is_own f = true

abbrev pub is_own_item : Item → Bool
is_own_item (item.Fact f) = is_own f
is_own_item (item.Post p) = true

-- what is posted of such items is what the facts told are to the world's packets
pub record AreTold (limit : ℕ) (packets : List Packet) (fresh : List ℕ) (full : Bool) (is : List Item) : Type 0 where
  pub packets_is : fold wire_step packets (facts_of limit (length packets) is) ≡ packets ++ posts_of limit (length packets) is
  pub fresh_is : fold fresh_step fresh (facts_of limit (length packets) is) ≡ fresh ++ numbers (length packets + 1) (length (posts_of limit (length packets) is))
  pub full_is : fold full_step full (facts_of limit (length packets) is) ≡ (full || is_past limit (length packets) is)

abbrev pub ToldLaw : Type 0
ToldLaw = (limit : ℕ) (packets : List Packet) (fresh : List ℕ) (full : Bool) (is : List Item) → list_all is_own_item is ≡ true → AreTold limit packets fresh full is

-- and they are the world's facts of the items
abbrev pub FactsLaw : Type 0
FactsLaw = (w : World) (is : List Item) → input_facts w is ≡ facts_of w.limit (length w.wire) is

-- what a node's turn gives is of that kind
abbrev pub TurnIsOwn : Type 0
TurnIsOwn = (sends : List (List Sending)) (lists : SlotLists) (i : Input) (st : Node) → list_all is_own_item (items_of (turn sends lists i st)) ≡ true

-- and so are posts alone, as the views that the world posts
abbrev pub PostsAreOwn : Type 0
PostsAreOwn = (f : Incarnation → Packet) (xs : List Incarnation) → list_all is_own_item (map (λ x. item.Post (f x)) xs) ≡ true
