-- What a node's turn tells is its own.
use Rattle.std.proofs.Common.{◌≡◌, List, [], ◌∷◌, refl, true}
use Rattle.std.specs.List.{list_all}
use Rattle.yard_model.specs.declared.fact.Fact.{Fact}
use Rattle.yard_model.specs.declared.fact.Fact.TheVariants as fact
use Rattle.yard_model.specs.declared.out.Item.{Item}
use Rattle.yard_model.specs.declared.out.Item.TheVariants as item
use Rattle.yard_model.specs.declared.input.Input.{Input}
use Rattle.yard_model.specs.declared.input.Input.TheVariants as input
use Rattle.yard_model.specs.declared.charter.Sending.{Sending}
use Rattle.yard_model.specs.Node.{Node, items_of, turn}
use Rattle.yard_model.specs.SlotLists.{SlotLists}
use Rattle.plain_laws.proofs.Booleans.{all_map}
use Rattle.play_laws.proofs.Tells.{is_no_fail, turn_tells, armed_items}
use Rattle.play_laws.specs.TurnItems.{is_turn_fact, is_turn_item}
use Rattle.world_sim.specs.Told.{TurnIsOwn, PostsAreOwn, is_own, is_own_item}

fact_own : (f : Fact) → is_turn_fact f ≡ true → is_own f ≡ true
fact_own (fact.Up x) h = h
fact_own (fact.Gone x) h = h
fact_own (fact.Sent k p) h = h
fact_own (fact.Got k) h = h
fact_own fact.WireFull h = h
fact_own (fact.Reshard n k) h = h
fact_own (fact.Upgrade v) h = h
fact_own f h = refl

item_own : (i : Item) → is_turn_item i ≡ true → is_own_item i ≡ true
item_own (item.Fact f) h = fact_own f h
item_own (item.Post p) h = refl

by_rules : (sends : List (List Sending)) (lists : SlotLists) (i : Input) (st : Node) → is_no_fail i ≡ true → list_all is_own_item (items_of (turn sends lists i st)) ≡ true
by_rules sends lists i st h = all_map is_turn_item is_own_item item_own (items_of (turn sends lists i st)) (turn_tells sends lists i st h)

pub turn_is_own : TurnIsOwn
turn_is_own sends lists (input.FailWrite e k) st = armed_items (λ is. list_all is_own_item is ≡ true) e k st refl refl
turn_is_own sends lists (input.Packet p) st = by_rules sends lists (input.Packet p) st refl
turn_is_own sends lists input.Tick st = by_rules sends lists input.Tick st refl
turn_is_own sends lists input.Leave st = by_rules sends lists input.Leave st refl
turn_is_own sends lists (input.Rebalance n) st = by_rules sends lists (input.Rebalance n) st refl
turn_is_own sends lists (input.Produce p) st = by_rules sends lists (input.Produce p) st refl
turn_is_own sends lists (input.Rest p) st = by_rules sends lists (input.Rest p) st refl
turn_is_own sends lists (input.Send p) st = by_rules sends lists (input.Send p) st refl
turn_is_own sends lists (input.Passivate e) st = by_rules sends lists (input.Passivate e) st refl

pub posts_are_own : PostsAreOwn
posts_are_own f [] = refl
posts_are_own f (x ∷ xs) = posts_are_own f xs
