-- What a turn tells: facts of its actors, and no view.
use Rattle.std.proofs.Common.{true, false}
use Rattle.std.specs.Prelude.{Bool, not}
use Rattle.yard_model.specs.declared.fact.Fact.{Fact}
use Rattle.yard_model.specs.declared.fact.Fact.TheVariants as fact
use Rattle.yard_model.specs.declared.out.Item.{Item}
use Rattle.yard_model.specs.declared.out.Item.TheVariants as item
use Rattle.node_laws.specs.Carried.{is_view}

-- a fact that actors tell, but that a write is to fail
abbrev pub is_turn_fact : Fact → Bool
is_turn_fact (fact.At n) = false
is_turn_fact fact.WireFull = false
is_turn_fact fact.Settled = false
is_turn_fact (fact.Up x) = false
is_turn_fact (fact.Gone x) = false
is_turn_fact (fact.Sent k p) = false
is_turn_fact (fact.Got k) = false
is_turn_fact (fact.Waits p e k) = false
is_turn_fact (fact.Armed e k) = false
is_turn_fact (fact.Reshard n k) = false
is_turn_fact (fact.Resharded s n k) = false
is_turn_fact (fact.Upgrade v) = false
is_turn_fact (fact.SentAsk k x) = false
is_turn_fact (fact.SentJob k x e) = false
is_turn_fact (fact.SentDone k x e) = false
is_turn_fact (fact.Given e x) = false
is_turn_fact (fact.Did x e) = false
is_turn_fact f = true

abbrev pub is_turn_item : Item → Bool
is_turn_item (item.Fact f) = is_turn_fact f
is_turn_item (item.Post p) = not (is_view p.body)
