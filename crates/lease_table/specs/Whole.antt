-- What a pass has seen of the slots that it holds.
use Rattle.std.specs.Prelude.{◌≡◌, ℕ, List, Some}
use Rattle.yard_model.specs.declared.fact.Fact.{Fact}
use Rattle.yard_model.specs.Words.{at}
use Rattle.lease_table.specs.declared.View.{View}
use Rattle.lease_table.specs.Lists.{seen_at}

-- of each slot that it holds, it has seen the list with which it holds it
abbrev pub SeesHeld : View → Type 0
SeesHeld v = (k : ℕ) (l : List Fact) → at v.held k ≡ Some l → seen_at v.seen k ≡ l
