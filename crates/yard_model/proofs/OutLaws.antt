-- A list whose front is taken.
use Rattle.std.specs.Prelude.{◌≡◌, ℕ, ◌+◌, ◌<◌, List, drop, length}
use Rattle.std.proofs.Common.{ap, sym}
use Rattle.std.proofs.lemmas.List.{drop_more}
use Rattle.yard_model.specs.declared.fact.Fact.TheVariants as fact
use Rattle.yard_model.specs.declared.out.Item.{Item}
use Rattle.yard_model.specs.declared.out.Item.TheVariants as item

-- one more is taken
pub drop_next : (xs : List Item) (t : ℕ) → t < length xs → drop (t + 1) xs ≡ drop 1 (drop t xs)
drop_next xs t h = sym (ap (drop 1) (drop_more xs t (item.Fact fact.Nothing) h))
