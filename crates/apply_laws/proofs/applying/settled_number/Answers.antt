use Rattle.std.proofs.Common.{refl}
use Rattle.apply_laws.proofs.NumberLaws as laws
use Rattle.apply_laws.proofs.applying.settled_number.Goals as goal

pub returns : goal.returns
returns c = laws.settled_number (record {
  itself = λ s. (c.slot_law.ensures s s).1 refl;
  opening = c.opening_gives_lists.ensures;
  given = c.given_stands.ensures;
  may = c.given_may_settle.ensures;
  stands = c.settle_stands.ensures;
})
