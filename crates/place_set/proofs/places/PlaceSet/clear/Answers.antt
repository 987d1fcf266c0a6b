use Rattle.std.proofs.Common.{◌==◌, ap, arith}
use Rattle.std.proofs.lemmas.Nat.Bits.{bit_at-zero}
use Rattle.place_set.proofs.PlaceLaws.{none_from}
use Rattle.place_set.proofs.places.PlaceSet.clear.Goals as goal

-- src/places.rt:75:5
pub returns-clause-none : goal.returns-clause-none
returns-clause-none c = λ i. none_from 0 c.clear_all.new.words.items 0 i (λ b _ _. ap (λ n. n == 1) (bit_at-zero b)) (λ j _. c.clear_all.ensures.none j) i (omega arith) (omega arith)
