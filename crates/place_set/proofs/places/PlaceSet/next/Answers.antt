use Rattle.std.proofs.Common.{◌-◌, ◌∙◌, ap, sym, arith}
use Rattle.place_set.specs.Places.{has_place, is_in}
use Rattle.place_set.proofs.PlaceLaws.{none_behind, none_from}
use Rattle.place_set.proofs.places.PlaceSet.next.Goals as goal

-- src/places.rt:104:13
pub returns-then-from-ge64-clause-between : goal.returns-then-from-ge64-clause-between
returns-then-from-ge64-clause-between c = λ i low high. ap (λ s. is_in s i) (sym c.self.view_is) ∙ none_behind c.self.inside.first c.self.inside.more.items (c.args.from - 64) c.next_below.result
    (λ j from below. ap (λ l. has_place l j) (sym c.as_slice.ensures.value) ∙ c.next_below.ensures.between j from below)
    i (omega (arith, low, c.if-from-ge64.true)) (omega (arith, low, c.if-from-ge64.true)) high

-- src/places.rt:96:5
pub returns-clause-between : goal.returns-clause-between
returns-clause-between c = λ i from below. ap (λ s. is_in s i) (sym c.self.view_is) ∙ none_from c.self.inside.first c.self.inside.more.items c.args.from c.next_below-2.result
    (λ b low high. c.lowest-place.ensures.between b (omega (arith, c.bit_of.ensures, c.if-from-ge64.false, low)) (omega (arith, high, c.if-place-lt64.false)))
    (λ j high. ap (λ l. has_place l j) (sym c.as_slice-2.ensures.value) ∙ c.next_below-2.ensures.between j (omega arith) high)
    i from below
