-- Incarnations that are the same.
use Rattle.std.proofs.Common.{◌≡◌, ℕ, sym, ap, ◌∙◌, refl}
use Rattle.std.specs.Prelude.{Bool, true, false, ◌==◌, ◌&&◌, ◌||◌, not, List, [], ◌∷◌, ◌++◌, Option, Some, None, unwrap_or}
use Rattle.std.specs.Cmp.{nat_eq_equiv}
use Rattle.std.proofs.lemmas.Bool.Decides.{Decides-eqb}
use Rattle.std.proofs.lemmas.List.Folds.{list_any-append}
use Rattle.std.proofs.lemmas.Map.Views.{any-filter_same}
use Rattle.yard_model.specs.declared.incarnation.Incarnation.{Incarnation}
use Rattle.yard_model.specs.Words.{is_same, is_at, is_among, without}

pub true_is_not_false : true ≡ false → ⊥
true_is_not_false e = cc

pub and_both : (a b : Bool) → (a && b) ≡ true → (a ≡ true) × (b ≡ true)
and_both true b e = (refl, e)
and_both false b e = absurd (true_is_not_false (sym e))

pub both : (a b : Bool) → a ≡ true → b ≡ true → (a && b) ≡ true
both a b e f = ap (λ x. x && b) e ∙ f

pub or_left : (a b : Bool) → a ≡ true → (a || b) ≡ true
or_left a b e = ap (λ x. x || b) e

pub or_right : (a b : Bool) → b ≡ true → (a || b) ≡ true
or_right true b e = refl
or_right false b e = e

-- what is not true is false
pub not_so : (b : Bool) → (b ≡ true → ⊥) → b ≡ false
not_so true h = absurd (h refl)
not_so false h = refl

pub none_so : (b : Bool) → not b ≡ false → b ≡ true
none_so true e = refl
none_so false e = absurd (true_is_not_false e)

pub same_is : (x y : Incarnation) → is_same x y ≡ true → x ≡ y
same_is x y e =
    let k : ((x.node == y.node) ≡ true) × ((x.number == y.number) ≡ true) = and_both (x.node == y.node) (x.number == y.number) e in
    let n : x.node ≡ y.node = (Decides-eqb x.node y.node).0 k.0 in
    let m : x.number ≡ y.number = (Decides-eqb x.number y.number).0 k.1 in
    let first : x ≡ record { node = y.node; number = x.number } = ap (λ (a : ℕ). let z : Incarnation = record { node = a; number = x.number } in z) n in
    first ∙ ap (λ (a : ℕ). let z : Incarnation = record { node = y.node; number = a } in z) m

pub same_itself : (x : Incarnation) → is_same x x ≡ true
same_itself x = both (x.node == x.node) (x.number == x.number) ((Decides-eqb x.node x.node).1 refl) ((Decides-eqb x.number x.number).1 refl)

pub same_turned : (x y : Incarnation) → is_same x y ≡ is_same y x
same_turned x y = ap (λ b. b && (x.number == y.number)) (nat_eq_equiv.symm x.node y.node) ∙ ap (λ b. (y.node == x.node) && b) (nat_eq_equiv.symm x.number y.number)

pub some_is : (x y : Incarnation) → Some x ≡ Some y → x ≡ y
some_is x y e = ap (λ o. unwrap_or o x) e

-- where nobody stands, no region is
pub at_none : (x : Incarnation) (o : Option Incarnation) → is_at x o ≡ true → o ≡ Some x
at_none x None e = absurd (true_is_not_false (sym e))
at_none x (Some y) e = ap Some (sym (same_is x y e))

pub among_more : (x r : Incarnation) (xs : List Incarnation) → is_among x xs ≡ true → is_among x (xs ++ r ∷ []) ≡ true
among_more x r xs e = list_any-append (is_same x) xs (r ∷ []) ∙ or_left (is_among x xs) (is_among x (r ∷ [])) e

-- another one stays
pub among_without : (x r : Incarnation) (xs : List Incarnation) → is_same r x ≡ false → is_among x xs ≡ true → is_among x (without r xs) ≡ true
among_without x r xs other e =
    any-filter_same (is_same x) (λ y. not (is_same r y)) true (λ y same. ap (λ z. not (is_same r z)) (sym (same_is x y same)) ∙ ap not other) xs ∙ e
