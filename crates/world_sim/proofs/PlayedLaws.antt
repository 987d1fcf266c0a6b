-- The worlds after orders.
use Rattle.std.proofs.Common.{◌≡◌, refl, ap, sym, ◌∙◌, ℕ, zero, suc, ◌+◌, Bool, true, false, List, [], ◌∷◌, ◌++◌, length, take, append_assoc, take-append-drop, arith}
use Rattle.std.specs.Prelude.{map, drop, slice_get, Some, None, is_some, unwrap_or}
use Rattle.std.proofs.lemmas.List.{append-nil}
use Rattle.yard_model.specs.declared.charter.Line.{Line}
use Rattle.yard_model.specs.World.{World, Made, Step, new_world, play_line, in_order, wire_limit}
use Rattle.plain_laws.proofs.Booleans.{true_is_not_false}
use Rattle.world_sim.specs.Played.{made_of, MadeNone, MadeNext, MadeFull, MadeAll}

pub made_none : MadeNone
made_none c = refl

-- One step after another, where it is known whether the wire is full.

abbrev then_if : Made → Bool → Step → Made
then_if m b q = elim b as (λ b. Made) [
  | true ↦ m
  | false ↦ let n : Made = q m.world in record { facts = m.facts ++ n.facts; world = n.world }
]

abbrev next : Made → Step → Made
next m q = record { facts = m.facts ++ (q m.world).facts; world = (q m.world).world }

abbrev last : List Step → Step → List Step
last qs q = qs ++ q ∷ []

first_by : (m : Made) (b : Bool) → then_if m b (in_order []) ≡ m
first_by m true = refl
first_by m false = ap (λ fs. record { facts = fs; world = m.world }) (append-nil m.facts)

more_by : (m : Made) (b : Bool) (ps : List Step) (q : Step) → m.world.full ≡ b → (then_if m b (in_order ps)).world.full ≡ false
    → ((in_order ps m.world).world.full ≡ false → in_order (last ps q) m.world ≡ next (in_order ps m.world) q) → then_if m b (in_order (last ps q)) ≡ next (then_if m b (in_order ps)) q
more_by m true ps q e h rest = absurd (true_is_not_false (sym e ∙ h))
more_by m false ps q e h rest =
    ap (λ (n : Made). record { facts = m.facts ++ n.facts; world = n.world }) (rest h)
    ∙ ap (λ fs. record { facts = fs; world = (q (in_order ps m.world).world).world }) (sym (append_assoc m.facts (in_order ps m.world).facts (q (in_order ps m.world).world).facts))

order_more : (ps : List Step) (q : Step) (w : World) → (in_order ps w).world.full ≡ false → in_order (last ps q) w ≡ next (in_order ps w) q
order_more [] q w h = first_by (q w) (q w).world.full
order_more (p ∷ ps) q w h = more_by (p w) (p w).world.full ps q refl h (order_more ps q (p w).world)

full_by : (m : Made) (b : Bool) (ps qs : List Step) → m.world.full ≡ b → (then_if m b (in_order ps)).world.full ≡ true
    → (m.world.full ≡ false → (in_order ps m.world).world.full ≡ true → in_order (ps ++ qs) m.world ≡ in_order ps m.world) → then_if m b (in_order (ps ++ qs)) ≡ then_if m b (in_order ps)
full_by m true ps qs e h rest = refl
full_by m false ps qs e h rest = ap (λ (n : Made). record { facts = m.facts ++ n.facts; world = n.world }) (rest e h)

order_full : (ps qs : List Step) (w : World) → w.full ≡ false → (in_order ps w).world.full ≡ true → in_order (ps ++ qs) w ≡ in_order ps w
order_full [] qs w f h = absurd (true_is_not_false (sym h ∙ f))
order_full (p ∷ ps) qs w f h = full_by (p w) (p w).world.full ps qs refl h (order_full ps qs (p w).world)

-- The lines of a script.

none_is_not_some : {A : Type 0} (x : A) → None ≡ Some x → ⊥
none_is_not_some x e = true_is_not_false (sym (ap is_some e))

take_next : (xs : List Line) (n : ℕ) (l : Line) → slice_get xs n ≡ Some l → take (suc n) xs ≡ take n xs ++ l ∷ []
take_next [] n l e = absurd (none_is_not_some l e)
take_next (x ∷ xs) zero l e = ap (λ (y : Line). y ∷ []) (ap (λ o. unwrap_or o x) e)
take_next (x ∷ xs) (suc n) l e = ap (λ ys. x ∷ ys) (take_next xs n l e)

map_last : (f : Line → Step) (xs : List Line) (l : Line) → map f (xs ++ l ∷ []) ≡ last (map f xs) (f l)
map_last f [] l = refl
map_last f (x ∷ xs) l = ap (λ ys. f x ∷ ys) (map_last f xs l)

map_both : (f : Line → Step) (xs ys : List Line) → map f (xs ++ ys) ≡ map f xs ++ map f ys
map_both f [] ys = refl
map_both f (x ∷ xs) ys = ap (λ zs. f x ∷ zs) (map_both f xs ys)

pub made_next : MadeNext
made_next c n l e h =
    let one : n + 1 ≡ suc n = omega arith in
    ap (made_of c) one ∙ (ap (λ qs. in_order qs (new_world c wire_limit)) (ap (map play_line) (take_next c.orders n l e) ∙ map_last play_line (take n c.orders) l)
    ∙ order_more (map play_line (take n c.orders)) (play_line l) (new_world c wire_limit) h)

pub made_full : MadeFull
made_full c n h =
    ap (λ qs. in_order qs (new_world c wire_limit)) (ap (map play_line) (sym (take-append-drop n c.orders)) ∙ map_both play_line (take n c.orders) (drop n c.orders))
    ∙ order_full (map play_line (take n c.orders)) (map play_line (drop n c.orders)) (new_world c wire_limit) refl h

take_all : (xs : List Line) → take (length xs) xs ≡ xs
take_all [] = refl
take_all (x ∷ xs) = ap (λ ys. x ∷ ys) (take_all xs)

pub made_all : MadeAll
made_all c = ap (λ ls. in_order (map play_line ls) (new_world c wire_limit)) (take_all c.orders)
