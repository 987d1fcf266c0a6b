-- After each settle of a script no node is up, where the wire isn't full in the end.
use Rattle.std.proofs.Common.{◌≡◌, inl, inr, ℕ, zero, suc, List, [], ◌∷◌, ◌++◌, length, map, sym, ap, subst, ◌∙◌, refl, true, false, true≢false}
use Rattle.std.specs.Prelude.{Bool, take, drop, slice_index_or}
use Rattle.std.proofs.lemmas.List.{append_assoc, map-append}
use Rattle.yard_model.specs.declared.charter.Line.{Line}
use Rattle.yard_model.specs.declared.charter.Order.TheVariants as order
use Rattle.yard_model.specs.Era.{era_of}
use Rattle.yard_model.specs.Script.{Script, IsScript}
use Rattle.yard_model.specs.World.{World, Made, Step, is_any_up, new_world, in_order, play_line}
use Rattle.settle_laws.specs.Settles.{Settles, SettleLineSettles, AreSettled, SettlesLeaveNone}
use Rattle.settle_laws.proofs.Ordered.{then_open, then_world}

-- steps, and then more
in_both : (qs rs : List Step) (w : World) → w.full ≡ false → (in_order (qs ++ rs) w).world.full ≡ false → ((in_order (qs ++ rs) w).world ≡ (in_order rs (in_order qs w).world).world) × ((in_order qs w).world.full ≡ false)
in_both [] rs w full open1 = (refl, full)
in_both (q ∷ qs) rs w full open1 = then_open (q w) (in_order (qs ++ rs)) open1 (λ first rest.
    let h : ((in_order (qs ++ rs) (q w).world).world ≡ (in_order rs (in_order qs (q w).world).world).world) × ((in_order qs (q w).world).world.full ≡ false) = in_both qs rs (q w).world first rest in
    let same : (in_order (q ∷ qs) w).world ≡ (in_order qs (q w).world).world = then_world (q w) (in_order qs) first in
    (then_world (q w) (in_order (qs ++ rs)) first ∙ (h.0 ∙ ap (λ v. (in_order rs v).world) (sym same)), ap (λ (v : World). v.full) same ∙ h.1))

-- and one more
in_last : (qs : List Step) (q : Step) (w : World) → (in_order qs w).world.full ≡ false → (in_order (qs ++ q ∷ []) w).world ≡ (q (in_order qs w).world).world
in_last [] q w open1 = by (q w).world.full
  where
    m : Made
    m = q w

    by : (b : Bool) → (elim b as (λ b. Made) [ true ↦ m | false ↦ let n : Made = in_order [] m.world in record { facts = m.facts ++ n.facts; world = n.world } ]).world ≡ m.world
    by true = refl
    by false = refl
in_last (r ∷ qs) q w open1 = then_open (r w) (in_order qs) open1 (λ first rest.
    then_world (r w) (in_order (qs ++ q ∷ [])) first ∙ (in_last qs q (r w).world rest ∙ ap (λ v. (q v).world) (sym (then_world (r w) (in_order qs) first))))

take_front : {A : Type 0} (d : A) (a b xs : List A) (n : ℕ) → take n xs ≡ a ++ b → take (length a) xs ≡ a
take_front d [] b [] n e = refl
take_front d [] b (x ∷ xs) n e = refl
take_front d (y ∷ a) b xs zero e = absurd (no_cons y (a ++ b) e)
  where
    no_cons : {A : Type 0} (y : A) (ys : List A) → [] ≡ y ∷ ys → ⊥
    no_cons y ys e = true≢false (ap (λ l. elim l as (λ x. Bool) [ [] ↦ true | x ∷ xs ↦ false ]) e)
take_front d (y ∷ a) b [] (suc n) e = absurd (no_cons y (a ++ b) e)
  where
    no_cons : {A : Type 0} (y : A) (ys : List A) → [] ≡ y ∷ ys → ⊥
    no_cons y ys e = true≢false (ap (λ l. elim l as (λ x. Bool) [ [] ↦ true | x ∷ xs ↦ false ]) e)
take_front d (y ∷ a) b (x ∷ xs) (suc n) e = ap (λ z. z ∷ take (length a) xs) (ap (λ l. slice_index_or l 0 d) e) ∙ ap (λ l. y ∷ l) (take_front d a b xs n (ap (drop 1) e))

lines_settled : SettleLineSettles → (c : Script) (limit n : ℕ) → IsScript c → (in_order (map play_line (take n c.orders)) (new_world c limit)).world.full ≡ false → (rest done : List Line) → take n c.orders ≡ done ++ rest → AreSettled rest (in_order (map play_line done) (new_world c limit)).world
lines_settled settles c limit n script open1 [] done e = tt
lines_settled settles c limit n script open1 (l ∷ ls) done e = (open_v, (λ o. down o), subst (AreSettled ls) next (lines_settled settles c limit n script open1 ls (done ++ l ∷ []) (e ∙ sym (append_assoc done (l ∷ []) ls))))
  where
    first : World
    first = new_world c limit

    m : Made
    m = in_order (map play_line done) first

    lines_are : map play_line (take n c.orders) ≡ map play_line done ++ map play_line (l ∷ ls)
    lines_are = ap (map play_line) e ∙ map-append play_line done (l ∷ ls)

    parts : ((in_order (map play_line done ++ map play_line (l ∷ ls)) first).world ≡ (in_order (map play_line (l ∷ ls)) m.world).world) × (m.world.full ≡ false)
    parts = in_both (map play_line done) (map play_line (l ∷ ls)) first refl (subst (λ qs. (in_order qs first).world.full ≡ false) lines_are open1)

    open_v : (play_line l m.world).world.full ≡ false
    open_v = then_open (play_line l m.world) (in_order (map play_line ls)) (ap (λ (v : World). v.full) (sym parts.0) ∙ subst (λ qs. (in_order qs first).world.full ≡ false) lines_are open1) (λ a b. a)

    next : (in_order (map play_line (done ++ l ∷ [])) first).world ≡ (play_line l m.world).world
    next = ap (λ qs. (in_order qs first).world) (map-append play_line done (l ∷ [])) ∙ in_last (map play_line done) (play_line l) first parts.1

    front : take (length done) c.orders ≡ done
    front = take_front l done (l ∷ ls) c.orders n e

    settled : Settles (era_of c m.facts).script m.world (play_line (record { number = l.number; order = order.Settle }) m.world)
    settled = subst (λ ls. let r : Made = in_order (map play_line ls) first in r.world.full ≡ false → Settles (era_of c r.facts).script r.world (play_line (record { number = l.number; order = order.Settle }) r.world)) front (settles c limit (length done) l.number script) parts.1

    down : l.order ≡ order.Settle → is_any_up (play_line l m.world).world ≡ false
    down o = by settled
      where
        same : l ≡ record { number = l.number; order = order.Settle }
        same = ap (λ x. record { number = l.number; order = x }) o

        by : Settles (era_of c m.facts).script m.world (play_line (record { number = l.number; order = order.Settle }) m.world) → is_any_up (play_line l m.world).world ≡ false
        by (inl f) = absurd (true≢false (sym f.full ∙ (ap (λ x. (play_line x m.world).world.full) (sym same) ∙ open_v)))
        by (inr s) = ap (λ x. is_any_up (play_line x m.world).world) same ∙ s.none_up

pub settles_leave_none : SettleLineSettles → SettlesLeaveNone
settles_leave_none settles c limit n script open1 = lines_settled settles c limit n script open1 (take n c.orders) [] refl
