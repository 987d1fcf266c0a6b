-- What is kept of each name, moved to its place among more names.
use Rattle.std.proofs.Common.{◌≡◌, ◌≢◌, ◌<◌, ◌≤◌, ℕ, ◌+◌, sym, ap, ◌∙◌, refl, arith}
use Rattle.std.specs.Prelude.{Bool, true, false, nat_lt, List, length, replicate, slice_set, slice_index_or, if◌then◌else◌}
use Rattle.std.specs.List.{list_any}
use Rattle.std.proofs.lemmas.Bool.Decides.{nat_tests}
use Rattle.std.proofs.lemmas.List.{get_or_past, length-set, length-replicate}
use Rattle.yard_model.specs.Script.{is_name}
use Rattle.plain_laws.proofs.Booleans.{get_replicate, same_name}
use Rattle.durable_queue.specs.Kept.{place_of, kept_of, AreMoved}
use Rattle.durable_queue.proofs.PlaceLaws.{kept_put, place_apart}

below : (k n : ℕ) → k < n → nat_lt k n ≡ true
below k n h = grind (arith, nat_tests)

not_below : (k n : ℕ) → n ≤ k → nat_lt k n ≡ false
not_below k n h = grind (arith, nat_tests)

past : (k n : ℕ) → nat_lt k n ≡ false → n ≤ k
past k n h = grind (arith, nat_tests)

-- at another place than n it is the same whether n counts
same_side : (k n : ℕ) → k ≢ n → nat_lt k n ≡ nat_lt k (n + 1)
same_side k n other = by (nat_lt k n) refl
  where
    inside : (a m : ℕ) → nat_lt a m ≡ true → a < m
    inside a m h = grind (arith, nat_tests)

    by : (b : Bool) → nat_lt k n ≡ b → b ≡ nat_lt k (n + 1)
    by true t = let less : k < n = inside k n t in sym (below k (n + 1) (omega (arith, less)))
    by false t = let most : n ≤ k = past k n t in sym (not_below k (n + 1) (omega (arith, most, other)))

-- what is kept of the first n names is moved
pub record IsMovedTo {X : Type 0} (d : X) (old names : List (List ℕ)) (xs ys : List X) (n : ℕ) : Type 0 where
  pub sized : length ys ≡ length names
  pub each : (e : List ℕ) → kept_of names ys d e ≡ (if nat_lt (place_of old e) n then kept_of old xs d e else d)

pub moved_none : {X : Type 0} (d : X) (old names : List (List ℕ)) (xs ys : List X) → ys ≡ replicate (length names) d → IsMovedTo d old names xs ys 0
moved_none d old names xs ys is = record {
  sized = ap length is ∙ length-replicate (length names) d;
  each = λ e. ap (λ l. kept_of names l d e) is ∙ (get_replicate (length names) (place_of names e) d ∙ sym (ap (λ b. if b then kept_of old xs d e else d) (not_below (place_of old e) 0 (omega arith))));
}

-- what is kept of the next of them, x
pub moved_next : {X : Type 0} (d : X) (old names : List (List ℕ)) (xs ys zs : List X) (n : ℕ) (x : List ℕ) → IsMovedTo d old names xs ys n → list_any (is_name x) old ≡ true → list_any (is_name x) names ≡ true → place_of old x ≡ n
    → zs ≡ slice_set ys (place_of names x) (slice_index_or xs n d) → IsMovedTo d old names xs zs (n + 1)
moved_next d old names xs ys zs n x m among named place is = record {
  sized = ap length is ∙ (length-set ys (place_of names x) (slice_index_or xs n d) ∙ m.sized);
  each = λ e. ap (λ l. kept_of names l d e) is ∙ (kept_put names ys d (slice_index_or xs n d) x e m.sized named ∙ by e (is_name x e) refl);
}
  where
    by : (e : List ℕ) (b : Bool) → is_name x e ≡ b → (if b then slice_index_or xs n d else kept_of names ys d e) ≡ (if nat_lt (place_of old e) (n + 1) then kept_of old xs d e else d)
    by e true t =
        let at : place_of old e ≡ n = ap (place_of old) (sym (same_name x e t)) ∙ place in
        sym (ap (λ b. if b then kept_of old xs d e else d) (below (place_of old e) (n + 1) (omega (arith, at))) ∙ ap (λ k. slice_index_or xs k d) at)
    by e false t = m.each e ∙ ap (λ b. if b then kept_of old xs d e else d) (same_side (place_of old e) n (λ at. place_apart old x e among t (at ∙ sym place)))

-- all of them
pub moved_all : {X : Type 0} (d : X) (old names : List (List ℕ)) (xs ys : List X) (n : ℕ) → IsMovedTo d old names xs ys n → length old ≤ n → length xs ≡ length old → AreMoved d old names xs ys
moved_all d old names xs ys n m all sized = record { each = λ e. m.each e ∙ by e (nat_lt (place_of old e) n) refl }
  where
    by : (e : List ℕ) (b : Bool) → nat_lt (place_of old e) n ≡ b → (if b then kept_of old xs d e else d) ≡ kept_of old xs d e
    by e true t = refl
    by e false t = let most : n ≤ place_of old e = past (place_of old e) n t in sym (get_or_past xs (place_of old e) d (omega (arith, most, all, sized)))
