-- A region that is lost, shard by shard.
use Rattle.std.proofs.Common.{◌≡◌, ◌+◌, ℕ, sym, ap, ◌∙◌, refl, arith, append-nil}
use Rattle.std.specs.Prelude.{Bool, true, false, ◌==◌, ◌&&◌, ◌||◌, not, cond, nat_lt, List, [], ◌∷◌, ◌++◌, map, filter, Option, Some, None, if◌then◌else◌}
use Rattle.std.specs.List.{flat_map, list_all, list_any}
use Rattle.std.proofs.lemmas.Bool.Decides.{nat_tests}
use Rattle.std.proofs.lemmas.Grind.{flat_map-append}
use Rattle.std.proofs.lemmas.List.Elements.{filter-append}
use Rattle.yard_model.specs.declared.incarnation.Incarnation.{Incarnation}
use Rattle.yard_model.specs.declared.incarnation.Stamp.{Stamp}
use Rattle.yard_model.specs.declared.packet.Body.TheVariants as body
use Rattle.yard_model.specs.Coordinator.{Moving, not_awaited}
use Rattle.yard_model.specs.Move.{post}
use Rattle.yard_model.specs.Words.{is_at, is_among, is_same, is_empty, without}
use Rattle.handoff_steps.specs.Places.{Handoff, one_of, left_of, lost_at, step_without}
use Rattle.handoff_steps.specs.declared.step.Step.TheVariants as step
use Rattle.coordinator_actor.specs.Parts.{at_shard, lost_all, lost_posts, step_posts}
use Rattle.coordinator_actor.proofs.Same.{true_is_not_false, and_both}

-- the region is lost for the shards below i
abbrev pub lost_below : ℕ → Incarnation → List Moving → List Moving
lost_below i r xs = flat_map (λ x. if nat_lt x.shard i then left_of r x else x ∷ []) xs

pub lost_none : (r : Incarnation) (xs : List Moving) → lost_below 0 r xs ≡ xs
lost_none r [] = refl
lost_none r (x ∷ xs) = ap (λ b. (if b then left_of r x else x ∷ []) ++ lost_below 0 r xs) least ∙ ap (λ (l : List Moving). x ∷ l) (lost_none r xs)
  where
    least : nat_lt x.shard 0 ≡ false
    least = grind (arith, nat_tests)

-- below i, or i itself
below_more : (a i : ℕ) → nat_lt a (i + 1) ≡ (nat_lt a i || (a == i))
below_more a i = grind (arith, nat_tests)

apart : (a i : ℕ) → nat_lt a i ≡ true → (a == i) ≡ false
apart a i e = grind (arith, nat_tests)

-- what is left of a shard elsewhere stays
left_stays : (i : ℕ) (r : Incarnation) (x : Moving) → (x.shard == i) ≡ false → lost_at i r (left_of r x) ≡ left_of r x
left_stays i r x other = by_owner (is_at r x.owner)
  where
    by_owner : (b : Bool) → lost_at i r (if b then [] else not_awaited r x ∷ []) ≡ (if b then [] else not_awaited r x ∷ [])
    by_owner true = refl
    by_owner false = ap (λ b. (if b then left_of r (not_awaited r x) else not_awaited r x ∷ []) ++ []) other

-- one shard more
pub lost_more : (i : ℕ) (r : Incarnation) (xs : List Moving) → lost_at i r (lost_below i r xs) ≡ lost_below (i + 1) r xs
lost_more i r [] = refl
lost_more i r (x ∷ xs) =
    flat_map-append (λ x. if x.shard == i then left_of r x else x ∷ []) (if nat_lt x.shard i then left_of r x else x ∷ []) (lost_below i r xs)
    ∙ (ap (λ (l : List Moving). l ++ lost_at i r (lost_below i r xs)) (head (nat_lt x.shard i) (x.shard == i) refl refl)
    ∙ (ap (λ b. (if b then left_of r x else x ∷ []) ++ lost_at i r (lost_below i r xs)) (sym (below_more x.shard i))
    ∙ ap (λ (l : List Moving). (if nat_lt x.shard (i + 1) then left_of r x else x ∷ []) ++ l) (lost_more i r xs)))
  where
    head : (a b : Bool) → nat_lt x.shard i ≡ a → (x.shard == i) ≡ b → lost_at i r (if a then left_of r x else x ∷ []) ≡ (if a || b then left_of r x else x ∷ [])
    head true b e f = left_stays i r x (apart x.shard i e)
    head false true e f = ap (λ b. (if b then left_of r x else x ∷ []) ++ []) f ∙ append-nil (left_of r x)
    head false false e f = ap (λ b. (if b then left_of r x else x ∷ []) ++ []) f

-- those of a shard that isn't reached yet
pub lost_kept : (i : ℕ) (r : Incarnation) (xs : List Moving) → at_shard i (lost_below i r xs) ≡ at_shard i xs
lost_kept i r [] = refl
lost_kept i r (x ∷ xs) =
    filter-append (λ x. x.shard == i) (if nat_lt x.shard i then left_of r x else x ∷ []) (lost_below i r xs)
    ∙ (ap (λ (l : List Moving). at_shard i (if nat_lt x.shard i then left_of r x else x ∷ []) ++ l) (lost_kept i r xs)
    ∙ head (nat_lt x.shard i) (x.shard == i) (is_at r x.owner) refl refl refl)
  where
    head : (a b c : Bool) → nat_lt x.shard i ≡ a → (x.shard == i) ≡ b → is_at r x.owner ≡ c → at_shard i (if a then (if c then [] else not_awaited r x ∷ []) else x ∷ []) ++ at_shard i xs ≡ cond b (x ∷ at_shard i xs) (at_shard i xs)
    head true b true e f g = ap (λ b. cond b (x ∷ at_shard i xs) (at_shard i xs)) (sym (apart x.shard i e) ∙ f)
    head true b false e f g =
        ap (λ b. cond b (not_awaited r x ∷ []) [] ++ at_shard i xs) (apart x.shard i e) ∙ ap (λ b. cond b (x ∷ at_shard i xs) (at_shard i xs)) (sym (apart x.shard i e) ∙ f)
    head false true c e f g = ap (λ b. cond b (x ∷ []) [] ++ at_shard i xs) f
    head false false c e f g = ap (λ b. cond b (x ∷ []) [] ++ at_shard i xs) f

-- all shards are below n
pub lost_end : (n : ℕ) (r : Incarnation) (xs : List Moving) → list_all (λ x. nat_lt x.shard n) xs ≡ true → lost_below n r xs ≡ lost_all r xs
lost_end n r [] e = refl
lost_end n r (x ∷ xs) e =
    let m : (nat_lt x.shard n ≡ true) × (list_all (λ x. nat_lt x.shard n) xs ≡ true) = and_both (nat_lt x.shard n) (list_all (λ x. nat_lt x.shard n) xs) e in
    ap (λ b. (if b then left_of r x else x ∷ []) ++ lost_below n r xs) m.0
    ∙ (ap (λ (l : List Moving). left_of r x ++ l) (lost_end n r xs m.1) ∙ by_owner (is_at r x.owner))
  where
    by_owner : (b : Bool) → (if b then [] else not_awaited r x ∷ []) ++ lost_all r xs ≡ map (not_awaited r) (cond (not b) (x ∷ filter (λ x. not (is_at r x.owner)) xs) (filter (λ x. not (is_at r x.owner)) xs))
    by_owner true = refl
    by_owner false = refl

-- where no shard of the round is s
pub none_lost : (s : ℕ) (r : Incarnation) (xs : List Moving) → list_any (λ x. x.shard == s) xs ≡ false → lost_at s r xs ≡ xs
none_lost s r [] e = refl
none_lost s r (x ∷ xs) e = by_first (x.shard == s) refl e (λ h. none_lost s r xs h)
  where
    by_first : (b : Bool) → (x.shard == s) ≡ b → (b || list_any (λ x. x.shard == s) xs) ≡ false → (list_any (λ x. x.shard == s) xs ≡ false → lost_at s r xs ≡ xs) → lost_at s r (x ∷ xs) ≡ x ∷ xs
    by_first true f h next = absurd (true_is_not_false h)
    by_first false f h next = ap (λ b. (if b then left_of r x else x ∷ []) ++ lost_at s r xs) f ∙ ap (λ (l : List Moving). x ∷ l) (next h)

-- what a round answers, and the rule
pub lost_step : (who : Incarnation) (given : Stamp) (r : Incarnation) (s : ℕ) (p : Option Handoff) → flat_map (lost_posts who given r) (one_of s p) ≡ step_posts who given s (step_without r p)
lost_step who given r s None = refl
lost_step who given r s (Some h) = by_done h.done
  where
    by_three : (a b e : Bool) → (if a then [] else if b && e then post who h.owner (body.HandOff s given) ∷ [] else []) ++ []
        ≡ step_posts who given s (if a then step.Done else if b then (if e then step.HandOff h.owner else step.Wait) else step.Wait)
    by_three true b e = refl
    by_three false true true = refl
    by_three false true false = refl
    by_three false false e = refl

    none : (a : Bool) → [] ≡ step_posts who given s (if a then step.Done else step.Wait)
    none true = refl
    none false = refl

    by_done : (d : Bool) → flat_map (lost_posts who given r) (one_of s (Some (record { owner = h.owner; awaited = h.awaited; done = d }))) ≡ step_posts who given s (step_without r (Some (record { owner = h.owner; awaited = h.awaited; done = d })))
    by_done true = none (is_same r h.owner)
    by_done false = by_three (is_same r h.owner) (is_among r h.awaited) (is_empty (without r h.awaited))

-- no shard moves
pub none_there : (xs : List Moving) → is_empty xs ≡ true → xs ≡ []
none_there [] e = refl
none_there (x ∷ xs) e = absurd (true_is_not_false (sym e))
