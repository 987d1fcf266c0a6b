-- What a coordinator's type keeps, move by move.
use Rattle.std.proofs.Common.{◌≡◌, ◌≤◌, ℕ, suc, arith, sym, ap, ◌∙◌, refl, ◌<◌, ◌+◌, ◌^◌, length, length-append, subst}
use Rattle.std.specs.Prelude.{Bool, true, false, not, cond, ◌==◌, ◌&&◌, ◌||◌, slice_set, is_some, List, [], ◌∷◌, ◌++◌, map, filter, Option, Some, None, slice_index_or, if◌then◌else◌}
use Rattle.std.specs.List.{All, list_any}
use Rattle.std.specs.Cmp.{nat_eq_equiv}
use Rattle.std.proofs.lemmas.Bool.Decides.{Decides-eqb, nat_tests}
use Rattle.std.proofs.lemmas.List.{length-set}
use Rattle.std.proofs.lemmas.List.Elements.{All-map, All-filter, filter_passes}
use Rattle.std.proofs.lemmas.List.Sums.{fold-append}
use Rattle.yard_model.specs.declared.fact.Fact.{Fact}
use Rattle.yard_model.specs.declared.fact.Fact.TheVariants as fact
use Rattle.yard_model.specs.declared.incarnation.Incarnation.{Incarnation}
use Rattle.yard_model.specs.declared.incarnation.Stamp.{Stamp}
use Rattle.yard_model.specs.Coordinator.{Moving, not_awaited}
use Rattle.yard_model.specs.Script.{Script, IsScript}
use Rattle.yard_model.specs.SlotReads.{holder_step, epoch, epoch_step, regions, allocation, allocation_step, holder}
use Rattle.yard_model.specs.Words.{is_at, is_empty}
use Rattle.coordinator_actor.specs.Held.{IsAtHome, IsCounted, IsHeld}
use Rattle.coordinator_actor.proofs.Same.{true_is_not_false}

of_not : (b : Bool) → not b ≡ true → b ≡ false
of_not true e = sym e
of_not false e = refl

allocation_more : (s : ℕ) (list : List Fact) (f : Fact) → allocation s (list ++ f ∷ []) ≡ allocation_step s (allocation s list) f
allocation_more s list f = fold-append (allocation_step s) None list (f ∷ [])

-- the home of a shard elsewhere stays where a region is lost
home_stays : (r : Incarnation) (list : List Fact) (x : Moving) → IsAtHome list x → not (is_at r x.owner) ≡ true → IsAtHome (list ++ fact.Terminated r ∷ []) x
home_stays r list x home other =
    let away : is_at r (allocation x.shard list) ≡ false = ap (is_at r) (sym home) ∙ of_not (is_at r x.owner) other in
    home ∙ sym (allocation_more x.shard list (fact.Terminated r) ∙ ap (λ b. if b then None else allocation x.shard list) away)

counted_by : (a b : Bool) (begun n : ℕ) → begun + (if a then 1 else 0) ≤ n → begun + (if b then 1 else 0) ≤ n + 1
counted_by true true begun n h = omega (arith, h)
counted_by true false begun n h = omega (arith, h)
counted_by false true begun n h = omega (arith, h)
counted_by false false begun n h = omega (arith, h)

-- one entry more, whatever becomes of the round
pub counted_more : (list : List Fact) (old now : List Moving) (begun : ℕ) (f : Fact) → IsCounted list old begun → IsCounted (list ++ f ∷ []) now begun
counted_more list old now begun f h =
    let long : length (list ++ f ∷ []) ≡ length list + 1 = length-append list (f ∷ []) in
    subst (λ n. begun + (if is_empty now then 1 else 0) ≤ n) (sym long) (counted_by (is_empty old) (is_empty now) begun (length list) h)

empty_map : (f : Moving → Moving) (xs : List Moving) → is_empty (map f xs) ≡ is_empty xs
empty_map f [] = refl
empty_map f (x ∷ xs) = refl

-- a list that is held has an entry
pub counted_first : (list : List Fact) (who : Incarnation) → holder list ≡ Some who → IsCounted list [] 0
counted_first [] who e = absurd (cc)
counted_first (x ∷ xs) who e = omega arith

-- a region is lost
pub lost_held : (c : Script) (who : Incarnation) (list : List Fact) (started : List Bool) (moving : List Moving) (stamp : Stamp) (r : Incarnation) → IsHeld c who list started moving stamp
    → IsHeld c who (list ++ fact.Terminated r ∷ []) started (map (not_awaited r) (filter (λ x. not (is_at r x.owner)) moving)) stamp
lost_held c who list started moving stamp r k =
    let pick : Moving → Bool = λ x. not (is_at r x.owner) in
    record {
      script_is = k.script_is;
      leased = fold-append holder_step None list (fact.Terminated r ∷ []) ∙ k.leased;
      started_there = k.started_there;
      at_home = All-map (IsAtHome (list ++ fact.Terminated r ∷ [])) (not_awaited r) (filter pick moving)
          (λ i d h. home_stays r list (slice_index_or (filter pick moving) i d) (All-filter pick (IsAtHome list) moving k.at_home i d h) (filter_passes pick moving i d h));
      epoch_is = k.epoch_is ∙ sym (fold-append epoch_step 0 list (fact.Terminated r ∷ []));
      counted = counted_more list moving (map (not_awaited r) (filter pick moving)) stamp.round (fact.Terminated r) k.counted;
    }

-- of one region more or less that is awaited
acknowledged_home : (s : ℕ) (r : Incarnation) (list : List Fact) (x : Moving) (b : Bool) → IsAtHome list x → IsAtHome list (if b then not_awaited r x else x)
acknowledged_home s r list x true h = h
acknowledged_home s r list x false h = h

pub acknowledged_held : (c : Script) (who : Incarnation) (list : List Fact) (started : List Bool) (moving : List Moving) (stamp : Stamp) (s : ℕ) (r : Incarnation) → IsHeld c who list started moving stamp
    → IsHeld c who list started (map (λ x. if x.shard == s then not_awaited r x else x) moving) stamp
acknowledged_held c who list started moving stamp s r k = record {
  script_is = k.script_is;
  leased = k.leased;
  started_there = k.started_there;
  at_home = All-map (IsAtHome list) (λ x. if x.shard == s then not_awaited r x else x) moving
      (λ i d h. acknowledged_home s r list (slice_index_or moving i d) ((slice_index_or moving i d).shard == s) (k.at_home i d h));
  epoch_is = k.epoch_is;
  counted = subst (λ b. stamp.round + (if b then 1 else 0) ≤ length list) (sym (empty_map (λ x. if x.shard == s then not_awaited r x else x) moving)) k.counted;
}

-- another shard keeps its home where one is deallocated
other_stays : (s : ℕ) (list : List Fact) (x : Moving) → IsAtHome list x → not (x.shard == s) ≡ true → IsAtHome (list ++ fact.Deallocated s ∷ []) x
other_stays s list x home other =
    let apart : (s == x.shard) ≡ false = nat_eq_equiv.symm s x.shard ∙ of_not (x.shard == s) other in
    home ∙ sym (allocation_more x.shard list (fact.Deallocated s) ∙ ap (λ b. if b then None else allocation x.shard list) apart)

pub removed_held : (c : Script) (who : Incarnation) (list : List Fact) (started : List Bool) (moving : List Moving) (stamp : Stamp) (s : ℕ) → IsHeld c who list started moving stamp
    → IsHeld c who (list ++ fact.Deallocated s ∷ []) (slice_set started s false) (filter (λ x. not (x.shard == s)) moving) stamp
removed_held c who list started moving stamp s k =
    let pick : Moving → Bool = λ x. not (x.shard == s) in
    record {
      script_is = k.script_is;
      leased = fold-append holder_step None list (fact.Deallocated s ∷ []) ∙ k.leased;
      started_there = length-set started s false ∙ k.started_there;
      at_home = λ i d h. other_stays s list (slice_index_or (filter pick moving) i d) (All-filter pick (IsAtHome list) moving k.at_home i d h) (filter_passes pick moving i d h);
      epoch_is = k.epoch_is ∙ sym (fold-append epoch_step 0 list (fact.Deallocated s ∷ []));
      counted = counted_more list moving (filter pick moving) stamp.round (fact.Deallocated s) k.counted;
    }

-- a shard of the round with an owner has a home
pub stopping_home : (list : List Fact) (s : ℕ) (from : Incarnation) (moving : List Moving) → All (IsAtHome list) moving
    → list_any (λ x. x.shard == s && (is_empty x.awaited && is_at from x.owner)) moving ≡ true → is_some (allocation s list) ≡ true
stopping_home list s from [] k e = absurd (true_is_not_false (sym e))
stopping_home list s from (x ∷ xs) k e = step (x.shard == s) (is_empty x.awaited) (is_at from x.owner) refl refl e (λ f. stopping_home list s from xs (λ i d h. k (suc i) d (omega (arith, h))) f)
  where
    some : (o : Option Incarnation) → is_at from o ≡ true → is_some o ≡ true
    some None f = absurd (true_is_not_false (sym f))
    some (Some y) f = refl

    step : (a b c : Bool) → (x.shard == s) ≡ a → is_at from x.owner ≡ c → ((a && (b && c)) || list_any (λ x. x.shard == s && (is_empty x.awaited && is_at from x.owner)) xs) ≡ true
        → (list_any (λ x. x.shard == s && (is_empty x.awaited && is_at from x.owner)) xs ≡ true → is_some (allocation s list) ≡ true) → is_some (allocation s list) ≡ true
    step true true true u v f rest =
        let same : x.shard ≡ s = (Decides-eqb x.shard s).0 u in
        ap (λ t. is_some (allocation t list)) (sym same) ∙ (ap is_some (sym (k ℕ.zero x (omega arith))) ∙ some x.owner v)
    step true true false u v f rest = rest f
    step true false c u v f rest = rest f
    step false b c u v f rest = rest f

pub any_of : (p q : Moving → Bool) (xs : List Moving) → list_any (λ x. q x && p x) xs ≡ list_any p (filter q xs)
any_of p q [] = refl
any_of p q (x ∷ xs) = step (q x) (any_of p q xs)
  where
    step : (b : Bool) → list_any (λ x. q x && p x) xs ≡ list_any p (filter q xs) → ((b && p x) || list_any (λ x. q x && p x) xs) ≡ list_any p (cond b (x ∷ filter q xs) (filter q xs))
    step true e = ap (λ b. p x || b) e
    step false e = e

pub none_left : (s : ℕ) (xs : List Moving) → list_any (λ x. x.shard == s) (filter (λ x. not (x.shard == s)) xs) ≡ false
none_left s [] = refl
none_left s (x ∷ xs) = step (x.shard == s) refl (none_left s xs)
  where
    step : (b : Bool) → (x.shard == s) ≡ b → list_any (λ x. x.shard == s) (filter (λ x. not (x.shard == s)) xs) ≡ false
        → list_any (λ x. x.shard == s) (cond (not b) (x ∷ filter (λ x. not (x.shard == s)) xs) (filter (λ x. not (x.shard == s)) xs)) ≡ false
    step true u e = e
    step false u e = ap (λ b. b || list_any (λ x. x.shard == s) (filter (λ x. not (x.shard == s)) xs)) u ∙ e

-- a script has at most 128 shards
pub few_shards : (c : Script) → IsScript c → c.config.shards ≤ 128
few_shards c k = grind (arith, nat_tests, k.config)

pub registered_held : (c : Script) (who : Incarnation) (list : List Fact) (started : List Bool) (moving : List Moving) (stamp : Stamp) (r : Incarnation) → IsHeld c who list started moving stamp
    → IsHeld c who (list ++ fact.Registered r ∷ []) started moving stamp
registered_held c who list started moving stamp r k = record {
  script_is = k.script_is;
  leased = fold-append holder_step None list (fact.Registered r ∷ []) ∙ k.leased;
  started_there = k.started_there;
  at_home = λ i d h. k.at_home i d h ∙ sym (allocation_more (slice_index_or moving i d).shard list (fact.Registered r));
  epoch_is = k.epoch_is ∙ sym (fold-append epoch_step 0 list (fact.Registered r ∷ []));
  counted = counted_more list moving moving stamp.round (fact.Registered r) k.counted;
}

none_at : (s : ℕ) (xs : List Moving) → list_any (λ x. x.shard == s) xs ≡ false → (i : ℕ) (d : Moving) → i < length xs → ((slice_index_or xs i d).shard == s) ≡ false
none_at s [] e i d h = absurd (omega (arith, h))
none_at s (x ∷ xs) e ℕ.zero d h = left (x.shard == s) e
  where
    left : (b : Bool) → (b || list_any (λ x. x.shard == s) xs) ≡ false → b ≡ false
    left true f = f
    left false f = refl
none_at s (x ∷ xs) e (suc i) d h = none_at s xs (right (x.shard == s) e) i d (omega (arith, h))
  where
    right : (b : Bool) → (b || list_any (λ x. x.shard == s) xs) ≡ false → list_any (λ x. x.shard == s) xs ≡ false
    right true f = absurd (true_is_not_false f)
    right false f = f

pub placed_held : (c : Script) (who : Incarnation) (list : List Fact) (started : List Bool) (moving : List Moving) (stamp : Stamp) (s : ℕ) (r : Incarnation) → list_any (λ x. x.shard == s) moving ≡ false → IsHeld c who list started moving stamp
    → IsHeld c who (list ++ fact.Allocated s r ∷ []) (slice_set started s false) moving stamp
placed_held c who list started moving stamp s r still k = record {
  script_is = k.script_is;
  leased = fold-append holder_step None list (fact.Allocated s r ∷ []) ∙ k.leased;
  started_there = length-set started s false ∙ k.started_there;
  at_home = λ i d h.
      let x : Moving = slice_index_or moving i d in
      k.at_home i d h ∙ sym (allocation_more x.shard list (fact.Allocated s r) ∙ ap (λ b. if b then Some r else allocation x.shard list) (nat_eq_equiv.symm s x.shard ∙ none_at s moving still i d h));
  epoch_is = k.epoch_is ∙ sym (fold-append epoch_step 0 list (fact.Allocated s r ∷ []));
  counted = counted_more list moving moving stamp.round (fact.Allocated s r) k.counted;
}

-- each shard of a round that begins is at home
begun_home : (list : List Fact) (ss : List ℕ) → All (IsAtHome list) (map (λ s. record { shard = s; owner = allocation s list; awaited = regions list }) ss)
begun_home list [] i d h = absurd (omega (arith, h))
begun_home list (s ∷ ss) ℕ.zero d h = refl
begun_home list (s ∷ ss) (suc i) d h = begun_home list ss i d (omega (arith, h))

-- the next round begins, where none is open
pub opened_held : (c : Script) (who : Incarnation) (list : List Fact) (started : List Bool) (old now : List Moving) (last next : Stamp) (ss : List ℕ) → IsHeld c who list started old last → is_empty old ≡ true → is_empty ss ≡ false
    → now ≡ map (λ s. record { shard = s; owner = allocation s list; awaited = regions list }) ss → next.epoch ≡ epoch list → next.round ≡ last.round + 1 → IsHeld c who list started now next
opened_held c who list started old now last next ss k closed some are number round = record {
  script_is = k.script_is;
  leased = k.leased;
  started_there = k.started_there;
  at_home = subst (λ (l : List Moving). All (IsAtHome list) l) (sym are) (begun_home list ss);
  epoch_is = number;
  counted =
      let more : last.round + (if true then 1 else 0) ≤ length list = subst (λ b. last.round + (if b then 1 else 0) ≤ length list) closed k.counted in
      let open_now : is_empty now ≡ false = ap is_empty are ∙ (not_empty ss ∙ some) in
      subst (λ b. next.round + (if b then 1 else 0) ≤ length list) (sym open_now) (omega (arith, more, round));
}
  where
    not_empty : (xs : List ℕ) → is_empty (map (λ s. let x : Moving = record { shard = s; owner = allocation s list; awaited = regions list } in x) xs) ≡ is_empty xs
    not_empty [] = refl
    not_empty (x ∷ xs) = refl

-- the number of the round that begins fits
pub round_fits : (list : List Fact) (moving : List Moving) (begun spare : ℕ) → is_empty moving ≡ true → IsCounted list moving begun → length list + spare < 2 ^ 32 → begun + 1 < 2 ^ 32
round_fits list moving begun spare may k h =
    let more : begun + (if true then 1 else 0) ≤ length list = subst (λ b. begun + (if b then 1 else 0) ≤ length list) may k in omega (arith, more, h)
