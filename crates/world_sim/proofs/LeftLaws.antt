-- What is left to do, as the queues tell it: each at the node that holds it, or in the book.
use Rattle.std.proofs.Common.{◌≡◌, ℕ, zero, suc, ◌+◌, ◌-◌, ◌*◌, ◌<◌, ◌≤◌, true, false, List, [], ◌∷◌, length, refl, ap, sym, ◌∙◌, arith}
use Rattle.std.specs.Prelude.{Bool, ◌&&◌, ◌||◌, nat_le, map, sum, take, drop, Option, Some, None, IfSome, IsSomeAnd, slice_index_or}
use Rattle.std.specs.List.{list_any}
use Rattle.std.proofs.lemmas.List.{drop_all}
use Rattle.std.proofs.lemmas.List.Sums.{sum-map, sum_by-cons}
use Rattle.yard_model.specs.declared.charter.Config.{Config}
use Rattle.yard_model.specs.declared.fact.Fact.{Fact}
use Rattle.yard_model.specs.declared.incarnation.Incarnation.{Incarnation}
use Rattle.yard_model.specs.declared.incarnation.Slot.TheVariants as slot
use Rattle.yard_model.specs.Behaviour.{is_in}
use Rattle.yard_model.specs.Genuine.{is_producer}
use Rattle.yard_model.specs.Script.{Script, Setting, IsScript, setting}
use Rattle.yard_model.specs.Setting.{producers}
use Rattle.yard_model.specs.SlotLists.{queue_list}
use Rattle.yard_model.specs.SlotReads.{holder, confirmed}
use Rattle.yard_model.specs.Words.{numbers, at}
use Rattle.yard_model.specs.World.{World, is_left, ordered_of, outstanding, settle_bound}
use Rattle.shard_lease.specs.Book.{known_at}
use Rattle.shard_store.specs.Stores.{entries_at, place_of}
use Rattle.actor_laws.specs.Hands.{held_list}
use Rattle.node_core.specs.Leased.{IsTold}
use Rattle.node_core.specs.Standing.{Standing}
use Rattle.node_laws.specs.Cluster.{IsHeldBy}
use Rattle.plain_laws.proofs.Booleans.{true_is_not_false, and_both, at_most}
use Rattle.plain_laws.proofs.Lists.{inside}
use Rattle.world_sim.specs.declared.seek.Sought.TheVariants as sought
use Rattle.world_sim.specs.Found.{is_sought, is_it}
use Rattle.world_sim.specs.Queues.{is_left_in}
use Rattle.world_sim.specs.Yard.{Yard, IsSound}
use Rattle.world_sim.proofs.AskLaws.{holds_queue}
use Rattle.world_sim.proofs.DeliveryLaws.{state_some}
use Rattle.world_sim.proofs.EndLaws.{kept_is}
use Rattle.world_sim.proofs.RestsLaws.{IsInHand, hand_is, held_by, told_of}
use Rattle.world_sim.proofs.SeekLaws.{IsFoundIn}
use Rattle.world_sim.proofs.UpLaws.{node_kept}

-- A script has few shards and producers.

second_of : (a b d e f g h : Bool) → (a && b && d && e && f && g && h) ≡ true → (b ≡ true) × (d ≡ true)
second_of a b d e f g h k =
    let k4 : (a && b && d && e) ≡ true = (and_both (a && b && d && e) f (and_both (a && b && d && e && f) g (and_both (a && b && d && e && f && g) h k).0).0).0 in
    let k3 : (a && b && d) ≡ true = (and_both (a && b && d) e k4).0 in
    ((and_both a b (and_both (a && b) d k3).0).1, (and_both (a && b) d k3).1)

pub few_slots : (c : Script) → IsScript c → (c.config.shards ≤ 128) × (c.config.producers ≤ 32)
few_slots c k =
    let x : Config = c.config in
    let m : (is_in 1 128 x.shards ≡ true) × (is_in 1 32 x.producers ≡ true) =
    second_of (is_in 1 16 x.nodes) (is_in 1 128 x.shards) (is_in 1 32 x.producers) (is_in 1 1000 x.buffer) (is_in 1 64 x.window) (is_in 1 10000 x.snapshot) (is_in 1 10 x.keep) k.config in
    (at_most x.shards 128 (and_both (nat_le 1 x.shards) (nat_le x.shards 128) m.0).1, at_most x.producers 32 (and_both (nat_le 1 x.producers) (nat_le x.producers 32) m.1).1)

-- A queue that a node holds.

pub queue_held : (y : Yard) (w : World) (p n : ℕ) (list : List Fact) → IsSound y w → is_producer y.script p ≡ true → IsSomeAnd (at y.nodes (n - 1)) (λ (v : Standing). held_list (slot.Queue p) v.state ≡ Some list) → list ≡ queue_list w.lists p
queue_held y w p n list s producer h = by (at y.nodes (n - 1)) refl h
  where
    by : (o : Option Standing) → at y.nodes (n - 1) ≡ o → IsSomeAnd o (λ (v : Standing). held_list (slot.Queue p) v.state ≡ Some list) → list ≡ queue_list w.lists p
    by None e h = absurd h
    by (Some v) e h = let t : IsInHand w v.state (slot.Queue p) list = hand_is y.script w (n - 1) v.state (slot.Queue p) list s.stands_is (kept_is n v y w s.seen_is e) producer h in sym t.list_is

pub queue_script : (y : Yard) (w : World) (n : ℕ) (c : Script) → IsSound y w → IsSomeAnd (at y.nodes (n - 1)) (λ (v : Standing). c ≡ v.script) → c ≡ y.script
queue_script y w n c s h = by (at y.nodes (n - 1)) (s.seen_is.scripts_are (n - 1)) h
  where
    by : (o : Option Standing) → IfSome o (λ (v : Standing). v.script ≡ y.script) → IsSomeAnd o (λ (v : Standing). c ≡ v.script) → c ≡ y.script
    by None e h = absurd h
    by (Some v) e h = h ∙ e

-- A queue that no node has in hand is free.

pub queue_free : (y : Yard) (w : World) (p : ℕ) → IsSound y w → is_producer y.script p ≡ true → IsFoundIn (sought.Queue p) y None → holder (queue_list w.lists p) ≡ None
queue_free y w p k producer f = by (holder (queue_list w.lists p)) refl
  where
    by : (o : Option Incarnation) → holder (queue_list w.lists p) ≡ o → o ≡ None
    by None e = refl
    by (Some x) e =
        let h : IsHeldBy w.nodes (slot.Queue p) x = held_by y.script w (slot.Queue p) x k.stands_is producer e in
        let v : (v : Standing) × (at y.nodes h.place ≡ Some v) × (v.state ≡ h.st) = state_some (at y.nodes h.place) h.st (sym (node_kept y w h.place k.seen_is) ∙ h.here) in
        let it : is_it (sought.Queue p) (at y.nodes h.place) ≡ true = ap (is_it (sought.Queue p)) v.1 ∙ (ap (is_sought (sought.Queue p)) v.2 ∙ (holds_queue p h.st ∙ h.held)) in
        absurd (true_is_not_false (sym it ∙ f h.place (inside y.nodes h.place v.0 v.1)))

queue_told : (y : Yard) (w : World) (p : ℕ) → IsSound y w → is_producer y.script p ≡ true → IsTold (queue_list w.lists p) (known_at y.book (place_of y.book.script.config (slot.Queue p)))
queue_told y w p k producer = told_of y.book y.script w.lists (slot.Queue p) k.seen_is.book_is k.seen_is.tells_is producer

pub book_free : (y : Yard) (w : World) (p : ℕ) → IsSound y w → is_producer y.script p ≡ true → IsFoundIn (sought.Queue p) y None → at y.book.holders (place_of y.book.script.config (slot.Queue p)) ≡ None
book_free y w p k producer f = (queue_told y w p k producer).holder_is ∙ queue_free y w p k producer f

pub book_queue : (y : Yard) (w : World) (p : ℕ) → IsSound y w → is_producer y.script p ≡ true → IsFoundIn (sought.Queue p) y None → entries_at y.book.places (place_of y.book.script.config (slot.Queue p)) ≡ queue_list w.lists p
book_queue y w p k producer f = let t : IsTold (queue_list w.lists p) (known_at y.book (place_of y.book.script.config (slot.Queue p))) = queue_told y w p k producer in t.list_is (t.holder_is ∙ queue_free y w p k producer f)

-- Names, one after the other.

sum_more : {A : Type 0} (f : A → ℕ) (x : A) (xs : List A) → sum (map f (x ∷ xs)) ≡ f x + sum (map f xs)
sum_more f x xs = sum-map f (x ∷ xs) ∙ (sum_by-cons f x xs ∙ ap (λ k. f x + k) (sym (sum-map f xs)))

some_more : {A : Type 0} (f : A → ℕ) (xs : List A) (i : ℕ) (d : A) → i < length xs → sum (map f (take (suc i) xs)) ≡ sum (map f (take i xs)) + f (slice_index_or xs i d)
some_more f [] i d h = absurd (omega (arith, h))
some_more f (y ∷ ys) zero d h = let first : sum (map f (y ∷ [])) ≡ f y + sum (map f []) = sum_more f y [] in omega (arith, first)
some_more f (y ∷ ys) (suc i) d h =
    let rest : sum (map f (take (suc i) ys)) ≡ sum (map f (take i ys)) + f (slice_index_or ys i d) = some_more f ys i d (omega (arith, h)) in
    let a : sum (map f (take (suc (suc i)) (y ∷ ys))) ≡ f y + sum (map f (take (suc i) ys)) = sum_more f y (take (suc i) ys) in
    let b : sum (map f (take (suc i) (y ∷ ys))) ≡ f y + sum (map f (take i ys)) = sum_more f y (take i ys) in
    omega (arith, rest, a, b)

-- one number less is left
pub less_by : {A : Type 0} (f : A → ℕ) (xs : List A) (i left all : ℕ) (d : A) → i < length xs → left ≡ all - sum (map f (take i xs)) → left - f (slice_index_or xs i d) ≡ all - sum (map f (take (i + 1) xs))
less_by f xs i left all d h k =
    let one : i + 1 ≡ suc i = omega arith in
    let more : sum (map f (take (suc i) xs)) ≡ sum (map f (take i xs)) + f (slice_index_or xs i d) = some_more f xs i d h in
    let same : sum (map f (take (i + 1) xs)) ≡ sum (map f (take (suc i) xs)) = ap (λ j. sum (map f (take j xs))) one in
    omega (arith, k, more, same)

-- of what stands at a place and behind it
any_at : {A : Type 0} (f : A → Bool) (xs : List A) (i : ℕ) (d : A) → i < length xs → list_any f (drop i xs) ≡ (f (slice_index_or xs i d) || list_any f (drop (suc i) xs))
any_at f [] i d h = absurd (omega (arith, h))
any_at f (y ∷ ys) zero d h = refl
any_at f (y ∷ ys) (suc i) d h = any_at f ys i d (omega (arith, h))

pub any_next : {A : Type 0} (f : A → Bool) (xs : List A) (i : ℕ) (d : A) → i < length xs → f (slice_index_or xs i d) ≡ false → list_any f (drop i xs) ≡ list_any f xs → list_any f (drop (i + 1) xs) ≡ list_any f xs
any_next f xs i d h none so_far =
    let one : i + 1 ≡ suc i = omega arith in
    ap (λ j. list_any f (drop j xs)) one ∙ (ap (λ b. b || list_any f (drop (suc i) xs)) (sym none) ∙ (sym (any_at f xs i d h) ∙ so_far))

pub any_here : {A : Type 0} (f : A → Bool) (xs : List A) (i : ℕ) (d : A) → i < length xs → f (slice_index_or xs i d) ≡ true → list_any f (drop i xs) ≡ list_any f xs → true ≡ list_any f xs
any_here f xs i d h here so_far = ap (λ b. b || list_any f (drop (suc i) xs)) (sym here) ∙ (sym (any_at f xs i d h) ∙ so_far)

pub any_none : {A : Type 0} (f : A → Bool) (xs : List A) (i : ℕ) → length xs ≤ i → list_any f (drop i xs) ≡ list_any f xs → false ≡ list_any f xs
any_none f xs i h so_far = ap (list_any f) (sym (drop_all i xs h)) ∙ so_far

-- What a producer has left.

pub place_in : (y : Yard) (w : World) (p : ℕ) → IsSound y w → is_producer y.script p ≡ true → p ≤ length y.ordered
place_in y w p s h =
    let most : p ≤ y.script.config.producers = at_most p y.script.config.producers (and_both (nat_le 1 p) (nat_le p y.script.config.producers) h).1 in
    let l : length y.ordered ≡ y.script.config.producers = s.seen_is.ordered_there in
    omega (arith, most, l)

-- the names and the sends are the world's
pub left_is : (y : Yard) (w : World) (p ordered : ℕ) (names : List (List ℕ)) (list : List Fact) → IsSound y w → ordered ≡ slice_index_or y.ordered (p - 1) 0 → names ≡ (setting y.script).names → list ≡ queue_list w.lists p → is_left_in ordered names list ≡ is_left w p
left_is y w p ordered names list s e f g =
    ap (λ k. is_left_in k names list) (e ∙ ap (λ os. slice_index_or os (p - 1) 0) s.seen_is.ordered_are)
    ∙ (ap (λ ns. is_left_in (ordered_of w p) ns list) (f ∙ ap (λ (set : Setting). set.names) (sym s.seen_is.set_is))
    ∙ ap (λ l. is_left_in (ordered_of w p) w.set.names l) g)

pub outstanding_is : (y : Yard) (w : World) (p ordered : ℕ) (names : List (List ℕ)) (list : List Fact) → IsSound y w → ordered ≡ slice_index_or y.ordered (p - 1) 0 → names ≡ (setting y.script).names → list ≡ queue_list w.lists p
    → ordered - sum (map (λ e. confirmed e list) names) ≡ outstanding w p
outstanding_is y w p ordered names list s e f g =
    ap (λ k. k - sum (map (λ e. confirmed e list) names)) (e ∙ ap (λ os. slice_index_or os (p - 1) 0) s.seen_is.ordered_are)
    ∙ (ap (λ ns. ordered_of w p - sum (map (λ e. confirmed e list) ns)) (f ∙ ap (λ (set : Setting). set.names) (sym s.seen_is.set_is))
    ∙ ap (λ l. ordered_of w p - sum (map (λ e. confirmed e l) w.set.names)) g)

-- Producers, one after the other.

-- something is left of none of those before
pub record NoneLeft (y : Yard) (i : ℕ) : Type 0 where
  pub rest : (w : World) → IsSound y w → list_any (is_left w) (numbers (i + 1) (y.script.config.producers - i)) ≡ list_any (is_left w) (producers w.set)

producers_of : (y : Yard) (w : World) → IsSound y w → numbers 1 y.script.config.producers ≡ producers w.set
producers_of y w s = ap producers (sym s.seen_is.set_is)

pub left_first : (y : Yard) → NoneLeft y 0
left_first y = record { rest = λ w s. let all : y.script.config.producers - 0 ≡ y.script.config.producers = omega arith in ap (λ k. list_any (is_left w) (numbers 1 k)) all ∙ ap (list_any (is_left w)) (producers_of y w s) }

left_at : (y : Yard) (i p left rest : ℕ) (w : World) → p ≡ i + 1 → left ≡ suc rest → list_any (is_left w) (numbers (i + 1) left) ≡ (is_left w p || list_any (is_left w) (numbers (i + 1 + 1) rest))
left_at y i p left rest w e f = ap (λ k. list_any (is_left w) (numbers (i + 1) k)) f ∙ ap (λ q. is_left w q || list_any (is_left w) (numbers (i + 1 + 1) rest)) (sym e)

pub left_next : (y : Yard) (i p : ℕ) → p ≡ i + 1 → i < y.script.config.producers → ((w : World) → IsSound y w → is_left w p ≡ false) → NoneLeft y i → NoneLeft y (i + 1)
left_next y i p e less none n = record {
  rest = λ w s.
      let count : ℕ = y.script.config.producers in
      let one : count - i ≡ suc (count - (i + 1)) = omega (arith, less) in
      ap (λ b. b || list_any (is_left w) (numbers (i + 1 + 1) (count - (i + 1)))) (sym (none w s)) ∙ (sym (left_at y i p (count - i) (count - (i + 1)) w e one) ∙ n.rest w s);
}

pub left_here : (y : Yard) (i p : ℕ) (w : World) → p ≡ i + 1 → i < y.script.config.producers → IsSound y w → is_left w p ≡ true → NoneLeft y i → true ≡ list_any (is_left w) (producers w.set)
left_here y i p w e less s here n =
    let count : ℕ = y.script.config.producers in
    let one : count - i ≡ suc (count - (i + 1)) = omega (arith, less) in
    ap (λ b. b || list_any (is_left w) (numbers (i + 1 + 1) (count - (i + 1)))) (sym here) ∙ (sym (left_at y i p (count - i) (count - (i + 1)) w e one) ∙ n.rest w s)

pub left_none : (y : Yard) (i : ℕ) (w : World) → y.script.config.producers - i ≡ 0 → IsSound y w → NoneLeft y i → false ≡ list_any (is_left w) (producers w.set)
left_none y i w e s n = ap (λ k. list_any (is_left w) (numbers (i + 1) k)) (sym e) ∙ n.rest w s

-- so many are outstanding of those before
pub record Counted (y : Yard) (i total : ℕ) : Type 0 where
  pub rest : (w : World) → IsSound y w → total + sum (map (outstanding w) (numbers (i + 1) (y.script.config.producers - i))) ≡ sum (map (outstanding w) (producers w.set))
  pub few : total ≤ 3000000 * i
  pub within : i ≤ y.script.config.producers

pub counted_first : (y : Yard) → Counted y 0 0
counted_first y = record {
  rest = λ w s.
      let all : y.script.config.producers - 0 ≡ y.script.config.producers = omega arith in
      let same : sum (map (outstanding w) (numbers 1 (y.script.config.producers - 0))) ≡ sum (map (outstanding w) (producers w.set)) = ap (λ k. sum (map (outstanding w) (numbers 1 k))) all ∙ ap (λ ps. sum (map (outstanding w) ps)) (producers_of y w s) in
      omega (arith, same);
  few = omega arith;
  within = omega arith;
}

pub counted_on : (y : Yard) (i p total more : ℕ) → p ≡ i + 1 → i < y.script.config.producers → more ≤ 3000000 → ((w : World) → IsSound y w → more ≡ outstanding w p) → Counted y i total → Counted y (i + 1) (total + more)
counted_on y i p total more e less most is c = record {
  rest = λ w s.
      let count : ℕ = y.script.config.producers in
      let one : count - i ≡ suc (count - (i + 1)) = omega (arith, less) in
      let k : more ≡ outstanding w p = is w s in
      let at_i : sum (map (outstanding w) (numbers (i + 1) (count - i))) ≡ outstanding w (i + 1) + sum (map (outstanding w) (numbers (i + 1 + 1) (count - (i + 1)))) = ap (λ k. sum (map (outstanding w) (numbers (i + 1) k))) one ∙ sum_more (outstanding w) (i + 1) (numbers (i + 1 + 1) (count - (i + 1))) in
      let here : outstanding w (i + 1) ≡ outstanding w p = ap (outstanding w) (sym e) in
      let before : total + sum (map (outstanding w) (numbers (i + 1) (count - i))) ≡ sum (map (outstanding w) (producers w.set)) = c.rest w s in
      omega (arith, k, at_i, here, before);
  few = let f : total ≤ 3000000 * i = c.few in omega (arith, f, most);
  within = omega (arith, less);
}

pub counted_all : (y : Yard) (i total : ℕ) (w : World) → y.script.config.producers - i ≡ 0 → IsSound y w → Counted y i total → total ≡ sum (map (outstanding w) (producers w.set))
counted_all y i total w e s c =
    let none : sum (map (outstanding w) (numbers (i + 1) (y.script.config.producers - i))) ≡ 0 = ap (λ k. sum (map (outstanding w) (numbers (i + 1) k))) e in
    let rest : total + sum (map (outstanding w) (numbers (i + 1) (y.script.config.producers - i))) ≡ sum (map (outstanding w) (producers w.set)) = c.rest w s in
    omega (arith, none, rest)

-- The budget.

pub bound_is : (y : Yard) (w : World) (total shards count names : ℕ) → IsSound y w → total ≡ sum (map (outstanding w) (producers w.set)) → shards ≡ y.script.config.shards → count ≡ y.script.config.producers → names ≡ length (setting y.script).names
    → 40 * (total + shards + count + names + 1) ≡ settle_bound w
bound_is y w total shards count names s e f g h =
    let set : setting y.script ≡ w.set = sym s.seen_is.set_is in
    ap (λ k. 40 * (k + shards + count + names + 1)) e
    ∙ (ap (λ k. 40 * (sum (map (outstanding w) (producers w.set)) + k + count + names + 1)) (f ∙ ap (λ (x : Setting). x.config.shards) set)
    ∙ (ap (λ k. 40 * (sum (map (outstanding w) (producers w.set)) + w.set.config.shards + k + names + 1)) (g ∙ ap (λ (x : Setting). x.config.producers) set)
    ∙ ap (λ k. 40 * (sum (map (outstanding w) (producers w.set)) + w.set.config.shards + w.set.config.producers + k + 1)) (h ∙ ap (λ (x : Setting). length x.names) set)))
