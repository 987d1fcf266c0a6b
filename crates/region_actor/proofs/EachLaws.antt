-- A rule for each shard, rising, each of which reads what those before it leave as it was.
use Rattle.std.proofs.Common.{◌≡◌, ◌≢◌, ℕ, ◌+◌, ◌-◌, ◌<◌, ◌≤◌, List, [], ◌∷◌, ◌++◌, length, sym, ap, ◌∙◌, refl, arith, append_assoc, append-nil, length-append, get_or-set_other}
use Rattle.std.specs.Prelude.{Bool, true, false, ◌&&◌, not, zero, suc, fold, sum_by, Option, Some, None, is_none, if◌then◌else◌}
use Rattle.std.specs.List.{flat_map}
use Rattle.std.proofs.lemmas.List.Sums.{fold-append, sum_by-cons}
use Rattle.std.proofs.lemmas.Grind.{flat_map-append}
use Rattle.yard_model.specs.declared.fact.Fact.TheVariants as fact
use Rattle.yard_model.specs.declared.incarnation.Incarnation.{Incarnation}
use Rattle.yard_model.specs.declared.out.Item.{Item}
use Rattle.yard_model.specs.declared.packet.Body.TheVariants as body
use Rattle.yard_model.specs.declared.packet.Message.{Message}
use Rattle.yard_model.specs.Move.{Move, told, post, item_of}
use Rattle.yard_model.specs.Region.{Region, region_after, home, oldest, forget_lost, ask_again, kept_of, post_oldest}
use Rattle.yard_model.specs.Setting.{shards}
use Rattle.yard_model.specs.Turns.{where_some}
use Rattle.yard_model.specs.Words.{numbers, is_among, is_empty}

abbrev pub Each : Type 0
Each = Region → ℕ → List Move

-- what is left from shard i on, of n
abbrev pub rest_of : Each → Region → ℕ → ℕ → List Move
rest_of p st i n = flat_map (p st) (numbers i (n - i))

-- the moves of one shard leave those of the later shards as they were
abbrev pub IsApart : Each → Type 0
IsApart p = (st : Region) (s t : ℕ) → s < t → p (fold region_after st (p st s)) t ≡ p st t

same_from : (p q : ℕ → List Move) (a n : ℕ) → ((t : ℕ) → a ≤ t → p t ≡ q t) → flat_map p (numbers a n) ≡ flat_map q (numbers a n)
same_from p q a zero h = refl
same_from p q a (suc n) h = rw (h a (omega arith)) (ap (λ l. q a ++ l) (same_from p q (a + 1) n (λ t k. h t (omega arith))))

-- the next shard
rest_more : (p : Each) → IsApart p → (st : Region) (i n : ℕ) → i < n → rest_of p st i n ≡ p st i ++ rest_of p (fold region_after st (p st i)) (i + 1) n
rest_more p apart st i n h =
    let e : n - i ≡ suc (n - (i + 1)) = omega arith in
    rw e (ap (λ l. p st i ++ l) (same_from (p st) (p (fold region_after st (p st i))) (i + 1) (n - (i + 1)) (λ t k. sym (apart st i t (omega arith)))))

rest_none : (p : Each) (st : Region) (i n : ℕ) → n ≤ i → rest_of p st i n ≡ []
rest_none p st i n h =
    let e : n - i ≡ 0 = omega arith in
    ap (λ k. flat_map (p st) (numbers i k)) e

-- how far a loop over the shards has come: what it made and changed, with what is left, is the whole
pub record IsOnTheWay (p : Each) (n : ℕ) (all : List Move) (st₀ : Region) (items₀ : List Item) (spare₀ : ℕ) (st : Region) (items : List Item) (spare i : ℕ) : Type 0 where
  pub items_are : items ++ flat_map item_of (rest_of p st i n) ≡ items₀ ++ flat_map item_of all
  pub state_is : fold region_after st (rest_of p st i n) ≡ fold region_after st₀ all
  pub spare_is : spare + length (flat_map item_of all) ≡ spare₀ + length (flat_map item_of (rest_of p st i n))

pub first_each : (p : Each) (n k : ℕ) (st : Region) (items : List Item) (spare : ℕ) → k ≡ n → IsOnTheWay p n (flat_map (p st) (numbers 0 k)) st items spare st items spare 0
first_each p n k st items spare e =
    let whole : k ≡ n - 0 = omega arith in
    rw whole record { items_are = refl; state_is = refl; spare_is = refl }

items_more : (items items' : List Item) (xs ys zs : List Move) → zs ≡ xs ++ ys → items' ≡ items ++ flat_map item_of xs → items' ++ flat_map item_of ys ≡ items ++ flat_map item_of zs
items_more items items' xs ys zs e h = rw h (append_assoc items (flat_map item_of xs) (flat_map item_of ys) ∙ ap (λ l. items ++ l) (sym (flat_map-append item_of xs ys) ∙ ap (flat_map item_of) (sym e)))

length_more : (xs ys zs : List Move) → zs ≡ xs ++ ys → length (flat_map item_of zs) ≡ length (flat_map item_of xs) + length (flat_map item_of ys)
length_more xs ys zs e = rw e (ap length (flat_map-append item_of xs ys) ∙ length-append (flat_map item_of xs) (flat_map item_of ys))

module _ (p : Each) (n : ℕ) (all : List Move) (st₀ : Region) (items₀ : List Item) (spare₀ : ℕ) (st : Region) (items : List Item) (spare i : ℕ) where
  pub next_each : IsApart p → i < n → IsOnTheWay p n all st₀ items₀ spare₀ st items spare i → (st' : Region) (items' : List Item) (spare' : ℕ)
      → st' ≡ fold region_after st (p st i) → items' ≡ items ++ flat_map item_of (p st i) → spare' + length (flat_map item_of (p st i)) ≡ spare
      → IsOnTheWay p n all st₀ items₀ spare₀ st' items' spare' (i + 1)
  next_each apart h k st' items' spare' e f g =
      let more : rest_of p st i n ≡ p st i ++ rest_of p (fold region_after st (p st i)) (i + 1) n = rest_more p apart st i n h in
      let long : length (flat_map item_of (rest_of p st i n)) ≡ length (flat_map item_of (p st i)) + length (flat_map item_of (rest_of p (fold region_after st (p st i)) (i + 1) n)) = length_more (p st i) _ _ more in
      rw e record {
        items_are = items_more items items' (p st i) (rest_of p (fold region_after st (p st i)) (i + 1) n) _ more f ∙ k.items_are;
        state_is = sym (fold-append region_after st (p st i) (rest_of p (fold region_after st (p st i)) (i + 1) n)) ∙ (ap (fold region_after st) (sym more) ∙ k.state_is);
        spare_is = omega (arith, long, k.spare_is, g);
      }

  pub room_each : IsApart p → i < n → IsOnTheWay p n all st₀ items₀ spare₀ st items spare i → length (flat_map item_of all) ≤ spare₀ → length (flat_map item_of (p st i)) ≤ spare
  room_each apart h k room =
      let long : length (flat_map item_of (rest_of p st i n)) ≡ length (flat_map item_of (p st i)) + length (flat_map item_of (rest_of p (fold region_after st (p st i)) (i + 1) n)) = length_more (p st i) _ _ (rest_more p apart st i n h) in
      omega (arith, long, k.spare_is, room)

  pub last_items : n ≤ i → IsOnTheWay p n all st₀ items₀ spare₀ st items spare i → items ≡ items₀ ++ flat_map item_of all
  last_items h k = sym (append-nil items) ∙ (ap (λ l. items ++ flat_map item_of l) (sym (rest_none p st i n h)) ∙ k.items_are)

  pub last_state : n ≤ i → IsOnTheWay p n all st₀ items₀ spare₀ st items spare i → st ≡ fold region_after st₀ all
  last_state h k = ap (fold region_after st) (sym (rest_none p st i n h)) ∙ k.state_is

  pub last_spare : n ≤ i → IsOnTheWay p n all st₀ items₀ spare₀ st items spare i → spare + length (flat_map item_of all) ≡ spare₀
  last_spare h k =
      let none : length (flat_map item_of (rest_of p st i n)) ≡ 0 = ap (λ l. length (flat_map item_of l)) (rest_none p st i n h) in
      omega (arith, none, k.spare_is)

by_bool : {A : Type 0} (P : A → Type 0) (x y : A) → P x → P y → (b : Bool) → P (if b then x else y)
by_bool P x y h k true = h
by_bool P x y h k false = k

-- the lost homes

abbrev pub lost : Each
lost st s = forget_lost st.view st s

lost_cases : (P : List Move → Type 0) (st : Region) (s : ℕ) → P [] → P (told (fact.Forget st.who s) ∷ []) → (o : Option Incarnation) → P (where_some (λ h. if is_among h st.view then [] else (if is_none o then [] else told (fact.Forget st.who s) ∷ [])) o)
lost_cases P st s a b None = a
lost_cases P st s a b (Some h) = by_bool P [] (told (fact.Forget st.who s) ∷ []) a b (is_among h st.view)

pub lost_apart : IsApart lost
lost_apart st s t h =
    let other : t ≢ s = omega arith in
    lost_cases (λ ms. lost (fold region_after st ms) t ≡ lost st t) st s refl
    (ap (λ (o : Option Incarnation). where_some (λ h. if is_among h st.view then [] else (if is_none o then [] else told (fact.Forget st.who t) ∷ [])) o) (get_or-set_other st.homes s t None None other))
    (home st s)

-- the homes that are asked for again

ask_cases : (P : List Move → Type 0) (st : Region) (s : ℕ) → P [] → ((x : Incarnation) → P (post st.who x (body.GetShardHome s) ∷ [])) → (o : Option Incarnation) → P (where_some (λ x. post st.who x (body.GetShardHome s) ∷ []) o)
ask_cases P st s a b None = a
ask_cases P st s a b (Some x) = b x

pub ask_apart : IsApart ask_again
ask_apart st s t h =
    let P : List Move → Type 0 = λ ms. ask_again (fold region_after st ms) t ≡ ask_again st t in
    by_bool P (where_some (λ x. post st.who x (body.GetShardHome s) ∷ []) (oldest st)) [] (ask_cases P st s refl (λ x. refl) (oldest st)) refl
    (is_none (home st s) && not (is_empty (kept_of st.kept s)))

-- Where no message is kept, no home is asked for again.

none_of_shard : (kept : List (List Message)) (s : ℕ) → sum_by length kept ≡ 0 → kept_of kept s ≡ []
none_of_shard [] s e = refl
none_of_shard (k ∷ ks) zero e = let all : length k + sum_by length ks ≡ 0 = sym (sum_by-cons length k ks) ∙ e in by k (omega (arith, all))
  where
    by : (k : List Message) → length k ≡ 0 → k ≡ []
    by [] h = refl
    by (m ∷ ms) h = absurd (omega (arith, h))
none_of_shard (k ∷ ks) (suc s) e = let all : length k + sum_by length ks ≡ 0 = sym (sum_by-cons length k ks) ∙ e in none_of_shard ks s (omega (arith, all))

none_again : (st : Region) → sum_by length st.kept ≡ 0 → (s : ℕ) → ask_again st s ≡ []
none_again st e s = by (is_none (home st s)) (kept_of st.kept s) (none_of_shard st.kept s e)
  where
    by : (b : Bool) (ms : List Message) → ms ≡ [] → (if b && not (is_empty ms) then post_oldest (body.GetShardHome s) st else []) ≡ []
    by true [] h = refl
    by false [] h = refl
    by b (m ∷ ms) h = absurd (omega (arith, ap length h))

nothing_from : (p : ℕ → List Move) → ((s : ℕ) → p s ≡ []) → (a n : ℕ) → flat_map p (numbers a n) ≡ []
nothing_from p h a zero = refl
nothing_from p h a (suc n) = rw (h a) (nothing_from p h (a + 1) n)

pub none_kept : (st : Region) → sum_by length st.kept ≡ 0 → flat_map (ask_again st) (shards st.set) ≡ []
none_kept st e = nothing_from (ask_again st) (none_again st e) 0 st.set.config.shards
