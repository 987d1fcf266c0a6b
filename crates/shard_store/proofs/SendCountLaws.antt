-- The counts of the sends, order by order.
use Rattle.std.proofs.Common.{◌≡◌, ◌≢◌, ℕ, zero, suc, ◌+◌, ◌<◌, ◌≤◌, List, length, sym, ap, subst, ◌∙◌, refl, true, false, arith, true≢false}
use Rattle.std.specs.Prelude.{Bool, [], ◌∷◌, ◌||◌, ◌==◌, cond, replicate, slice_set, slice_index_or, if◌then◌else◌}
use Rattle.std.specs.List.{list_any}
use Rattle.std.specs.List.Sorted.{IsStrictlySortedBy}
use Rattle.std.specs.Ordering.{nat_cmp}
use Rattle.std.specs.Cmp.Lexicographic.{slice_cmp}
use Rattle.std.proofs.lemmas.Bool.Decides.{nat_tests}
use Rattle.std.proofs.lemmas.List.{get_or-set_same, get_or-set_other, get_or_default, length-set, length-replicate, get_or-replicate}
use Rattle.yard_model.specs.declared.charter.Line.{Line}
use Rattle.yard_model.specs.declared.charter.Order.{Order}
use Rattle.yard_model.specs.Script.{Script, IsScript, is_name}
use Rattle.shard_store.specs.Planned.{is_send_to, sent_to, AreCountedBut, AreFew, AreMore}
use Rattle.shard_store.specs.Shelved.{name_at}
use Rattle.shard_store.proofs.DifferentLaws.{another_name, name_itself}

is_same : (n p : ℕ) → (n == p) ≡ true → n ≡ p
is_same n p e = grind (arith, nat_tests)

is_other : (n p : ℕ) → (n == p) ≡ false → n ≢ p
is_other n p e = grind (arith, nat_tests)

sent_few : (e : List ℕ) (ls : List Line) → sent_to e ls ≤ length ls
sent_few e [] = omega arith
sent_few e (l ∷ ls) = by (is_send_to e l.order) (sent_few e ls)
  where
    by : (b : Bool) → sent_to e ls ≤ length ls → (if b then 1 + sent_to e ls else sent_to e ls) ≤ suc (length ls)
    by true h = omega (arith, h)
    by false h = omega (arith, h)

-- Nothing is counted yet.
pub counted_none : (c : Script) (names : List (List ℕ)) (counts : List ℕ) → counts ≡ replicate (length names) 0 → AreCountedBut c names counts c.orders
counted_none c names counts is = record {
  there = ap length is ∙ length-replicate (length names) 0;
  each = λ i within. let none : slice_index_or counts i 0 ≡ 0 = ap (λ l. slice_index_or l i 0) is ∙ get_or-replicate (length names) i 0 0 within in omega (arith, none);
}

-- One order more.

pub counts_few : (c : Script) (names : List (List ℕ)) (counts : List ℕ) (l : Line) (ls : List Line) → IsScript c → AreCountedBut c names counts (l ∷ ls) → AreFew names (λ e. is_send_to e l.order) counts
counts_few c names counts l ls script k = record {
  each = λ i within so.
      let e : List ℕ = name_at names i in
      let few : sent_to e c.orders ≤ length c.orders = sent_few e c.orders in
      let most : length c.orders ≤ 3000000 = script.fits in
      let now : slice_index_or counts i 0 + sent_to e (l ∷ ls) ≡ sent_to e c.orders = k.each i within in
      let one : sent_to e (l ∷ ls) ≡ 1 + sent_to e ls = ap (λ b. if b then 1 + sent_to e ls else sent_to e ls) so in
      omega (arith, few, most, now, one);
}

pub counted_more : (c : Script) (names : List (List ℕ)) (counts new : List ℕ) (l : Line) (ls : List Line) → AreCountedBut c names counts (l ∷ ls) → AreMore names (λ e. is_send_to e l.order) counts new → AreCountedBut c names new ls
counted_more c names counts new l ls k more = record {
  there = more.there ∙ k.there;
  each = λ i within. by i (is_send_to (name_at names i) l.order) (more.each i within) (k.each i within);
}
  where
    by : (i : ℕ) (b : Bool) → slice_index_or new i 0 ≡ (if b then 1 + slice_index_or counts i 0 else slice_index_or counts i 0)
        → slice_index_or counts i 0 + (if b then 1 + sent_to (name_at names i) ls else sent_to (name_at names i) ls) ≡ sent_to (name_at names i) c.orders → slice_index_or new i 0 + sent_to (name_at names i) ls ≡ sent_to (name_at names i) c.orders
    by i true is old = omega (arith, is, old)
    by i false is old = omega (arith, is, old)

-- One name.

pub more_at : (names : List (List ℕ)) (x : List ℕ) (k n m : ℕ) (old new : List ℕ) → IsStrictlySortedBy (slice_cmp nat_cmp) names → length old ≡ length names → k < length names → name_at names k ≡ x → n ≡ slice_index_or old k n → m ≡ n + 1 → new ≡ slice_set old k m
    → AreMore names (is_name x) old new
more_at names x k n m old new sorted there inside it was next is = record {
  there = ap length is ∙ length-set old k m;
  each = λ i within. by i within (i == k) refl;
}
  where
    by : (i : ℕ) → i < length names → (b : Bool) → (i == k) ≡ b → slice_index_or new i 0 ≡ (if is_name x (name_at names i) then 1 + slice_index_or old i 0 else slice_index_or old i 0)
    by i within true e =
        let here : i ≡ k = is_same i k e in
        let named : is_name x (name_at names i) ≡ true = ap (is_name x) (ap (name_at names) here ∙ it) ∙ name_itself x in
        let found : slice_index_or new i 0 ≡ m = ap (λ l. slice_index_or l i 0) is ∙ (ap (λ j. slice_index_or (slice_set old k m) j 0) here ∙ get_or-set_same old k m 0 (omega (arith, inside, there))) in
        let before : slice_index_or old i 0 ≡ n = ap (λ j. slice_index_or old j 0) here ∙ (get_or_default old k 0 n (omega (arith, inside, there)) ∙ sym was) in
        let one : slice_index_or new i 0 ≡ 1 + slice_index_or old i 0 = omega (arith, found, before, next) in
        one ∙ sym (ap (λ b. if b then 1 + slice_index_or old i 0 else slice_index_or old i 0) named)
    by i within false e =
        let apart : is_name x (name_at names i) ≡ false = another_name names x k i sorted inside within it (is_other i k e) in
        ap (λ l. slice_index_or l i 0) is ∙ (get_or-set_other old k i m 0 (is_other i k e) ∙ sym (ap (λ b. if b then 1 + slice_index_or old i 0 else slice_index_or old i 0) apart))

none_at : (x : List ℕ) (names : List (List ℕ)) (i : ℕ) → list_any (is_name x) names ≡ false → i < length names → is_name x (name_at names i) ≡ false
none_at x [] i none within = absurd (omega (arith, within))
none_at x (n ∷ ns) zero none within = by (is_name x n) none
  where
    by : (b : Bool) → (b || list_any (is_name x) ns) ≡ false → b ≡ false
    by true e = absurd (true≢false e)
    by false e = refl
none_at x (n ∷ ns) (suc i) none within = none_at x ns i (by (is_name x n) none) (let h : suc i < suc (length ns) = within in omega (arith, h))
  where
    by : (b : Bool) → (b || list_any (is_name x) ns) ≡ false → list_any (is_name x) ns ≡ false
    by true e = absurd (true≢false e)
    by false e = e

pub more_none : (names : List (List ℕ)) (x : List ℕ) (counts : List ℕ) → list_any (is_name x) names ≡ false → AreMore names (is_name x) counts counts
more_none names x counts none = record {
  there = refl;
  each = λ i within. sym (ap (λ b. if b then 1 + slice_index_or counts i 0 else slice_index_or counts i 0) (none_at x names i none within));
}

-- the count at the place of a name
pub count_is : (c : Script) (names : List (List ℕ)) (counts : List ℕ) (k n : ℕ) (x : List ℕ) → AreCountedBut c names counts [] → k < length names → name_at names k ≡ x → n ≡ slice_index_or counts k n → n ≡ sent_to x c.orders
count_is c names counts k n x counted inside it is =
    let at_it : slice_index_or counts k 0 + 0 ≡ sent_to (name_at names k) c.orders = counted.each k inside in
    let here : slice_index_or counts k 0 ≡ n = get_or_default counts k 0 n (omega (arith, inside, counted.there)) ∙ sym is in
    let named : sent_to (name_at names k) c.orders ≡ sent_to x c.orders = ap (λ e. sent_to e c.orders) it in
    omega (arith, at_it, here, named)

pub few_at : (names : List (List ℕ)) (x : List ℕ) (k n : ℕ) (counts : List ℕ) → AreFew names (is_name x) counts → length counts ≡ length names → k < length names → name_at names k ≡ x → n ≡ slice_index_or counts k n → n + 1 < 4294967296
few_at names x k n counts few there inside it is =
    let named : is_name x (name_at names k) ≡ true = ap (is_name x) it ∙ name_itself x in
    let here : slice_index_or counts k 0 ≡ n = get_or_default counts k 0 n (omega (arith, inside, there)) ∙ sym is in
    subst (λ m. m + 1 < 4294967296) here (few.each k inside named)
