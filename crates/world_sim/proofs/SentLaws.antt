-- How many sends each producer of a script has.
use Rattle.std.proofs.Common.{◌≡◌, ◌≤◌, ℕ, zero, suc, ◌+◌, List, [], ◌∷◌, ◌++◌, length, map, sym, ap, ◌∙◌, refl, arith, length-append}
use Rattle.std.specs.Prelude.{Bool, true, false, ◌==◌, fold, if◌then◌else◌}
use Rattle.yard_model.specs.declared.charter.Line.{Line}
use Rattle.yard_model.specs.declared.charter.Order.{Order}
use Rattle.yard_model.specs.declared.charter.Order.TheVariants as order
use Rattle.yard_model.specs.declared.charter.Sending.{Sending}
use Rattle.yard_model.specs.Script.{Script, sends, with_send, with_send_of, with_order, count_to}
use Rattle.yard_model.specs.Words.{numbers}
use Rattle.yard_model.specs.World.{all_sends}

-- no more sends than orders

one_more : (p : ℕ) (xs : List Sending) (o : Order) → length (with_order p xs o) ≤ length xs + 1
one_more p xs (order.Send q e k) = pick (q == p)
  where
    pick : (b : Bool) → length (if b then with_send xs e k else xs) ≤ length xs + 1
    pick true = omega (arith, length-append xs (record { entity = e; number = count_to e xs + 1; command = k } ∷ []))
    pick false = omega arith
one_more p xs o = let same : length (with_order p xs o) ≡ length xs = refl in omega (arith, same)

sends_few : (p : ℕ) (xs : List Sending) (ls : List Line) → length (fold (with_send_of p) xs ls) ≤ length xs + length ls
sends_few p xs [] = omega arith
sends_few p xs (l ∷ ls) =
    let step : length (with_order p xs l.order) ≤ length xs + 1 = one_more p xs l.order in
    let rest : length (fold (with_send_of p) (with_order p xs l.order) ls) ≤ length (with_order p xs l.order) + length ls = sends_few p (with_order p xs l.order) ls in
    omega (arith, step, rest)

pub sent_few : (c : Script) (p : ℕ) → length (sends c p) ≤ length c.orders
sent_few c p = let few : length (sends c p) ≤ 0 + length c.orders = sends_few p [] c.orders in omega (arith, few)

-- of the first n producers

abbrev pub sent_of : Script → ℕ → List ℕ
sent_of c n = map (λ p. length (sends c p)) (numbers 1 n)

numbers_last : (a n : ℕ) → numbers a (suc n) ≡ numbers a n ++ (a + n) ∷ []
numbers_last a zero = ap (λ x. x ∷ []) (let e : a ≡ a + 0 = omega arith in e)
numbers_last a (suc n) = ap (λ l. a ∷ l) (numbers_last (a + 1) n ∙ ap (λ x. numbers (a + 1) n ++ x ∷ []) (let e : a + 1 + n ≡ a + suc n = omega arith in e))

map_last : (f : ℕ → ℕ) (xs : List ℕ) (x : ℕ) → map f (xs ++ x ∷ []) ≡ map f xs ++ f x ∷ []
map_last f [] x = refl
map_last f (y ∷ ys) x = ap (λ l. f y ∷ l) (map_last f ys x)

-- one producer more
pub sent_more : (c : Script) (old new : List ℕ) (i j p k : ℕ) → old ≡ sent_of c i → new ≡ old ++ k ∷ [] → p ≡ i + 1 → k ≡ length (sends c p) → j ≡ i + 1 → new ≡ sent_of c j
sent_more c old new i j p k e f g h one =
    let at : p ≡ 1 + i = omega (arith, g) in
    let next : suc i ≡ j = omega (arith, one) in
    f ∙ (ap (λ l. l ++ k ∷ []) e ∙ (ap (λ n. sent_of c i ++ n ∷ []) (h ∙ ap (λ q. length (sends c q)) at)
    ∙ (sym (ap (map (λ q. length (sends c q))) (numbers_last 1 i) ∙ map_last (λ q. length (sends c q)) (numbers 1 i) (1 + i)) ∙ ap (sent_of c) next)))

map_twice : {A B D : Type 0} (g : B → D) (f : A → B) (xs : List A) → map g (map f xs) ≡ map (λ x. g (f x)) xs
map_twice g f [] = refl
map_twice g f (x ∷ xs) = ap (λ l. g (f x) ∷ l) (map_twice g f xs)

pub sent_all : (c : Script) (counts : List ℕ) (i : ℕ) → i ≡ c.config.producers → counts ≡ sent_of c i → counts ≡ map length (all_sends c)
sent_all c counts i all e = e ∙ (ap (sent_of c) all ∙ sym (map_twice length (sends c) (numbers 1 c.config.producers)))
