-- A delivery in a world whose only node is up by itself.
use Rattle.std.proofs.Common.{ap₂, ◌≡◌, ◌≢◌, ◌<◌, ◌≤◌, ℕ, zero, suc, ◌+◌, ◌-◌, List, [], ◌∷◌, ◌++◌, length, sym, ap, subst, ◌∙◌, refl, true, false, arith, length-append}
use Rattle.std.specs.Prelude.{Bool, ◌==◌, ◌||◌, ◌&&◌, not, nat_lt, filter, Some, if◌then◌else◌}
use Rattle.std.specs.List.{slice_get}
use Rattle.std.proofs.lemmas.List.{append_assoc}
use Rattle.yard_model.specs.declared.fact.Fact.TheVariants as fact
use Rattle.yard_model.specs.declared.input.Input.TheVariants as input
use Rattle.yard_model.specs.declared.packet.Packet.{Packet}
use Rattle.yard_model.specs.declared.incarnation.Incarnation.{Incarnation}
use Rattle.yard_model.specs.Node.{Node}
use Rattle.yard_model.specs.Words.{at, numbers, is_same, is_among}
use Rattle.yard_model.specs.World.{World, Made, world_after, deliver, deliver_by, hand_over, handle, give, tell}
use Rattle.plain_laws.proofs.Booleans.{number_itself}
use Rattle.plain_laws.proofs.Members.{itself_is}
use Rattle.plain_laws.proofs.Lists.{none_is_not_some}
use Rattle.settle_laws.specs.Lonely.{ArePosted, AreRising, IsBy}

-- Numbers.

pub filters_turn : {A : Type 0} (p q : A → Bool) (xs : List A) → filter p (filter q xs) ≡ filter q (filter p xs)
filters_turn p q [] = refl
filters_turn p q (x ∷ xs) = by (p x) refl (q x) refl (filters_turn p q xs)
  where
    by : (s : Bool) → p x ≡ s → (t : Bool) → q x ≡ t → filter p (filter q xs) ≡ filter q (filter p xs) → filter p (if q x then x ∷ filter q xs else filter q xs) ≡ filter q (if p x then x ∷ filter p xs else filter p xs)
    by true e true f h = ap (λ t. filter p (if t then x ∷ filter q xs else filter q xs)) f ∙ (ap (λ s. if s then x ∷ filter p (filter q xs) else filter p (filter q xs)) e ∙ (ap (λ l. x ∷ l) h ∙ sym (ap (λ s. filter q (if s then x ∷ filter p xs else filter p xs)) e ∙ ap (λ t. if t then x ∷ filter q (filter p xs) else filter q (filter p xs)) f)))
    by true e false f h = ap (λ t. filter p (if t then x ∷ filter q xs else filter q xs)) f ∙ (h ∙ sym (ap (λ s. filter q (if s then x ∷ filter p xs else filter p xs)) e ∙ ap (λ t. if t then x ∷ filter q (filter p xs) else filter q (filter p xs)) f))
    by false e true f h = ap (λ t. filter p (if t then x ∷ filter q xs else filter q xs)) f ∙ (ap (λ s. if s then x ∷ filter p (filter q xs) else filter p (filter q xs)) e ∙ (h ∙ sym (ap (λ s. filter q (if s then x ∷ filter p xs else filter p xs)) e)))
    by false e false f h = ap (λ t. filter p (if t then x ∷ filter q xs else filter q xs)) f ∙ (h ∙ sym (ap (λ s. filter q (if s then x ∷ filter p xs else filter p xs)) e))

pub differ : (m n : ℕ) → m ≢ n → (m == n) ≡ false
differ m n h = grind (arith, h)

-- a number that isn't among these
pub others_stay : (k a : ℕ) (ks : List ℕ) → k ≤ a → AreRising a ks → filter (λ j. not (j == k)) ks ≡ ks
others_stay k a [] h r = refl
others_stay k a (j ∷ js) h r = ap (λ t. if not t then j ∷ filter (λ j. not (j == k)) js else filter (λ j. not (j == k)) js) (differ j k above) ∙ ap (λ l. j ∷ l) (others_stay k j js (least k a j h r.0) r.1)
  where
    above : j ≡ k → ⊥
    above e = ends k a j h r.0 e
      where
        ends : (k a j : ℕ) → k ≤ a → a < j → j ≡ k → ⊥
        ends k a j h g e = omega (arith, h, g, e)

    least : (k a j : ℕ) → k ≤ a → a < j → k ≤ j
    least k a j h g = omega (arith, h, g)

pub first_goes : (k : ℕ) (ks : List ℕ) → AreRising k ks → filter (λ j. not (j == k)) (k ∷ ks) ≡ ks
first_goes k ks r = ap (λ t. if not t then k ∷ filter (λ j. not (j == k)) ks else filter (λ j. not (j == k)) ks) (number_itself k k refl) ∙ others_stay k k ks (le k) r
  where
    le : (k : ℕ) → k ≤ k
    le k = omega arith

pub new_stay : (from a n : ℕ) → from < a → filter (nat_lt from) (numbers a n) ≡ numbers a n
new_stay from a zero h = refl
new_stay from a (suc n) h = ap (λ t. if t then a ∷ filter (nat_lt from) (numbers (a + 1) n) else filter (nat_lt from) (numbers (a + 1) n)) (is_less from a h) ∙ ap (λ l. a ∷ l) (new_stay from (a + 1) n (next from a h))
  where
    is_less : (x y : ℕ) → x < y → nat_lt x y ≡ true
    is_less x y h = grind (arith, h)

    next : (x y : ℕ) → x < y → x < y + 1
    next x y h = omega (arith, h)

-- Packets by number.

pub get_front : {A : Type 0} (xs ys : List A) (i : ℕ) (x : A) → slice_get xs i ≡ Some x → slice_get (xs ++ ys) i ≡ Some x
get_front [] ys i x h = absurd (none_is_not_some x h)
get_front (y ∷ xs) ys zero x h = h
get_front (y ∷ xs) ys (suc i) x h = get_front xs ys i x h

pub get_inside : {A : Type 0} (xs : List A) (i : ℕ) (x : A) → slice_get xs i ≡ Some x → i < length xs
get_inside [] i x h = absurd (none_is_not_some x h)
get_inside (y ∷ xs) zero x h = omega arith
get_inside (y ∷ xs) (suc i) x h = let g : i < length xs = get_inside xs i x h in omega (arith, g)

pub get_next : {A : Type 0} (xs : List A) (y : A) (ys : List A) → slice_get (xs ++ y ∷ ys) (length xs) ≡ Some y
get_next [] y ys = refl
get_next (x ∷ xs) y ys = get_next xs y ys

pub posted_more : (wire more : List Packet) (ks : List ℕ) (ps : List Packet) → ArePosted wire ks ps → ArePosted (wire ++ more) ks ps
posted_more wire more [] [] h = tt
posted_more wire more [] (p ∷ ps) h = h
posted_more wire more (k ∷ ks) [] h = h
posted_more wire more (k ∷ ks) (p ∷ ps) h = (h.0, get_front wire more (k - 1) p h.1, posted_more wire more ks ps h.2)

pub posted_next : (more front : List Packet) → ArePosted (front ++ more) (numbers (length front + 1) (length more)) more
posted_next [] front = tt
posted_next (p ∷ ps) front = (
  positive (length front),
  ap (slice_get (front ++ p ∷ ps)) (back (length front)) ∙ get_next front p ps,
  subst (λ l. ArePosted l (numbers (length front + 1 + 1) (length ps)) ps) (append_assoc front (p ∷ []) ps) (subst (λ n. ArePosted ((front ++ p ∷ []) ++ ps) (numbers (n + 1) (length ps)) ps) (length-append front (p ∷ [])) (posted_next ps (front ++ p ∷ []))),
)
  where
    positive : (n : ℕ) → 0 < n + 1
    positive n = omega arith

    back : (n : ℕ) → n + 1 - 1 ≡ n
    back n = omega arith

pub posted_join : (wire more : List Packet) (ks : List ℕ) (ps : List Packet) → ArePosted wire ks ps → ArePosted (wire ++ more) (ks ++ numbers (length wire + 1) (length more)) (ps ++ more)
posted_join wire more [] [] h = posted_next more wire
posted_join wire more [] (p ∷ ps) h = absurd h
posted_join wire more (k ∷ ks) [] h = absurd h
posted_join wire more (k ∷ ks) (p ∷ ps) h = (h.0, get_front wire more (k - 1) p h.1, posted_join wire more ks ps h.2)

pub rising_numbers : (a m n : ℕ) → a < m → AreRising a (numbers m n)
rising_numbers a m zero h = tt
rising_numbers a m (suc n) h = (h, rising_numbers m (m + 1) n (next m))
  where
    next : (m : ℕ) → m < m + 1
    next m = omega arith

pub rising_join : (wire : List Packet) (n a : ℕ) (ks : List ℕ) (ps : List Packet) → ArePosted wire ks ps → a ≤ length wire → AreRising a ks → AreRising a (ks ++ numbers (length wire + 1) n)
rising_join wire n a [] ps h less r = rising_numbers a (length wire + 1) n (next a (length wire) less)
  where
    next : (a m : ℕ) → a ≤ m → a < m + 1
    next a m h = omega (arith, h)
rising_join wire n a (k ∷ ks) [] h less r = absurd h
rising_join wire n a (k ∷ ks) (p ∷ ps) h less r = (r.0, rising_join wire n k ks ps h.2 (most k (length wire) h.0 (get_inside wire (k - 1) p h.1)) r.1)
  where
    most : (k m : ℕ) → 0 < k → k - 1 < m → k ≤ m
    most k m h g = omega (arith, h, g)

-- A delivery.

-- it takes the first packet that waits
pub got_by : (who : Incarnation) (from done : ℕ) (w : World) (st : Node) (k : ℕ) (ks : List ℕ) (p : Packet) (ps : List Packet) (l : IsBy who from done w st (p ∷ ps)) → l.waiting ≡ k ∷ ks → IsBy who from (done + 1) (world_after w (fact.Got k)) st ps
got_by who from done w st k ks p ps l numbers_are = record {
  node_is = l.node_is;
  is_up = l.is_up;
  others = l.others;
  who_is = l.who_is;
  members_are = l.members_are;
  not_full = l.not_full;
  past_is = l.past_is;
  wire_is = l.wire_is ∙ moved from done (length ps);
  waiting = ks;
  waiting_is = filters_turn (nat_lt from) (λ j. not (j == k)) w.fresh ∙ (ap (filter (λ j. not (j == k))) (l.waiting_is ∙ numbers_are) ∙ first_goes k ks rises.1);
  rising = from_less from k ks rises.0 rises.1;
  posted = (subst (λ ns. ArePosted w.wire ns (p ∷ ps)) numbers_are l.posted).2;
}
  where
    moved : (f d n : ℕ) → f + d + suc n ≡ f + (d + 1) + n
    moved f d n = omega arith

    rises : AreRising from (k ∷ ks)
    rises = subst (AreRising from) numbers_are l.rising

    from_less : (a k : ℕ) (ks : List ℕ) → a < k → AreRising k ks → AreRising a ks
    from_less a k [] h r = tt
    from_less a k (j ∷ js) h r = (less a k j h r.0, r.1)
      where
        less : (a k j : ℕ) → a < k → k < j → a < j
        less a k j h g = omega (arith, h, g)

-- and hands it to the node
abbrev pub handed : World → ℕ → Packet → Node → Made
handed w k p st = let m : Made = handle (input.Packet p) st (world_after w (fact.Got k)) in record { facts = fact.Got k ∷ m.facts; world = m.world }

deliver_at : (w : World) (k : ℕ) (p : Packet) (st : Node) (who : Incarnation) → 0 < k → w.past < k → slice_get w.wire (k - 1) ≡ Some p → w.full ≡ false → p.to ≡ who → w.members ≡ who ∷ [] → who.node ≡ 1 → at w.nodes 0 ≡ Some st → deliver k w ≡ handed w k p st
deliver_at w zero p st who above past got full to members node up = absurd (none above)
  where
    none : 0 < 0 → ⊥
    none h = omega (arith, h)
deliver_at w (suc j) p st who above past got full to members node up =
    ap (λ o. deliver_by (suc j) o w) (ap (slice_get w.wire) (sym (back j)) ∙ got)
    ∙ (ap (λ t. elim t as (λ b. Made) [ true ↦ tell (fact.Got (suc j) ∷ []) w | false ↦ let n : Made = hand_over (suc j) p w1 in record { facts = fact.Got (suc j) ∷ n.facts; world = n.world } ]) full
    ∙ ap (λ (m : Made). record { facts = fact.Got (suc j) ∷ m.facts; world = m.world }) (ap₂ (λ s t. if s && t then give (input.Packet p) (at w.nodes (p.to.node - 1)) w1 else tell [] w1) (is_less w.past (suc j) past) among ∙ ap (λ o. give (input.Packet p) o w1) (ap (at w.nodes) place ∙ up)))
  where
    w1 : World
    w1 = world_after w (fact.Got (suc j))

    back : (j : ℕ) → suc j - 1 ≡ j
    back j = omega arith

    or_this : (t : Bool) → t ≡ true → (t || false) ≡ true
    or_this true h = refl
    or_this false h = h

    is_less : (x y : ℕ) → x < y → nat_lt x y ≡ true
    is_less x y h = grind (arith, h)

    among : is_among p.to w.members ≡ true
    among = ap (is_among p.to) members ∙ or_this (is_same p.to who) (itself_is p.to who to)

    place : p.to.node - 1 ≡ 0
    place = ap (λ (x : Incarnation). x.node - 1) to ∙ ap (λ n. n - 1) node

pub deliver_is : (who : Incarnation) (from done : ℕ) (w : World) (st : Node) (k : ℕ) (ks : List ℕ) (p : Packet) (ps : List Packet) (l : IsBy who from done w st (p ∷ ps)) → l.waiting ≡ k ∷ ks → p.to ≡ who → deliver k w ≡ handed w k p st
deliver_is who from done w st k ks p ps l numbers_are to =
    let posts : ArePosted w.wire (k ∷ ks) (p ∷ ps) = subst (λ ns. ArePosted w.wire ns (p ∷ ps)) numbers_are l.posted in
    let rises : AreRising from (k ∷ ks) = subst (AreRising from) numbers_are l.rising in
    deliver_at w k p st who posts.0 (since w.past from k l.past_is rises.0) posts.1 l.not_full to l.members_are l.node_is l.is_up
  where
    since : (x y k : ℕ) → x ≤ y → y < k → x < k
    since x y k h g = omega (arith, h, g)

-- What waits.

pub nothing_waits : (wire : List Packet) (ps : List Packet) → ArePosted wire [] ps → ps ≡ []
nothing_waits wire [] h = refl
nothing_waits wire (p ∷ ps) h = absurd h

pub first_waits : (wire : List Packet) (k : ℕ) (ks : List ℕ) (ps : List Packet) → ArePosted wire (k ∷ ks) ps → (p : Packet) × ((rest : List Packet) × (ps ≡ p ∷ rest))
first_waits wire k ks [] h = absurd h
first_waits wire k ks (p ∷ ps) h = (p, (ps, refl))

pub none_waits : (wire : List Packet) (ks : List ℕ) → ArePosted wire ks [] → ks ≡ []
none_waits wire [] h = refl
none_waits wire (k ∷ ks) h = absurd h
