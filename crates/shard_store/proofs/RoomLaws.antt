-- Of a name there are never more records than sends to it.
use Rattle.std.proofs.Common.{◌≡◌, ℕ, zero, suc, ◌+◌, ◌-◌, ◌<◌, ◌≤◌, List, length, sym, ap, subst, ◌∙◌, refl, true, false, arith, true≢false, length-append}
use Rattle.std.specs.Prelude.{Bool, [], ◌∷◌, ◌++◌, ◌==◌, ◌&&◌, ◌||◌, nat_lt, nat_le, cond, fold, filter, if◌then◌else◌}
use Rattle.std.specs.List.{slice_get}
use Rattle.std.specs.Option.{option_map_or}
use Rattle.std.proofs.lemmas.List.{length-map}
use Rattle.std.proofs.lemmas.List.Elements.{filter-append}
use Rattle.yard_model.specs.declared.charter.Line.{Line}
use Rattle.yard_model.specs.declared.charter.Order.{Order}
use Rattle.yard_model.specs.declared.charter.Order.TheVariants as order
use Rattle.yard_model.specs.declared.charter.Sending.{Sending}
use Rattle.yard_model.specs.declared.event.Command.{Command}
use Rattle.yard_model.specs.declared.fact.Fact.{Fact}
use Rattle.yard_model.specs.declared.fact.Fact.TheVariants as fact
use Rattle.yard_model.specs.declared.incarnation.Slot.TheVariants as slot
use Rattle.yard_model.specs.declared.packet.Record.{Record}
use Rattle.yard_model.specs.Behaviour.{is_in}
use Rattle.yard_model.specs.Equal.{is_command}
use Rattle.yard_model.specs.Genuine.{is_producer, is_planned}
use Rattle.yard_model.specs.Lawful.{own, is_of_shard, is_folded_after, is_merged_after, is_shard_entry}
use Rattle.yard_model.specs.Opening.{begins}
use Rattle.yard_model.specs.Script.{Script, is_name, plan, sends, count_to, with_send, with_order, with_send_of}
use Rattle.yard_model.specs.SlotReads.{journal, journal_step, position}
use Rattle.plain_laws.proofs.Booleans.{and_both, same_number, number_itself, same_name, at_most, below}
use Rattle.plain_laws.proofs.Read.{journal_more}
use Rattle.yard_laws.proofs.Owned.{shard_to}
use Rattle.yard_laws.proofs.Places.{position_more}
use Rattle.shard_store.specs.Planned.{is_send_to, sent_to}

-- Sums over n numbers from a on.

abbrev over : (ℕ → ℕ) → ℕ → ℕ → ℕ
over f a zero = 0
over f a (suc n) = f a + over f (a + 1) n

over_le : (f g : ℕ → ℕ) (a n : ℕ) → ((p : ℕ) → f p ≤ g p) → over f a n ≤ over g a n
over_le f g a zero h = omega arith
over_le f g a (suc n) h =
    let first : f a ≤ g a = h a in
    let rest : over f (a + 1) n ≤ over g (a + 1) n = over_le f g (a + 1) n h in
    omega (arith, first, rest)

-- one more at a number
abbrev one_at : ℕ → (ℕ → ℕ) → ℕ → ℕ
one_at q f p = f p + cond (q == p) 1 0

not_number : (q p : ℕ) → q < p → (q == p) ≡ false
not_number q p h = by (q == p) refl
  where
    by : (b : Bool) → (q == p) ≡ b → (q == p) ≡ false
    by true e = let same : q ≡ p = same_number q p e in absurd (omega (arith, same, h))
    by false e = e

one_past : (q : ℕ) (f : ℕ → ℕ) (a n : ℕ) → q < a → over (one_at q f) a n ≡ over f a n
one_past q f a zero h = refl
one_past q f a (suc n) h =
    let first : one_at q f a ≡ f a + 0 = ap (λ b. f a + cond b 1 0) (not_number q a h) in
    let rest : over (one_at q f) (a + 1) n ≡ over f (a + 1) n = one_past q f (a + 1) n (omega (arith, h)) in
    omega (arith, first, rest)

one_most : (q : ℕ) (f : ℕ → ℕ) (a n : ℕ) → over (one_at q f) a n ≤ 1 + over f a n
one_most q f a zero = omega arith
one_most q f a (suc n) = by (q == a) refl (one_most q f (a + 1) n)
  where
    by : (b : Bool) → (q == a) ≡ b → over (one_at q f) (a + 1) n ≤ 1 + over f (a + 1) n → f a + cond b 1 0 + over (one_at q f) (a + 1) n ≤ 1 + (f a + over f (a + 1) n)
    by true e next =
        let same : q ≡ a = same_number q a e in
        let rest : over (one_at q f) (a + 1) n ≡ over f (a + 1) n = one_past q f (a + 1) n (omega (arith, same)) in
        omega (arith, rest)
    by false e next = omega (arith, next)

one_least : (q : ℕ) (f : ℕ → ℕ) (a n : ℕ) → a ≤ q → q < a + n → 1 + over f a n ≤ over (one_at q f) a n
one_least q f a zero low high = absurd (omega (arith, low, high))
one_least q f a (suc n) low high = by (q == a) refl (one_least q f (a + 1) n)
  where
    by : (b : Bool) → (q == a) ≡ b → (a + 1 ≤ q → q < a + 1 + n → 1 + over f (a + 1) n ≤ over (one_at q f) (a + 1) n) → 1 + (f a + over f (a + 1) n) ≤ f a + cond b 1 0 + over (one_at q f) (a + 1) n
    by true e next =
        let same : q ≡ a = same_number q a e in
        let rest : over (one_at q f) (a + 1) n ≡ over f (a + 1) n = one_past q f (a + 1) n (omega (arith, same)) in
        omega (arith, rest)
    by false e next =
        let other : q ≡ a → ⊥ = λ s. true≢false (sym (number_itself q a s) ∙ e) in
        let rest : 1 + over f (a + 1) n ≤ over (one_at q f) (a + 1) n = next (omega (arith, low, other)) (omega (arith, high)) in
        omega (arith, rest)

-- The sends of each producer.

abbrev is_sent_by : ℕ → List ℕ → Order → Bool
is_sent_by p e (order.Send q x k) = is_name x e && (q == p)
is_sent_by p e o = false

abbrev sent_by : ℕ → List ℕ → List Line → ℕ
sent_by p e [] = 0
sent_by p e (l ∷ ls) = sent_by p e ls + cond (is_sent_by p e l.order) 1 0

-- all of them are at most those to the name
all_sent : (e : List ℕ) (a n : ℕ) (ls : List Line) → over (λ p. sent_by p e ls) a n ≤ sent_to e ls
all_sent e a n [] = none a n
  where
    none : (a n : ℕ) → over (λ p. 0) a n ≤ 0
    none a zero = omega arith
    none a (suc n) = let rest : over (λ p. 0) (a + 1) n ≤ 0 = none (a + 1) n in omega (arith, rest)
all_sent e a n (l ∷ ls) = at (all_sent e a n ls) l.order
  where
    same : over (λ p. sent_by p e ls) a n ≤ sent_to e ls → over (λ p. sent_by p e ls + 0) a n ≤ sent_to e ls
    same rest = let less : over (λ p. sent_by p e ls + 0) a n ≤ over (λ p. sent_by p e ls) a n = over_le (λ p. sent_by p e ls + 0) (λ p. sent_by p e ls) a n (λ p. omega arith) in omega (arith, less, rest)

    named : over (λ p. sent_by p e ls) a n ≤ sent_to e ls → (q : ℕ) (b : Bool) → over (λ p. sent_by p e ls + cond (b && (q == p)) 1 0) a n ≤ (if b then 1 + sent_to e ls else sent_to e ls)
    named rest q true = let most : over (one_at q (λ p. sent_by p e ls)) a n ≤ 1 + over (λ p. sent_by p e ls) a n = one_most q (λ p. sent_by p e ls) a n in omega (arith, most, rest)
    named rest q false = same rest

    at : over (λ p. sent_by p e ls) a n ≤ sent_to e ls → (o : Order) → over (λ p. sent_by p e ls + cond (is_sent_by p e o) 1 0) a n ≤ (if is_send_to e o then 1 + sent_to e ls else sent_to e ls)
    at rest (order.Send q x k) = named rest q (is_name x e)
    at rest (order.Up n) = same rest
    at rest (order.Crash n) = same rest
    at rest (order.Leave n) = same rest
    at rest (order.Tick n) = same rest
    at rest (order.Produce p n) = same rest
    at rest (order.Rest p) = same rest
    at rest (order.Passivate x) = same rest
    at rest (order.FailWrite x k) = same rest
    at rest (order.Deliver k) = same rest
    at rest (order.Pump k) = same rest
    at rest (order.Rebalance k) = same rest
    at rest order.Settle = same rest
    at rest (order.Reshard k) = same rest
    at rest order.Upgrade = same rest
    at rest (order.Ping p) = same rest

-- The plan of a pair is its sends.

abbrev to_name : List ℕ → Sending → Bool
to_name e x = is_name x.entity e

one_sent : (p : ℕ) (e : List ℕ) (acc : List Sending) (o : Order) → length (filter (to_name e) (with_order p acc o)) ≡ length (filter (to_name e) acc) + cond (is_sent_by p e o) 1 0
one_sent p e acc (order.Send q x k) = by (q == p) (is_name x e) refl
  where
    new : Sending
    new = record { entity = x; number = count_to x acc + 1; command = k }

    by : (t b : Bool) → is_name x e ≡ b → length (filter (to_name e) (if t then with_send acc x k else acc)) ≡ length (filter (to_name e) acc) + cond (b && t) 1 0
    by true b h =
        ap length (filter-append (to_name e) acc (new ∷ []))
        ∙ (length-append (filter (to_name e) acc) (filter (to_name e) (new ∷ []))
        ∙ ap (λ n. length (filter (to_name e) acc) + n) (ap (λ t. length (cond t (new ∷ []) [])) h ∙ last b))
      where
        last : (b : Bool) → length (cond b (new ∷ []) []) ≡ cond (b && true) 1 0
        last true = refl
        last false = refl
    by false true h = omega arith
    by false false h = omega arith
one_sent p e acc (order.Up n) = omega arith
one_sent p e acc (order.Crash n) = omega arith
one_sent p e acc (order.Leave n) = omega arith
one_sent p e acc (order.Tick n) = omega arith
one_sent p e acc (order.Produce q n) = omega arith
one_sent p e acc (order.Rest q) = omega arith
one_sent p e acc (order.Passivate x) = omega arith
one_sent p e acc (order.FailWrite x k) = omega arith
one_sent p e acc (order.Deliver k) = omega arith
one_sent p e acc (order.Pump k) = omega arith
one_sent p e acc (order.Rebalance k) = omega arith
one_sent p e acc order.Settle = omega arith
one_sent p e acc (order.Reshard k) = omega arith
one_sent p e acc order.Upgrade = omega arith
one_sent p e acc (order.Ping q) = omega arith

sent_from : (p : ℕ) (e : List ℕ) (acc : List Sending) (ls : List Line) → length (filter (to_name e) (fold (with_send_of p) acc ls)) ≡ length (filter (to_name e) acc) + sent_by p e ls
sent_from p e acc [] = omega arith
sent_from p e acc (l ∷ ls) =
    let first : length (filter (to_name e) (with_order p acc l.order)) ≡ length (filter (to_name e) acc) + cond (is_sent_by p e l.order) 1 0 = one_sent p e acc l.order in
    let rest : length (filter (to_name e) (fold (with_send_of p) (with_order p acc l.order) ls)) ≡ length (filter (to_name e) (with_order p acc l.order)) + sent_by p e ls = sent_from p e (with_order p acc l.order) ls in
    omega (arith, first, rest)

plan_sent : (c : Script) (p : ℕ) (e : List ℕ) → length (plan c p e) ≡ sent_by p e c.orders
plan_sent c p e =
    let long : length (plan c p e) ≡ length (filter (to_name e) (sends c p)) = length-map (filter (to_name e) (sends c p)) (λ (x : Sending). x.command) in
    let sent : length (filter (to_name e) (sends c p)) ≡ 0 + sent_by p e c.orders = sent_from p e [] c.orders in
    omega (arith, long, sent)

-- Journals.

-- of each producer there are at most as many records as are planned, and no others
record IsPlanned (c : Script) (e : List ℕ) (records : List Record) : Type 0 where
  planned : (p : ℕ) → position p records ≤ length (plan c p e)
  all : length records ≤ over (λ p. position p records) 1 c.config.producers

got : (k : Command) (xs : List Command) (i : ℕ) → option_map_or (is_command k) (slice_get xs i) false ≡ true → i < length xs
got k [] i h = absurd (true≢false (sym h))
got k (x ∷ xs) zero h = omega arith
got k (x ∷ xs) (suc i) h = let g : i < length xs = got k xs i h in omega (arith, g)

record_planned : (c : Script) (e : List ℕ) (records : List Record) (r : Record) → IsPlanned c e records → is_producer c r.producer ≡ true → is_merged_after c e records r ≡ true → IsPlanned c e (records ++ r ∷ [])
record_planned c e records r j producer merged = record {
  planned = λ p. subst (λ m. m ≤ length (plan c p e)) (sym (position_more p records r)) (below_plan p (r.producer == p) refl);
  all = total;
}
  where
    m : ((r.place == position r.producer records + 1) ≡ true) × (is_planned c r.producer e r.place r.command ≡ true)
    m = and_both (r.place == position r.producer records + 1) (is_planned c r.producer e r.place r.command) merged

    place_is : r.place ≡ position r.producer records + 1
    place_is = same_number r.place (position r.producer records + 1) m.0

    below_plan : (p : ℕ) (b : Bool) → (r.producer == p) ≡ b → position p records + cond b 1 0 ≤ length (plan c p e)
    below_plan p true is =
        let g : r.place - 1 < length (plan c r.producer e) = got r.command (plan c r.producer e) (r.place - 1) (and_both (nat_lt 0 r.place) (option_map_or (is_command r.command) (slice_get (plan c r.producer e) (r.place - 1)) false) m.1).1 in
        let at_it : position r.producer records + 1 ≤ length (plan c r.producer e) = omega (arith, g, place_is) in
        subst (λ q. position q records + 1 ≤ length (plan c q e)) (same_number r.producer p is) at_it
    below_plan p false is = let old : position p records ≤ length (plan c p e) = j.planned p in omega (arith, old)

    inside : (nat_le 1 r.producer ≡ true) × (nat_le r.producer c.config.producers ≡ true)
    inside = and_both (nat_le 1 r.producer) (nat_le r.producer c.config.producers) producer

    total : length (records ++ r ∷ []) ≤ over (λ p. position p (records ++ r ∷ [])) 1 c.config.producers
    total =
        let low : 1 ≤ r.producer = at_most 1 r.producer inside.0 in
        let high : r.producer ≤ c.config.producers = at_most r.producer c.config.producers inside.1 in
        let old : length records ≤ over (λ p. position p records) 1 c.config.producers = j.all in
        let more : 1 + over (λ p. position p records) 1 c.config.producers ≤ over (one_at r.producer (λ p. position p records)) 1 c.config.producers = one_least r.producer (λ p. position p records) 1 c.config.producers low (omega (arith, high)) in
        let same : over (one_at r.producer (λ p. position p records)) 1 c.config.producers ≤ over (λ p. position p (records ++ r ∷ [])) 1 c.config.producers = over_le (one_at r.producer (λ p. position p records)) (λ p. position p (records ++ r ∷ [])) 1 c.config.producers (λ p. let it : position p (records ++ r ∷ []) ≡ position p records + cond (r.producer == p) 1 0 = position_more p records r in omega (arith, it)) in
        let long : length (records ++ r ∷ []) ≡ length records + 1 = length-append records (r ∷ []) in
        omega (arith, old, more, same, long)

step_planned : (c : Script) (k : ℕ) (e : List ℕ) (list : List Fact) (f : Fact) → IsPlanned c e (journal e list) → (begins f || is_shard_entry c k list f) ≡ true → IsPlanned c e (journal_step e (journal e list) f)
step_planned c k e list (fact.Wrote x r) h may = step (is_name x e) refl
  where
    entry : (is_of_shard c k x && is_producer c r.producer && is_folded_after c (journal x list) r && is_merged_after c x (journal x list) r) ≡ true
    entry = may

    a : ((is_of_shard c k x && is_producer c r.producer && is_folded_after c (journal x list) r) ≡ true) × (is_merged_after c x (journal x list) r ≡ true)
    a = and_both (is_of_shard c k x && is_producer c r.producer && is_folded_after c (journal x list) r) (is_merged_after c x (journal x list) r) entry

    producer : is_producer c r.producer ≡ true
    producer = (and_both (is_of_shard c k x) (is_producer c r.producer) (and_both (is_of_shard c k x && is_producer c r.producer) (is_folded_after c (journal x list) r) a.0).0).1

    step : (b : Bool) → is_name x e ≡ b → IsPlanned c e (if b then journal e list ++ r ∷ [] else journal e list)
    step false s = h
    step true s = record_planned c e (journal e list) r h producer (subst (λ y. is_merged_after c y (journal y list) r ≡ true) (same_name x e s) a.1)
step_planned c k e list f h may = h

journal_planned : (c : Script) (k : ℕ) (e : List ℕ) (list : List Fact) → own c (slot.Shard k) list ≡ true → IsPlanned c e (journal e list)
journal_planned c k e list o = shard_to c k (λ l. IsPlanned c e (journal e l)) (record { planned = λ p. omega arith; all = omega arith }) (λ l f h may. subst (IsPlanned c e) (sym (journal_more e l f)) (step_planned c k e l f h may)) list o

pub records_few : (c : Script) (k : ℕ) (e : List ℕ) (list : List Fact) → own c (slot.Shard k) list ≡ true → length (journal e list) ≤ sent_to e c.orders
records_few c k e list o =
    let j : IsPlanned c e (journal e list) = journal_planned c k e list o in
    let planned : over (λ p. position p (journal e list)) 1 c.config.producers ≤ over (λ p. sent_by p e c.orders) 1 c.config.producers = over_le (λ p. position p (journal e list)) (λ p. sent_by p e c.orders) 1 c.config.producers (λ p. let few : position p (journal e list) ≤ length (plan c p e) = j.planned p in let is : length (plan c p e) ≡ sent_by p e c.orders = plan_sent c p e in omega (arith, few, is)) in
    let sent : over (λ p. sent_by p e c.orders) 1 c.config.producers ≤ sent_to e c.orders = all_sent e 1 c.config.producers c.orders in
    omega (arith, j.all, planned, sent)
