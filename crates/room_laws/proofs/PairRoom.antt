-- How many pairs of producers and names there are at most.
use Rattle.std.proofs.Common.{◌≡◌, ℕ, ◌+◌, ◌-◌, ◌≤◌, ◌<◌, List, [], ◌∷◌, ◌++◌, length, ap, ◌∙◌, sym, refl, arith, length-append}
use Rattle.std.specs.Prelude.{Bool, true, false, ◌==◌, ◌&&◌, ◌||◌, not, nat_lt, zero, suc, cond, map, filter, fold, if◌then◌else◌}
use Rattle.std.specs.List.{flat_map, list_any, list_all, slice_get}
use Rattle.std.proofs.lemmas.List.Folds.{list_any-append}
use Rattle.yard_model.specs.declared.charter.Line.{Line}
use Rattle.yard_model.specs.declared.charter.Order.{Order}
use Rattle.yard_model.specs.declared.charter.Order.TheVariants as order
use Rattle.yard_model.specs.declared.charter.Sending.{Sending}
use Rattle.yard_model.specs.declared.event.Command.{Command}
use Rattle.yard_model.specs.declared.packet.Message.{Message}
use Rattle.yard_model.specs.Entities.{entries}
use Rattle.yard_model.specs.Equal.{is_command}
use Rattle.yard_model.specs.Genuine.{is_genuine, is_node, is_planned}
use Rattle.std.specs.Option.{option_map_or}
use Rattle.actor_laws.specs.ProducerStands.{IsProducer, ProducerRoutes}
use Rattle.yard_model.specs.Producer as producer
use Rattle.yard_model.specs.Producer.{Producer}
use Rattle.yard_model.specs.Script.{Script, Pair, is_name, is_pair, with_pair, with_order, with_send, with_send_of, count_to, sends, plan, names_in, pairs_in}
use Rattle.yard_model.specs.SlotReads.{queued}
use Rattle.yard_model.specs.Words.{numbers, at}
use Rattle.plain_laws.proofs.Booleans.{and_both, both, left_of, number_itself, of_not, right_of, same_name, same_number, true_is_not_false}
use Rattle.plain_laws.proofs.Names.{name_itself}
use Rattle.plain_laws.specs.Names.{AllDiffer}
use Rattle.actor_laws.proofs.NameLaws.{names_differ}
use Rattle.room_laws.proofs.Gives.{more}

none_named : (y : List ℕ) (es : List (List ℕ)) → list_all (λ e. not (is_name y e)) es ≡ true → length (filter (is_name y) es) ≡ 0
none_named y [] h = refl
none_named y (e ∷ es) h = by (is_name y e) refl (none_named y es m.1)
  where
    m : (not (is_name y e) ≡ true) × (list_all (λ e. not (is_name y e)) es ≡ true)
    m = and_both (not (is_name y e)) (list_all (λ e. not (is_name y e)) es) h

    by : (b : Bool) → is_name y e ≡ b → length (filter (is_name y) es) ≡ 0 → length (cond b (e ∷ filter (is_name y) es) (filter (is_name y) es)) ≡ 0
    by true is rest = absurd (true_is_not_false (sym is ∙ of_not (is_name y e) m.0))
    by false is rest = rest

one_named : (y : List ℕ) (es : List (List ℕ)) → AllDiffer es → length (filter (is_name y) es) ≤ 1
one_named y [] h = omega arith
one_named y (e ∷ es) h = by (is_name y e) refl (one_named y es h.1)
  where
    by : (b : Bool) → is_name y e ≡ b → length (filter (is_name y) es) ≤ 1 → length (cond b (e ∷ filter (is_name y) es) (filter (is_name y) es)) ≤ 1
    by true is rest = let none : length (filter (is_name y) es) ≡ 0 = none_named y es (ap (λ z. list_all (λ e. not (is_name z e)) es) (same_name y e is) ∙ h.0) in omega (arith, none)
    by false is rest = rest

either_few : {X : Type 0} (q r : X → Bool) (xs : List X) → length (filter (λ x. q x || r x) xs) ≤ length (filter q xs) + length (filter r xs)
either_few q r [] = omega arith
either_few {X} q r (x ∷ xs) = by (q x) (r x) (either_few q r xs)
  where
    both : List X
    both = filter (λ x. q x || r x) xs

    by : (a b : Bool) → length (filter (λ x. q x || r x) xs) ≤ length (filter q xs) + length (filter r xs)
        → length (cond (a || b) (x ∷ filter (λ x. q x || r x) xs) (filter (λ x. q x || r x) xs)) ≤ length (cond a (x ∷ filter q xs) (filter q xs)) + length (cond b (x ∷ filter r xs) (filter r xs))
    by true true h = omega (arith, h)
    by true false h = omega (arith, h)
    by false true h = omega (arith, h)
    by false false h = omega (arith, h)

pub fewer_pass : {X : Type 0} (q r : X → Bool) → ((x : X) → q x ≡ true → r x ≡ true) → (xs : List X) → length (filter q xs) ≤ length (filter r xs)
fewer_pass q r h [] = omega arith
fewer_pass q r h (x ∷ xs) = by (q x) (r x) refl refl (fewer_pass q r h xs)
  where
    by : (a b : Bool) → q x ≡ a → r x ≡ b → length (filter q xs) ≤ length (filter r xs) → length (cond a (x ∷ filter q xs) (filter q xs)) ≤ length (cond b (x ∷ filter r xs) (filter r xs))
    by true true i j k = omega (arith, k)
    by true false i j k = absurd (true_is_not_false (sym (h x i) ∙ j))
    by false true i j k = omega (arith, k)
    by false false i j k = k

-- of n producers from a on, the names that are in a pair with each
abbrev paired : List (List ℕ) → List Pair → ℕ → ℕ → List (List ℕ)
paired names ps a n = flat_map (λ p. filter (λ e. list_any (is_pair p e) ps) names) (numbers a n)

pair_past : (names : List (List ℕ)) (x : Pair) (ps : List Pair) (a n : ℕ) → x.producer < a → length (paired names (x ∷ ps) a n) ≤ length (paired names ps a n)
pair_past names x ps a zero low = omega arith
pair_past names x ps a (suc n) low = by (x.producer == a) refl (pair_past names x ps (a + 1) n (omega (arith, low)))
  where
    by : (b : Bool) → (x.producer == a) ≡ b → length (paired names (x ∷ ps) (a + 1) n) ≤ length (paired names ps (a + 1) n)
        → length (filter (λ e. (b && is_name x.entity e) || list_any (is_pair a e) ps) names ++ paired names (x ∷ ps) (a + 1) n) ≤ length (filter (λ e. list_any (is_pair a e) ps) names ++ paired names ps (a + 1) n)
    by true is rest = absurd (omega (arith, same_number x.producer a is, low))
    by false is rest =
        let own : List (List ℕ) = filter (λ e. list_any (is_pair a e) ps) names in
        omega (arith, length-append own (paired names (x ∷ ps) (a + 1) n), length-append own (paired names ps (a + 1) n), rest)

pair_once : (names : List (List ℕ)) → AllDiffer names → (x : Pair) (ps : List Pair) (a n : ℕ) → length (paired names (x ∷ ps) a n) ≤ 1 + length (paired names ps a n)
pair_once names differ x ps a zero = omega arith
pair_once names differ x ps a (suc n) = by (x.producer == a) refl (pair_once names differ x ps (a + 1) n)
  where
    by : (b : Bool) → (x.producer == a) ≡ b → length (paired names (x ∷ ps) (a + 1) n) ≤ 1 + length (paired names ps (a + 1) n)
        → length (filter (λ e. (b && is_name x.entity e) || list_any (is_pair a e) ps) names ++ paired names (x ∷ ps) (a + 1) n) ≤ 1 + length (filter (λ e. list_any (is_pair a e) ps) names ++ paired names ps (a + 1) n)
    by true is rest =
        let own : List (List ℕ) = filter (λ e. list_any (is_pair a e) ps) names in
        let more : List (List ℕ) = filter (λ e. is_name x.entity e || list_any (is_pair a e) ps) names in
        let here : length more ≤ length (filter (is_name x.entity) names) + length own = either_few (is_name x.entity) (λ e. list_any (is_pair a e) ps) names in
        let others : length (paired names (x ∷ ps) (a + 1) n) ≤ length (paired names ps (a + 1) n) = pair_past names x ps (a + 1) n (let same : x.producer ≡ a = same_number x.producer a is in omega (arith, same)) in
        omega (arith, length-append more (paired names (x ∷ ps) (a + 1) n), length-append own (paired names ps (a + 1) n), here, one_named x.entity names differ, others)
    by false is rest =
        let own : List (List ℕ) = filter (λ e. list_any (is_pair a e) ps) names in
        omega (arith, length-append own (paired names (x ∷ ps) (a + 1) n), length-append own (paired names ps (a + 1) n), rest)

paired_few : (names : List (List ℕ)) → AllDiffer names → (ps : List Pair) (a n : ℕ) → length (paired names ps a n) ≤ length ps
paired_few names differ [] a n = none a n
  where
    nobody : (es : List (List ℕ)) → length (filter (λ e. false) es) ≡ 0
    nobody [] = refl
    nobody (e ∷ es) = nobody es

    none : (a n : ℕ) → length (paired names [] a n) ≤ 0
    none a zero = omega arith
    none a (suc n) = omega (arith, length-append (filter (λ e. false) names) (paired names [] (a + 1) n), nobody names, none (a + 1) n)
paired_few names differ (x ∷ ps) a n = omega (arith, pair_once names differ x ps a n, paired_few names differ ps a n)

-- of n producers from a on, the names that pass where there is such a pair: at most as many as there are pairs
pub pairs_left : (c : Script) (q : ℕ → List ℕ → Bool) (a n : ℕ) → ((p : ℕ) (e : List ℕ) → a ≤ p → q p e ≡ true → list_any (is_pair p e) (pairs_in c.orders) ≡ true)
    → length (flat_map (λ p. filter (q p) (names_in c.orders)) (numbers a n)) ≤ length (pairs_in c.orders)
pairs_left c q a n h = omega (arith, less a n h, paired_few (names_in c.orders) (names_differ c.orders) (pairs_in c.orders) a n)
  where
    less : (a n : ℕ) → ((p : ℕ) (e : List ℕ) → a ≤ p → q p e ≡ true → list_any (is_pair p e) (pairs_in c.orders) ≡ true)
        → length (flat_map (λ p. filter (q p) (names_in c.orders)) (numbers a n)) ≤ length (paired (names_in c.orders) (pairs_in c.orders) a n)
    less a zero h = omega arith
    less a (suc n) h =
        let own : List (List ℕ) = filter (q a) (names_in c.orders) in
        let more : List (List ℕ) = filter (λ e. list_any (is_pair a e) (pairs_in c.orders)) (names_in c.orders) in
        omega (
          arith,
          length-append own (flat_map (λ p. filter (q p) (names_in c.orders)) (numbers (a + 1) n)),
          length-append more (paired (names_in c.orders) (pairs_in c.orders) (a + 1) n),
          fewer_pass (q a) (λ e. list_any (is_pair a e) (pairs_in c.orders)) (λ e. h a e (omega arith)) (names_in c.orders),
          less (a + 1) n (λ p e low. h p e (omega (arith, low))),
        )

-- who sends to a name is in a pair with it

abbrev sends_to : List ℕ → List Sending → Bool
sends_to e xs = list_any (λ (x : Sending). is_name x.entity e) xs

pair_there : (p : ℕ) (e : List ℕ) (ls : List Line) (sent : List Sending) (ps : List Pair) → (sends_to e sent ≡ true → list_any (is_pair p e) ps ≡ true)
    → sends_to e (fold (with_send_of p) sent ls) ≡ true → list_any (is_pair p e) (fold (λ pairs (l : Line). with_pair pairs l.order) ps ls) ≡ true
pair_there p e [] sent ps h = h
pair_there p e (l ∷ ls) sent ps h = pair_there p e ls (with_send_of p sent l) (with_pair ps l.order) (step l.order)
  where
    kept : (q : ℕ) (f : List ℕ) (b : Bool) → list_any (is_pair p e) ps ≡ true → list_any (is_pair p e) (if b then ps else ps ++ record { producer = q; entity = f } ∷ []) ≡ true
    kept q f true k = k
    kept q f false k = list_any-append (is_pair p e) ps (record { producer = q; entity = f } ∷ []) ∙ left_of (list_any (is_pair p e) ps) _ k

    new : (q : ℕ) (f : List ℕ) (b : Bool) → list_any (is_pair q f) ps ≡ b → q ≡ p → f ≡ e → list_any (is_pair p e) (if b then ps else ps ++ record { producer = q; entity = f } ∷ []) ≡ true
    new q f true is same name = ap (λ r. list_any (is_pair r e) ps) (sym same) ∙ (ap (λ g. list_any (is_pair q g) ps) (sym name) ∙ is)
    new q f false is same name =
        list_any-append (is_pair p e) ps (record { producer = q; entity = f } ∷ [])
        ∙ right_of (list_any (is_pair p e) ps) (((q == p) && is_name f e) || false) (left_of ((q == p) && is_name f e) false (both (q == p) (is_name f e) (number_itself q p same) (ap (λ g. is_name g e) name ∙ name_itself e)))

    by : (q : ℕ) (f : List ℕ) (k : Command) (b : Bool) → (q == p) ≡ b → (d : Bool) → is_name f e ≡ d
        → sends_to e (if b then with_send sent f k else sent) ≡ true → list_any (is_pair p e) (with_pair ps (order.Send q f k)) ≡ true
    by q f k false other d is to = kept q f (list_any (is_pair q f) ps) (h to)
    by q f k true same true is to = new q f (list_any (is_pair q f) ps) refl (same_number q p same) (same_name f e is)
    by q f k true same false is to =
        kept q f (list_any (is_pair q f) ps) (h (old (sends_to e sent) (sym (list_any-append (λ (x : Sending). is_name x.entity e) sent (record { entity = f; number = count_to f sent + 1; command = k } ∷ [])) ∙ to)))
      where
        old : (a : Bool) → (a || (is_name f e || false)) ≡ true → a ≡ true
        old true i = refl
        old false i = absurd (true_is_not_false (sym i ∙ ap (λ b. b || false) is))

    step : (o : Order) → sends_to e (with_order p sent o) ≡ true → list_any (is_pair p e) (with_pair ps o) ≡ true
    step (order.Send q f k) = by q f k (q == p) refl (is_name f e) refl
    step order.Settle = h
    step o = h

pub sends_pair : (c : Script) (p : ℕ) (e : List ℕ) → sends_to e (sends c p) ≡ true → list_any (is_pair p e) (pairs_in c.orders) ≡ true
sends_pair c p e = pair_there p e c.orders [] [] (λ k. k)

-- what a producer that stands has queued to a name, it sends to that name
got_one : (k : Command) (e : List ℕ) (xs : List Sending) (n : ℕ) → option_map_or (is_command k) (slice_get (map (λ (x : Sending). x.command) (filter (λ (x : Sending). is_name x.entity e) xs)) n) false ≡ true → sends_to e xs ≡ true
got_one k e [] n h = h
got_one k e (x ∷ xs) n h = by (is_name x.entity e) refl h (λ g. got_one k e xs n g)
  where
    by : (b : Bool) → is_name x.entity e ≡ b → option_map_or (is_command k) (slice_get (map (λ (x : Sending). x.command) (cond b (x ∷ filter (λ (x : Sending). is_name x.entity e) xs) (filter (λ (x : Sending). is_name x.entity e) xs))) n) false ≡ true
        → (option_map_or (is_command k) (slice_get (map (λ (x : Sending). x.command) (filter (λ (x : Sending). is_name x.entity e) xs)) n) false ≡ true → sends_to e xs ≡ true) → sends_to e (x ∷ xs) ≡ true
    by true is g rest = left_of (is_name x.entity e) (sends_to e xs) is
    by false is g rest = right_of (is_name x.entity e) (sends_to e xs) (rest g)

pub queued_pair : ProducerRoutes → (c : Script) (st : Producer) → IsProducer c st → (e : List ℕ) → 0 < queued e st.entries → list_any (is_pair st.number e) (pairs_in c.orders) ≡ true
queued_pair law c st stands e some =
    let m : Message = producer.message_of e st 1 in
    let genuine : is_genuine c m ≡ true = (law c st stands).messages e 1 (omega arith) (omega (arith, some)) in
    let planned : (is_planned c st.number e 1 m.command ≡ true) × (is_node c st.who ≡ true) = and_both (is_planned c st.number e 1 m.command) (is_node c st.who) genuine in
    let got : (nat_lt 0 1 ≡ true) × (option_map_or (is_command m.command) (slice_get (plan c st.number e) 0) false ≡ true) = and_both (nat_lt 0 1) (option_map_or (is_command m.command) (slice_get (plan c st.number e) 0) false) planned.0 in
    sends_pair c st.number e (got_one m.command e (sends c st.number) 0 got.1)
