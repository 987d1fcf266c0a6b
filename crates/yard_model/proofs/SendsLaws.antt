-- The sends of each producer, order by order.
use Rattle.std.proofs.Common.{◌≡◌, ◌≢◌, ◌<◌, ◌≤◌, ℕ, zero, suc, ◌+◌, ◌-◌, sym, ap, ap₂, ◌∙◌, refl, subst, eqb-true, arith, length, length-append, get_or, set}
use Rattle.std.specs.Prelude.{Bool, true, false, ◌==◌, ◌&&◌, if◌then◌else◌, List, [], ◌∷◌, ◌++◌, fold, map, replicate, Some}
use Rattle.std.specs.Ordering.{nat_cmp}
use Rattle.std.specs.Cmp.Lexicographic.{slice_cmp}
use Rattle.std.specs.BTreeSet.{insert_key}
use Rattle.std.proofs.lemmas.Bool.Decides.{nat_tests}
use Rattle.std.proofs.lemmas.List.{get_or-set_same, get_or-set_other, same_lists, get_or-replicate}
use Rattle.std.proofs.lemmas.List.Sums.{fold_push}
use Rattle.std.proofs.Math.ListN.{length-set}
use Rattle.yard_model.specs.declared.charter.Line.{Line}
use Rattle.yard_model.specs.declared.charter.Order.{Order}
use Rattle.yard_model.specs.declared.charter.Order.TheVariants as order
use Rattle.yard_model.specs.declared.charter.Sending.{Sending}
use Rattle.yard_model.specs.declared.event.Command.{Command}
use Rattle.yard_model.specs.Charter.{KeepsSends}
use Rattle.yard_model.specs.Counts.{Counted, names, count_of, CountsNone, CountsOneMore, CountsTheSame}
use Rattle.yard_model.specs.Script.{is_name, names_in, sends_in, count_to, with_order, with_send, with_send_of, with_name_of, with_brought, brought}
use Rattle.yard_model.specs.Words.{numbers}
use Rattle.yard_model.proofs.CharterLaws.{count_within, count_more, same_name, sends_at}

-- the sends and the names with one order more
abbrev sends_push : (p : ℕ) (done : List Line) (l : Line) → sends_in p (done ++ l ∷ []) ≡ with_order p (sends_in p done) l.order
sends_push p done l = fold_push (with_send_of p) [] done l

names_push : (done : List Line) (l : Line) → names_in (done ++ l ∷ []) ≡ with_brought (names_in done) (brought l.order)
names_push done l = fold_push with_name_of [] done l

-- no more sends than orders
sends_within : (p : ℕ) (orders : List Line) → length (sends_in p orders) ≤ length orders
sends_within p orders = omega (arith, grown orders [])
  where
    one : (xs : List Sending) (o : Order) → length (with_order p xs o) ≤ length xs + 1
    one xs (order.Send q e k) = pick (q == p)
      where
        pick : (b : Bool) → length (if b then with_send xs e k else xs) ≤ length xs + 1
        pick true = omega (arith, length-append xs (record { entity = e; number = count_to e xs + 1; command = k } ∷ []))
        pick false = omega arith
    one xs (order.Up n) = omega arith
    one xs (order.Crash n) = omega arith
    one xs (order.Leave n) = omega arith
    one xs (order.Tick n) = omega arith
    one xs (order.Produce q n) = omega arith
    one xs (order.Rest q) = omega arith
    one xs (order.Passivate e) = omega arith
    one xs (order.FailWrite e k) = omega arith
    one xs (order.Deliver k) = omega arith
    one xs (order.Pump k) = omega arith
    one xs (order.Rebalance l) = omega arith
    one xs order.Settle = omega arith
    one xs (order.Reshard n) = omega arith
    one xs order.Upgrade = omega arith
    one xs (order.Ping q) = omega arith

    grown : (rest : List Line) (xs : List Sending) → length (fold (with_send_of p) xs rest) ≤ length xs + length rest
    grown [] xs = omega arith
    grown (l ∷ rest) xs = omega (arith, grown rest (with_order p xs l.order), one xs l.order)

pub keeps_none : (c : Counted) → CountsNone c → KeepsSends c (replicate 32 []) []
keeps_none c n = record { names = n.names; long = refl; sends = λ i h. get_or-replicate 32 i [] [] h; counts = λ i e h. n.each (i + 1) e }

other_place : (p j : ℕ) → (p == j) ≡ false → p ≢ j
other_place p j h = λ e. grind (arith, nat_tests)

and_false : (a : Bool) → (a && false) ≡ false
and_false true = refl
and_false false = refl

module _ (c new : Counted) (sent : List (List Sending)) (done : List Line) (i p n : ℕ) (e : List ℕ) (k : Command) (keeps : KeepsSends c sent done) (more : CountsOneMore c new p e)
    (counted : n ≡ count_of new p e) (is : p ≡ i + 1) (within : i < 32) (few : length done < 3000000) where
  -- the number of the send
  numbered : n ≡ count_to e (sends_in (i + 1) done) + 1
  numbered =
      let were : count_of c p e ≡ count_to e (sends_in (i + 1) done) = ap (λ q. count_of c q e) is ∙ keeps.counts i e within in
      omega (arith, counted, more.here, were, count_within e (sends_in (i + 1) done), sends_within (i + 1) done)

  -- the list of each producer
  placed : (j : ℕ) → j < 32 → (b : Bool) → (p == j + 1) ≡ b
      → get_or (set sent i (get_or sent i [] ++ record { entity = e; number = n; command = k } ∷ [])) j [] ≡ (if b then with_send (sends_in (j + 1) done) e k else sends_in (j + 1) done)
  placed j h true t =
      let here : i ≡ j = omega (arith, eqb-true p (j + 1) t, is) in
      let long : i < length sent = omega (arith, keeps.long) in
      subst (λ q. get_or (set sent i (get_or sent i [] ++ record { entity = e; number = n; command = k } ∷ [])) q [] ≡ with_send (sends_in (q + 1) done) e k) here
      (get_or-set_same sent i (get_or sent i [] ++ record { entity = e; number = n; command = k } ∷ []) [] long
      ∙ ap₂ (λ l m. l ++ record { entity = e; number = m; command = k } ∷ []) (keeps.sends i within) numbered)
  placed j h false t =
      let far : p ≢ j + 1 = other_place p (j + 1) t in
      get_or-set_other sent i j (get_or sent i [] ++ record { entity = e; number = n; command = k } ∷ []) [] (λ eq. far (omega arith)) ∙ keeps.sends j h

  -- the counts of each name
  named : (f : List ℕ) (b : Bool) → is_name e f ≡ b → count_of new (i + 1) f ≡ count_to f (sends_in (i + 1) done) + (if b then 1 else 0)
  named f true t = subst (λ g. count_of new (i + 1) g ≡ count_to g (sends_in (i + 1) done) + 1) (same_name e f t) (ap (λ q. count_of new q e) (sym is) ∙ (sym counted ∙ numbered))
  named f false t =
      ap (λ q. count_of new q f) (sym is) ∙ (more.others p f (ap (λ b. (p == p) && b) t ∙ and_false (p == p)) ∙ (ap (λ q. count_of c q f) is ∙ (keeps.counts i f within ∙ omega arith)))

  tallied : (j : ℕ) (f : List ℕ) → j < 32 → (b : Bool) → (p == j + 1) ≡ b → count_of new (j + 1) f ≡ count_to f (if b then with_send (sends_in (j + 1) done) e k else sends_in (j + 1) done)
  tallied j f h true t =
      let here : i ≡ j = omega (arith, eqb-true p (j + 1) t, is) in
      subst (λ q. count_of new (q + 1) f ≡ count_to f (with_send (sends_in (q + 1) done) e k)) here
      (named f (is_name e f) refl ∙ sym (count_more f (sends_in (i + 1) done) (record { entity = e; number = count_to e (sends_in (i + 1) done) + 1; command = k })))
  tallied j f h false t = more.others (j + 1) f (ap (λ b. b && is_name e f) t) ∙ keeps.counts j f h

-- a send
pub keeps_send : (c new : Counted) (sent sent' : List (List Sending)) (done : List Line) (number p n : ℕ) (e : List ℕ) (k : Command) → KeepsSends c sent done → CountsOneMore c new p e
    → names new ≡ insert_key (slice_cmp nat_cmp) (names c) e → n ≡ count_of new p e → (0 < p) × (p ≤ 32) → length done < 3000000
    → sent' ≡ set sent (p - 1) (get_or sent (p - 1) [] ++ record { entity = e; number = n; command = k } ∷ [])
    → KeepsSends new sent' (done ++ record { number = number; order = order.Send p e k } ∷ [])
keeps_send c new sent sent' done number p n e k keeps more named counted range few put =
    let is : p ≡ p - 1 + 1 = omega (arith, range.0) in
    let within : p - 1 < 32 = omega (arith, range.0, range.1) in
    record {
      names = named ∙ (ap (λ l. insert_key (slice_cmp nat_cmp) l e) keeps.names ∙ sym (names_push done (record { number = number; order = order.Send p e k })));
      long = ap length put ∙ (length-set sent (p - 1) (get_or sent (p - 1) [] ++ record { entity = e; number = n; command = k } ∷ []) ∙ keeps.long);
      sends = λ j h. ap (λ l. get_or l j []) put
          ∙ (placed c new sent done (p - 1) p n e k keeps more counted is within few j h (p == j + 1) refl ∙ sym (sends_push (j + 1) done (record { number = number; order = order.Send p e k })));
      counts = λ j f h. tallied c new sent done (p - 1) p n e k keeps more counted is within few j f h (p == j + 1) refl
          ∙ ap (count_to f) (sym (sends_push (j + 1) done (record { number = number; order = order.Send p e k })));
    }

-- an order that brings a name and sends nothing
pub keeps_name : (c new : Counted) (sent : List (List Sending)) (done : List Line) (number : ℕ) (e : List ℕ) (o : Order) → ((p : ℕ) (xs : List Sending) → with_order p xs o ≡ xs) → brought o ≡ Some e
    → KeepsSends c sent done → CountsTheSame c new → names new ≡ insert_key (slice_cmp nat_cmp) (names c) e → KeepsSends new sent (done ++ record { number = number; order = o } ∷ [])
keeps_name c new sent done number e o none brings keeps same named = record {
  names = named ∙ (ap (λ l. insert_key (slice_cmp nat_cmp) l e) keeps.names ∙ (ap (with_brought (names_in done)) (sym brings) ∙ sym (names_push done (record { number = number; order = o }))));
  long = keeps.long;
  sends = λ i h. keeps.sends i h ∙ sym (stays (i + 1));
  counts = λ i f h. same.each (i + 1) f ∙ (keeps.counts i f h ∙ ap (count_to f) (sym (stays (i + 1))));
}
  where
    stays : (p : ℕ) → sends_in p (done ++ record { number = number; order = o } ∷ []) ≡ sends_in p done
    stays p = sends_push p done (record { number = number; order = o }) ∙ none p (sends_in p done)

-- what is at a place within a list is there whatever the default
pub get_or_any : {A : Type 0} (xs : List A) (i : ℕ) (d e : A) → i < length xs → get_or xs i d ≡ get_or xs i e
get_or_any [] i d e h = absurd (omega arith)
get_or_any (x ∷ xs) zero d e h = refl
get_or_any (x ∷ xs) (suc i) d e h = get_or_any xs i d e (omega arith)

-- the lists at the end
pub keeps_all : (c : Counted) (sent : List (List Sending)) (orders : List Line) → KeepsSends c sent orders → sent ≡ map (λ p. sends_in p orders) (numbers 1 32)
keeps_all c sent orders k =
    same_lists sent (map (λ p. sends_in p orders) (numbers 1 32)) (k.long ∙ refl)
    (λ i d h. let within : i < 32 = omega (arith, k.long) in get_or_any sent i d [] h ∙ (k.sends i within ∙ sym (sends_at orders i d within)))
