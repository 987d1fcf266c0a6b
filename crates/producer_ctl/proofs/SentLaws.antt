-- The name that is sent to is one of the script's.
use Rattle.std.proofs.Common.{◌≡◌, ℕ, List, [], ◌∷◌, sym, ap, ◌∙◌, refl, true, false, true≢false}
use Rattle.std.specs.Prelude.{Bool, ◌||◌, ◌&&◌, ◌==◌, fold, Some, if◌then◌else◌}
use Rattle.std.specs.List.{list_all, list_any, slice_get}
use Rattle.std.specs.Ordering.{match_ordering, is_eq}
use Rattle.std.specs.BTreeSet.{insert_key}
use Rattle.std.specs.declared.cmp.Ordering.{Ordering}
use Rattle.std.specs.declared.cmp.Ordering.TheVariants.{Less, Equal, Greater}
use Rattle.std.specs.Cmp.Lexicographic.{texts_ties}
use Rattle.yard_model.specs.declared.charter.Line.{Line}
use Rattle.yard_model.specs.declared.charter.Order.{Order}
use Rattle.yard_model.specs.declared.charter.Order.TheVariants as order
use Rattle.yard_model.specs.declared.charter.Sending.{Sending}
use Rattle.yard_model.specs.Genuine.{is_brought}
use Rattle.yard_model.specs.Script.{Script, is_name, brought, with_brought, with_name_of, with_send, with_order, with_send_of, sends}
use Rattle.plain_laws.proofs.Booleans.{left_of, right_of, all_map}
use Rattle.plain_laws.proofs.Lists.{all_join, all_got}
use Rattle.plain_laws.proofs.Names.{name_itself, name_cmp}

-- a name that was among them stays
insert_stays : (e k : List ℕ) (xs : List (List ℕ)) → list_any (is_name e) xs ≡ true → list_any (is_name e) (insert_key name_cmp xs k) ≡ true
insert_stays e k [] h = absurd (true≢false (sym h))
insert_stays e k (x ∷ xs) h = by (name_cmp k x) (insert_stays e k xs)
  where
    later : (b : Bool) → (list_any (is_name e) xs ≡ true → list_any (is_name e) (insert_key name_cmp xs k) ≡ true) → (b || list_any (is_name e) xs) ≡ true → (b || list_any (is_name e) (insert_key name_cmp xs k)) ≡ true
    later true rest t = refl
    later false rest t = rest t

    by : (r : Ordering) → (list_any (is_name e) xs ≡ true → list_any (is_name e) (insert_key name_cmp xs k) ≡ true) → list_any (is_name e) (match_ordering r (k ∷ x ∷ xs) (x ∷ xs) (x ∷ insert_key name_cmp xs k)) ≡ true
    by Less rest = right_of (is_name e k) (list_any (is_name e) (x ∷ xs)) h
    by Equal rest = h
    by Greater rest = later (is_name e x) rest h

-- the name that is inserted is among them
insert_there : (k : List ℕ) (xs : List (List ℕ)) → list_any (is_name k) (insert_key name_cmp xs k) ≡ true
insert_there k [] = left_of (is_name k k) false (name_itself k)
insert_there k (x ∷ xs) = by (name_cmp k x) refl (insert_there k xs)
  where
    by : (r : Ordering) → name_cmp k x ≡ r → list_any (is_name k) (insert_key name_cmp xs k) ≡ true → list_any (is_name k) (match_ordering r (k ∷ x ∷ xs) (x ∷ xs) (x ∷ insert_key name_cmp xs k)) ≡ true
    by Less e rest = left_of (is_name k k) (list_any (is_name k) (x ∷ xs)) (name_itself k)
    by Equal e rest = left_of (is_name k x) (list_any (is_name k) xs) (texts_ties k x ∙ ap is_eq e)
    by Greater e rest = right_of (is_name k x) (list_any (is_name k) (insert_key name_cmp xs k)) rest

-- the name that is sent to is among these
abbrev is_sent_to : List (List ℕ) → Sending → Bool
is_sent_to names x = list_any (is_name x.entity) names

more_names : (f : List ℕ) (names : List (List ℕ)) (xs : List Sending) → list_all (is_sent_to names) xs ≡ true → list_all (is_sent_to (insert_key name_cmp names f)) xs ≡ true
more_names f names xs h = all_map (is_sent_to names) (is_sent_to (insert_key name_cmp names f)) (λ x. insert_stays x.entity f names) xs h

one_order : (p : ℕ) (o : Order) (xs : List Sending) (names : List (List ℕ)) → list_all (is_sent_to names) xs ≡ true → list_all (is_sent_to (with_brought names (brought o))) (with_order p xs o) ≡ true
one_order p (order.Send q f k) xs names h = by (q == p)
  where
    by : (b : Bool) → list_all (is_sent_to (insert_key name_cmp names f)) (if b then with_send xs f k else xs) ≡ true
    by true = all_join (is_sent_to (insert_key name_cmp names f)) xs (record { entity = f; number = _; command = k } ∷ []) (more_names f names xs h) (ap (λ b. b && true) (insert_there f names))
    by false = more_names f names xs h
one_order p (order.Passivate f) xs names h = more_names f names xs h
one_order p (order.FailWrite f k) xs names h = more_names f names xs h
one_order p (order.Up n) xs names h = h
one_order p (order.Crash n) xs names h = h
one_order p (order.Leave n) xs names h = h
one_order p (order.Tick n) xs names h = h
one_order p (order.Produce q n) xs names h = h
one_order p (order.Rest q) xs names h = h
one_order p (order.Deliver k) xs names h = h
one_order p (order.Pump k) xs names h = h
one_order p (order.Rebalance l) xs names h = h
one_order p order.Settle xs names h = h
one_order p (order.Reshard n) xs names h = h
one_order p order.Upgrade xs names h = h
one_order p (order.Ping q) xs names h = h

all_orders : (p : ℕ) (ls : List Line) (xs : List Sending) (names : List (List ℕ)) → list_all (is_sent_to names) xs ≡ true → list_all (is_sent_to (fold with_name_of names ls)) (fold (with_send_of p) xs ls) ≡ true
all_orders p [] xs names h = h
all_orders p (l ∷ ls) xs names h = all_orders p ls (with_order p xs l.order) (with_name_of names l) (one_order p l.order xs names h)

pub sent_is_brought : (c : Script) (p i : ℕ) (x : Sending) → slice_get (sends c p) i ≡ Some x → is_brought c x.entity ≡ true
sent_is_brought c p i x found = all_got (is_sent_to _) (sends c p) i x (all_orders p c.orders [] [] refl) found
