-- Each name that is sent to is among the names that the orders bring.
use Rattle.std.proofs.Common.{◌≡◌, ◌<◌, ℕ, ◌+◌, List, [], ◌∷◌, ◌++◌, sym, ap, subst, ◌∙◌, refl, true, false, true≢false, arith}
use Rattle.std.specs.Prelude.{Bool, ◌||◌, ◌==◌, length, fold, if◌then◌else◌}
use Rattle.std.specs.List.{list_any}
use Rattle.std.specs.Ordering.{match_ordering, is_eq}
use Rattle.std.specs.BTreeSet.{insert_key}
use Rattle.std.specs.declared.cmp.Ordering.{Ordering}
use Rattle.std.specs.declared.cmp.Ordering.TheVariants.{Less, Equal, Greater}
use Rattle.std.specs.Cmp.Lexicographic.{texts_ties}
use Rattle.yard_model.specs.declared.charter.Line.{Line}
use Rattle.yard_model.specs.declared.charter.Order.{Order}
use Rattle.yard_model.specs.declared.charter.Order.TheVariants as order
use Rattle.yard_model.specs.declared.charter.Sending.{Sending}
use Rattle.yard_model.specs.declared.event.Command.{Command}
use Rattle.yard_model.specs.Script.{Script, is_name, brought, with_brought, with_name_of, names_in, count_to, with_send, with_order, with_send_of, sends}
use Rattle.plain_laws.proofs.Booleans.{left_of, right_of, same_name}
use Rattle.plain_laws.proofs.Names.{name_itself, name_cmp}
use Rattle.durable_queue.specs.Kept.{commands_to, AreNamed}
use Rattle.durable_queue.proofs.SendsLaws.{commands_more}

-- a name that was among them stays
insert_stays : (e k : List ℕ) (xs : List (List ℕ)) → list_any (is_name e) xs ≡ true → list_any (is_name e) (insert_key name_cmp xs k) ≡ true
insert_stays e k [] h = absurd (true≢false (sym h))
insert_stays e k (x ∷ xs) h = by (name_cmp k x) (insert_stays e k xs)
  where
    later : (b : Bool) → (list_any (is_name e) xs ≡ true → list_any (is_name e) (insert_key name_cmp xs k) ≡ true) → (b || list_any (is_name e) xs) ≡ true → (b || list_any (is_name e) (insert_key name_cmp xs k)) ≡ true
    later true rest t = refl
    later false rest t = rest t

    by : (r : Ordering) → (list_any (is_name e) xs ≡ true → list_any (is_name e) (insert_key name_cmp xs k) ≡ true) → list_any (is_name e) (match_ordering r (k ∷ x ∷ xs) (x ∷ xs) (x ∷ insert_key name_cmp xs k)) ≡ true
    by Less rest = right_of (is_name e k) (list_any (is_name e) (x ∷ xs)) h
    by Equal rest = h
    by Greater rest = later (is_name e x) rest h

-- the name that is inserted is among them
insert_there : (k : List ℕ) (xs : List (List ℕ)) → list_any (is_name k) (insert_key name_cmp xs k) ≡ true
insert_there k [] = left_of (is_name k k) false (name_itself k)
insert_there k (x ∷ xs) = by (name_cmp k x) refl (insert_there k xs)
  where
    by : (r : Ordering) → name_cmp k x ≡ r → list_any (is_name k) (insert_key name_cmp xs k) ≡ true → list_any (is_name k) (match_ordering r (k ∷ x ∷ xs) (x ∷ xs) (x ∷ insert_key name_cmp xs k)) ≡ true
    by Less e rest = left_of (is_name k k) (list_any (is_name k) (x ∷ xs)) (name_itself k)
    by Equal e rest = left_of (is_name k x) (list_any (is_name k) xs) (texts_ties k x ∙ ap is_eq e)
    by Greater e rest = right_of (is_name k x) (list_any (is_name k) (insert_key name_cmp xs k)) rest

-- a name that is sent to is among these
IsNamed : List ℕ → List Sending → List (List ℕ) → Type 0
IsNamed e xs names = 0 < length (commands_to e xs) → list_any (is_name e) names ≡ true

named_send : (e f : List ℕ) (k : Command) (xs : List Sending) (names : List (List ℕ)) → IsNamed e xs names → IsNamed e (with_send xs f k) (insert_key name_cmp names f)
unfolding IsNamed
named_send e f k xs names old some = by (is_name f e) refl (subst (λ (l : List Command). 0 < length l) (commands_more e xs (record { entity = f; number = count_to f xs + 1; command = k })) some)
  where
    by : (b : Bool) → is_name f e ≡ b → 0 < length (if b then commands_to e xs ++ k ∷ [] else commands_to e xs) → list_any (is_name e) (insert_key name_cmp names f) ≡ true
    by true same t = subst (λ g. list_any (is_name g) (insert_key name_cmp names f) ≡ true) (same_name f e same) (insert_there f names)
    by false same t = insert_stays e f names (old t)

named_more : (e f : List ℕ) (xs : List Sending) (names : List (List ℕ)) → IsNamed e xs names → IsNamed e xs (insert_key name_cmp names f)
unfolding IsNamed
named_more e f xs names old some = insert_stays e f names (old some)

named_if : (e f : List ℕ) (k : Command) (xs : List Sending) (names : List (List ℕ)) (b : Bool) → IsNamed e xs names → IsNamed e (if b then with_send xs f k else xs) (insert_key name_cmp names f)
named_if e f k xs names true old = named_send e f k xs names old
named_if e f k xs names false old = named_more e f xs names old

-- after one order more
named_by : (p : ℕ) (e : List ℕ) (o : Order) (xs : List Sending) (names : List (List ℕ)) → IsNamed e xs names → IsNamed e (with_order p xs o) (with_brought names (brought o))
named_by p e (order.Send q f k) xs names old = named_if e f k xs names (q == p) old
named_by p e (order.Passivate f) xs names old = named_more e f xs names old
named_by p e (order.FailWrite f k) xs names old = named_more e f xs names old
named_by p e (order.Up n) xs names old = old
named_by p e (order.Crash n) xs names old = old
named_by p e (order.Leave n) xs names old = old
named_by p e (order.Tick n) xs names old = old
named_by p e (order.Produce q n) xs names old = old
named_by p e (order.Rest q) xs names old = old
named_by p e (order.Deliver k) xs names old = old
named_by p e (order.Pump k) xs names old = old
named_by p e (order.Rebalance l) xs names old = old
named_by p e order.Settle xs names old = old
named_by p e (order.Reshard n) xs names old = old
named_by p e order.Upgrade xs names old = old
named_by p e (order.Ping q) xs names old = old

-- after all orders
named_in : (p : ℕ) (e : List ℕ) (ls : List Line) (xs : List Sending) (names : List (List ℕ)) → IsNamed e xs names → IsNamed e (fold (with_send_of p) xs ls) (fold with_name_of names ls)
named_in p e [] xs names old = old
named_in p e (l ∷ ls) xs names old = named_in p e ls (with_order p xs l.order) (with_name_of names l) (named_by p e l.order xs names old)

none_named : (e : List ℕ) → IsNamed e [] []
unfolding IsNamed
none_named e some = absurd (omega (arith, some))

pub sends_named : (c : Script) (p : ℕ) → AreNamed (names_in c.orders) (sends c p)
unfolding IsNamed
sends_named c p = record { each = λ e some. named_in p e c.orders [] [] (none_named e) some }
