-- Each send is of a producer of the script, to one of its names.
use Rattle.std.proofs.Common.{◌≡◌, ℕ, List, [], ◌∷◌, ◌++◌, sym, ap, subst, ◌∙◌, refl, true, false, true≢false}
use Rattle.std.specs.Prelude.{Bool, ◌||◌, ◌==◌, fold, if◌then◌else◌}
use Rattle.std.specs.List.{list_all, list_any, slice_get}
use Rattle.std.specs.BTreeSet.{insert_key}
use Rattle.yard_model.specs.declared.charter.Line.{Line}
use Rattle.yard_model.specs.declared.charter.Order.{Order}
use Rattle.yard_model.specs.declared.charter.Order.TheVariants as order
use Rattle.yard_model.specs.declared.charter.Sending.{Sending}
use Rattle.yard_model.specs.Behaviour.{is_of_kind}
use Rattle.yard_model.specs.Genuine.{is_producer}
use Rattle.yard_model.specs.Script.{Script, is_name, brought, with_brought, with_name_of, names_in, with_send, with_order, with_send_of, sends, is_order}
use Rattle.plain_laws.proofs.Booleans.{and_both, left_of, right_of, same_name, same_number}
use Rattle.plain_laws.proofs.Names.{name_itself, name_cmp}
use Rattle.actor_laws.proofs.MessageLaws.{insert_stays, insert_there}
use Rattle.yard_model.specs.Script.{IsScript}
use Rattle.std.specs.Prelude.{Some}
use Rattle.std.proofs.Common.{zero, suc}
use Rattle.plain_laws.proofs.Lists.{none_is_not_some, some_is}

-- a send to this name
abbrev pub is_to : List ℕ → Sending → Bool
is_to e x = is_name x.entity e

-- a producer of the script, and a name among these
pub record IsSent (c : Script) (p : ℕ) (e : List ℕ) (names : List (List ℕ)) : Type 0 where
  pub producer_is : is_producer c p ≡ true
  pub name_is : list_any (is_name e) names ≡ true

-- with one name more
sent_more : (c : Script) (p : ℕ) (e k : List ℕ) (names : List (List ℕ)) → IsSent c p e names → IsSent c p e (insert_key name_cmp names k)
sent_more c p e k names s = record { producer_is = s.producer_is; name_is = insert_stays e k names s.name_is }

-- a send to this name is among those before the last, where that one is to another
any_last : (e : List ℕ) (xs : List Sending) (x : Sending) → list_any (is_to e) (xs ++ x ∷ []) ≡ true → is_name x.entity e ≡ false → list_any (is_to e) xs ≡ true
any_last e [] x h k = absurd (true≢false (sym h ∙ ap (λ b. b || false) k))
any_last e (y ∷ ys) x h k = by (is_to e y) h (λ t. any_last e ys x t k)
  where
    by : (b : Bool) → (b || list_any (is_to e) (ys ++ x ∷ [])) ≡ true → (list_any (is_to e) (ys ++ x ∷ []) ≡ true → list_any (is_to e) ys ≡ true) → (b || list_any (is_to e) ys) ≡ true
    by true t rest = refl
    by false t rest = rest t

-- after one order more
sent_by : (c : Script) (p : ℕ) (e : List ℕ) (o : Order) (xs : List Sending) (names : List (List ℕ)) → is_order c.config o ≡ true
    → (list_any (is_to e) xs ≡ true → IsSent c p e names) → list_any (is_to e) (with_order p xs o) ≡ true → IsSent c p e (with_brought names (brought o))
sent_by c p e (order.Send q f k) xs names fits old h = by (q == p) refl h
  where
    at : (b : Bool) → is_name f e ≡ b → (q == p) ≡ true → list_any (is_to e) (with_send xs f k) ≡ true → IsSent c p e (insert_key name_cmp names f)
    at true same is t = record {
      producer_is = ap (is_producer c) (sym (same_number q p is)) ∙ (and_both (is_producer c q) (is_of_kind c.config.kind k) fits).0;
      name_is = subst (λ g. list_any (is_name g) (insert_key name_cmp names f) ≡ true) (same_name f e same) (insert_there f names);
    }
    at false other is t = sent_more c p e f names (old (any_last e xs (record { entity = f; number = _; command = k }) t other))

    by : (b : Bool) → (q == p) ≡ b → list_any (is_to e) (if b then with_send xs f k else xs) ≡ true → IsSent c p e (insert_key name_cmp names f)
    by true is t = at (is_name f e) refl is t
    by false is t = sent_more c p e f names (old t)
sent_by c p e (order.Passivate f) xs names fits old h = sent_more c p e f names (old h)
sent_by c p e (order.FailWrite f k) xs names fits old h = sent_more c p e f names (old h)
sent_by c p e (order.Up n) xs names fits old h = old h
sent_by c p e (order.Crash n) xs names fits old h = old h
sent_by c p e (order.Leave n) xs names fits old h = old h
sent_by c p e (order.Tick n) xs names fits old h = old h
sent_by c p e (order.Produce q n) xs names fits old h = old h
sent_by c p e (order.Rest q) xs names fits old h = old h
sent_by c p e (order.Deliver k) xs names fits old h = old h
sent_by c p e (order.Pump k) xs names fits old h = old h
sent_by c p e (order.Rebalance l) xs names fits old h = old h
sent_by c p e order.Settle xs names fits old h = old h
sent_by c p e (order.Reshard n) xs names fits old h = old h
sent_by c p e order.Upgrade xs names fits old h = old h
sent_by c p e (order.Ping q) xs names fits old h = old h

-- after all orders
sent_in : (c : Script) (p : ℕ) (e : List ℕ) (ls : List Line) (xs : List Sending) (names : List (List ℕ)) → list_all (λ (l : Line). is_order c.config l.order) ls ≡ true
    → (list_any (is_to e) xs ≡ true → IsSent c p e names) → list_any (is_to e) (fold (with_send_of p) xs ls) ≡ true → IsSent c p e (fold with_name_of names ls)
sent_in c p e [] xs names fits old h = old h
sent_in c p e (l ∷ ls) xs names fits old h =
    let n : (is_order c.config l.order ≡ true) × (list_all (λ (l : Line). is_order c.config l.order) ls ≡ true) = and_both (is_order c.config l.order) (list_all (λ (l : Line). is_order c.config l.order) ls) fits in
    sent_in c p e ls (with_order p xs l.order) (with_name_of names l) n.1 (sent_by c p e l.order xs names n.0 old) h

pub sent_to : (c : Script) (p : ℕ) (e : List ℕ) → IsScript c → list_any (is_to e) (sends c p) ≡ true → IsSent c p e (names_in c.orders)
sent_to c p e script h = sent_in c p e c.orders [] [] script.orders (λ k. absurd (true≢false (sym k))) h

-- so is each that is got
pub sent_at : (c : Script) (p n : ℕ) (x : Sending) → IsScript c → slice_get (sends c p) n ≡ Some x → IsSent c p x.entity (names_in c.orders)
sent_at c p n x script h = sent_to c p x.entity script (got (sends c p) n h)
  where
    got : (xs : List Sending) (i : ℕ) → slice_get xs i ≡ Some x → list_any (is_to x.entity) xs ≡ true
    got [] i h = absurd (none_is_not_some x h)
    got (y ∷ ys) zero h = left_of (is_to x.entity y) (list_any (is_to x.entity) ys) (subst (λ (s : Sending). is_name s.entity x.entity ≡ true) (sym (some_is y x h)) (name_itself x.entity))
    got (y ∷ ys) (suc i) h = right_of (is_to x.entity y) (list_any (is_to x.entity) ys) (got ys i h)
