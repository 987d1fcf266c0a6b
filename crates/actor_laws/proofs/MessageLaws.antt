-- A genuine message is one of the script's sends.
use Rattle.std.proofs.Common.{◌≡◌, ℕ, List, [], ◌∷◌, ◌++◌, map, sym, ap, subst, ◌∙◌, refl, true, false, true≢false}
use Rattle.std.specs.Prelude.{Bool, ◌||◌, ◌==◌, ◌-◌, nat_lt, filter, fold, if◌then◌else◌}
use Rattle.std.specs.List.{list_all, list_any, slice_get}
use Rattle.std.specs.Option.{option_map_or}
use Rattle.std.specs.Ordering.{match_ordering, is_eq}
use Rattle.std.specs.BTreeSet.{insert_key}
use Rattle.std.specs.declared.cmp.Ordering.{Ordering}
use Rattle.std.specs.declared.cmp.Ordering.TheVariants.{Less, Equal, Greater}
use Rattle.std.specs.Cmp.Lexicographic.{texts_ties}
use Rattle.yard_model.specs.declared.charter.Line.{Line}
use Rattle.yard_model.specs.declared.charter.Order.{Order}
use Rattle.yard_model.specs.declared.charter.Order.TheVariants as order
use Rattle.yard_model.specs.declared.charter.Sending.{Sending}
use Rattle.yard_model.specs.declared.event.Command.{Command}
use Rattle.yard_model.specs.Behaviour.{is_of_kind}
use Rattle.yard_model.specs.Equal.{is_command}
use Rattle.yard_model.specs.Genuine.{is_node, is_producer, is_planned}
use Rattle.yard_model.specs.Script.{Script, is_name, brought, with_brought, with_name_of, names_in, with_send, with_order, with_send_of, sends, plan, is_order}
use Rattle.plain_laws.proofs.Booleans.{and_both, left_of, right_of, same_name, same_number}
use Rattle.plain_laws.proofs.Names.{name_itself, name_cmp}
use Rattle.actor_laws.specs.Messages.{GenuineIsMessage}

-- Names that are inserted.

-- a name that was among them stays
pub insert_stays : (e k : List ℕ) (xs : List (List ℕ)) → list_any (is_name e) xs ≡ true → list_any (is_name e) (insert_key name_cmp xs k) ≡ true
insert_stays e k [] h = absurd (true≢false (sym h))
insert_stays e k (x ∷ xs) h = by (name_cmp k x) (insert_stays e k xs)
  where
    later : (b : Bool) → (list_any (is_name e) xs ≡ true → list_any (is_name e) (insert_key name_cmp xs k) ≡ true) → (b || list_any (is_name e) xs) ≡ true → (b || list_any (is_name e) (insert_key name_cmp xs k)) ≡ true
    later true rest t = refl
    later false rest t = rest t

    by : (r : Ordering) → (list_any (is_name e) xs ≡ true → list_any (is_name e) (insert_key name_cmp xs k) ≡ true) → list_any (is_name e) (match_ordering r (k ∷ x ∷ xs) (x ∷ xs) (x ∷ insert_key name_cmp xs k)) ≡ true
    by Less rest = right_of (is_name e k) (list_any (is_name e) (x ∷ xs)) h
    by Equal rest = h
    by Greater rest = later (is_name e x) rest h

-- the name that is inserted is among them
pub insert_there : (k : List ℕ) (xs : List (List ℕ)) → list_any (is_name k) (insert_key name_cmp xs k) ≡ true
insert_there k [] = left_of (is_name k k) false (name_itself k)
insert_there k (x ∷ xs) = by (name_cmp k x) refl (insert_there k xs)
  where
    by : (r : Ordering) → name_cmp k x ≡ r → list_any (is_name k) (insert_key name_cmp xs k) ≡ true → list_any (is_name k) (match_ordering r (k ∷ x ∷ xs) (x ∷ xs) (x ∷ insert_key name_cmp xs k)) ≡ true
    by Less e rest = left_of (is_name k k) (list_any (is_name k) (x ∷ xs)) (name_itself k)
    by Equal e rest = left_of (is_name k x) (list_any (is_name k) xs) (texts_ties k x ∙ ap is_eq e)
    by Greater e rest = right_of (is_name k x) (list_any (is_name k) (insert_key name_cmp xs k)) rest

-- Sends.

-- a send to this name
abbrev is_to : List ℕ → Sending → Bool
is_to e x = is_name x.entity e

-- a producer of the script, and a name among these
record IsSent (c : Script) (p : ℕ) (e : List ℕ) (names : List (List ℕ)) : Type 0 where
  producer_is : is_producer c p ≡ true
  name_is : list_any (is_name e) names ≡ true

-- with one name more
sent_more : (c : Script) (p : ℕ) (e k : List ℕ) (names : List (List ℕ)) → IsSent c p e names → IsSent c p e (insert_key name_cmp names k)
sent_more c p e k names s = record { producer_is = s.producer_is; name_is = insert_stays e k names s.name_is }

-- a send to this name is among those before the last, where that one is to another
any_last : (e : List ℕ) (xs : List Sending) (x : Sending) → list_any (is_to e) (xs ++ x ∷ []) ≡ true → is_name x.entity e ≡ false → list_any (is_to e) xs ≡ true
any_last e [] x h k = absurd (true≢false (sym h ∙ ap (λ b. b || false) k))
any_last e (y ∷ ys) x h k = by (is_to e y) h (λ t. any_last e ys x t k)
  where
    by : (b : Bool) → (b || list_any (is_to e) (ys ++ x ∷ [])) ≡ true → (list_any (is_to e) (ys ++ x ∷ []) ≡ true → list_any (is_to e) ys ≡ true) → (b || list_any (is_to e) ys) ≡ true
    by true t rest = refl
    by false t rest = rest t

-- after one order more
sent_by : (c : Script) (p : ℕ) (e : List ℕ) (o : Order) (xs : List Sending) (names : List (List ℕ)) → is_order c.config o ≡ true
    → (list_any (is_to e) xs ≡ true → IsSent c p e names) → list_any (is_to e) (with_order p xs o) ≡ true → IsSent c p e (with_brought names (brought o))
sent_by c p e (order.Send q f k) xs names fits old h = by (q == p) refl h
  where
    at : (b : Bool) → is_name f e ≡ b → (q == p) ≡ true → list_any (is_to e) (with_send xs f k) ≡ true → IsSent c p e (insert_key name_cmp names f)
    at true same is t = record {
      producer_is = ap (is_producer c) (sym (same_number q p is)) ∙ (and_both (is_producer c q) (is_of_kind c.config.kind k) fits).0;
      name_is = subst (λ g. list_any (is_name g) (insert_key name_cmp names f) ≡ true) (same_name f e same) (insert_there f names);
    }
    at false other is t = sent_more c p e f names (old (any_last e xs (record { entity = f; number = _; command = k }) t other))

    by : (b : Bool) → (q == p) ≡ b → list_any (is_to e) (if b then with_send xs f k else xs) ≡ true → IsSent c p e (insert_key name_cmp names f)
    by true is t = at (is_name f e) refl is t
    by false is t = sent_more c p e f names (old t)
sent_by c p e (order.Passivate f) xs names fits old h = sent_more c p e f names (old h)
sent_by c p e (order.FailWrite f k) xs names fits old h = sent_more c p e f names (old h)
sent_by c p e (order.Up n) xs names fits old h = old h
sent_by c p e (order.Crash n) xs names fits old h = old h
sent_by c p e (order.Leave n) xs names fits old h = old h
sent_by c p e (order.Tick n) xs names fits old h = old h
sent_by c p e (order.Produce q n) xs names fits old h = old h
sent_by c p e (order.Rest q) xs names fits old h = old h
sent_by c p e (order.Deliver k) xs names fits old h = old h
sent_by c p e (order.Pump k) xs names fits old h = old h
sent_by c p e (order.Rebalance l) xs names fits old h = old h
sent_by c p e order.Settle xs names fits old h = old h
sent_by c p e (order.Reshard n) xs names fits old h = old h
sent_by c p e order.Upgrade xs names fits old h = old h
sent_by c p e (order.Ping q) xs names fits old h = old h

-- after all orders
sent_in : (c : Script) (p : ℕ) (e : List ℕ) (ls : List Line) (xs : List Sending) (names : List (List ℕ)) → list_all (λ (l : Line). is_order c.config l.order) ls ≡ true
    → (list_any (is_to e) xs ≡ true → IsSent c p e names) → list_any (is_to e) (fold (with_send_of p) xs ls) ≡ true → IsSent c p e (fold with_name_of names ls)
sent_in c p e [] xs names fits old h = old h
sent_in c p e (l ∷ ls) xs names fits old h =
    let n : (is_order c.config l.order ≡ true) × (list_all (λ (l : Line). is_order c.config l.order) ls ≡ true) = and_both (is_order c.config l.order) (list_all (λ (l : Line). is_order c.config l.order) ls) fits in
    sent_in c p e ls (with_order p xs l.order) (with_name_of names l) n.1 (sent_by c p e l.order xs names n.0 old) h

-- Plans.

-- where something is planned, something is sent
planned_sent : (q : Command → Bool) (e : List ℕ) (xs : List Sending) (i : ℕ) → option_map_or q (slice_get (map (λ (x : Sending). x.command) (filter (is_to e) xs)) i) false ≡ true → list_any (is_to e) xs ≡ true
planned_sent q e [] i h = absurd (true≢false (sym h))
planned_sent q e (x ∷ xs) i h = by (is_to e x) h (planned_sent q e xs i)
  where
    by : (b : Bool) → option_map_or q (slice_get (map (λ (x : Sending). x.command) (if b then x ∷ filter (is_to e) xs else filter (is_to e) xs)) i) false ≡ true
        → (option_map_or q (slice_get (map (λ (x : Sending). x.command) (filter (is_to e) xs)) i) false ≡ true → list_any (is_to e) xs ≡ true) → (b || list_any (is_to e) xs) ≡ true
    by true t rest = refl
    by false t rest = rest t

-- a genuine message is planned, so it is sent, so some order sends it
pub genuine_message : GenuineIsMessage
genuine_message c m script good =
    let planned : is_planned c m.producer m.entity m.number m.command ≡ true = (and_both (is_planned c m.producer m.entity m.number m.command) (is_node c m.origin) good).0 in
    let found : option_map_or (is_command m.command) (slice_get (plan c m.producer m.entity) (m.number - 1)) false ≡ true = (and_both (nat_lt 0 m.number) (option_map_or (is_command m.command) (slice_get (plan c m.producer m.entity) (m.number - 1)) false) planned).1 in
    let sent : IsSent c m.producer m.entity (names_in c.orders) = sent_in c m.producer m.entity c.orders [] [] script.orders (λ h. absurd (true≢false (sym h))) (planned_sent (is_command m.command) m.entity (sends c m.producer) (m.number - 1) found) in
    record { genuine = good; producer_is = sent.producer_is; brought = sent.name_is }
