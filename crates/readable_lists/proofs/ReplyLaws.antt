-- What is answered in a lawful list fits its line: totals, balances and numbers of items are bounded.
use Rattle.std.proofs.Common.{◌≡◌, ◌<◌, ◌≤◌, ℕ, ◌+◌, ◌-◌, sym, refl, subst, arith}
use Rattle.std.specs.Prelude.{Bool, true, false, ◌==◌, ◌&&◌, ◌||◌, not, nat_lt, ◌↔◌, List, [], ◌∷◌, ◌++◌, fold, length, if◌then◌else◌, IsTrue}
use Rattle.std.specs.List.{list_any}
use Rattle.std.proofs.lemmas.List.{length-map}
use Rattle.std.proofs.lemmas.List.Sums.{fold-append}
use Rattle.plain_laws.proofs.Booleans.{and_both, below, not_below, same_name, true_is_not_false}
use Rattle.yard_model.specs.declared.event.Command.{Command}
use Rattle.yard_model.specs.declared.event.Command.TheVariants as command
use Rattle.yard_model.specs.declared.event.Decision.{Decision}
use Rattle.yard_model.specs.declared.event.Event.{Event}
use Rattle.yard_model.specs.declared.event.Event.TheVariants as event
use Rattle.yard_model.specs.declared.event.Kind.{Kind}
use Rattle.yard_model.specs.declared.event.Kind.TheVariants as kind
use Rattle.yard_model.specs.declared.fact.Fact.{Fact}
use Rattle.yard_model.specs.declared.fact.Fact.TheVariants as fact
use Rattle.yard_model.specs.declared.incarnation.Slot.TheVariants as slot
use Rattle.yard_model.specs.declared.packet.Record.{Record}
use Rattle.yard_model.specs.declared.state.CartItem.{CartItem}
use Rattle.yard_model.specs.declared.state.State.{State}
use Rattle.yard_model.specs.declared.state.State.TheVariants as state
use Rattle.yard_model.specs.Behaviour.{adapt, after_record, apply, decide, decide_cart, decide_open, decide_shut, empty_state, folded, gives, has_item, in_version, item_among, items_adjusted, items_without, most, most_items, no, ok, pays_in, takes_out, with_memo}
use Rattle.yard_model.specs.Equal.{is_decision}
use Rattle.yard_model.specs.Genuine.{is_producer}
use Rattle.yard_model.specs.Lawful.{is_decided, is_folded_after, is_merged_after, is_of_shard, is_shard_entry, own}
use Rattle.yard_model.specs.Opening.{begins}
use Rattle.yard_model.specs.Script.{Script, is_name, versions}
use Rattle.yard_model.specs.SlotReads.{journal, journal_step}
use Rattle.yard_laws.proofs.Owned.{shard_to}
use Rattle.fact_lines.specs.Readable.{FitsReply}

-- the numbers of a state are bounded
abbrev Small : State → Type 0
Small (state.Counter n) = n ≤ most
Small state.NoAccount = Unit {0}
Small (state.Open b m) = b ≤ most
Small state.Closed = Unit {0}
Small (state.Cart out items) = length items ≤ 16

-- the reply fits its line, and so will those at the state that the events lead to
record Stays (st : State) (d : Decision) : Type 0 where
  reply : FitsReply d.reply
  next : Small (fold apply st d.events)

refused : (st : State) (r : ℕ) → r ≤ 255 → Small st → Stays st (no r)
refused st r l h = record { reply = l; next = h }

answered : (st : State) (n : ℕ) → n ≤ most → Small st → Stays st (ok n)
answered st n l h = record { reply = omega (arith, l); next = h }

led : (st : State) (e : Event) (n : ℕ) → n ≤ most → Small (apply st e) → Stays st (gives e n)
led st e n l h = record { reply = omega (arith, l); next = h }

-- Accounts.

pays : (b m k n : ℕ) (e : Event) → b ≤ most → apply (state.Open b m) e ≡ state.Open (b + k) n → Stays (state.Open b m) (pays_in b k e)
pays b m k n e h is = by (nat_lt most (b + k)) refl
  where
    by : (t : Bool) → nat_lt most (b + k) ≡ t → Stays (state.Open b m) (if t then no 5 else gives e (b + k))
    by true q = refused (state.Open b m) 5 (omega arith) h
    by false q = let l : b + k ≤ most = not_below most (b + k) q in led (state.Open b m) e (b + k) l (subst Small (sym is) l)

takes : (b m k n : ℕ) (e : Event) → b ≤ most → apply (state.Open b m) e ≡ state.Open (b - k) n → Stays (state.Open b m) (takes_out b k e)
takes b m k n e h is = by (nat_lt b k)
  where
    by : (t : Bool) → Stays (state.Open b m) (if t then no 3 else gives e (b - k))
    by true = refused (state.Open b m) 3 (omega arith) h
    by false = let l : b - k ≤ most = omega (arith, h) in led (state.Open b m) e (b - k) l (subst Small (sym is) l)

memo : (st : State) (v : ℕ) (d : Decision) → Small st → Stays st d → Stays st (with_memo v d)
memo st v d h s = by (nat_lt v 2)
  where
    by : (t : Bool) → Stays st (if t then no 6 else d)
    by true = refused st 6 (omega arith) h
    by false = s

paid : (v b m k : ℕ) → apply (state.Open b m) (in_version v (event.Deposited k)) ≡ state.Open (b + k) 0
paid v b m k = by (nat_lt v 2)
  where
    by : (t : Bool) → apply (state.Open b m) (if t then event.Deposited k else adapt (event.Deposited k)) ≡ state.Open (b + k) 0
    by true = refl
    by false = refl

taken : (v b m k : ℕ) → apply (state.Open b m) (in_version v (event.Withdrawn k)) ≡ state.Open (b - k) 0
taken v b m k = by (nat_lt v 2)
  where
    by : (t : Bool) → apply (state.Open b m) (if t then event.Withdrawn k else adapt (event.Withdrawn k)) ≡ state.Open (b - k) 0
    by true = refl
    by false = refl

open_stays : (v b m : ℕ) (k : Command) → b ≤ most → Stays (state.Open b m) (decide_open v b k)
open_stays v b m command.Create h = refused (state.Open b m) 2 (omega arith) h
open_stays v b m (command.Deposit k) h = pays b m k 0 (in_version v (event.Deposited k)) h (paid v b m k)
open_stays v b m (command.Withdraw k) h = takes b m k 0 (in_version v (event.Withdrawn k)) h (taken v b m k)
open_stays v b m (command.DepositWithMemo n k) h = memo (state.Open b m) v (pays_in b k (event.DepositedWithMemo n k)) h (pays b m k n (event.DepositedWithMemo n k) h refl)
open_stays v b m (command.WithdrawWithMemo n k) h = memo (state.Open b m) v (takes_out b k (event.WithdrawnWithMemo n k)) h (takes b m k n (event.WithdrawnWithMemo n k) h refl)
open_stays v b m command.Balance h = answered (state.Open b m) b h h
open_stays v b m command.Close h = by (b == 0)
  where
    by : (t : Bool) → Stays (state.Open b m) (if t then gives event.AccountClosed 0 else no 4)
    by true = led (state.Open b m) event.AccountClosed 0 (omega arith) tt
    by false = refused (state.Open b m) 4 (omega arith) h
open_stays v b m k h = refused (state.Open b m) 0 (omega arith) h

none_stays : (v : ℕ) (k : Command) → Stays state.NoAccount (decide_shut v state.NoAccount k)
none_stays v command.Create = led state.NoAccount event.Created 0 (omega arith) (omega arith)
none_stays v (command.DepositWithMemo n k) = memo state.NoAccount v (no 1) tt (refused state.NoAccount 1 (omega arith) tt)
none_stays v (command.WithdrawWithMemo n k) = memo state.NoAccount v (no 1) tt (refused state.NoAccount 1 (omega arith) tt)
none_stays v k = refused state.NoAccount 1 (omega arith) tt

closed_stays : (v : ℕ) (k : Command) → Stays state.Closed (decide_shut v state.Closed k)
closed_stays v command.Create = refused state.Closed 2 (omega arith) tt
closed_stays v (command.DepositWithMemo n k) = memo state.Closed v (no 1) tt (refused state.Closed 1 (omega arith) tt)
closed_stays v (command.WithdrawWithMemo n k) = memo state.Closed v (no 1) tt (refused state.Closed 1 (omega arith) tt)
closed_stays v k = refused state.Closed 1 (omega arith) tt

-- Carts.

one_more : (x : CartItem) (items : List CartItem) → length (item_among x items) ≡ length items + 1
one_more x [] = refl
one_more x (y ∷ ys) = by (nat_lt x.item y.item) (one_more x ys)
  where
    by : (t : Bool) → length (item_among x ys) ≡ length ys + 1 → length (if t then x ∷ y ∷ ys else y ∷ item_among x ys) ≡ length (y ∷ ys) + 1
    by true e = omega arith
    by false e = omega (arith, e)

no_more : (i : ℕ) (items : List CartItem) → length (items_without i items) ≤ length items
no_more i [] = omega arith
no_more i (y ∷ ys) = by (not (y.item == i)) (no_more i ys)
  where
    by : (t : Bool) → length (items_without i ys) ≤ length ys → length (if t then y ∷ items_without i ys else items_without i ys) ≤ length (y ∷ ys)
    by true e = omega (arith, e)
    by false e = omega (arith, e)

cart_stays : (items : List CartItem) (k : Command) → length items ≤ 16 → Stays (state.Cart false items) (decide_cart items k)
cart_stays items (command.AddItem x) h = by (has_item x.item items)
  where
    room : (t : Bool) → nat_lt (length items) most_items ≡ t → Stays (state.Cart false items) (if t then gives (event.ItemAdded x) (length items + 1) else no 3)
    room true q =
        let l : length items < most_items = below (length items) most_items q in
        let more : length (item_among x items) ≡ length items + 1 = one_more x items in
        led (state.Cart false items) (event.ItemAdded x) (length items + 1) (omega (arith, l)) (omega (arith, l, more))
    room false q = refused (state.Cart false items) 3 (omega arith) h

    by : (t : Bool) → Stays (state.Cart false items) (if t then no 2 else if nat_lt (length items) most_items then gives (event.ItemAdded x) (length items + 1) else no 3)
    by true = refused (state.Cart false items) 2 (omega arith) h
    by false = room (nat_lt (length items) most_items) refl
cart_stays items (command.RemoveItem i) h = by (has_item i items)
  where
    by : (t : Bool) → Stays (state.Cart false items) (if t then gives (event.ItemRemoved i) (length items - 1) else no 4)
    by true = let less = no_more i items in led (state.Cart false items) (event.ItemRemoved i) (length items - 1) (omega (arith, h)) (omega (arith, h, less))
    by false = refused (state.Cart false items) 4 (omega arith) h
cart_stays items (command.AdjustItem x) h = by (has_item x.item items)
  where
    by : (t : Bool) → Stays (state.Cart false items) (if t then gives (event.ItemAdjusted x) (length items) else no 4)
    by true =
        let same : length (items_adjusted x items) ≡ length items = length-map items _ in
        led (state.Cart false items) (event.ItemAdjusted x) (length items) (omega (arith, h)) (omega (arith, h, same))
    by false = refused (state.Cart false items) 4 (omega arith) h
cart_stays items command.Checkout h = by (length items == 0)
  where
    by : (t : Bool) → Stays (state.Cart false items) (if t then no 5 else gives event.CheckedOut (length items))
    by true = refused (state.Cart false items) 5 (omega arith) h
    by false = led (state.Cart false items) event.CheckedOut (length items) (omega (arith, h)) h
cart_stays items k h = refused (state.Cart false items) 0 (omega arith) h

-- What is decided.

counter_stays : (v n : ℕ) (k : Command) → n ≤ most → Stays (state.Counter n) (decide v (state.Counter n) k)
counter_stays v n (command.Add k) h = by (nat_lt most (n + k)) refl
  where
    by : (t : Bool) → nat_lt most (n + k) ≡ t → Stays (state.Counter n) (if t then no 1 else gives (event.Added k) (n + k))
    by true q = refused (state.Counter n) 1 (omega arith) h
    by false q = let l : n + k ≤ most = not_below most (n + k) q in led (state.Counter n) (event.Added k) (n + k) l l
counter_stays v n k h = answered (state.Counter n) n h h

decided_stays : (v : ℕ) (st : State) (k : Command) → Small st → Stays st (decide v st k)
decided_stays v (state.Counter n) k h = counter_stays v n k h
decided_stays v state.NoAccount k h = none_stays v k
decided_stays v (state.Open b m) k h = open_stays v b m k h
decided_stays v state.Closed k h = closed_stays v k
decided_stays v (state.Cart true items) k h = refused (state.Cart true items) 1 (omega arith) h
decided_stays v (state.Cart false items) k h = cart_stays items k h

-- A lawful list.

abbrev pub SameDecision : Type 0
SameDecision = (a b : Decision) → IsTrue (is_decision a b) ↔ (a ≡ b)

some_in : (p : ℕ → Bool) (xs : List ℕ) → list_any p xs ≡ true → (x : ℕ) × (p x ≡ true)
some_in p [] h = absurd (true_is_not_false (sym h))
some_in p (x ∷ xs) h = elim (p x) as (λ b. p x ≡ b → (b || list_any p xs) ≡ true → (y : ℕ) × (p y ≡ true)) [
  | true ↦ λ t g. (x, t)
  | false ↦ λ t g. some_in p xs g
] refl h

record_stays : (c : Script) (before : List Record) (r : Record) → SameDecision → Small (folded c.config.kind before) → is_folded_after c before r ≡ true → Stays (folded c.config.kind before) (record { events = r.events; reply = r.reply })
record_stays c before r decisions small h =
    let st : State = folded c.config.kind before in
    let some : (v : ℕ) × (is_decided v c before r ≡ true) = some_in (λ v. is_decided v c before r) (versions c) (and_both (r.number == length before + 1) _ h).1 in
    let is : decide some.0 st r.command ≡ record { events = r.events; reply = r.reply } = (decisions (decide some.0 st r.command) (record { events = r.events; reply = r.reply })).0 some.1 in
    subst (Stays st) is (decided_stays some.0 st r.command small)

abbrev pub IsAnswered : Fact → Type 0
IsAnswered (fact.Wrote e r) = FitsReply r.reply
IsAnswered f = Unit {0}

abbrev pub AreAnswered : List Fact → Type 0
AreAnswered [] = Unit {0}
AreAnswered (f ∷ fs) = IsAnswered f × AreAnswered fs

answered_more : (fs : List Fact) (f : Fact) → AreAnswered fs → IsAnswered f → AreAnswered (fs ++ f ∷ [])
answered_more [] f h one = (one, tt)
answered_more (g ∷ gs) f h one = (h.0, answered_more gs f h.1 one)

-- what is kept along a list
record Keeps (k : Kind) (list : List Fact) : Type 0 where
  replies : AreAnswered list
  small : (e : List ℕ) → Small (folded k (journal e list))

journal_next : (e : List ℕ) (list : List Fact) (f : Fact) → journal e (list ++ f ∷ []) ≡ journal_step e (journal e list) f
journal_next e list f = fold-append (journal_step e) [] list (f ∷ [])

folded_next : (k : Kind) (rs : List Record) (r : Record) → folded k (rs ++ r ∷ []) ≡ after_record (folded k rs) r
folded_next k rs r = fold-append after_record (empty_state k) rs (r ∷ [])

nothing_small : (k : Kind) → Small (folded k [])
nothing_small kind.Counter = omega arith
nothing_small kind.Account = tt
nothing_small kind.Cart = omega arith

stays_small : (k : Kind) (e : List ℕ) (list : List Fact) (f : Fact) → Small (folded k (journal_step e (journal e list) f)) → Small (folded k (journal e (list ++ f ∷ [])))
stays_small k e list f h = subst (λ rs. Small (folded k rs)) (sym (journal_next e list f)) h

keeps_more : (c : Script) (s : ℕ) → SameDecision → (list : List Fact) (f : Fact) → Keeps c.config.kind list → (begins f || is_shard_entry c s list f) ≡ true → Keeps c.config.kind (list ++ f ∷ [])
keeps_more c s decisions list (fact.Wrote x r) kept entry =
    let parts = and_both (is_of_shard c s x && is_producer c r.producer && is_folded_after c (journal x list) r) (is_merged_after c x (journal x list) r) entry in
    let follows : is_folded_after c (journal x list) r ≡ true = (and_both (is_of_shard c s x && is_producer c r.producer) (is_folded_after c (journal x list) r) parts.0).1 in
    let stays : Stays (folded c.config.kind (journal x list)) (record { events = r.events; reply = r.reply }) = record_stays c (journal x list) r decisions (kept.small x) follows in
    record {
      replies = answered_more list (fact.Wrote x r) kept.replies stays.reply;
      small = λ e. stays_small c.config.kind e list (fact.Wrote x r) (by e (is_name x e) refl (kept.small e) stays.next);
    }
  where
    by : (e : List ℕ) (t : Bool) → is_name x e ≡ t → Small (folded c.config.kind (journal e list)) → Small (after_record (folded c.config.kind (journal x list)) r) → Small (folded c.config.kind (if t then journal e list ++ r ∷ [] else journal e list))
    by e true q old new = subst Small (sym (folded_next c.config.kind (journal e list) r)) (subst (λ n. Small (after_record (folded c.config.kind (journal n list)) r)) (same_name x e q) new)
    by e false q old new = old
keeps_more c s decisions list f kept entry = record { replies = answered_more list f kept.replies tt; small = λ e. stays_small c.config.kind e list f (kept.small e) }

-- of a shard's list that is lawful by itself
pub answers_fit : (c : Script) (s : ℕ) (list : List Fact) → SameDecision → own c (slot.Shard s) list ≡ true → AreAnswered list
answers_fit c s list decisions o =
    (shard_to c s (Keeps c.config.kind) (record { replies = tt; small = λ e. nothing_small c.config.kind }) (keeps_more c s decisions) list o).replies
