-- Laws of what entities do.
use Rattle.std.specs.Prelude.{◌≡◌, ℕ, ◌+◌, ◌-◌, ◌≤◌, Bool, true, false, ◌&&◌, ◌==◌, not, nat_lt, nat_le, cond, IsTrue, List, [], ◌∷◌, length, fold, refl}
use Rattle.std.specs.List.{list_all}
use Rattle.std.proofs.Common.{arith, lit≤, ap}
use Rattle.yard_model.specs.declared.event.Kind.{Kind}
use Rattle.yard_model.specs.declared.event.Kind.TheVariants as kind
use Rattle.yard_model.specs.declared.event.Command.{Command}
use Rattle.yard_model.specs.declared.event.Command.TheVariants as command
use Rattle.yard_model.specs.declared.event.Event.{Event}
use Rattle.yard_model.specs.declared.event.Event.TheVariants as event
use Rattle.yard_model.specs.declared.event.Decision.{Decision}
use Rattle.yard_model.specs.declared.state.State.{State}
use Rattle.yard_model.specs.declared.state.State.TheVariants as state
use Rattle.yard_model.specs.declared.state.CartItem.{CartItem}
use Rattle.yard_model.specs.Behaviour.{is_in, is_amount, is_memo, is_item_number, is_item, is_of_kind, is_valid, is_applicable, are_applicable, are_rising, has_item, item_among, items_without, items_adjusted, empty_state, decide, adapt, in_version, pays_in, takes_out, with_memo, apply, apply_adapted, no, gives, most, most_memo, most_items}
use Rattle.behaviour_core.specs.Booleans.{both, first, second, false_of_not, not_of_false, le_of_not_lt, le_of_sub, le_of, le_from, le_of_lt, lt_from_nonzero}
use Rattle.behaviour_core.specs.CartLaws.{all_among, length_among, rising_among, all_filtered, length_filtered, rising_filtered, all_adjusted, length_adjusted, rising_adjusted}

pub empty_is_valid : (k : Kind) → IsTrue (is_valid k (empty_state k))
empty_is_valid kind.Counter = refl
empty_is_valid kind.Account = refl
empty_is_valid kind.Cart = refl

-- the numbers of a command are in range
abbrev has_numbers : Command → Bool
has_numbers (command.Add k) = is_in 1 1000 k
has_numbers (command.Deposit k) = is_amount k
has_numbers (command.Withdraw k) = is_amount k
has_numbers (command.DepositWithMemo m k) = is_amount k && is_memo m
has_numbers (command.WithdrawWithMemo m k) = is_amount k && is_memo m
has_numbers (command.AddItem x) = is_item x
has_numbers (command.RemoveItem i) = is_item_number i
has_numbers (command.AdjustItem x) = is_item x
has_numbers c = true

numbers_of_kind : (k : Kind) (c : Command) → IsTrue (is_of_kind k c) → IsTrue (has_numbers c)
numbers_of_kind kind.Counter (command.Add k) h = h
numbers_of_kind kind.Account (command.Deposit k) h = h
numbers_of_kind kind.Account (command.Withdraw k) h = h
numbers_of_kind kind.Account (command.DepositWithMemo m k) h = h
numbers_of_kind kind.Account (command.WithdrawWithMemo m k) h = h
numbers_of_kind kind.Cart (command.AddItem x) h = h
numbers_of_kind kind.Cart (command.RemoveItem i) h = h
numbers_of_kind kind.Cart (command.AdjustItem x) h = h
numbers_of_kind kind.Counter command.Read h = refl
numbers_of_kind kind.Account command.Create h = refl
numbers_of_kind kind.Account command.Balance h = refl
numbers_of_kind kind.Account command.Close h = refl
numbers_of_kind kind.Cart command.Checkout h = refl
numbers_of_kind k c h = cc

-- one event, that is applicable
one_applies : (st : State) (e : Event) → IsTrue (is_applicable st e) → IsTrue (is_applicable st e && true)
one_applies st e h = both (is_applicable st e) true h refl

-- refused where the test holds
refused_if : (b : Bool) (st : State) (e : Event) (v r : ℕ) → (b ≡ false → IsTrue (is_applicable st e)) → IsTrue (are_applicable st (cond b (no r) (gives e v)).events)
refused_if true st e v r h = refl
refused_if false st e v r h = one_applies st e (h refl)

-- refused where it doesn't
refused_unless : (b : Bool) (st : State) (e : Event) (v r : ℕ) → (b ≡ true → IsTrue (is_applicable st e)) → IsTrue (are_applicable st (cond b (gives e v) (no r)).events)
refused_unless true st e v r h = one_applies st e (h refl)
refused_unless false st e v r h = refl

counter_applies : (v n : ℕ) (c : Command) → IsTrue (has_numbers c) → IsTrue (are_applicable (state.Counter n) (decide v (state.Counter n) c).events)
counter_applies v n (command.Add k) h = refused_if (nat_lt most (n + k)) (state.Counter n) (event.Added k) (n + k) 1 (λ f. both (is_in 1 1000 k) (nat_le (n + k) most) h (le_of_not_lt (n + k) most f))
counter_applies v n c h = refl

-- adapting twice is adapting once
pub adapted_is_itself : (e : Event) → adapt (adapt e) ≡ adapt e
adapted_is_itself (event.Deposited k) = refl
adapted_is_itself (event.Withdrawn k) = refl
adapted_is_itself e = refl

-- an event and its adapted form lead to the same state
pub adapted_is_alike : (st : State) (e : Event) → apply st (adapt e) ≡ apply st e
adapted_is_alike st e = ap (apply_adapted st) (adapted_is_itself e)

memo_may : (k m : ℕ) (fits : Bool) → IsTrue (is_amount k) → IsTrue (nat_le m most_memo) → IsTrue fits → IsTrue (is_amount k && nat_le m most_memo && fits)
memo_may k m fits amount memo f = both (is_amount k && nat_le m most_memo) fits (both (is_amount k) (nat_le m most_memo) amount memo) f

adapted_in_open : (b m : ℕ) (e : Event) → IsTrue (is_applicable (state.Open b m) e) → IsTrue (is_applicable (state.Open b m) (adapt e))
adapted_in_open b m (event.Deposited k) may = memo_may k 0 (nat_le (b + k) most) (first (is_amount k) (nat_le (b + k) most) may) refl (second (is_amount k) (nat_le (b + k) most) may)
adapted_in_open b m (event.Withdrawn k) may = memo_may k 0 (nat_le k b) (first (is_amount k) (nat_le k b) may) refl (second (is_amount k) (nat_le k b) may)
adapted_in_open b m e may = may

-- an applicable event's adapted form is applicable
pub adapted_may : (st : State) (e : Event) → IsTrue (is_applicable st e) → IsTrue (is_applicable st (adapt e))
adapted_may (state.Open b m) e may = adapted_in_open b m e may
adapted_may (state.Cart true items) (event.Deposited k) may = may
adapted_may (state.Cart true items) (event.Withdrawn k) may = may
adapted_may (state.Cart false items) (event.Deposited k) may = may
adapted_may (state.Cart false items) (event.Withdrawn k) may = may
adapted_may st (event.Deposited k) may = may
adapted_may st (event.Withdrawn k) may = may
adapted_may st e may = may

told_applies : (v : ℕ) (st : State) (e : Event) → IsTrue (is_applicable st e) → IsTrue (is_applicable st (in_version v e))
told_applies v st e may = by (nat_lt v 2)
  where
    by : (b : Bool) → IsTrue (is_applicable st (cond b e (adapt e)))
    by true = may
    by false = adapted_may st e may

memo_applies : (v : ℕ) (st : State) (d : Decision) → IsTrue (are_applicable st d.events) → IsTrue (are_applicable st (with_memo v d).events)
memo_applies v st d h = by (nat_lt v 2)
  where
    by : (b : Bool) → IsTrue (are_applicable st (cond b (no 6) d).events)
    by true = refl
    by false = h

pays_apply : (b m k : ℕ) (e : Event) → (IsTrue (nat_le (b + k) most) → IsTrue (is_applicable (state.Open b m) e)) → IsTrue (are_applicable (state.Open b m) (pays_in b k e).events)
pays_apply b m k e h = refused_if (nat_lt most (b + k)) (state.Open b m) e (b + k) 5 (λ f. h (le_of_not_lt (b + k) most f))

takes_apply : (b m k : ℕ) (e : Event) → (IsTrue (nat_le k b) → IsTrue (is_applicable (state.Open b m) e)) → IsTrue (are_applicable (state.Open b m) (takes_out b k e).events)
takes_apply b m k e h = refused_if (nat_lt b k) (state.Open b m) e (b - k) 3 (λ f. h (le_of_not_lt k b f))

-- the memo of a command that is in range
memo_from : (k m : ℕ) → IsTrue (is_amount k && is_memo m) → IsTrue (nat_le m most_memo)
memo_from k m h = second (nat_le 1 m) (nat_le m most_memo) (second (is_amount k) (is_memo m) h)

open_applies : (v b m : ℕ) (c : Command) → IsTrue (has_numbers c) → IsTrue (are_applicable (state.Open b m) (decide v (state.Open b m) c).events)
open_applies v b m (command.Deposit k) h = pays_apply b m k (in_version v (event.Deposited k)) (λ f. told_applies v (state.Open b m) (event.Deposited k) (both (is_amount k) (nat_le (b + k) most) h f))
open_applies v b m (command.Withdraw k) h = takes_apply b m k (in_version v (event.Withdrawn k)) (λ f. told_applies v (state.Open b m) (event.Withdrawn k) (both (is_amount k) (nat_le k b) h f))
open_applies v b m (command.DepositWithMemo n k) h = memo_applies v (state.Open b m) (pays_in b k (event.DepositedWithMemo n k)) (pays_apply b m k (event.DepositedWithMemo n k) (λ f. memo_may k n (nat_le (b + k) most) (first (is_amount k) (is_memo n) h) (memo_from k n h) f))
open_applies v b m (command.WithdrawWithMemo n k) h = memo_applies v (state.Open b m) (takes_out b k (event.WithdrawnWithMemo n k)) (takes_apply b m k (event.WithdrawnWithMemo n k) (λ f. memo_may k n (nat_le k b) (first (is_amount k) (is_memo n) h) (memo_from k n h) f))
open_applies v b m command.Close h = refused_unless (b == 0) (state.Open b m) event.AccountClosed 0 4 (λ f. f)
open_applies v b m c h = refl

none_applies : (v : ℕ) (c : Command) → IsTrue (are_applicable state.NoAccount (decide v state.NoAccount c).events)
none_applies v command.Create = refl
none_applies v (command.DepositWithMemo m k) = memo_applies v state.NoAccount (no 1) refl
none_applies v (command.WithdrawWithMemo m k) = memo_applies v state.NoAccount (no 1) refl
none_applies v c = refl

closed_applies : (v : ℕ) (c : Command) → IsTrue (are_applicable state.Closed (decide v state.Closed c).events)
closed_applies v command.Create = refl
closed_applies v (command.DepositWithMemo m k) = memo_applies v state.Closed (no 1) refl
closed_applies v (command.WithdrawWithMemo m k) = memo_applies v state.Closed (no 1) refl
closed_applies v c = refl

-- an item that is new, where there is room
added_applies : (there room : Bool) (items : List CartItem) (x : CartItem) (v : ℕ) → has_item x.item items ≡ there → nat_lt (length items) most_items ≡ room → IsTrue (is_item x) →
    IsTrue (are_applicable (state.Cart false items) (cond there (no 2) (cond room (gives (event.ItemAdded x) v) (no 3))).events)
added_applies true room items x v t r h = refl
added_applies false false items x v t r h = refl
added_applies false true items x v t r h =
    one_applies (state.Cart false items) (event.ItemAdded x)
    (both (is_item x && not (has_item x.item items)) (nat_lt (length items) most_items)
    (both (is_item x) (not (has_item x.item items)) h (not_of_false (has_item x.item items) t)) r)

cart_applies : (v : ℕ) (items : List CartItem) (c : Command) → IsTrue (has_numbers c) → IsTrue (are_applicable (state.Cart false items) (decide v (state.Cart false items) c).events)
cart_applies v items (command.AddItem x) h = added_applies (has_item x.item items) (nat_lt (length items) most_items) items x (length items + 1) refl refl h
cart_applies v items (command.RemoveItem i) h = refused_unless (has_item i items) (state.Cart false items) (event.ItemRemoved i) (length items - 1) 4 (λ t. both (is_item_number i) (has_item i items) h t)
cart_applies v items (command.AdjustItem x) h = refused_unless (has_item x.item items) (state.Cart false items) (event.ItemAdjusted x) (length items) 4 (λ t. both (is_item x) (has_item x.item items) h t)
cart_applies v items command.Checkout h = refused_if (length items == 0) (state.Cart false items) event.CheckedOut (length items) 5 (λ f. lt_from_nonzero (length items) f)
cart_applies v items c h = refl

numbers_apply : (v : ℕ) (st : State) (c : Command) → IsTrue (has_numbers c) → IsTrue (are_applicable st (decide v st c).events)
numbers_apply v (state.Counter n) c h = counter_applies v n c h
numbers_apply v state.NoAccount c h = none_applies v c
numbers_apply v (state.Open b m) c h = open_applies v b m c h
numbers_apply v state.Closed c h = closed_applies v c
numbers_apply v (state.Cart true items) c h = refl
numbers_apply v (state.Cart false items) c h = cart_applies v items c h

-- decided events are applicable one after the other
pub decided_events_apply : (v : ℕ) (k : Kind) (st : State) (c : Command) → IsTrue (is_of_kind k c) → IsTrue (are_applicable st (decide v st c).events)
decided_events_apply v k st c own = numbers_apply v st c (numbers_of_kind k c own)

few_if : (b : Bool) (d f : Decision) → length d.events ≤ 4 → length f.events ≤ 4 → length (cond b d f).events ≤ 4
few_if true d f h k = h
few_if false d f h k = k

few_memo : (v : ℕ) (d : Decision) → length d.events ≤ 4 → length (with_memo v d).events ≤ 4
few_memo v d h = few_if (nat_lt v 2) (no 6) d (lit≤ tt) h

few_pays : (b k : ℕ) (e : Event) → length (pays_in b k e).events ≤ 4
few_pays b k e = few_if (nat_lt most (b + k)) (no 5) (gives e (b + k)) (lit≤ tt) (lit≤ tt)

few_takes : (b k : ℕ) (e : Event) → length (takes_out b k e).events ≤ 4
few_takes b k e = few_if (nat_lt b k) (no 3) (gives e (b - k)) (lit≤ tt) (lit≤ tt)

few_open : (v b m : ℕ) (c : Command) → length (decide v (state.Open b m) c).events ≤ 4
few_open v b m (command.Deposit k) = few_pays b k (in_version v (event.Deposited k))
few_open v b m (command.Withdraw k) = few_takes b k (in_version v (event.Withdrawn k))
few_open v b m (command.DepositWithMemo n k) = few_memo v (pays_in b k (event.DepositedWithMemo n k)) (few_pays b k (event.DepositedWithMemo n k))
few_open v b m (command.WithdrawWithMemo n k) = few_memo v (takes_out b k (event.WithdrawnWithMemo n k)) (few_takes b k (event.WithdrawnWithMemo n k))
few_open v b m command.Close = few_if (b == 0) (gives event.AccountClosed 0) (no 4) (lit≤ tt) (lit≤ tt)
few_open v b m c = lit≤ tt

few_cart : (v : ℕ) (items : List CartItem) (c : Command) → length (decide v (state.Cart false items) c).events ≤ 4
few_cart v items (command.AddItem x) = few_if (has_item x.item items) (no 2) (cond (nat_lt (length items) most_items) (gives (event.ItemAdded x) (length items + 1)) (no 3)) (lit≤ tt) (few_if (nat_lt (length items) most_items) (gives (event.ItemAdded x) (length items + 1)) (no 3) (lit≤ tt) (lit≤ tt))
few_cart v items (command.RemoveItem i) = few_if (has_item i items) (gives (event.ItemRemoved i) (length items - 1)) (no 4) (lit≤ tt) (lit≤ tt)
few_cart v items (command.AdjustItem x) = few_if (has_item x.item items) (gives (event.ItemAdjusted x) (length items)) (no 4) (lit≤ tt) (lit≤ tt)
few_cart v items command.Checkout = few_if (length items == 0) (no 5) (gives event.CheckedOut (length items)) (lit≤ tt) (lit≤ tt)
few_cart v items c = lit≤ tt

few_counter : (v n : ℕ) (c : Command) → length (decide v (state.Counter n) c).events ≤ 4
few_counter v n (command.Add k) = few_if (nat_lt most (n + k)) (no 1) (gives (event.Added k) (n + k)) (lit≤ tt) (lit≤ tt)
few_counter v n c = lit≤ tt

few_none : (v : ℕ) (c : Command) → length (decide v state.NoAccount c).events ≤ 4
few_none v command.Create = lit≤ tt
few_none v (command.DepositWithMemo m k) = few_memo v (no 1) (lit≤ tt)
few_none v (command.WithdrawWithMemo m k) = few_memo v (no 1) (lit≤ tt)
few_none v c = lit≤ tt

few_closed : (v : ℕ) (c : Command) → length (decide v state.Closed c).events ≤ 4
few_closed v command.Create = lit≤ tt
few_closed v (command.DepositWithMemo m k) = few_memo v (no 1) (lit≤ tt)
few_closed v (command.WithdrawWithMemo m k) = few_memo v (no 1) (lit≤ tt)
few_closed v c = lit≤ tt

pub decided_events_are_few : (v : ℕ) (st : State) (c : Command) → length (decide v st c).events ≤ 4
decided_events_are_few v (state.Counter n) c = few_counter v n c
decided_events_are_few v state.NoAccount c = few_none v c
decided_events_are_few v (state.Open b m) c = few_open v b m c
decided_events_are_few v state.Closed c = few_closed v c
decided_events_are_few v (state.Cart true items) c = lit≤ tt
decided_events_are_few v (state.Cart false items) c = few_cart v items c

-- a cart's items are as they should be
valid_items : (rising each fits : Bool) → IsTrue rising → IsTrue each → IsTrue fits → IsTrue (rising && each && fits)
valid_items rising each fits r e f = both (rising && each) fits (both rising each r e) f

cart_after : (items : List CartItem) (e : Event) → IsTrue (is_valid kind.Cart (state.Cart false items)) → IsTrue (is_applicable (state.Cart false items) e) → IsTrue (is_valid kind.Cart (apply (state.Cart false items) e))
cart_after items (event.ItemAdded x) valid may =
    let ordered : IsTrue (are_rising items && list_all is_item items) = first (are_rising items && list_all is_item items) (nat_le (length items) most_items) valid in
    let new : IsTrue (is_item x && not (has_item x.item items)) = first (is_item x && not (has_item x.item items)) (nat_lt (length items) most_items) may in
    valid_items (are_rising (item_among x items)) (list_all is_item (item_among x items)) (nat_le (length (item_among x items)) most_items)
    (rising_among x items (false_of_not (has_item x.item items) (second (is_item x) (not (has_item x.item items)) new)) (first (are_rising items) (list_all is_item items) ordered))
    (all_among is_item x items (first (is_item x) (not (has_item x.item items)) new) (second (are_rising items) (list_all is_item items) ordered))
    (le_of (length (item_among x items)) most_items (omega (arith, length_among x items, le_of_lt (length items) most_items (second (is_item x && not (has_item x.item items)) (nat_lt (length items) most_items) may))))
cart_after items (event.ItemRemoved i) valid may =
    let ordered : IsTrue (are_rising items && list_all is_item items) = first (are_rising items && list_all is_item items) (nat_le (length items) most_items) valid in
    valid_items (are_rising (items_without i items)) (list_all is_item (items_without i items)) (nat_le (length (items_without i items)) most_items)
    (rising_filtered (λ x. not (x.item == i)) items (first (are_rising items) (list_all is_item items) ordered))
    (all_filtered is_item (λ x. not (x.item == i)) items (second (are_rising items) (list_all is_item items) ordered))
    (le_of (length (items_without i items)) most_items (omega (arith, length_filtered (λ x. not (x.item == i)) items, le_from (length items) most_items (second (are_rising items && list_all is_item items) (nat_le (length items) most_items) valid))))
cart_after items (event.ItemAdjusted x) valid may =
    let ordered : IsTrue (are_rising items && list_all is_item items) = first (are_rising items && list_all is_item items) (nat_le (length items) most_items) valid in
    valid_items (are_rising (items_adjusted x items)) (list_all is_item (items_adjusted x items)) (nat_le (length (items_adjusted x items)) most_items)
    (rising_adjusted x items (first (are_rising items) (list_all is_item items) ordered))
    (all_adjusted is_item x items (first (is_item x) (has_item x.item items) may) (second (are_rising items) (list_all is_item items) ordered))
    (rw (length_adjusted x items) (second (are_rising items && list_all is_item items) (nat_le (length items) most_items) valid))
cart_after items event.CheckedOut valid may = valid
cart_after items e valid may = valid

valid_open : (b m : ℕ) → IsTrue (nat_le b most) → IsTrue (nat_le m most_memo) → IsTrue (is_valid kind.Account (state.Open b m))
valid_open b m balance memo = both (nat_le b most) (nat_le m most_memo) balance memo

memo_of : (k n : ℕ) (fits : Bool) → IsTrue (is_amount k && nat_le n most_memo && fits) → IsTrue (nat_le n most_memo)
memo_of k n fits may = second (is_amount k) (nat_le n most_memo) (first (is_amount k && nat_le n most_memo) fits may)

open_after : (b m : ℕ) (e : Event) → IsTrue (is_valid kind.Account (state.Open b m)) → IsTrue (is_applicable (state.Open b m) e) → IsTrue (is_valid kind.Account (apply (state.Open b m) e))
open_after b m (event.Deposited k) valid may = valid_open (b + k) 0 (second (is_amount k) (nat_le (b + k) most) may) refl
open_after b m (event.Withdrawn k) valid may = valid_open (b - k) 0 (le_of_sub b k most (first (nat_le b most) (nat_le m most_memo) valid)) refl
open_after b m (event.DepositedWithMemo n k) valid may = valid_open (b + k) n (second (is_amount k && nat_le n most_memo) (nat_le (b + k) most) may) (memo_of k n (nat_le (b + k) most) may)
open_after b m (event.WithdrawnWithMemo n k) valid may = valid_open (b - k) n (le_of_sub b k most (first (nat_le b most) (nat_le m most_memo) valid)) (memo_of k n (nat_le k b) may)
open_after b m event.AccountClosed valid may = refl
open_after b m e valid may = cc

counter_after : (n : ℕ) (e : Event) → IsTrue (is_applicable (state.Counter n) e) → IsTrue (is_valid kind.Counter (apply (state.Counter n) e))
counter_after n (event.Added k) may = second (is_in 1 1000 k) (nat_le (n + k) most) may
counter_after n e may = cc

none_after : (e : Event) → IsTrue (is_applicable state.NoAccount e) → IsTrue (is_valid kind.Account (apply state.NoAccount e))
none_after event.Created may = refl
none_after e may = cc

-- a valid state stays valid
pub valid_after : (k : Kind) (st : State) (e : Event) → IsTrue (is_valid k st) → IsTrue (is_applicable st e) → IsTrue (is_valid k (apply st e))
valid_after kind.Counter (state.Counter n) e valid may = counter_after n e may
valid_after kind.Account state.NoAccount e valid may = none_after e may
valid_after kind.Account (state.Open b m) e valid may = open_after b m e valid may
valid_after kind.Account state.Closed e valid may = cc
valid_after kind.Cart (state.Cart true items) e valid may = cc
valid_after kind.Cart (state.Cart false items) e valid may = cart_after items e valid may
valid_after k st e valid may = cc

-- and after many
pub valid_after_all : (k : Kind) (st : State) (es : List Event) → IsTrue (is_valid k st) → IsTrue (are_applicable st es) → IsTrue (is_valid k (fold apply st es))
valid_after_all k st [] valid may = valid
valid_after_all k st (e ∷ es) valid may =
    let here : IsTrue (is_applicable st e) = first (is_applicable st e) (are_applicable (apply st e) es) may in
    let later : IsTrue (are_applicable (apply st e) es) = second (is_applicable st e) (are_applicable (apply st e) es) may in
    valid_after_all k (apply st e) es (valid_after k st e valid here) later

-- one event more
pub valid_and_applicable : (k : Kind) (st next : State) (e : Event) (es : List Event) → next ≡ apply st e → IsTrue (is_valid k st) → IsTrue (are_applicable st (e ∷ es)) → IsTrue (is_valid k next) × IsTrue (are_applicable next es)
valid_and_applicable k st next e es is valid may =
    rw is (valid_after k st e valid (first (is_applicable st e) (are_applicable (apply st e) es) may), second (is_applicable st e) (are_applicable (apply st e) es) may)
