-- What entities do (Akka 2.6, Event Sourcing): the command handler Decide gives events and a reply, the event handler
-- Apply gives the state after an event, and Fold is the state after the records of a journal. A behaviour is of version 1
-- or 2: in version 2 the events of an account have a memo, and Adapt (Akka 2.6, Event Sourcing: event adapters) makes an
-- event of version 1 one of version 2.
use Rattle.std.specs.Prelude.{ℕ, ◌+◌, ◌-◌, Bool, true, false, ◌==◌, ◌&&◌, nat_lt, nat_le, not, List, [], ◌∷◌, length, map, filter, fold, if◌then◌else◌}
use Rattle.std.specs.List.{list_any, list_all}
use Rattle.yard_model.specs.declared.event.Kind.{Kind}
use Rattle.yard_model.specs.declared.event.Kind.TheVariants as kind
use Rattle.yard_model.specs.declared.event.Command.{Command}
use Rattle.yard_model.specs.declared.event.Command.TheVariants as command
use Rattle.yard_model.specs.declared.event.Event.{Event}
use Rattle.yard_model.specs.declared.event.Event.TheVariants as event
use Rattle.yard_model.specs.declared.event.Reply.TheVariants as reply
use Rattle.yard_model.specs.declared.event.Decision.{Decision}
use Rattle.yard_model.specs.declared.state.State.{State}
use Rattle.yard_model.specs.declared.state.State.TheVariants as state
use Rattle.yard_model.specs.declared.state.CartItem.{CartItem}
use Rattle.yard_model.specs.declared.packet.Record.{Record}

-- a number from a to b
abbrev pub is_in : ℕ → ℕ → ℕ → Bool
is_in a b n = nat_le a n && nat_le n b

-- the greatest total and balance
abbrev pub most : ℕ
most = 1000000000000000

abbrev pub most_items : ℕ
most_items = 16

abbrev pub is_amount : ℕ → Bool
is_amount k = is_in 1 1000000 k

-- the greatest memo
abbrev pub most_memo : ℕ
most_memo = 9999

abbrev pub is_memo : ℕ → Bool
is_memo m = is_in 1 most_memo m

abbrev pub is_item_number : ℕ → Bool
is_item_number i = is_in 1 9999 i

abbrev pub is_item : CartItem → Bool
is_item x = is_item_number x.item && is_in 1 1000 x.quantity

-- a command is of a kind where it stands in that kind's table with its numbers in range
abbrev pub is_of_kind : Kind → Command → Bool
is_of_kind kind.Counter (command.Add k) = is_in 1 1000 k
is_of_kind kind.Counter command.Read = true
is_of_kind kind.Account command.Create = true
is_of_kind kind.Account (command.Deposit k) = is_amount k
is_of_kind kind.Account (command.Withdraw k) = is_amount k
is_of_kind kind.Account (command.DepositWithMemo m k) = is_amount k && is_memo m
is_of_kind kind.Account (command.WithdrawWithMemo m k) = is_amount k && is_memo m
is_of_kind kind.Account command.Balance = true
is_of_kind kind.Account command.Close = true
is_of_kind kind.Cart (command.AddItem x) = is_item x
is_of_kind kind.Cart (command.RemoveItem i) = is_item_number i
is_of_kind kind.Cart (command.AdjustItem x) = is_item x
is_of_kind kind.Cart command.Checkout = true
is_of_kind k c = false

-- no R: no event
abbrev pub no : ℕ → Decision
no r = record { events = []; reply = reply.Rejected r }

-- ok V, with no event
abbrev pub ok : ℕ → Decision
ok v = record { events = []; reply = reply.Value v }

-- an event, and ok V
abbrev pub gives : Event → ℕ → Decision
gives e v = record { events = e ∷ []; reply = reply.Value v }

-- Adapt: the event of version 2; an event that has none of its own there stays
abbrev pub adapt : Event → Event
adapt (event.Deposited k) = event.DepositedWithMemo 0 k
adapt (event.Withdrawn k) = event.WithdrawnWithMemo 0 k
adapt e = e

-- an event of version 1, as this version tells it
abbrev pub in_version : ℕ → Event → Event
in_version v e = if nat_lt v 2 then e else adapt e

-- a command with a memo is refused in version 1, in every state
abbrev pub with_memo : ℕ → Decision → Decision
with_memo v d = if nat_lt v 2 then no 6 else d

-- pays in, or takes out, with this event
abbrev pub pays_in : ℕ → ℕ → Event → Decision
pays_in b k e = if nat_lt most (b + k) then no 5 else gives e (b + k)

abbrev pub takes_out : ℕ → ℕ → Event → Decision
takes_out b k e = if nat_lt b k then no 3 else gives e (b - k)

abbrev pub decide_open : ℕ → ℕ → Command → Decision
decide_open v b command.Create = no 2
decide_open v b (command.Deposit k) = pays_in b k (in_version v (event.Deposited k))
decide_open v b (command.Withdraw k) = takes_out b k (in_version v (event.Withdrawn k))
decide_open v b (command.DepositWithMemo m k) = with_memo v (pays_in b k (event.DepositedWithMemo m k))
decide_open v b (command.WithdrawWithMemo m k) = with_memo v (takes_out b k (event.WithdrawnWithMemo m k))
decide_open v b command.Balance = ok b
decide_open v b command.Close = if b == 0 then gives event.AccountClosed 0 else no 4
decide_open v b c = no 0

-- an account that isn't open
abbrev pub decide_shut : ℕ → State → Command → Decision
decide_shut v state.NoAccount command.Create = gives event.Created 0
decide_shut v st command.Create = no 2
decide_shut v st (command.DepositWithMemo m k) = with_memo v (no 1)
decide_shut v st (command.WithdrawWithMemo m k) = with_memo v (no 1)
decide_shut v st c = no 1

abbrev pub has_item : ℕ → List CartItem → Bool
has_item i items = list_any (λ x. x.item == i) items

abbrev pub decide_cart : List CartItem → Command → Decision
decide_cart items (command.AddItem x) =
    if has_item x.item items then no 2 else if nat_lt (length items) most_items then gives (event.ItemAdded x) (length items + 1) else no 3
decide_cart items (command.RemoveItem i) = if has_item i items then gives (event.ItemRemoved i) (length items - 1) else no 4
decide_cart items (command.AdjustItem x) = if has_item x.item items then gives (event.ItemAdjusted x) (length items) else no 4
decide_cart items command.Checkout = if length items == 0 then no 5 else gives event.CheckedOut (length items)
decide_cart items c = no 0

-- Decide, of a version: the events and the reply of a command at a state, whose kind is that of the command
abbrev pub decide : ℕ → State → Command → Decision
decide v (state.Counter n) (command.Add k) = if nat_lt most (n + k) then no 1 else gives (event.Added k) (n + k)
decide v (state.Counter n) c = ok n
decide v (state.Open b m) c = decide_open v b c
decide v (state.Cart true items) c = no 1
decide v (state.Cart false items) c = decide_cart items c
decide v st c = decide_shut v st c

-- an item among others, before the first of a higher number
abbrev pub item_among : CartItem → List CartItem → List CartItem
item_among x [] = x ∷ []
item_among x (y ∷ ys) = if nat_lt x.item y.item then x ∷ y ∷ ys else y ∷ item_among x ys

abbrev pub items_without : ℕ → List CartItem → List CartItem
items_without i items = filter (λ x. not (x.item == i)) items

-- the item itself in the place of one of its number
abbrev pub adjusted : CartItem → CartItem → CartItem
adjusted x y = if y.item == x.item then x else y

abbrev pub items_adjusted : CartItem → List CartItem → List CartItem
items_adjusted x items = map (adjusted x) items

-- the state after an event of version 2
abbrev pub apply_adapted : State → Event → State
apply_adapted (state.Counter n) (event.Added k) = state.Counter (n + k)
apply_adapted state.NoAccount event.Created = state.Open 0 0
apply_adapted (state.Open b m) (event.DepositedWithMemo n k) = state.Open (b + k) n
apply_adapted (state.Open b m) (event.WithdrawnWithMemo n k) = state.Open (b - k) n
apply_adapted (state.Open b m) event.AccountClosed = state.Closed
apply_adapted (state.Cart out items) (event.ItemAdded x) = state.Cart out (item_among x items)
apply_adapted (state.Cart out items) (event.ItemRemoved i) = state.Cart out (items_without i items)
apply_adapted (state.Cart out items) (event.ItemAdjusted x) = state.Cart out (items_adjusted x items)
apply_adapted (state.Cart out items) event.CheckedOut = state.Cart true items
apply_adapted st e = st

-- Apply: the state after an event, of either version
abbrev pub apply : State → Event → State
apply st e = apply_adapted st (adapt e)

-- an event is applicable where some command of the state's kind is answered with it alone, in one version or the other
abbrev pub is_applicable : State → Event → Bool
is_applicable (state.Counter n) (event.Added k) = is_in 1 1000 k && nat_le (n + k) most
is_applicable state.NoAccount event.Created = true
is_applicable (state.Open b m) (event.Deposited k) = is_amount k && nat_le (b + k) most
is_applicable (state.Open b m) (event.Withdrawn k) = is_amount k && nat_le k b
is_applicable (state.Open b m) (event.DepositedWithMemo n k) = is_amount k && nat_le n most_memo && nat_le (b + k) most
is_applicable (state.Open b m) (event.WithdrawnWithMemo n k) = is_amount k && nat_le n most_memo && nat_le k b
is_applicable (state.Open b m) event.AccountClosed = b == 0
is_applicable (state.Cart false items) (event.ItemAdded x) = is_item x && not (has_item x.item items) && nat_lt (length items) most_items
is_applicable (state.Cart false items) (event.ItemRemoved i) = is_item_number i && has_item i items
is_applicable (state.Cart false items) (event.ItemAdjusted x) = is_item x && has_item x.item items
is_applicable (state.Cart false items) event.CheckedOut = nat_lt 0 (length items)
is_applicable st e = false

-- events are applicable one after the other
abbrev pub are_applicable : State → List Event → Bool
are_applicable st [] = true
are_applicable st (e ∷ es) = is_applicable st e && are_applicable (apply st e) es

abbrev pub is_below_all : CartItem → List CartItem → Bool
is_below_all x items = list_all (λ y. nat_lt x.item y.item) items

-- by rising number, each once
abbrev pub are_rising : List CartItem → Bool
are_rising [] = true
are_rising (x ∷ xs) = is_below_all x xs && are_rising xs

-- a state that entities of this kind can be in
abbrev pub is_valid : Kind → State → Bool
is_valid kind.Counter (state.Counter n) = nat_le n most
is_valid kind.Account state.NoAccount = true
is_valid kind.Account (state.Open b m) = nat_le b most && nat_le m most_memo
is_valid kind.Account state.Closed = true
is_valid kind.Cart (state.Cart out items) = are_rising items && list_all is_item items && nat_le (length items) most_items
is_valid k st = false

-- the state before the first record
abbrev pub empty_state : Kind → State
empty_state kind.Counter = state.Counter 0
empty_state kind.Account = state.NoAccount
empty_state kind.Cart = state.Cart false []

-- the state after the events of a record
abbrev pub after_record : State → Record → State
after_record st r = fold apply st r.events

-- Fold: the state after the events of the records
abbrev pub folded : Kind → List Record → State
folded k records = fold after_record (empty_state k) records
