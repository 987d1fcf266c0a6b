-- The orders of a script and the words that spell them. A word is missed where it would stand. Two words that are
-- read side by side (`&`) are refused for the one of their reasons that is tried first.
use Rattle.std.specs.Prelude.{ℕ, Bool, false, ◌==◌, not, if◌then◌else◌, List, [], ◌∷◌, Option, Some, None, Result, Ok, Err, codes}
use Rattle.yard_model.specs.declared.charter.Config.{Config}
use Rattle.yard_model.specs.declared.charter.Order.{Order}
use Rattle.yard_model.specs.declared.charter.Order.TheVariants as order
use Rattle.yard_model.specs.declared.event.Kind.{Kind}
use Rattle.yard_model.specs.declared.event.Kind.TheVariants as kind
use Rattle.yard_model.specs.declared.event.Command.{Command}
use Rattle.yard_model.specs.declared.event.Command.TheVariants as command
use Rattle.yard_model.specs.declared.incarnation.Keep.{Keep}
use Rattle.yard_model.specs.declared.incarnation.Keep.TheVariants as keep
use Rattle.yard_model.specs.declared.state.CartItem.{CartItem}
use Rattle.yard_model.specs.Behaviour.{is_in}
use Rattle.script_text.specs.declared.fault.Mode.{Mode}
use Rattle.script_text.specs.declared.fault.Mode.TheVariants as mode
use Rattle.script_text.specs.declared.fault.Why.{Why}
use Rattle.script_text.specs.declared.fault.Why.TheVariants as why
use Rattle.script_text.specs.declared.orders.Verb.{Verb}
use Rattle.script_text.specs.declared.orders.Verb.TheVariants as verb
use Rattle.script_text.specs.Faults.{◌>>=◌, ◌&◌}
use Rattle.script_text.specs.Words.{is_text, is_number, value_of, is_name_text}

-- the next word, and those after it
abbrev pub first : List (List ℕ) → Result (List ℕ × List (List ℕ)) Why
first [] = Err why.MissingWord
first (w ∷ ws) = Ok (w, ws)

-- no further word
abbrev pub no_more : List (List ℕ) → Result (Unit {0}) Why
no_more [] = Ok tt
no_more (w ∷ ws) = Err why.ExtraWord

-- one word alone
unfoldable pub only : List (List ℕ) → Result (List ℕ) Why
only ws = do
  w ← first ws
  end ← no_more w.1
  Ok w.0

-- a number from a to b
unfoldable pub number : ℕ → ℕ → List ℕ → Result ℕ Why
number a b w = if is_number w then (if is_in a b (value_of w) then Ok (value_of w) else Err why.OutOfRange) else Err why.BadNumber

unfoldable pub name : List ℕ → Result (List ℕ) Why
name w = if is_name_text w then Ok w else Err why.BadName

-- a number alone
unfoldable pub only_number : ℕ → ℕ → List (List ℕ) → Result ℕ Why
only_number a b ws = only ws >>= λ w. number a b w

-- an item's number and a quantity
unfoldable pub item : List (List ℕ) → Result CartItem Why
item ws = do
  i ← first ws
  q ← first i.1
  end ← no_more q.1
  x ← number 1 9999 i.0 & number 1 1000 q.0
  Ok (record { item = x.0; quantity = x.1 })

-- a memo, or none
unfoldable pub memo : List (List ℕ) → Result (Option ℕ) Why
memo [] = Ok None
memo (w ∷ ws) = no_more ws >>= λ end. number 1 9999 w >>= λ m. Ok (Some m)

-- an amount, and a memo or none
unfoldable pub amount : List (List ℕ) → Result (ℕ × Option ℕ) Why
amount ws = first ws >>= λ k. number 1 1000000 k.0 & memo k.1

abbrev pub paid_in : ℕ → Option ℕ → Command
paid_in k None = command.Deposit k
paid_in k (Some m) = command.DepositWithMemo m k

abbrev pub taken_out : ℕ → Option ℕ → Command
taken_out k None = command.Withdraw k
taken_out k (Some m) = command.WithdrawWithMemo m k

-- the words after `deposit`
unfoldable pub deposit : List (List ℕ) → Result Command Why
deposit ws = amount ws >>= λ x. Ok (paid_in x.0 x.1)

-- the words after `withdraw`
unfoldable pub withdraw : List (List ℕ) → Result Command Why
withdraw ws = amount ws >>= λ x. Ok (taken_out x.0 x.1)

unfoldable pub counter_command : List ℕ → List (List ℕ) → Result Command Why
counter_command w ws =
    if is_text w (codes "add") then (only_number 1 1000 ws >>= λ k. Ok (command.Add k))
    else if is_text w (codes "read") then (no_more ws >>= λ end. Ok command.Read)
    else Err why.UnknownWord

unfoldable pub account_command : List ℕ → List (List ℕ) → Result Command Why
account_command w ws =
    if is_text w (codes "create") then (no_more ws >>= λ end. Ok command.Create)
    else if is_text w (codes "deposit") then deposit ws
    else if is_text w (codes "withdraw") then withdraw ws
    else if is_text w (codes "balance") then (no_more ws >>= λ end. Ok command.Balance)
    else if is_text w (codes "close") then (no_more ws >>= λ end. Ok command.Close)
    else Err why.UnknownWord

unfoldable pub cart_command : List ℕ → List (List ℕ) → Result Command Why
cart_command w ws =
    if is_text w (codes "add") then (item ws >>= λ x. Ok (command.AddItem x))
    else if is_text w (codes "remove") then (only_number 1 9999 ws >>= λ i. Ok (command.RemoveItem i))
    else if is_text w (codes "adjust") then (item ws >>= λ x. Ok (command.AdjustItem x))
    else if is_text w (codes "checkout") then (no_more ws >>= λ end. Ok command.Checkout)
    else Err why.UnknownWord

-- a command of this kind: its first word, and the words after it
unfoldable pub command_of : Kind → List ℕ → List (List ℕ) → Result Command Why
command_of kind.Counter w ws = counter_command w ws
command_of kind.Account w ws = account_command w ws
command_of kind.Cart w ws = cart_command w ws

-- a send of these parts
abbrev pub joined : Result ℕ Why → Result (List ℕ) Why → Result Command Why → Result Order Why
joined p e k = p & e & k >>= λ x. Ok (order.Send x.0.0 x.0.1 x.1)

-- send P E COMMAND
unfoldable pub send : Config → List (List ℕ) → Result Order Why
send c ws = do
  p ← first ws
  e ← first p.1
  k ← first e.1
  x ← number 1 c.producers p.0 & name e.0 & command_of c.kind k.0 k.1
  Ok (order.Send x.0.0 x.0.1 x.1)

-- produce P N
unfoldable pub produce : Config → List (List ℕ) → Result Order Why
produce c ws = do
  p ← first ws
  n ← first p.1
  end ← no_more n.1
  x ← number 1 c.producers p.0 & number 1 c.nodes n.0
  Ok (order.Produce x.0 x.1)

unfoldable pub kept_or_lost : List ℕ → Result Keep Why
kept_or_lost w = if is_text w (codes "kept") then Ok keep.Kept else if is_text w (codes "lost") then Ok keep.Lost else Err why.UnknownWord

-- failwrite E kept, failwrite E lost
unfoldable pub fail_write : List (List ℕ) → Result Order Why
fail_write ws = do
  e ← first ws
  k ← first e.1
  keep ← kept_or_lost k.0
  end ← no_more k.1
  n ← name e.0
  Ok (order.FailWrite n keep)

-- the first word of an order
unfoldable pub verb_of : List ℕ → Result Verb Why
verb_of w =
    if is_text w (codes "send") then Ok verb.Send
    else if is_text w (codes "deliver") then Ok verb.Deliver
    else if is_text w (codes "pump") then Ok verb.Pump
    else if is_text w (codes "tick") then Ok verb.Tick
    else if is_text w (codes "up") then Ok verb.Up
    else if is_text w (codes "crash") then Ok verb.Crash
    else if is_text w (codes "leave") then Ok verb.Leave
    else if is_text w (codes "produce") then Ok verb.Produce
    else if is_text w (codes "rest") then Ok verb.Rest
    else if is_text w (codes "passivate") then Ok verb.Passivate
    else if is_text w (codes "failwrite") then Ok verb.FailWrite
    else if is_text w (codes "rebalance") then Ok verb.Rebalance
    else if is_text w (codes "settle") then Ok verb.Settle
    else if is_text w (codes "reshard") then Ok verb.Reshard
    else if is_text w (codes "upgrade") then Ok verb.Upgrade
    else if is_text w (codes "ping") then Ok verb.Ping
    else Err why.UnknownWord

-- the settings that a producer is read by: `pull` knows the first one alone
abbrev pub under : Mode → Config → Config
under mode.Pull c = record c { producers = 1 }
under m c = c

-- an order of a producer that the command doesn't know
abbrev pub is_foreign : Mode → Order → Bool
is_foreign mode.Pull (order.Produce p n) = not (p == 1)
is_foreign mode.Pull (order.Rest p) = not (p == 1)
is_foreign mode.Pull (order.Send p e k) = not (p == 1)
is_foreign m o = false

-- the words after it
unfoldable pub said : Mode → Config → Verb → List (List ℕ) → Result Order Why
said m c verb.Up ws = only_number 1 c.nodes ws >>= λ n. Ok (order.Up n)
said m c verb.Crash ws = only_number 1 c.nodes ws >>= λ n. Ok (order.Crash n)
said m c verb.Leave ws = only_number 1 c.nodes ws >>= λ n. Ok (order.Leave n)
said m c verb.Tick ws = only_number 1 c.nodes ws >>= λ n. Ok (order.Tick n)
said m c verb.Produce ws = produce (under m c) ws
said m c verb.Rest ws = only_number 1 (under m c).producers ws >>= λ p. Ok (order.Rest p)
said m c verb.Send ws = send (under m c) ws
said m c verb.Passivate ws = only ws >>= λ w. name w >>= λ e. Ok (order.Passivate e)
said m c verb.FailWrite ws = fail_write ws
said m c verb.Deliver ws = only_number 1 1000000 ws >>= λ k. Ok (order.Deliver k)
said m c verb.Pump ws = only_number 1 10000 ws >>= λ k. Ok (order.Pump k)
said m c verb.Rebalance ws = only_number 1 128 ws >>= λ l. Ok (order.Rebalance l)
said m c verb.Settle ws = no_more ws >>= λ end. Ok order.Settle
said m c verb.Reshard ws = only_number 1 128 ws >>= λ n. Ok (order.Reshard n)
said m c verb.Upgrade ws = no_more ws >>= λ end. Ok order.Upgrade
said m c verb.Ping ws = only_number 1 c.producers ws >>= λ p. Ok (order.Ping p)

-- the words of an order
unfoldable pub order_of : Mode → Config → List (List ℕ) → Result Order Why
order_of m c ws = do
  w ← first ws
  v ← verb_of w.0
  said m c v w.1
