-- What the line of an active entity spells, read from the front: who and which entity, how many records its journal has,
-- and the state that they lead to. As in fact_lines, that a whole line is the one that its fact prints is asked of it
-- afterwards.
use Rattle.std.specs.Prelude.{ℕ, suc, zero, Bool, true, false, ◌==◌, List, [], ◌∷◌, ◌++◌, codes, Option, Some, None, if◌then◌else◌}
use Rattle.yard_model.specs.declared.fact.Fact.{Fact}
use Rattle.yard_model.specs.declared.fact.Fact.TheVariants as fact
use Rattle.yard_model.specs.declared.state.CartItem.{CartItem}
use Rattle.yard_model.specs.declared.state.State.{State}
use Rattle.yard_model.specs.declared.state.State.TheVariants as state
use Rattle.fact_lines.specs.Reads.{Read, and_then, entity_behind, fact_at, long, named, number_at, numbered, or_else, short, text_at, who_behind}

-- the greatest number of 64 bits
abbrev pub full : ℕ
full = 18446744073709551615

-- `ITEM:QUANTITY`
abbrev pub item_at : List ℕ → Read CartItem
item_at line =
    and_then (number_at short line) (λ a. and_then (numbered (codes ":") short a.1) (λ b. Some (record { item = a.0; quantity = b.0 }, b.1)))

abbrev pub item_after : List CartItem × List ℕ → Read CartItem → List CartItem × List ℕ
item_after done None = done
item_after done (Some x) = (done.0 ++ x.0 ∷ [], x.1)

-- one item more, where there is one
abbrev pub item_more : List CartItem × List ℕ → List CartItem × List ℕ
item_more done = item_after done (and_then (text_at (codes ",") done.1) item_at)

-- so many more at most
abbrev pub items_on : ℕ → List CartItem × List ℕ → List CartItem × List ℕ
items_on zero done = done
items_on (suc n) done = items_on n (item_more done)

-- at most 16 items
abbrev pub items_at : List ℕ → Read (List CartItem)
items_at line = or_else (and_then (item_at line) (λ x. Some (items_on 15 (x.0 ∷ [], x.1)))) (named (codes "-") [] line)

abbrev pub counter_at : List ℕ → Read State
counter_at line = and_then (number_at full line) (λ n. Some (state.Counter n.0, n.1))

-- a cart, behind the word that says whether it is checked out
abbrev pub cart_behind : List ℕ → Bool → List ℕ → Read State
cart_behind text out line = and_then (text_at text line) (λ r. and_then (items_at r) (λ xs. Some (state.Cart out xs.0, xs.1)))

-- an account with its balance, and with its memo where there is one
abbrev pub open_at : List ℕ → Read State
open_at line =
    and_then (numbered (codes "open ") full line) (λ b.
    or_else (and_then (numbered (codes " memo ") short b.1) (λ m. Some (state.Open b.0 m.0, m.1)))
    (Some (state.Open b.0 0, b.1)))

abbrev pub account_at : List ℕ → Read State
account_at line = or_else (open_at line) (or_else (named (codes "none") state.NoAccount line) (named (codes "closed") state.Closed line))

-- a cart is tried before an account, since both may begin with `open` and a number
abbrev pub state_at : List ℕ → Read State
state_at line =
    or_else (counter_at line)
    (or_else (cart_behind (codes "open ") false line)
    (or_else (cart_behind (codes "out ") true line)
    (account_at line)))

-- what stands behind the name: how many records, and a state
abbrev pub standing_at : List ℕ → Read (ℕ × State)
standing_at line =
    and_then (numbered (codes " ") long line) (λ n. and_then (text_at (codes " ") n.1) (λ r. and_then (state_at r) (λ s. Some ((n.0, s.0), s.1))))

-- that an entity is active; what stands behind the fact isn't looked at
abbrev pub active_at : List ℕ → Option Fact
active_at line =
    and_then (who_behind (codes "active ") line) (λ x.
    and_then (entity_behind (codes " ") x.1) (λ e.
    and_then (standing_at e.1) (λ s. Some (fact.Active x.0 e.0 s.0.0 s.0.1))))

-- an upgrade is one to version 2
abbrev pub upgraded : Fact → Option Fact
upgraded (fact.Upgrade v) = if v == 2 then Some (fact.Upgrade v) else None
upgraded f = Some f

-- the fact at the front, that an entity is active among them
abbrev pub told_at : List ℕ → Option Fact
told_at line = or_else (active_at line) (and_then (fact_at line) upgraded)
