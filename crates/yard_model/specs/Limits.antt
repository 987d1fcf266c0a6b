-- How far numbers go: each is a u32, and ends at 4,294,967,295. They are this project's own.
use Rattle.std.specs.Prelude.{ℕ}

-- the most orders of a script
abbrev pub most_orders : ℕ
most_orders = 3000000

-- a version of the members, and the number of an incarnation: below this before an order
abbrev pub order_limit : ℕ
order_limit = 3000000000

-- a place in a list, a record's number, an epoch, a version: below this at any time
abbrev pub number_limit : ℕ
number_limit = 4000000000

-- the number of an incarnation: below this where a settle brings a node up
abbrev pub settle_limit : ℕ
settle_limit = 4100000000

-- so many entries a turn may write to a list that its node holds
abbrev pub turn_room : ℕ
turn_room = 300
