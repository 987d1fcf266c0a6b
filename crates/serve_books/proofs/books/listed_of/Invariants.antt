use Rattle.std.proofs.Common.{◌≡◌, take}
use Rattle.log_orders.specs.Orders.{listed}
use Rattle.serve_books.proofs.books.listed_of.Given as goal

-- those of the facts so far
abbrev pub invariant-loop-fact : goal.invariant-loop-fact
invariant-loop-fact l = l.kept ≡ listed (take l.fact-index l.facts)
