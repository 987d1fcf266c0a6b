use Rattle.std.proofs.Common.{◌≡◌, ◌-◌}
use Rattle.worker_orders.proofs.orders.Orders.next.Given as goal

abbrev pub invariant-loop : goal.invariant-loop
invariant-loop l = (l.self.script ≡ l.initial.self.script) × (l.self.node ≡ l.initial.self.node) × (l.self.orders ≡ l.initial.self.orders) × (l.self.lines ≡ l.initial.self.lines - l.counter)
