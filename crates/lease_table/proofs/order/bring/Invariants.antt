use Rattle.std.proofs.Common.{◌≡◌, map, take, drop, ◌++◌}
use Rattle.lease_table.specs.Leasing.{empty}
use Rattle.lease_table.proofs.order.bring.Given as goal

abbrev pub invariant-loop : goal.invariant-loop
invariant-loop l = record {
  same : (l.seat.table_id ≡ l.initial.seat.table_id) × (l.seat.id ≡ l.initial.seat.id) × (l.seat.me.0 ≡ l.initial.seat.me.0);
  carried : l.seat.me.1 ≡ map empty (drop l.counter l.order.items ++ take l.counter l.order.items);
}
