use Rattle.std.proofs.Common.{arith, ◌≡◌, ◌≤◌, sym, subst, ap}
use Rattle.std.specs.Vec.{vec_capacity}
use Rattle.yard_model.specs.Script.{Script}
use Rattle.lease_table.specs.Fits.{slot_count}
use Rattle.lease_table.specs.Leasing.{IsPass}
use Rattle.lease_table.proofs.Dealt.{fresh_ok}
use Rattle.lease_table.proofs.table.LeaseTable.deal_one.Goals as goal

pub invariant_of-result : goal.invariant_of-result
invariant_of-result c =
    let cap : c.args.self.now.slots ≤ vec_capacity c.in_ok-order.order = c.in_ok-order.ensures.capacity in
    let run : c.args.self.now.slots ≡ slot_count c.args.self.now.charter.value = c.args.self.now.sized.6 in
    let same : slot_count c.args.charter.now ≡ slot_count c.args.self.now.charter.value = ap (λ (y : Script). slot_count y) c.requires.charter in
    let room : slot_count c.args.charter.now ≤ vec_capacity c.in_ok-order.order = omega arith in
    subst (λ (y : Script). IsPass y c.args.seat.me c.in_ok-order.order.items (vec_capacity c.in_ok-order.order)) (sym c.of.ensures)
    (fresh_ok c.args.charter.now c.args.seat.me.0.seen _ c.requires.seat.1.0 _ _ c.requires.seat.1.1 c.requires.seat.1.2 c.in_ok-order.ensures.items room)
