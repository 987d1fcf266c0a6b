use Rattle.std.proofs.Common.{◌≡◌, subst}
use Rattle.std.specs.Prelude.{Option, Some}
use Rattle.yard_model.specs.declared.charter.Order.{Order}
use Rattle.lease_table.specs.Belongs.{id_of, charter_of}
use Rattle.node_runner.specs.OnWay.{OnWay}
use Rattle.node_runner.proofs.Ways.{counted_of, order_way}
use Rattle.node_runner.proofs.worker.order_turn.Goals as goal

pub returns-clause-on_way : goal.returns-clause-on_way
returns-clause-on_way g c =
    let way : OnWay (id_of c.args.table.now) (charter_of c.args.table.now) c.args.me c.args.turn c.args.place.pass c.args.place.node (Some c.args.order.now) c.args.course.now.orders c.args.course.now.idle =
    subst (λ (o : Option Order). OnWay (id_of c.args.table.now) (charter_of c.args.table.now) c.args.me c.args.turn c.args.place.pass c.args.place.node o c.args.course.now.orders c.args.course.now.idle) c.requires.next c.requires.on_way in
    order_way (id_of c.args.table.now) (charter_of c.args.table.now) c.args.me c.args.turn c.args.place.pass c.in_ok-place.place.pass c.args.place.node c.in_ok-place.place.node c.args.order.now c.args.course.now.orders c.next-next.new.self c.next-next.result c.args.course.now.idle
    way c.in_ok-place.ensures.stands c.in_ok-place.ensures.takes c.next-next.ensures.script.0 c.next-next.ensures.script.1 c.next-next.ensures.orders c.next-next.ensures.due

pub returns-clause-counted : goal.returns-clause-counted
returns-clause-counted g c =
    counted_of c.args.place.node c.in_ok-place.place.node c.args.course.now.ups c.next_number-number.result _ c.is_some-was_up.result c.is_some-is_up.result c.is_some-was_up.ensures c.is_some-is_up.ensures c.next_number-number.ensures.next c.ups_after-course.ensures
    c.in_ok-place.ensures.number
