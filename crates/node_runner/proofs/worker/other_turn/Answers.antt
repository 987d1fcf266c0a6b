use Rattle.std.proofs.Common.{◌≡◌, ℕ, ◌+◌, sym, subst}
use Rattle.lease_table.specs.Belongs.{id_of, charter_of}
use Rattle.node_runner.specs.OnWay.{OnWay}
use Rattle.node_runner.proofs.Ways.{other_way}
use Rattle.node_runner.proofs.worker.other_turn.Goals as goal

pub returns-clause-on_way : goal.returns-clause-on_way
returns-clause-on_way g c =
    subst (λ (i : ℕ). OnWay (id_of c.args.table.now) (charter_of c.args.table.now) c.args.me (c.args.turn + 1) c.in_ok-place.place.pass c.in_ok-place.place.node c.args.course.now.next c.args.course.now.orders i) (sym c.more_idle-course.ensures)
    (other_way (id_of c.args.table.now) (charter_of c.args.table.now) c.args.me c.args.turn c.args.place.pass c.in_ok-place.place.pass c.args.place.node c.in_ok-place.place.node c.args.course.now.next c.args.course.now.orders c.args.course.now.idle
    c.requires.on_way c.requires.none c.in_ok-place.ensures.stands c.in_ok-place.ensures.goes_on)
