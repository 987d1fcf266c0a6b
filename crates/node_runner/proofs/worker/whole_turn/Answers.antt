use Rattle.std.proofs.Common.{◌≡◌, ℕ, ◌+◌, sym, subst}
use Rattle.std.specs.Prelude.{Option}
use Rattle.lease_table.specs.Belongs.{id_of, charter_of}
use Rattle.lease_table.specs.Leasing.{Pass}
use Rattle.node_core.specs.Standing.{Standing}
use Rattle.node_runner.specs.OnWay.{OnWay}
use Rattle.node_runner.proofs.Stepping.{if_ok}
use Rattle.node_runner.proofs.worker.whole_turn.Goals as goal

pub returns-clause-on_way : goal.returns-clause-on_way
returns-clause-on_way g c = if_ok c.post_turn.result (λ r same.
    subst (λ (p : Pass). OnWay (id_of c.args.table.now) (charter_of c.args.table.now) c.args.me (c.args.turn + 1) p r.node c.one_turn.new.course.next c.one_turn.new.course.orders c.one_turn.new.course.idle) (sym same.0)
    (subst (λ (o : Option Standing). OnWay (id_of c.args.table.now) (charter_of c.args.table.now) c.args.me (c.args.turn + 1) c.in_ok-place.place.pass o c.one_turn.new.course.next c.one_turn.new.course.orders c.one_turn.new.course.idle) (sym same.1) c.in_ok-place.ensures.on_way)) c.post_turn.ensures.place
