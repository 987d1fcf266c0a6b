use Rattle.std.proofs.Common.{◌≡◌, refl, ap, ◌∙◌, subst}
use Rattle.std.specs.Prelude.{Err}
use Rattle.std.proofs.lemmas.Result.{err_from_is_err_and}
use Rattle.yard_io.specs.Told.{TakesFront}
use Rattle.yard_io.proofs.ToldLemmas.{front_whole}
use Rattle.disk_log.specs.Spelled.{lines}
use Rattle.run_parts.proofs.WritingLaws.{after_nothing}
use Rattle.log_orders.specs.Orders.{batch_of}
use Rattle.log_orders.proofs.GatherLaws.{leaves_none}
use Rattle.log_orders.proofs.OrderLaws.{now_of}
use Rattle.logged_lines.proofs.TellLaws.{commit_wrote, order_logged, order_unlogged, rests_prefix}
use Rattle.logged_lines.proofs.telling.tell_order.Goals as goal

pub returns-in_err-next-clause-wrote : goal.returns-in_err-next-clause-wrote
returns-in_err-next-clause-wrote g c =
    let p = err_from_is_err_and c.from_residual-in_err-next.result c.from_residual-in_err-next.ensures.1 in
    commit_wrote _ _ _ _ (p.1 ∙ ap Err p.2)

pub returns-in_err-next-clause-at_exit : goal.returns-in_err-next-clause-at_exit
returns-in_err-next-clause-at_exit g c done rests told =
    order_unlogged c.args.facts.now done _ _ (g.D.Disk.images c.commit_order.new.disk) refl
    (now_of (g.D.Disk.images c.args.disk.now) (g.D.Disk.images c.commit_order.new.disk) (g.met.D.Disk.timed c.commit_order.new.disk) (c.commit_order.ensures.any_moment done rests.are rests.rests told))

pub returns-in_err-push_facts-clause-any_moment : goal.returns-in_err-push_facts-clause-any_moment
returns-in_err-push_facts-clause-any_moment g c done rests told =
    leaves_none (g.D.Disk.images c.args.disk.now) (g.met.D.Disk.timed c.args.disk.now)
    (rests_prefix g.D.Disk.tells c.args.log (g.D.Disk.content c.args.disk.now) (g.D.Disk.images c.args.disk.now) done (batch_of c.args.facts.now) rests told)

pub returns-in_err-push_facts-clause-at_exit : goal.returns-in_err-push_facts-clause-at_exit
returns-in_err-push_facts-clause-at_exit g c done rests told =
    order_unlogged c.args.facts.now done _ _ (g.D.Disk.images c.args.disk.now) refl
    (rests_prefix g.D.Disk.tells c.args.log (g.D.Disk.content c.args.disk.now) (g.D.Disk.images c.args.disk.now) done (batch_of c.args.facts.now) rests told)

pub returns-in_err-write_part-clause-at_exit : goal.returns-in_err-write_part-clause-at_exit
returns-in_err-write_part-clause-at_exit g c done rests told =
    let same : c.as_slice.result.now ≡ lines c.args.facts.now = c.as_slice.ensures ∙ after_nothing _ _ _ c.in_ok-push_facts.ensures c.clear.ensures in
    order_logged c.args.facts.now done _ _ g.D.Disk.tells c.in_ok-next.next (g.D.Disk.content c.commit_order.new.disk) (g.D.Disk.images c.commit_order.new.disk)
    (subst (λ text. TakesFront (g.K.Sink.taken c.args.sink.now) (g.K.Sink.taken c.write_part.new.sink) text) same c.in_err-write_part.ensures.wrote.front)
    (c.in_ok-next.ensures.ok done rests.are rests.rests) told

pub returns-clause-at_exit : goal.returns-clause-at_exit
returns-clause-at_exit g c done rests told =
    let same : c.as_slice.result.now ≡ lines c.args.facts.now = c.as_slice.ensures ∙ after_nothing _ _ _ c.in_ok-push_facts.ensures c.clear.ensures in
    order_logged c.args.facts.now done _ _ g.D.Disk.tells c.in_ok-next.next (g.D.Disk.content c.commit_order.new.disk) (g.D.Disk.images c.commit_order.new.disk)
    (subst (λ text. TakesFront (g.K.Sink.taken c.args.sink.now) (g.K.Sink.taken c.write_part.new.sink) text) same
    (front_whole (g.K.Sink.taken c.args.sink.now) (g.K.Sink.taken c.write_part.new.sink) c.as_slice.result.now c.in_ok-write_part.ensures.wrote.taken_is))
    (c.in_ok-next.ensures.ok done rests.are rests.rests) told
