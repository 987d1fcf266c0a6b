use Rattle.std.proofs.Common.{◌∙◌, List, map, subst, arith, sym, Vec, Global}
use Rattle.std.proofs.lemmas.List.{length-map, take_all}
use Rattle.yard_model.specs.declared.charter.Sending.{Sending}
use Rattle.yard_model.specs.declared.event.Command.{Command}
use Rattle.durable_queue.specs.Kept.{ArePlans}
use Rattle.durable_queue.proofs.FirstLaws.{some_commands}
use Rattle.durable_queue.proofs.SendsLaws.{plan_next}
use Rattle.durable_queue.proofs.plans.add_rest.Goals as goal

pub loop-at-init : goal.loop-at-init
loop-at-init c = record { sized = c.requires.sized; plans = c.requires.done }

pub add-requires-clause-named : goal.add-requires-clause-named
add-requires-clause-named c =
    let x = c.send_at-sending.result.now in
    c.requires.named.each x.entity (some_commands c.args.sends.now c.loop-at.at x c.loop-at-test.true c.send_at-sending.ensures)

pub loop-at-preserved : goal.loop-at-preserved
loop-at-preserved c =
    let seen = λ (v : Vec Command Global). v.items in
    let x = c.send_at-sending.result.now in
    let old = c.loop-at.plans.items in
    let named = c.requires.named.each x.entity (some_commands c.args.sends.now c.loop-at.at x c.loop-at-test.true c.send_at-sending.ensures) in record {
      sized = c.add.ensures.sized ∙ c.loop-at.invariant.sized;
      plans = plan_next c.args.names.now (map seen old) (map seen c.add.new.plans.items) c.args.sends.now c.loop-at.at x c.loop-at-test.true c.send_at-sending.ensures
          (length-map old seen ∙ c.loop-at.invariant.sized) named c.in_ok-add.ensures.plan c.loop-at.invariant.plans;
    }

pub returns-clause-sized : goal.returns-clause-sized
returns-clause-sized c = c.loop-at.invariant.sized ∙ sym c.requires.sized

pub returns-clause-plans : goal.returns-clause-plans
returns-clause-plans c =
    let seen = λ (v : Vec Command Global). v.items in
    subst (λ (l : List Sending). ArePlans c.args.names.now (map seen c.loop-at.plans.items) l) (take_all c.loop-at.at c.args.sends.now (omega (arith, c.loop-at-test.false))) c.loop-at.invariant.plans
