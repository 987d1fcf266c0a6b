use Rattle.std.proofs.Common.{◌∙◌, map, Vec, Global}
use Rattle.std.proofs.lemmas.List.{length-map}
use Rattle.yard_model.specs.declared.event.Command.{Command}
use Rattle.durable_queue.proofs.FirstLaws.{some_commands}
use Rattle.durable_queue.proofs.SendsLaws.{plan_next}
use Rattle.entry_slots.proofs.plans.commands_of.Goals as goal

pub add-requires-clause-named : goal.add-requires-clause-named
add-requires-clause-named c =
    let x = c.sending-item.result in
    c.requires.each x.entity (some_commands c.args.sends.now c.loop-sending.sending-index x c.loop-sending-test.true c.sending-item.is)

pub loop-sending-preserved : goal.loop-sending-preserved
loop-sending-preserved c =
    let seen = λ (v : Vec Command Global). v.items in
    let x = c.sending-item.result in
    let old = c.loop-sending.all.items in
    let named = c.requires.each x.entity (some_commands c.args.sends.now c.loop-sending.sending-index x c.loop-sending-test.true c.sending-item.is) in record {
      sized = c.add.ensures.sized ∙ c.loop-sending.invariant.sized;
      plans = plan_next c.args.names.now (map seen old) (map seen c.add.new.all.items) c.args.sends.now c.loop-sending.sending-index x c.loop-sending-test.true c.sending-item.is
          (length-map old seen ∙ c.loop-sending.invariant.sized) named c.in_ok-add.ensures.plan c.loop-sending.invariant.plans;
    }
