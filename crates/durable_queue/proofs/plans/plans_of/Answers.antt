use Rattle.std.proofs.Common.{◌∙◌, [], length, map, sym, ap, Vec, Global}
use Rattle.std.proofs.lemmas.List.{length-map, length-replicate}
use Rattle.yard_model.specs.declared.event.Command.{Command}
use Rattle.durable_queue.proofs.SendsLaws.{no_plans}
use Rattle.durable_queue.proofs.plans.plans_of.Goals as goal

pub add_rest-requires-clause-sized : goal.add_rest-requires-clause-sized
add_rest-requires-clause-sized c =
    let seen = λ (v : Vec Command Global). v.items in
    sym (length-map c.in_ok-plans.plans.items seen) ∙ (ap length c.in_ok-plans.ensures ∙ (length-replicate c.len.result [] ∙ c.len.ensures))

pub add_rest-requires-clause-done : goal.add_rest-requires-clause-done
add_rest-requires-clause-done c = no_plans c.args.names.now c.len.result (map (λ (v : Vec Command Global). v.items) c.in_ok-plans.plans.items) c.in_ok-plans.ensures
