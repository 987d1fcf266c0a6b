use Rattle.std.proofs.Common.{Vec, Global}
use Rattle.std.proofs.lemmas.List.{map-set}
use Rattle.yard_model.specs.declared.event.Command.{Command}
use Rattle.durable_queue.proofs.moved.put_plan.Goals as goal

pub returns : goal.returns
returns c = map-set (λ (v : Vec Command Global). v.items) c.args.plans.now.items c.args.place c.args.plan
