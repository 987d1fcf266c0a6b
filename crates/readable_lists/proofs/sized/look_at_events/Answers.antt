use Rattle.std.proofs.Common.{arith}
use Rattle.yard_model.specs.declared.event.Event.TheVariants as event
use Rattle.readable_lists.proofs.SizedLaws.{events_fit}
use Rattle.readable_lists.proofs.sized.look_at_events.Goals as goal

pub returns : goal.returns
returns c = events_fit c.args.events.now event.Created (λ k l. c.loop-i.invariant k (omega (arith, l)))
