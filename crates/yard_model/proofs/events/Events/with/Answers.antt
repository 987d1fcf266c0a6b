use Rattle.yard_model.specs.Padded.{padded_more}
use Rattle.yard_model.proofs.events.Events.with.Goals as goal

pub invariant_of-events : goal.invariant_of-events
invariant_of-events c = padded_more c.args.item c.events.invariant c.events.view_is c.requires
