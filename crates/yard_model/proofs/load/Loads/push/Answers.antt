use Rattle.yard_model.specs.Padded.{padded_more}
use Rattle.yard_model.proofs.load.Loads.push.Goals as goal

pub invariant_of-self : goal.invariant_of-self
invariant_of-self c = padded_more c.args.item c.self.invariant c.self.view_is c.requires
