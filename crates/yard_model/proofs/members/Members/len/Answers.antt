use Rattle.std.proofs.Common.{length, sym, ap, ◌∙◌}
use Rattle.yard_model.specs.Members.{count_of}
use Rattle.yard_model.proofs.members.Members.len.Goals as goal

pub returns-clause-len : goal.returns-clause-len
returns-clause-len c = sym (count_of c.self.invariant) ∙ ap length c.self.view_is
