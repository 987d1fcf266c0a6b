use Rattle.yard_model.proofs.MembersLaws.{read_at}
use Rattle.yard_model.proofs.members.Members.at.Goals as goal

pub returns : goal.returns
returns c = read_at c.args.self.now c.self.invariant c.self.view_is c.args.place c.index-self-place.result 0 c.requires
