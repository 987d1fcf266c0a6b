use Rattle.std.proofs.Common.{[], ◌∷◌, ◌++◌, ap, ◌∙◌, arith}
use Rattle.yard_model.specs.Members.{has_node}
use Rattle.yard_model.proofs.MembersLaws.{few, members_more, with_last}
use Rattle.yard_model.proofs.members.Members.with.Goals as goal

pub bounds-members-inside-members-inside : goal.bounds-members-inside-members-inside
bounds-members-inside-members-inside c = few c.args.self c.members.invariant c.members.view_is c.requires.room

pub listed : goal.listed
listed c = omega (arith, c.members.told, few c.args.self c.members.invariant c.members.view_is c.requires.room)

pub bounds-members-inside-members-inside-2 : goal.bounds-members-inside-members-inside-2
bounds-members-inside-members-inside-2 c = few c.args.self c.members.invariant c.members.view_is c.requires.room

pub invariant_of-members : goal.invariant_of-members
invariant_of-members c = members_more c.args.item c.members.invariant (few c.args.self c.members.invariant c.members.view_is c.requires.room) (ap (has_node c.args.item.node) c.members.view_is ∙ c.requires.other)

pub returns : goal.returns
returns c = with_last c.members.invariant c.args.item (few c.args.self c.members.invariant c.members.view_is c.requires.room) ∙ ap (λ l. l ++ c.args.item ∷ []) c.members.view_is
