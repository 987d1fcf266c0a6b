use Rattle.std.proofs.Common.{ap, ◌∙◌, arith}
use Rattle.yard_model.specs.Members.{has_node}
use Rattle.yard_model.proofs.MembersLaws.{other_before}
use Rattle.yard_model.proofs.members.Members.without.Goals as goal

pub with-rest-requires-clause-other : goal.with-rest-requires-clause-other
with-rest-requires-clause-other c =
    ap (has_node c.at-member.result.node) c.loop-place.invariant.0
    ∙ other_before c.args.self.now c.loop-place.place c.at-member.result c.args.who.now c.len-place-end.ensures.different (omega (arith, c.loop-place-test.true, c.len-place-end.ensures.len)) c.at-member.ensures
