use Rattle.std.proofs.Common.{◌++◌, ◌∷◌, [], ap, sym, ◌∙◌, arith}
use Rattle.yard_model.specs.Members.{has_node}
use Rattle.members_by_age.proofs.AgedLaws.{behind, member_more}
use Rattle.members_by_age.proofs.by_age.ByAge.members.Goals as goal

pub with-members-requires-clause-other : goal.with-members-requires-clause-other
with-members-requires-clause-other c = ap (has_node c.member_at.result.node) c.loop-place.invariant ∙ behind c.self.inside.numbers.entries c.loop-place.place c.loop-place.place c.member_at.result.node c.member_at.result.number c.member_at.ensures.different c.member_at.ensures.member (omega arith)

pub loop-place-preserved : goal.loop-place-preserved
loop-place-preserved c =
    c.with-members.ensures ∙ (ap (λ l. l ++ c.member_at.result ∷ []) c.loop-place.invariant ∙ sym (member_more c.self.inside.numbers.entries c.loop-place.place c.member_at.result.node c.member_at.result.number c.member_at.ensures.member))
