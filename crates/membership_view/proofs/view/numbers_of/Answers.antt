use Rattle.std.proofs.Common.{◌≡◌, ℕ, ◌+◌, ◌-◌, sym, ◌∙◌, subst, take}
use Rattle.std.specs.Prelude.{slice_get, slice_set, Some}
use Rattle.membership_view.specs.ByNode.{AreByNode}
use Rattle.membership_view.proofs.NodeLaws.{next_by_node}
use Rattle.membership_view.proofs.view.numbers_of.Goals as goal

pub loop-place-preserved : goal.loop-place-preserved
loop-place-preserved c =
    let i = c.loop-place.place in
    let xs = c.args.members.now in
    let m = c.in-Some.member in
    let got : slice_get xs i ≡ Some m = sym c.get.ensures ∙ c.in-Some.is in
    let at : c.from-in-loop-place.result ≡ m.node = c.from-in-loop-place.ensures ∙ c.get-in-loop-place.ensures.value in
    let next : AreByNode (take (i + 1) xs) (slice_set c.loop-place.numbers (m.node - 1) (m.number + 1)) =
    next_by_node xs i m c.loop-place.invariant c.len-place-end.ensures.different got c.get-in-loop-place.ensures.range.0 c.get-in-loop-place.ensures.range.1 in
    subst (λ (n : ℕ). AreByNode (take (i + 1) xs) (slice_set c.loop-place.numbers (n - 1) (c.from.result + 1))) (sym at)
    (subst (λ (k : ℕ). AreByNode (take (i + 1) xs) (slice_set c.loop-place.numbers (m.node - 1) (k + 1))) (sym c.from.ensures) next)
