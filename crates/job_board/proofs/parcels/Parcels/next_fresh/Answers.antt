use Rattle.std.proofs.Common.{◌∙◌, ◌<◌, ◌≤◌, ap, subst, length, arith}
use Rattle.std.specs.Prelude.{ℕ}
use Rattle.job_board.specs.Parcels.{Parcels, lowest}
use Rattle.job_board.proofs.FreshLaws.{next_is, none_is, all_below, within_limit}
use Rattle.job_board.proofs.parcels.Parcels.next_fresh.Goals as goal

pub returns-then-place-len : goal.returns-then-place-len
returns-then-place-len c =
    let n : ℕ = length c.self.inside.posted.items in
    let lt : c.next-place.result < n = subst (λ k. c.next-place.result < k) (c.len.ensures ∙ c.self.inside.posted.ok.0) c.if-place-len.true in
    record {
      value = next_is c.self.inside.fresh n c.next-place.result lt (c.next-place.ensures.it (within_limit c.self.inside.fresh n c.next-place.result c.self.invariant.bound_is c.self.invariant.few lt))
          (all_below c.self.inside.fresh c.self.inside.base c.next-place.result c.self.invariant.below c.next-place.ensures.between)
          ∙ ap (λ (p : Parcels). lowest p.fresh) c.self.view_is;
    }

pub returns-else-place-len : goal.returns-else-place-len
returns-else-place-len c =
    let n : ℕ = length c.self.inside.posted.items in
    let le : n ≤ c.next-place.result = subst (λ k. k ≤ c.next-place.result) (c.len.ensures ∙ c.self.inside.posted.ok.0) (omega (arith, c.if-place-len.false)) in
    record {
      value = none_is c.self.inside.fresh n c.next-place.result le
          (all_below c.self.inside.fresh c.self.inside.base c.next-place.result c.self.invariant.below c.next-place.ensures.between)
          ∙ ap (λ (p : Parcels). lowest p.fresh) c.self.view_is;
    }
