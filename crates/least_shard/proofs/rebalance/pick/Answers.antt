use Rattle.std.proofs.Common.{◌≡◌, ◌+◌, length, sym, ap, subst, ◌∙◌, arith, Option, Some, None}
use Rattle.std.specs.Prelude.{IfNone}
use Rattle.yard_model.specs.Coordinator.{picks}
use Rattle.least_shard.specs.Fair.{IsFair, CountsWithin}
use Rattle.least_shard.specs.Seen.{seen, seen_all}
use Rattle.least_shard.proofs.PickLaws.{IsPick, largest_is, smallest_is, has_rest, fair_after, counts_after, picks_none}
use Rattle.least_shard.proofs.rebalance.pick.Goals as goal

if_none : {A : Type 0} (P : Type 0) (o : Option A) → P → IfNone o P
if_none P None h = h
if_none P (Some x) h = tt

pub returns-in_err-from-clause-none : goal.returns-in_err-from-clause-none
returns-in_err-from-clause-none c = if_none _ c.from_residual.result (λ fair n. ap (λ l. picks n (seen_all l)) c.in_err-from.ensures.none ∙ picks_none n)

pub returns-in_err-picked-clause-none : goal.returns-in_err-picked-clause-none
returns-in_err-picked-clause-none c = if_none _ c.from_residual-in_err-picked.result (λ fair n.
    let x = seen c.in_ok-from.from in
    let y = seen c.in_ok-to.to in
    let pick : IsPick (seen_all c.args.tallies.now) x y = record {
      largest = largest_is _ x c.in_ok-from.ensures.largest;
      smallest = smallest_is _ y c.in_ok-to.ensures.smallest;
      apart = omega (arith, c.saturating_sub.ensures, c.if-saturating_sub-lt2.false);
    } in
    let none : length x.rest ≡ 0 = ap length c.in_err-picked.ensures.none in
    absurd (omega (arith, has_rest _ x y fair pick, pick.apart)))

pub returns-clause-fair : goal.returns-clause-fair
returns-clause-fair c = λ fair.
    let x = seen c.in_ok-from.from in
    let y = seen c.in_ok-to.to in
    let pick : IsPick (seen_all c.args.tallies.now) x y = record {
      largest = largest_is _ x c.in_ok-from.ensures.largest;
      smallest = smallest_is _ y c.in_ok-to.ensures.smallest;
      apart = omega (arith, c.saturating_sub.ensures, c.if-saturating_sub-lt2.false);
    } in
    subst IsFair (sym c.count_pick.ensures) (fair_after _ x y fair pick)

pub returns-clause-counts : goal.returns-clause-counts
returns-clause-counts c = λ n h.
    subst (CountsWithin (n + 1)) (sym c.count_pick.ensures) (counts_after n _ (seen c.in_ok-from.from) (seen c.in_ok-to.to) h)
