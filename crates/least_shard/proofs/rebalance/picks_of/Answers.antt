use Rattle.std.proofs.Common.{◌≡◌, ◌+◌, ◌-◌, sym, ap, ◌∙◌, arith}
use Rattle.std.specs.Prelude.{fold}
use Rattle.yard_model.specs.ShardSet.{with_shard}
use Rattle.yard_model.specs.Coordinator.{picks}
use Rattle.least_shard.specs.Seen.{seen_all}
use Rattle.least_shard.proofs.PickLaws.{counts_more}
use Rattle.least_shard.proofs.rebalance.picks_of.Goals as goal

pub loop-left-preserved : goal.loop-left-preserved
loop-left-preserved c =
    let left = c.loop-left.left in
    let inv = c.loop-left.invariant in
    let ts = seen_all c.loop-left.tallies in
    let us = seen_all c.pick.new.tallies in
    let one : (left - 1) + 1 ≡ left = omega arith in record {
      fits = omega (arith, inv.fits);
      counts = counts_more ((1000 - left) + 1) (1000 - (left - 1)) us (omega (arith, inv.fits)) (c.in-Some.ensures.counts (1000 - left) inv.counts);
      fair = λ fair. c.in-Some.ensures.fair (inv.fair fair);
      same = λ fair.
          ap (λ p. fold with_shard p (picks (left - 1) us)) c.with-picked.ensures.bits
          ∙ (ap (fold with_shard c.loop-left.picked) (sym (c.in-Some.ensures.picked (inv.fair fair) (left - 1)) ∙ ap (λ n. picks n ts) one) ∙ inv.same fair);
    }
