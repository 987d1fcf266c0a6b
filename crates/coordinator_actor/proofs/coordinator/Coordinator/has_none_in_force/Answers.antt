use Rattle.std.proofs.Common.{◌≡◌, ◌+◌, ◌-◌, ℕ, List, ◌∷◌, sym, ap, ◌∙◌, false, arith}
use Rattle.std.specs.Prelude.{cond, filter}
use Rattle.yard_model.specs.ShardSet.{has}
use Rattle.yard_model.specs.Words.{numbers}
use Rattle.coordinator_actor.proofs.RoundLaws.{numbers_first}
use Rattle.coordinator_actor.proofs.coordinator.Coordinator.has_none_in_force.Goals as goal

pub loop-place-preserved : goal.loop-place-preserved
loop-place-preserved c =
    let set = c.args.shards.now in
    let i = c.loop-place.place in
    let n = c.shards-count.result in
    let rest : List ℕ = filter (has set) (numbers (i + 1) (n - (i + 1))) in
    let out : has set i ≡ false = sym (c.has.ensures ∙ ap (has set) c.shard_at-s.ensures) ∙ c.if-has.false in
    record {
      left = sym (ap (λ (l : List ℕ). filter (has set) l) (numbers_first i n c.loop-place-test.true) ∙ ap (λ b. cond b (i ∷ rest) rest) out) ∙ c.loop-place.invariant.left;
      within = omega (arith, c.loop-place-test.true);
    }
