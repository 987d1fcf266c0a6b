use Rattle.std.proofs.Common.{◌≡◌, ap, ◌∙◌, arith}
use Rattle.yard_model.specs.declared.charter.Config.{Config}
use Rattle.entry_slots.proofs.StateLaws.{planned_all}
use Rattle.entry_slots.proofs.slots.plans_of.Goals as goal

pub returns : goal.returns
returns c =
    let all : c.loop-k.k ≡ c.config.result.now.producers = omega (arith, c.loop-k.auto.k-end, c.loop-k-test.false) in
    planned_all c.args.charter.now c.loop-k.k c.loop-k.plans.items (all ∙ ap (λ (x : Config). x.producers) c.config.ensures.value) c.loop-k.invariant
