use Rattle.std.proofs.Common.{ap, ◌∙◌}
use Rattle.std.specs.Prelude.{replicate}
use Rattle.yard_model.specs.Behaviour.{empty_state}
use Rattle.entry_slots.proofs.StateLaws.{kept_new}
use Rattle.entry_slots.proofs.slots.Slots.new.Goals as goal

pub invariant_of-result : goal.invariant_of-result
invariant_of-result c =
    kept_new c.args.charter.now c.in_ok-copied.copied c.goes_over-upgrades.result c.in_ok-names.names c.in_ok-stores.stores c.in_ok-plans.plans.items c.in_ok-states.states.items
    c.in_ok-copied.ensures c.goes_over-upgrades.ensures c.in_ok-names.ensures.names c.in_ok-stores.ensures.script c.in_ok-stores.ensures.empty c.in_ok-plans.ensures
    (c.in_ok-states.ensures ∙ ap (λ n. replicate n (empty_state c.args.charter.now.config.kind)) c.len.ensures)
