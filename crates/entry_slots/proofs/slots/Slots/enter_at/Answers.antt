use Rattle.std.proofs.Common.{◌≡◌, sym, subst, ap, ◌∙◌, true}
use Rattle.std.specs.Prelude.{Some}
use Rattle.yard_model.specs.Genuine.{is_slot_of}
use Rattle.yard_model.specs.Script.{Script, setting}
use Rattle.yard_model.specs.Trace.{slot_of}
use Rattle.entry_slots.specs.Entered.{AllLists}
use Rattle.entry_slots.proofs.StateLaws.{no_entity_step}
use Rattle.entry_slots.proofs.TakenLaws.{Was, enters_after, kept_after, stays_after}
use Rattle.entry_slots.proofs.slots.Slots.enter_at.Goals as goal

pub invariant_of-self : goal.invariant_of-self
invariant_of-self c =
    let i = c.self.inside in
    let w : Was i.charter c.args.self.now i.upgrades i.names i.stores i.plans.items i.states.items c.args.slot.now c.args.fact.now =
    record { kept = c.self.invariant; view = c.self.view_is; homes = c.enter.ensures.homes; there = sym c.has_slot.ensures ∙ c.if-not-has_slot.false; of = c.requires.entry } in
    kept_after c.enter.result i.charter c.args.self.now i.upgrades i.names i.stores c.enter.new.self i.plans.items i.states.items c.args.slot.now c.args.fact.now w (no_entity_step c.args.fact.now c.requires.plain) c.enter.ensures.script c.enter.ensures.ok c.enter.ensures.err

pub returns-clause-ok : goal.returns-clause-ok
returns-clause-ok c =
    let i = c.self.inside in
    let w : Was i.charter c.args.self.now i.upgrades i.names i.stores i.plans.items i.states.items c.args.slot.now c.args.fact.now =
    record { kept = c.self.invariant; view = c.self.view_is; homes = c.enter.ensures.homes; there = sym c.has_slot.ensures ∙ c.if-not-has_slot.false; of = c.requires.entry } in
    enters_after c.enter.result i.charter c.args.self.now i.upgrades i.names i.stores c.enter.new.self i.plans.items i.states.items c.args.slot.now c.args.fact.now w c.enter.ensures.ok

pub returns-clause-err : goal.returns-clause-err
returns-clause-err c =
    let i = c.self.inside in
    let w : Was i.charter c.args.self.now i.upgrades i.names i.stores i.plans.items i.states.items c.args.slot.now c.args.fact.now =
    record { kept = c.self.invariant; view = c.self.view_is; homes = c.enter.ensures.homes; there = sym c.has_slot.ensures ∙ c.if-not-has_slot.false; of = c.requires.entry } in
    stays_after c.enter.result i.charter c.args.self.now i.upgrades i.names i.stores c.enter.new.self i.plans.items i.states.items c.args.slot.now c.args.fact.now w c.enter.ensures.err
