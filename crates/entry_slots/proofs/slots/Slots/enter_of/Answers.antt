use Rattle.std.proofs.Common.{◌≡◌, sym, subst, ap, ◌∙◌, true}
use Rattle.std.specs.Prelude.{Some}
use Rattle.yard_model.specs.Genuine.{is_slot_of}
use Rattle.yard_model.specs.Script.{Script, setting}
use Rattle.yard_model.specs.Trace.{slot_of}
use Rattle.entry_slots.specs.Entered.{AllLists}
use Rattle.entry_slots.proofs.StateLaws.{mark_step}
use Rattle.entry_slots.proofs.TakenLaws.{Was, enters_after, kept_after, mark_slot, stays_after}
use Rattle.entry_slots.proofs.slots.Slots.enter_of.Goals as goal

pub invariant_of-self : goal.invariant_of-self
invariant_of-self c =
    let i = c.self.inside in
    let w : Was i.charter c.args.self.now i.upgrades i.names i.stores i.plans.items i.states.items c.shard_slot-slot.result c.args.fact.now =
    record {
      kept = c.self.invariant;
      view = c.self.view_is;
      homes = c.enter.ensures.homes;
      there = c.shard_slot-slot.ensures.there;
      of = ap (λ (x : AllLists). slot_of (setting x.script) c.args.fact.now) (sym c.self.view_is) ∙ (mark_slot (setting i.charter) c.args.entity.now c.args.fact.now c.requires.entity ∙ ap (λ t. Some t) (sym c.shard_slot-slot.ensures.slot));
    } in
    kept_after c.enter.result i.charter c.args.self.now i.upgrades i.names i.stores c.enter.new.self i.plans.items i.states.items c.shard_slot-slot.result c.args.fact.now w (mark_step c.args.entity.now c.args.fact.now c.requires.entity) c.enter.ensures.script c.enter.ensures.ok c.enter.ensures.err

pub returns-clause-ok : goal.returns-clause-ok
returns-clause-ok c =
    let i = c.self.inside in
    let w : Was i.charter c.args.self.now i.upgrades i.names i.stores i.plans.items i.states.items c.shard_slot-slot.result c.args.fact.now =
    record {
      kept = c.self.invariant;
      view = c.self.view_is;
      homes = c.enter.ensures.homes;
      there = c.shard_slot-slot.ensures.there;
      of = ap (λ (x : AllLists). slot_of (setting x.script) c.args.fact.now) (sym c.self.view_is) ∙ (mark_slot (setting i.charter) c.args.entity.now c.args.fact.now c.requires.entity ∙ ap (λ t. Some t) (sym c.shard_slot-slot.ensures.slot));
    } in
    enters_after c.enter.result i.charter c.args.self.now i.upgrades i.names i.stores c.enter.new.self i.plans.items i.states.items c.shard_slot-slot.result c.args.fact.now w c.enter.ensures.ok

pub returns-clause-err : goal.returns-clause-err
returns-clause-err c =
    let i = c.self.inside in
    let w : Was i.charter c.args.self.now i.upgrades i.names i.stores i.plans.items i.states.items c.shard_slot-slot.result c.args.fact.now =
    record {
      kept = c.self.invariant;
      view = c.self.view_is;
      homes = c.enter.ensures.homes;
      there = c.shard_slot-slot.ensures.there;
      of = ap (λ (x : AllLists). slot_of (setting x.script) c.args.fact.now) (sym c.self.view_is) ∙ (mark_slot (setting i.charter) c.args.entity.now c.args.fact.now c.requires.entity ∙ ap (λ t. Some t) (sym c.shard_slot-slot.ensures.slot));
    } in
    stays_after c.enter.result i.charter c.args.self.now i.upgrades i.names i.stores c.enter.new.self i.plans.items i.states.items c.shard_slot-slot.result c.args.fact.now w c.enter.ensures.err
