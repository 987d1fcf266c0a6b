use Rattle.std.proofs.Common.{◌≡◌, sym, subst, ap, ◌∙◌, refl, true, false}
use Rattle.std.specs.Prelude.{Some}
use Rattle.yard_model.specs.Genuine.{is_slot_of}
use Rattle.yard_model.specs.Script.{Script, setting}
use Rattle.yard_model.specs.Trace.{slot_of}
use Rattle.entry_slots.specs.Entered.{AllLists}
use Rattle.yard_model.specs.declared.charter.Config.{Config}
use Rattle.yard_model.specs.declared.fact.Fact.{Fact}
use Rattle.yard_model.specs.declared.fact.Fact.TheVariants as fact
use Rattle.yard_model.specs.declared.incarnation.Slot.TheVariants as slot
use Rattle.yard_model.specs.Behaviour.{after_record, are_applicable, empty_state, is_of_kind, is_valid}
use Rattle.yard_model.specs.Setting.{shard_of}
use Rattle.std.specs.Prelude.{if◌then◌else◌, slice_index_or, slice_set}
use Rattle.std.specs.List.{list_all}
use Rattle.entry_slots.specs.Entered.{Enters, EntersPlaces, StayPlaces}
use Rattle.entry_slots.specs.Kept.{ArePlanned, IsPlaced}
use Rattle.entry_slots.proofs.StateLaws.{refused_command, seen}
use Rattle.entry_slots.proofs.TakenLaws.{Was, command_kind, enters_one, events_apply, kept_stays, kept_wrote, on_err, stays_one}
use Rattle.entry_slots.proofs.slots.Slots.enter_record.Goals as goal

pub is_admitted-requires-clause-command : goal.is_admitted-requires-clause-command
is_admitted-requires-clause-command c =
    let i = c.self.inside in
    let plans : ArePlanned i.charter c.as_slice.result.now = subst (ArePlanned i.charter) (sym c.as_slice.ensures.value) c.self.invariant.plans_are in
    let own : is_of_kind i.charter.config.kind c.args.entry.now.command ≡ true =
    command_kind i.charter c.as_slice.result.now c.args.entity.now c.args.entry.now c.is_next_command.result c.command_law.ensures c.config.ensures.script plans c.is_next_command.ensures c.if-not-is_next_command.false in
    ap (λ (x : Config). is_of_kind x.kind c.args.entry.now.command) c.config.ensures.value ∙ own

pub returns-then-not-is_next_command-clause-ok : goal.returns-then-not-is_next_command-clause-ok
returns-then-not-is_next_command-clause-ok c =
    let i = c.self.inside in
    let e = c.args.entity.now in
    let r = c.args.entry.now in
    let plans : ArePlanned i.charter c.as_slice.result.now = subst (ArePlanned i.charter) (sym c.as_slice.ensures.value) c.self.invariant.plans_are in
    subst (λ (v : AllLists). Enters v c.args.fact.now false v) c.self.view_is
    (subst (λ f. Enters (seen i.charter i.stores.places) f false (seen i.charter i.stores.places)) (sym c.requires.fact)
    (refused_command i.charter i.stores.places e r (sym (c.is_next_command.ensures i.charter plans) ∙ c.if-not-is_next_command.true)))

pub invariant_of-self : goal.invariant_of-self
invariant_of-self c =
    let i = c.self.inside in
    let f : Fact = fact.Wrote c.args.entity.now c.args.entry.now in
    let w : Was i.charter c.args.self.now i.upgrades i.names i.stores i.plans.items i.states.items c.shard_slot-slot.result f =
    record {
      kept = c.self.invariant;
      view = c.self.view_is;
      homes = c.knows.ensures;
      there = c.shard_slot-slot.ensures.there;
      of = ap (λ (x : AllLists). slot_of (setting x.script) f) (sym c.self.view_is) ∙ ap (λ t. Some t) (sym c.shard_slot-slot.ensures.slot);
    } in
    kept_stays i.charter c.args.self.now i.upgrades i.names i.stores c.enter.new.self i.plans.items i.states.items c.shard_slot-slot.result f w c.in_err-done.ensures.script c.in_err-done.ensures.err

pub returns-in_err-done-clause-err : goal.returns-in_err-done-clause-err
returns-in_err-done-clause-err c =
    let i = c.self.inside in
    let f : Fact = fact.Wrote c.args.entity.now c.args.entry.now in
    let w : Was i.charter c.args.self.now i.upgrades i.names i.stores i.plans.items i.states.items c.shard_slot-slot.result f =
    record {
      kept = c.self.invariant;
      view = c.self.view_is;
      homes = c.knows.ensures;
      there = c.shard_slot-slot.ensures.there;
      of = ap (λ (x : AllLists). slot_of (setting x.script) f) (sym c.self.view_is) ∙ ap (λ t. Some t) (sym c.shard_slot-slot.ensures.slot);
    } in
    on_err c.from_residual.result (seen i.charter c.enter.new.self.places ≡ c.args.self.now) (stays_one i.charter c.args.self.now i.upgrades i.names i.stores c.enter.new.self i.plans.items i.states.items c.shard_slot-slot.result f w c.in_err-done.ensures.err)

pub note_state-requires-clause-events : goal.note_state-requires-clause-events
note_state-requires-clause-events c so =
    let i = c.self.inside in
    let plans : ArePlanned i.charter c.as_slice.result.now = subst (ArePlanned i.charter) (sym c.as_slice.ensures.value) c.self.invariant.plans_are in
    let own : is_of_kind i.charter.config.kind c.args.entry.now.command ≡ true =
    command_kind i.charter c.as_slice.result.now c.args.entity.now c.args.entry.now c.is_next_command.result c.command_law.ensures c.config.ensures.script plans c.is_next_command.ensures c.if-not-is_next_command.false in
    let e = c.args.entity.now in
    let r = c.args.entry.now in
    let s = shard_of (setting i.charter) e in
    let entered : EntersPlaces i.charter (slot.Shard s) i.stores.places (fact.Wrote e r) c.in_ok-done.done c.enter.new.self.places =
    subst (λ f. EntersPlaces i.charter (slot.Shard s) i.stores.places f c.in_ok-done.done c.enter.new.self.places) c.requires.fact
    (subst (λ t. EntersPlaces i.charter t i.stores.places c.args.fact.now c.in_ok-done.done c.enter.new.self.places) c.shard_slot-slot.ensures.slot c.in_ok-done.ensures.ok) in
    subst (λ (x : Config). are_applicable (slice_index_or i.states.items c.in-Some.place (empty_state x.kind)) r.events ≡ true) (sym c.config.ensures.value)
    (events_apply i.charter s i.stores.places c.enter.new.self.places i.states.items e r c.in-Some.place c.in_ok-done.done c.decision_law.ensures own c.self.invariant.states_are
    (subst (λ l. IsPlaced l c.in-Some.place e) c.self.invariant.names_are c.in-Some.ensures) refl entered so)

pub invariant_of-self-2 : goal.invariant_of-self-2
invariant_of-self-2 c =
    let i = c.self.inside in
    let f : Fact = fact.Wrote c.args.entity.now c.args.entry.now in
    let w : Was i.charter c.args.self.now i.upgrades i.names i.stores i.plans.items i.states.items c.shard_slot-slot.result f =
    record {
      kept = c.self.invariant;
      view = c.self.view_is;
      homes = c.knows.ensures;
      there = c.shard_slot-slot.ensures.there;
      of = ap (λ (x : AllLists). slot_of (setting x.script) f) (sym c.self.view_is) ∙ ap (λ t. Some t) (sym c.shard_slot-slot.ensures.slot);
    } in
    let kind = i.charter.config.kind in
    let new = c.note_state.new.states.items in
    let entered : EntersPlaces i.charter c.shard_slot-slot.result i.stores.places f c.in_ok-done.done c.enter.new.self.places =
    subst (λ x. EntersPlaces i.charter c.shard_slot-slot.result i.stores.places x c.in_ok-done.done c.enter.new.self.places) c.requires.fact c.in_ok-done.ensures.ok in
    kept_wrote i.charter c.args.self.now i.upgrades i.names i.stores c.enter.new.self i.plans.items i.states.items new c.shard_slot-slot.result c.args.entity.now c.args.entry.now c.in-Some.place c.in_ok-done.done w c.in_ok-done.ensures.script entered c.in-Some.ensures
    (subst (λ (x : Config). new ≡ (if c.in_ok-done.done then slice_set i.states.items c.in-Some.place (after_record (slice_index_or i.states.items c.in-Some.place (empty_state x.kind)) c.args.entry.now) else i.states.items)) c.config.ensures.value c.note_state.ensures.states)
    (subst (λ (x : Config). list_all (is_valid x.kind) new ≡ true) c.config.ensures.value c.note_state.ensures.valid)

pub returns-clause-ok : goal.returns-clause-ok
returns-clause-ok c =
    let i = c.self.inside in
    let f : Fact = fact.Wrote c.args.entity.now c.args.entry.now in
    let w : Was i.charter c.args.self.now i.upgrades i.names i.stores i.plans.items i.states.items c.shard_slot-slot.result f =
    record {
      kept = c.self.invariant;
      view = c.self.view_is;
      homes = c.knows.ensures;
      there = c.shard_slot-slot.ensures.there;
      of = ap (λ (x : AllLists). slot_of (setting x.script) f) (sym c.self.view_is) ∙ ap (λ t. Some t) (sym c.shard_slot-slot.ensures.slot);
    } in
    let entered : EntersPlaces i.charter c.shard_slot-slot.result i.stores.places f c.in_ok-done.done c.enter.new.self.places =
    subst (λ x. EntersPlaces i.charter c.shard_slot-slot.result i.stores.places x c.in_ok-done.done c.enter.new.self.places) c.requires.fact c.in_ok-done.ensures.ok in
    subst (λ x. Enters c.args.self.now x c.in_ok-done.done (seen i.charter c.enter.new.self.places)) (sym c.requires.fact)
    (enters_one i.charter c.args.self.now i.upgrades i.names i.stores c.enter.new.self i.plans.items i.states.items c.shard_slot-slot.result f c.in_ok-done.done w entered)
