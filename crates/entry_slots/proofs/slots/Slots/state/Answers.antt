use Rattle.std.proofs.Common.{◌≡◌, sym, subst, ap, ◌∙◌, true}
use Rattle.std.specs.Prelude.{IsTrue, List, slice_index_or}
use Rattle.std.proofs.lemmas.List.{get_or_default}
use Rattle.yard_model.specs.declared.state.State.{State}
use Rattle.yard_model.specs.Behaviour.{empty_state, folded, is_valid}
use Rattle.yard_model.specs.Script.{Script, names_in, setting}
use Rattle.yard_model.specs.Setting.{shard_of}
use Rattle.yard_model.specs.SlotLists.{shard_list}
use Rattle.yard_model.specs.SlotReads.{journal}
use Rattle.behaviour_core.specs.Laws.{empty_is_valid}
use Rattle.plain_laws.proofs.Booleans.{all_get}
use Rattle.shard_store.specs.Stores.{AreHomes}
use Rattle.entry_slots.specs.Entered.{AllLists}
use Rattle.entry_slots.specs.Kept.{IsPlaced}
use Rattle.entry_slots.proofs.SeenLaws.{state_read, state_seen}
use Rattle.entry_slots.proofs.slots.Slots.state.Goals as goal

pub returns-clause-valid : goal.returns-clause-valid
returns-clause-valid c =
    let i = c.self.inside in
    let kind = i.charter.config.kind in
    let placed = subst (λ l. IsPlaced l c.in-Some.place c.args.entity.now) c.self.invariant.names_are c.in-Some.ensures in
    let read = state_read i.charter i.stores.places i.states.items c.args.entity.now c.in-Some.place c.index.result.now c.self.invariant.states_are placed c.index.ensures in
    subst (λ (v : AllLists). IsTrue (is_valid v.script.config.kind c.index.result.now)) c.self.view_is
    (subst (λ st. is_valid kind st ≡ true) (sym read) (all_get (is_valid kind) i.states.items c.in-Some.place (empty_state kind) c.self.invariant.states_are.valid (empty_is_valid kind)))

pub returns-clause-state : goal.returns-clause-state
returns-clause-state c =
    let i = c.self.inside in
    let e = c.args.entity.now in
    let homes = subst (λ d. AreHomes d i.stores.places) c.self.invariant.script_is c.knows.ensures in
    let placed = subst (λ l. IsPlaced l c.in-Some.place e) c.self.invariant.names_are c.in-Some.ensures in
    state_read i.charter i.stores.places i.states.items e c.in-Some.place c.index.result.now c.self.invariant.states_are placed c.index.ensures
    ∙ (state_seen i.charter i.stores.places i.states.items e c.in-Some.place homes c.self.invariant.states_are placed
    ∙ ap (λ (v : AllLists). folded v.script.config.kind (journal e (shard_list v.lists (shard_of (setting v.script) e)))) c.self.view_is)
