use Rattle.std.proofs.Common.{List, map, sym, subst}
use Rattle.yard_model.specs.declared.fact.Fact.{Fact}
use Rattle.yard_model.specs.declared.incarnation.Slot.TheVariants as slot
use Rattle.yard_model.specs.Entry.{coord_fact}
use Rattle.yard_model.specs.Grown.{GoesOn}
use Rattle.yard_model.specs.Script.{Script}
use Rattle.coordinator_state.specs.Coord.{Coord}
use Rattle.coordinator_state.specs.Kept.{IsKept}
use Rattle.coordinator_state.proofs.store.CoordStore.grow.Goals as goal

pub invariant_of-result : goal.invariant_of-result
invariant_of-result c =
    let s = c.self.inside in
    let k = c.self.invariant in
    let new : Script = c.args.charter.now in
    let xs : List Fact = map coord_fact s.entries.items in
    let goes_on : GoesOn s.script.value new = subst (λ (v : Coord). GoesOn v.script new) (sym c.self.view_is) c.requires.goes_on in
    subst (λ (x : Script). IsKept x xs s.homes s.epoch s.leased) (sym c.of.ensures)
    (record { lawful = c.own_goes_on.ensures s.script.value new slot.Coordinator xs goes_on k.lawful; registered = k.registered; homes = k.homes; epoch = k.epoch; few = k.few; held = k.held })
