use Rattle.std.proofs.Common.{◌≡◌, sym, subst, ap, ◌∙◌}
use Rattle.std.specs.Prelude.{IsTrue}
use Rattle.yard_model.specs.Genuine.{is_slot_of}
use Rattle.yard_model.specs.Script.{Script}
use Rattle.yard_model.specs.SlotReads as reads
use Rattle.yard_model.specs.Trace.{list_at}
use Rattle.shard_store.specs.Stores.{entries_at, place_of}
use Rattle.entry_slots.specs.Entered.{AllLists}
use Rattle.entry_slots.proofs.PlacesLaws.{list_there}
use Rattle.entry_slots.proofs.slots.Slots.holder.Goals as goal

pub returns : goal.returns
returns c =
    let i = c.self.inside in
    let there = subst (λ (v : AllLists). IsTrue (is_slot_of v.script c.args.slot.now)) (sym c.self.view_is) c.requires in
    c.holder.ensures
    ∙ (ap (λ (d : Script). reads.holder (entries_at i.stores.places (place_of d.config c.args.slot.now))) c.self.invariant.script_is
    ∙ (ap reads.holder (sym (list_there i.charter i.stores.places c.args.slot.now there))
    ∙ ap (λ (v : AllLists). reads.holder (list_at v.lists c.args.slot.now)) c.self.view_is))
