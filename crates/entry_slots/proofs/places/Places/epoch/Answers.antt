use Rattle.std.proofs.Common.{◌≡◌, ◌<◌, length, sym, subst, ap, ◌∙◌, refl, arith}
use Rattle.std.specs.Prelude.{IsTrue}
use Rattle.yard_model.specs.Genuine.{is_slot_of}
use Rattle.shard_store.specs.Stores.{Shelves}
use Rattle.entry_slots.proofs.PlacesLaws.{spot_within}
use Rattle.entry_slots.proofs.places.Places.epoch.Goals as goal

pub index-requires : goal.index-requires
index-requires c =
    let i = c.self.inside in
    let within : c.place_in.result < length i.places.items =
    spot_within i.script.value i.script.value c.args.slot.now i.places.items c.place_in.result
    (record { same = refl; homes = c.self.invariant.0; there = subst (λ (v : Shelves). IsTrue (is_slot_of v.script c.args.slot.now)) (sym c.self.view_is) c.requires; place = c.place_in.ensures i.script.value c.self.invariant.2 }) in
    omega (arith, within, i.places.ok.0)
