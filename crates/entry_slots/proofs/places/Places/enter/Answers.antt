use Rattle.std.proofs.Common.{◌≡◌, ◌<◌, ℕ, length, sym, subst, ap, ◌∙◌, true, arith}
use Rattle.std.specs.Prelude.{List, Option, OnErr, slice_set}
use Rattle.std.specs.Prelude.{Result, Ok, Err}
use Rattle.yard_model.specs.declared.incarnation.Slot.{Slot}
use Rattle.yard_model.specs.Genuine.{is_slot_of}
use Rattle.yard_model.specs.Script.{Script}
use Rattle.shard_store.specs.declared.store.Store.{Store}
use Rattle.shard_store.specs.Stores.{AreHomes, Shelves, place_of}
use Rattle.entry_slots.specs.Entered.{EntersPlaces, StayPlaces}
use Rattle.entry_slots.proofs.PlacesLaws.{Spot, spot_enters, spot_entered, spot_home, spot_kept, spot_stays, spot_within}
use Rattle.entry_slots.proofs.places.Places.enter.Goals as goal

on_err : {T E : Type 0} (r : Result T E) (P : Type 0) → P → OnErr r P
on_err (Ok x) P h = tt
on_err (Err e) P h = h

-- the spot, of what is kept
spot_of : (c d : Script) (v : Shelves) (s : Slot) (places : List (Option Store)) (k shards : ℕ) → c ≡ v.script → record { script = d; places = places } ≡ v → AreHomes d places → shards ≡ d.config.shards → is_slot_of c s ≡ true
    → ((x : Script) → shards ≡ x.config.shards → k ≡ place_of x.config s) → Spot c d s places k
spot_of c d v s places k shards charter view homes count there place =
    let same : c ≡ d = charter ∙ sym (ap (λ (x : Shelves). x.script) view) in
    record { same = same; homes = subst (λ x. AreHomes x places) (sym same) homes; there = there; place = place c (count ∙ ap (λ (x : Script). x.config.shards) (sym same)) }

pub index_mut-requires : goal.index_mut-requires
index_mut-requires c =
    let i = c.self.inside in
    let within : c.place_in-place.result < length i.places.items =
    spot_within c.args.charter.now i.script.value c.args.slot.now i.places.items c.place_in-place.result
    (spot_of c.args.charter.now i.script.value c.args.self.now c.args.slot.now i.places.items c.place_in-place.result i.shards c.requires.charter c.self.view_is c.self.invariant.0 c.self.invariant.2 c.requires.slot c.place_in-place.ensures) in
    omega (arith, within, i.places.ok.0)

pub enter_store-requires-clause-home : goal.enter_store-requires-clause-home
enter_store-requires-clause-home c =
    let i = c.self.inside in
    spot_home c.args.charter.now i.script.value c.args.slot.now i.places.items c.place_in-place.result c.index_mut.result.now
    (spot_of c.args.charter.now i.script.value c.args.self.now c.args.slot.now i.places.items c.place_in-place.result i.shards c.requires.charter c.self.view_is c.self.invariant.0 c.self.invariant.2 c.requires.slot c.place_in-place.ensures)
    c.index_mut.ensures.value

pub invariant_of-self : goal.invariant_of-self
invariant_of-self c =
    let i = c.self.inside in
    let p = spot_of c.args.charter.now i.script.value c.args.self.now c.args.slot.now i.places.items c.place_in-place.result i.shards c.requires.charter c.self.view_is c.self.invariant.0 c.self.invariant.2 c.requires.slot c.place_in-place.ensures in
    spot_kept c.args.charter.now i.script.value c.args.slot.now i.places.items _ i.holders.items i.shards c.place_in-place.result p c.self.invariant.1 c.self.invariant.2
    (spot_stays c.args.charter.now i.script.value c.args.slot.now i.places.items c.place_in-place.result c.index_mut.result.now c.enter_store.new.store p c.index_mut.ensures.value c.in_err-done.ensures.err)

pub returns-in_err-done-clause-err : goal.returns-in_err-done-clause-err
returns-in_err-done-clause-err c =
    let i = c.self.inside in
    let p = spot_of c.args.charter.now i.script.value c.args.self.now c.args.slot.now i.places.items c.place_in-place.result i.shards c.requires.charter c.self.view_is c.self.invariant.0 c.self.invariant.2 c.requires.slot c.place_in-place.ensures in
    on_err c.from_residual.result _
    (subst (λ (v : Shelves). StayPlaces c.args.charter.now c.args.slot.now v.places (slice_set i.places.items c.place_in-place.result c.enter_store.new.store)) c.self.view_is
    (spot_stays c.args.charter.now i.script.value c.args.slot.now i.places.items c.place_in-place.result c.index_mut.result.now c.enter_store.new.store p c.index_mut.ensures.value c.in_err-done.ensures.err))

pub note_holder-requires : goal.note_holder-requires
note_holder-requires c =
    let i = c.self.inside in
    subst (λ n. c.place_in-place.result < n) (sym c.self.invariant.1.sized)
    (spot_within c.args.charter.now i.script.value c.args.slot.now i.places.items c.place_in-place.result
    (spot_of c.args.charter.now i.script.value c.args.self.now c.args.slot.now i.places.items c.place_in-place.result i.shards c.requires.charter c.self.view_is c.self.invariant.0 c.self.invariant.2 c.requires.slot c.place_in-place.ensures))

pub invariant_of-self-2 : goal.invariant_of-self-2
invariant_of-self-2 c =
    let i = c.self.inside in
    let p = spot_of c.args.charter.now i.script.value c.args.self.now c.args.slot.now i.places.items c.place_in-place.result i.shards c.requires.charter c.self.view_is c.self.invariant.0 c.self.invariant.2 c.requires.slot c.place_in-place.ensures in
    spot_entered c.args.charter.now i.script.value c.args.slot.now i.places.items _ i.holders.items c.note_holder.new.holders.items i.shards c.place_in-place.result c.args.fact.now c.in_ok-done.done p c.self.invariant.1 c.self.invariant.2
    (spot_enters c.args.charter.now i.script.value c.args.slot.now i.places.items c.place_in-place.result c.index_mut.result.now c.enter_store.new.store c.args.fact.now c.in_ok-done.done p c.index_mut.ensures.value c.in_ok-done.ensures.ok)
    c.note_holder.ensures

pub returns-clause-ok : goal.returns-clause-ok
returns-clause-ok c =
    let i = c.self.inside in
    let p = spot_of c.args.charter.now i.script.value c.args.self.now c.args.slot.now i.places.items c.place_in-place.result i.shards c.requires.charter c.self.view_is c.self.invariant.0 c.self.invariant.2 c.requires.slot c.place_in-place.ensures in
    subst (λ (v : Shelves). EntersPlaces c.args.charter.now c.args.slot.now v.places c.args.fact.now c.in_ok-done.done (slice_set i.places.items c.place_in-place.result c.enter_store.new.store)) c.self.view_is
    (spot_enters c.args.charter.now i.script.value c.args.slot.now i.places.items c.place_in-place.result c.index_mut.result.now c.enter_store.new.store c.args.fact.now c.in_ok-done.done p c.index_mut.ensures.value c.in_ok-done.ensures.ok)
