use Rattle.std.proofs.Common.{◌≡◌, ◌<◌, ◌∙◌, ap, refl, subst, sym, true}
use Rattle.std.specs.Prelude.{fold, slice_set}
use Rattle.yard_model.specs.declared.event.Kind.{Kind}
use Rattle.yard_model.specs.declared.fact.Fact.TheVariants as fact
use Rattle.yard_model.specs.declared.state.State.{State}
use Rattle.yard_model.specs.Behaviour.{apply, are_applicable, is_valid}
use Rattle.yard_model.specs.Script.{Script, IsScript}
use Rattle.entity_cells.specs.Celled.{celled_at}
use Rattle.shard_entities.proofs.CountLaws.{stays}
use Rattle.shard_entities.proofs.EntryLaws.{applied_led, entry_wrote, entry_stands, entry_moved, put_set, state_led, wrote_cell, same_cells}
use Rattle.shard_entities.proofs.LodgedLaws.{cell_read, placed, within}
use Rattle.shard_entities.proofs.ReadyLaws.{touched_where, shard_inside, wanted_of}
use Rattle.shard_entities.proofs.RestlessLaws.{rests_on}
use Rattle.shard_entities.proofs.StoreLaws.{store_place, store_room, store_may}
use Rattle.shard_entities.proofs.shards.Shards.tell_wrote.Goals as goal

pub apply-requires-clause-there : goal.apply-requires-clause-there
apply-requires-clause-there g c = within c.self.invariant.kept.lodged c.self.view_is c.requires.place

pub apply-requires-clause-valid : goal.apply-requires-clause-valid
apply-requires-clause-valid g c = subst (λ (k : Kind). is_valid k (celled_at c.self.inside.cells c.args.place.now.at).state ≡ true) (sym c.requires.kind) (state_led c.self.invariant.kept.lodged c.self.view_is c.requires.place (cell_read c.self.invariant.kept.lodged c.self.view_is c.requires.place) c.requires.there.hosted_is c.requires.active).valid

pub apply-requires-clause-events : goal.apply-requires-clause-events
apply-requires-clause-events g c = subst (λ es. are_applicable (celled_at c.self.inside.cells c.args.place.now.at).state es ≡ true) (sym c.as_slice.ensures.items) (subst (λ (s : State). are_applicable s c.args.entry.now.events ≡ true) (sym (state_led c.self.invariant.kept.lodged c.self.view_is c.requires.place (cell_read c.self.invariant.kept.lodged c.self.view_is c.requires.place) c.requires.there.hosted_is c.requires.active).state_is) c.requires.applies)

pub write_record-spare-requires-clause-place : goal.write_record-spare-requires-clause-place
write_record-spare-requires-clause-place g c = store_place c.self.invariant.kept.lodged c.self.view_is c.requires.place c.get.ensures.value c.index_mut.ensures.value c.requires.there.hosted_is

pub write_record-spare-requires-clause-spare : goal.write_record-spare-requires-clause-spare
write_record-spare-requires-clause-spare g c = store_room c.self.invariant.kept.lodged c.self.view_is c.requires.place c.get.ensures.value c.index_mut.ensures.value c.requires.there.hosted_is c.requires.there

pub write_record-spare-requires-clause-next : goal.write_record-spare-requires-clause-next
write_record-spare-requires-clause-next g c = store_may (fact.Wrote c.args.place.now.entity c.args.entry.now) c.self.invariant.kept.lodged c.self.view_is c.requires.place c.get.ensures.value c.index_mut.ensures.value c.requires.there.hosted_is c.requires.next

pub touch-requires-clause-script : goal.touch-requires-clause-script
touch-requires-clause-script g c = subst IsScript (sym c.self.invariant.kept.lodged.places_are) c.self.invariant.kept.lodged.script_is

pub touch-requires-clause-config : goal.touch-requires-clause-config
touch-requires-clause-config g c = c.self.invariant.kept.lodged.config_is ∙ ap (λ (x : Script). x.config) (sym c.self.invariant.kept.lodged.places_are)

pub touch-requires-clause-shard : goal.touch-requires-clause-shard
touch-requires-clause-shard g c = subst (λ (x : Script). c.args.place.now.shard < x.config.shards) (sym c.self.invariant.kept.lodged.places_are) (placed c.self.invariant.kept.lodged c.self.view_is c.requires.place).shard_in

pub invariant_of-self : goal.invariant_of-self
invariant_of-self g c = rw (c.apply.ensures) (
    let led : _ = applied_led c.args.entry.now (state_led c.self.invariant.kept.lodged c.self.view_is c.requires.place (cell_read c.self.invariant.kept.lodged c.self.view_is c.requires.place) c.requires.there.hosted_is c.requires.active) c.as_slice.ensures.items c.requires.applies in
    record {
      kept = stays (record { cell = (celled_at c.self.inside.cells c.args.place.now.at).cell; state = fold apply (celled_at c.self.inside.cells c.args.place.now.at).state c.as_slice.result.now; window = (celled_at c.self.inside.cells c.args.place.now.at).window }) c.self.invariant.kept c.self.view_is c.requires.place (cell_read c.self.invariant.kept.lodged c.self.view_is c.requires.place) refl
          (entry_stands (entry_wrote c.args.place.now.entity c.args.entry.now) c.self.invariant.kept.lodged c.self.view_is c.requires.place (put_set _ _ _ _ (within c.self.invariant.kept.lodged c.self.view_is c.requires.place)) c.get.ensures.value c.index_mut.ensures.value c.write_record-spare.ensures.entry
          (wrote_cell c.args.entry.now c.self.invariant.kept.lodged c.self.view_is c.requires.place (cell_read c.self.invariant.kept.lodged c.self.view_is c.requires.place) c.get.ensures.value c.index_mut.ensures.value refl led.state_is led.valid));
      ready = touched_where _ c.self.invariant.ready (placed c.self.invariant.kept.lodged c.self.view_is c.requires.place).shard_in c.get.ensures.value (shard_inside c.self.invariant.kept.lodged c.self.view_is c.requires.place.shard_in c.get.ensures.value) c.write_record-spare.ensures.room (wanted_of _ _ c.self.invariant.kept.lodged.places_are c.touch.ensures.ready) c.touch.ensures.others;
      restless = rests_on (record { cell = (celled_at c.self.inside.cells c.args.place.now.at).cell; state = fold apply (celled_at c.self.inside.cells c.args.place.now.at).state c.as_slice.result.now; window = (celled_at c.self.inside.cells c.args.place.now.at).window }) c.self.invariant.kept.lodged c.self.view_is c.requires.place (cell_read c.self.invariant.kept.lodged c.self.view_is c.requires.place) refl c.self.invariant.restless;
    })

pub returns-clause-state : goal.returns-clause-state
returns-clause-state g c = rw (c.apply.ensures) (entry_moved (slice_set c.self.inside.cells c.args.place.now.at (record { cell = (celled_at c.self.inside.cells c.args.place.now.at).cell; state = fold apply (celled_at c.self.inside.cells c.args.place.now.at).state c.as_slice.result.now; window = (celled_at c.self.inside.cells c.args.place.now.at).window })) (entry_wrote c.args.place.now.entity c.args.entry.now) c.self.invariant.kept.lodged c.self.view_is c.requires.place (same_cells c.self.inside.cells c.args.place.now.at (cell_read c.self.invariant.kept.lodged c.self.view_is c.requires.place) refl) c.get.ensures.value c.index_mut.ensures.value c.write_record-spare.ensures.entry)
