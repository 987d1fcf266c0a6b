use Rattle.std.proofs.Common.{◌≡◌, ◌<◌, length, refl}
use Rattle.yard_model.specs.SlotReads.{journal, last_snapshot}
use Rattle.shard_entities.proofs.EntryLaws.{entry_snapshot, entry_stands, entry_moved, put_same, own_goes_on, own_cell, store_names, store_leads}
use Rattle.shard_entities.proofs.LodgedLaws.{cell_read, placed, within}
use Rattle.shard_entities.proofs.ReadyLaws.{touches}
use Rattle.shard_entities.proofs.StoreLaws.{store_place, store_room, store_held, store_reads}
use Rattle.shard_entities.proofs.shards.Shards.tell_snapshot.Goals as goal

pub state-requires : goal.state-requires
state-requires c = within c.self.invariant.kept.lodged c.self.view_is c.requires.place

pub write_snapshot-requires-clause-place : goal.write_snapshot-requires-clause-place
write_snapshot-requires-clause-place c = store_place c.self.invariant.kept.lodged c.self.view_is c.requires.place c.get.ensures.value c.index_mut.ensures.value c.requires.there.hosted_is

pub write_snapshot-requires-clause-spare : goal.write_snapshot-requires-clause-spare
write_snapshot-requires-clause-spare c = store_room c.self.invariant.kept.lodged c.self.view_is c.requires.place c.get.ensures.value c.index_mut.ensures.value c.requires.there.hosted_is c.requires.there

pub write_snapshot-requires-clause-leased : goal.write_snapshot-requires-clause-leased
write_snapshot-requires-clause-leased c = store_held c.self.invariant.kept.lodged c.self.view_is c.requires.place c.get.ensures.value c.index_mut.ensures.value c.requires.there.hosted_is

pub write_snapshot-requires-clause-number : goal.write_snapshot-requires-clause-number
write_snapshot-requires-clause-number c = store_reads (λ l. c.args.number ≡ length (journal c.args.place.now.entity l)) c.self.invariant.kept.lodged c.self.view_is c.requires.place c.get.ensures.value c.index_mut.ensures.value c.requires.there.hosted_is c.requires.number

pub write_snapshot-requires-clause-newer : goal.write_snapshot-requires-clause-newer
write_snapshot-requires-clause-newer c = store_reads (λ l. last_snapshot c.args.place.now.entity l < c.args.number) c.self.invariant.kept.lodged c.self.view_is c.requires.place c.get.ensures.value c.index_mut.ensures.value c.requires.there.hosted_is c.requires.newer

pub write_snapshot-requires-clause-name : goal.write_snapshot-requires-clause-name
write_snapshot-requires-clause-name c = store_names c.self.invariant.kept.lodged c.self.view_is c.requires.place c.get.ensures.value c.index_mut.ensures.value c.requires.there.hosted_is

pub write_snapshot-requires-clause-state : goal.write_snapshot-requires-clause-state
write_snapshot-requires-clause-state c = store_leads c.self.invariant.kept.lodged c.self.view_is c.requires.place (cell_read c.self.invariant.kept.lodged c.self.view_is c.requires.place) c.get.ensures.value c.index_mut.ensures.value c.requires.there.hosted_is c.requires.active c.state.ensures

pub invariant_of-self : goal.invariant_of-self
invariant_of-self c = record {
  kept = record {
    lodged = entry_stands (entry_snapshot c.args.place.now.entity c.args.number) c.self.invariant.kept.lodged c.self.view_is c.requires.place (put_same _ _ _ _ (within c.self.invariant.kept.lodged c.self.view_is c.requires.place) (cell_read c.self.invariant.kept.lodged c.self.view_is c.requires.place)) c.get.ensures.value c.index_mut.ensures.value c.write_snapshot.ensures
        (own_goes_on _ (λ old. refl) (own_cell c.self.invariant.kept.lodged c.self.view_is c.requires.place (cell_read c.self.invariant.kept.lodged c.self.view_is c.requires.place) c.get.ensures.value c.index_mut.ensures.value));
    counted = c.self.invariant.kept.counted;
  };
  ready = touches _ c.self.invariant.ready (placed c.self.invariant.kept.lodged c.self.view_is c.requires.place).shard_in c.get.ensures.value c.with-touched.ensures.it (λ t other. c.with-touched.ensures.others t other);
  restless = c.self.invariant.restless;
}

pub returns-clause-state : goal.returns-clause-state
returns-clause-state c = entry_moved c.self.inside.cells (entry_snapshot c.args.place.now.entity c.args.number) c.self.invariant.kept.lodged c.self.view_is c.requires.place refl c.get.ensures.value c.index_mut.ensures.value c.write_snapshot.ensures
