use Rattle.std.proofs.Common.{refl, ◌≡◌, false}
use Rattle.yard_model.specs.SlotReads.{is_remembered}
use Rattle.shard_entities.proofs.EntryLaws.{entry_remembered, entry_only, entry_moved, store_names}
use Rattle.shard_entities.proofs.LodgedLaws.{placed}
use Rattle.shard_entities.proofs.ReadyLaws.{touches}
use Rattle.shard_entities.proofs.StoreLaws.{store_place, store_room, store_held, store_reads}
use Rattle.shard_entities.proofs.shards.Shards.tell_remembered.Goals as goal

pub write_remembered-requires-clause-place : goal.write_remembered-requires-clause-place
write_remembered-requires-clause-place c = store_place c.self.invariant.kept.lodged c.self.view_is c.requires.place c.get.ensures.value c.index_mut.ensures.value c.requires.there.hosted_is

pub write_remembered-requires-clause-spare : goal.write_remembered-requires-clause-spare
write_remembered-requires-clause-spare c = store_room c.self.invariant.kept.lodged c.self.view_is c.requires.place c.get.ensures.value c.index_mut.ensures.value c.requires.there.hosted_is c.requires.there

pub write_remembered-requires-clause-leased : goal.write_remembered-requires-clause-leased
write_remembered-requires-clause-leased c = store_held c.self.invariant.kept.lodged c.self.view_is c.requires.place c.get.ensures.value c.index_mut.ensures.value c.requires.there.hosted_is

pub write_remembered-requires-clause-new : goal.write_remembered-requires-clause-new
write_remembered-requires-clause-new c = store_reads (λ l. is_remembered c.args.place.now.entity l ≡ false) c.self.invariant.kept.lodged c.self.view_is c.requires.place c.get.ensures.value c.index_mut.ensures.value c.requires.there.hosted_is c.requires.new

pub write_remembered-requires-clause-name : goal.write_remembered-requires-clause-name
write_remembered-requires-clause-name c = store_names c.self.invariant.kept.lodged c.self.view_is c.requires.place c.get.ensures.value c.index_mut.ensures.value c.requires.there.hosted_is

pub invariant_of-self : goal.invariant_of-self
invariant_of-self c = record {
  kept = record {
    lodged = entry_only (entry_remembered c.args.place.now.entity) (λ old. refl) c.self.invariant.kept.lodged c.self.view_is c.requires.place c.get.ensures.value c.index_mut.ensures.value c.write_remembered.ensures;
    counted = c.self.invariant.kept.counted;
  };
  ready = touches _ c.self.invariant.ready (placed c.self.invariant.kept.lodged c.self.view_is c.requires.place).shard_in c.get.ensures.value c.with-touched.ensures.it (λ t other. c.with-touched.ensures.others t other);
  restless = c.self.invariant.restless;
}

pub returns-clause-state : goal.returns-clause-state
returns-clause-state c = entry_moved c.self.inside.cells (entry_remembered c.args.place.now.entity) c.self.invariant.kept.lodged c.self.view_is c.requires.place refl c.get.ensures.value c.index_mut.ensures.value c.write_remembered.ensures
