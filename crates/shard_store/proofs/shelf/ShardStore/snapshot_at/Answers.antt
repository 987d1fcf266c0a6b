use Rattle.std.proofs.Common.{◌≡◌, sym, subst, refl, true, ◌<◌, length}
use Rattle.yard_model.specs.Behaviour.{folded}
use Rattle.yard_model.specs.Lawful.{is_held}
use Rattle.yard_model.specs.Lawful.{is_of_shard}
use Rattle.yard_model.specs.SlotReads.{last_snapshot, journal}
use Rattle.shard_store.proofs.ShelfLaws.{named, shelf_saved}
use Rattle.shard_store.proofs.shelf.ShardStore.snapshot_at.Goals as goal

pub invariant_of-self : goal.invariant_of-self
invariant_of-self c =
    let at : _ = named c.args.entity.now c.args.place c.self.invariant c.self.view_is c.requires.place in
    shelf_saved (record { script = c.self.inside.script.value; shard = c.self.inside.shard; entries = c.self.inside.list.entries; spare = c.self.inside.list.spare }) c.args.entity.now c.len-at.result c.args.place c.index-journal.result.now (record { at = c.len-at.result; state = c.args.state.now; positions = c.positions_of-positions.result }) c.index_mut.result.now c.save.new.self c.self.invariant (subst (λ v. is_held v.entries ≡ true) (sym c.self.view_is) c.requires.leased) (subst (λ v. is_of_shard v.script v.shard c.args.entity.now ≡ true) (sym c.self.view_is) c.requires.name) (subst (λ v. last_snapshot c.args.entity.now v.entries < length (journal c.args.entity.now v.entries)) (sym c.self.view_is) c.requires.newer) at.within at.it c.index-journal.ensures c.len-at.ensures.count c.index_mut.ensures.value c.save.ensures.last c.save.ensures.keep refl (subst (λ v. c.args.state.now ≡ folded v.script.config.kind (journal c.args.entity.now v.entries)) (sym c.self.view_is) c.requires.state) c.positions_of-positions.ensures c.write.ensures.entries c.write.ensures.spare c.write.ensures.shard
