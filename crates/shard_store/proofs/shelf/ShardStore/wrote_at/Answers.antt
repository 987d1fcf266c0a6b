use Rattle.std.proofs.Common.{◌≡◌, ◌∷◌, ◌++◌, ◌∙◌, [], ap, sym, subst, true}
use Rattle.shard_store.specs.Shelf.{may}
use Rattle.yard_model.specs.declared.fact.Fact.TheVariants as fact
use Rattle.shard_store.proofs.ShelfLaws.{named, journal_number, journal_room, shelf_wrote}
use Rattle.shard_store.proofs.shelf.ShardStore.wrote_at.Goals as goal

pub append-requires-clause-number : goal.append-requires-clause-number
append-requires-clause-number c =
    let at : _ = named c.args.entity.now c.args.place c.self.invariant c.self.view_is c.requires.place in
    journal_number (record { script = c.self.inside.script.value; shard = c.self.inside.shard; entries = c.self.inside.list.entries; spare = c.self.inside.list.spare }) c.args.entity.now c.args.entry.now c.args.place c.index_mut.result.now c.self.invariant (subst (λ v. may v (fact.Wrote c.args.entity.now c.args.entry.now) ≡ true) (sym c.self.view_is) c.requires.next) at.within at.it c.index_mut.ensures.value

pub append-requires-clause-spare : goal.append-requires-clause-spare
append-requires-clause-spare c =
    let at : _ = named c.args.entity.now c.args.place c.self.invariant c.self.view_is c.requires.place in
    journal_room (record { script = c.self.inside.script.value; shard = c.self.inside.shard; entries = c.self.inside.list.entries; spare = c.self.inside.list.spare }) c.args.entity.now c.args.entry.now c.args.place c.index_mut.result.now c.self.invariant (subst (λ v. may v (fact.Wrote c.args.entity.now c.args.entry.now) ≡ true) (sym c.self.view_is) c.requires.next) at.within at.it c.index_mut.ensures.value

pub invariant_of-self : goal.invariant_of-self
invariant_of-self c =
    let at : _ = named c.args.entity.now c.args.place c.self.invariant c.self.view_is c.requires.place in
    shelf_wrote (record { script = c.self.inside.script.value; shard = c.self.inside.shard; entries = c.self.inside.list.entries; spare = c.self.inside.list.spare }) c.args.entity.now c.args.entry.now c.args.place c.index_mut.result.now c.append.new.self c.self.invariant (subst (λ v. may v (fact.Wrote c.args.entity.now c.args.entry.now) ≡ true) (sym c.self.view_is) c.requires.next) at.within at.it c.index_mut.ensures.value c.append.ensures.items (c.append.ensures.places ∙ ap (λ n. c.index_mut.result.now.places ++ n ∷ []) c.len-at.ensures) c.append.ensures.spare c.write.ensures.entries c.write.ensures.spare c.write.ensures.shard
