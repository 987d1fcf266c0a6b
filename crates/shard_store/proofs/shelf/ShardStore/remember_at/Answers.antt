use Rattle.std.proofs.Common.{◌≡◌, sym, subst, true, false}
use Rattle.yard_model.specs.Lawful.{is_held}
use Rattle.yard_model.specs.Lawful.{is_of_shard}
use Rattle.yard_model.specs.SlotReads.{is_remembered}
use Rattle.shard_store.proofs.ShelfLaws.{named, shelf_remembered}
use Rattle.shard_store.proofs.shelf.ShardStore.remember_at.Goals as goal

pub invariant_of-self : goal.invariant_of-self
invariant_of-self c =
    let at : _ = named c.args.entity.now c.args.place c.self.invariant c.self.view_is c.requires.place in
    shelf_remembered (record { script = c.self.inside.script.value; shard = c.self.inside.shard; entries = c.self.inside.list.entries; spare = c.self.inside.list.spare }) c.args.entity.now c.args.place c.self.invariant (subst (λ v. is_held v.entries ≡ true) (sym c.self.view_is) c.requires.leased) (subst (λ v. is_of_shard v.script v.shard c.args.entity.now ≡ true) (sym c.self.view_is) c.requires.name) (subst (λ v. is_remembered c.args.entity.now v.entries ≡ false) (sym c.self.view_is) c.requires.new) at.within at.it c.add.ensures.added c.write.ensures.entries c.write.ensures.spare c.write.ensures.shard
