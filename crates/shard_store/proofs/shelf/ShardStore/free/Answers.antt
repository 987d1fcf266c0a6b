use Rattle.std.proofs.Common.{◌≡◌, sym, subst, true}
use Rattle.yard_model.specs.Lawful.{is_held}
use Rattle.shard_store.proofs.ShelfLaws.{shelf_freed}
use Rattle.shard_store.proofs.shelf.ShardStore.free.Goals as goal

pub invariant_of-self : goal.invariant_of-self
invariant_of-self c = shelf_freed (record { script = c.self.inside.script.value; shard = c.self.inside.shard; entries = c.self.inside.list.entries; spare = c.self.inside.list.spare }) c.args.cause c.slot_law.ensures c.self.invariant (subst (λ v. is_held v.entries ≡ true) (sym c.self.view_is) c.requires.leased) c.free.ensures.entries c.free.ensures.spare c.free.ensures.shard
