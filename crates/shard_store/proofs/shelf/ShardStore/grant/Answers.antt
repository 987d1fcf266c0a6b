use Rattle.std.proofs.Common.{◌≡◌, sym, subst, true, false}
use Rattle.yard_model.specs.Genuine.{is_node}
use Rattle.yard_model.specs.Lawful.{is_held}
use Rattle.shard_store.proofs.ShelfLaws.{shelf_granted}
use Rattle.shard_store.proofs.shelf.ShardStore.grant.Goals as goal

pub invariant_of-self : goal.invariant_of-self
invariant_of-self c = shelf_granted (record { script = c.self.inside.script.value; shard = c.self.inside.shard; entries = c.self.inside.list.entries; spare = c.self.inside.list.spare }) c.args.who c.slot_law.ensures c.self.invariant (subst (λ v. is_held v.entries ≡ false) (sym c.self.view_is) c.requires.free) (subst (λ v. is_node v.script c.args.who ≡ true) (sym c.self.view_is) c.requires.node) c.grant.ensures.epoch c.grant.ensures.entries c.grant.ensures.spare c.grant.ensures.shard
