use Rattle.std.proofs.Common.{◌≡◌, sym, subst, true}
use Rattle.shard_store.specs.Shelf.{may}
use Rattle.yard_model.specs.declared.fact.Fact.TheVariants as fact
use Rattle.shard_store.proofs.ShelfLaws.{among_names, may_write, there}
use Rattle.shard_store.proofs.shelf.ShardStore.wrote.Goals as goal

pub place-place-requires : goal.place-place-requires
place-place-requires c = among_names (record { script = c.self.inside.script.value; shard = c.self.inside.shard; entries = c.self.inside.list.entries; spare = c.self.inside.list.spare }) c.self.inside.names c.args.entity.now c.self.invariant.names_are (may_write (record { script = c.self.inside.script.value; shard = c.self.inside.shard; entries = c.self.inside.list.entries; spare = c.self.inside.list.spare }) c.args.entity.now c.args.entry (subst (λ v. may v (fact.Wrote c.args.entity.now c.args.entry) ≡ true) (sym c.self.view_is) c.requires.next)).of

pub wrote_at-requires-clause-place : goal.wrote_at-requires-clause-place
wrote_at-requires-clause-place c = there c.args.entity.now c.place-place.result c.self.invariant c.self.view_is c.place-place.ensures.within c.place-place.ensures.it
