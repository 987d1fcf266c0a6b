use Rattle.std.proofs.Common.{◌≡◌, sym, subst, true}
use Rattle.yard_model.specs.Lawful.{is_of_shard}
use Rattle.shard_store.proofs.ShelfLaws.{among_names, there}
use Rattle.shard_store.proofs.shelf.ShardStore.record_of.Goals as goal

pub place-requires : goal.place-requires
place-requires c = among_names (record { script = c.self.inside.script.value; shard = c.self.inside.shard; entries = c.self.inside.list.entries; spare = c.self.inside.list.spare }) c.self.inside.names c.args.entity.now c.self.invariant.names_are (subst (λ v. is_of_shard v.script v.shard c.args.entity.now ≡ true) (sym c.self.view_is) c.requires.name)

pub record_at-requires-clause-place : goal.record_at-requires-clause-place
record_at-requires-clause-place c = there c.args.entity.now c.place.result c.self.invariant c.self.view_is c.place.ensures.within c.place.ensures.it
