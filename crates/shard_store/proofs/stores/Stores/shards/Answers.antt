use Rattle.std.proofs.Common.{ap, subst, ◌∙◌}
use Rattle.shard_store.specs.Stores.{AreHomes, Shelves}
use Rattle.shard_store.proofs.stores.Stores.shards.Goals as goal

pub returns-clause-value : goal.returns-clause-value
returns-clause-value c = c.self.invariant.1 ∙ ap (λ (v : Shelves). v.script.config.shards) c.self.view_is

pub returns-clause-homes : goal.returns-clause-homes
returns-clause-homes c = subst (λ (v : Shelves). AreHomes v.script v.places) c.self.view_is c.self.invariant.0
