-- A hosted shard with one entry more.
use Rattle.std.specs.Prelude.{Option, None, Some}
use Rattle.yard_model.specs.declared.fact.Fact.{Fact}
use Rattle.shard_store.specs.Shelf.{Shelf, with_entry}
use Rattle.shard_entities.specs.declared.hosting.Ending.{Ending}
use Rattle.shard_entities.specs.declared.hosting.Hosting.{Hosting}

-- it is hosted, and this is so of its store
abbrev pub WithStore : Option Hosting → (Shelf → Type 0) → Type 0
WithStore None P = ⊥
WithStore (Some h) P = P h.store

abbrev pub entered : Fact → Hosting → Hosting
entered f h = record { store = with_entry h.store f; stopping = h.stopping }

-- it stops from now on
abbrev pub ended : Ending → Hosting → Hosting
ended x h = record { store = h.store; stopping = Some x }
