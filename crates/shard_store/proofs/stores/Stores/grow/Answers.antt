use Rattle.std.proofs.Common.{◌≡◌, sym, ap, subst, ◌∙◌}
use Rattle.std.specs.Prelude.{List, Option}
use Rattle.yard_model.specs.Grown.{GoesOn}
use Rattle.yard_model.specs.Script.{Script}
use Rattle.shard_store.specs.declared.store.Store.{Store}
use Rattle.shard_store.specs.Stores.{lists_at}
use Rattle.shard_store.proofs.GrowStoresLaws.{lists_on}
use Rattle.shard_store.proofs.stores.Stores.grow.Goals as goal

pub returns-in-Ok-clause-lists : goal.returns-in-Ok-clause-lists
returns-in-Ok-clause-lists c =
    let old : Script = c.into_parts-shards.result.script.value in
    let before : List (Option Store) = c.into_parts-shards.result.places.items in
    let after : List (Option Store) = c.grow_all.new.places.items in
    let goes : GoesOn old c.args.charter.now = subst (λ s. GoesOn s c.args.charter.now) (sym c.into_parts-shards.ensures.script) c.requires in
    ap (lists_at c.args.charter.now.config) c.from_parts.ensures.places
    ∙ (lists_on old c.args.charter.now before after goes c.into_parts-shards.ensures.homes c.in-Ok.ensures
    ∙ (ap (λ s. lists_at s.config before) c.into_parts-shards.ensures.script
    ∙ ap (lists_at c.args.self.script.config) c.into_parts-shards.ensures.places))
