use Rattle.std.proofs.Common.{◌≡◌, ◌∙◌, ap, subst, map, IfOk}
use Rattle.yard_model.specs.Entry.{shard_fact}
use Rattle.shard_store.specs.Leased.{Listed}
use Rattle.shard_store.proofs.ReshapeLaws.{all_brought, entries_free, list_is_after}
use Rattle.shard_store.proofs.reshape.list_after.Goals as goal

pub entries_of_names-requires : goal.entries_of_names-requires
entries_of_names-requires c = all_brought c.args.stores.now.script c.args.charter.now c.args.charter.now.config.shards c.args.s c.as_slice.result.now c.requires.over.script_is (c.as_slice.ensures ∙ c.requires.names)

pub begun-requires : goal.begun-requires
begun-requires c = entries_free c.args.stores.now c.as_slice.result.now (map (shard_fact c.args.s) c.in_ok-entries.entries.items) (c.in_ok-entries.ensures c.args.s)

pub returns : goal.returns
returns c =
    subst (λ l. IfOk c.begun.result (λ (r : Listed). r ≡ record { shard = c.args.s; entries = l; spare = 0 }))
    (list_is_after c.args.stores.now c.args.charter.now c.args.epoch c.args.s c.config.result.now.shards c.as_slice.result.now (map (shard_fact c.args.s) c.in_ok-entries.entries.items)
    c.requires.over c.requires.within (ap (λ x. x.shards) c.config.ensures.value) (c.as_slice.ensures ∙ c.requires.names) (c.in_ok-entries.ensures c.args.s))
    c.begun.ensures
