use Rattle.std.proofs.Common.{ap, ◌∙◌, [], nat_lt, if◌then◌else◌}
use Rattle.yard_model.specs.SlotLists.{shard_list}
use Rattle.shard_store.specs.Stores.{lists_at, entries_at}
use Rattle.shard_store.proofs.StoresLaws.{shard_list_is}
use Rattle.shard_store.proofs.stores.StoresLists.shard.Goals as goal

pub returns : goal.returns
returns c =
    c.shard_entries.ensures
    ∙ (ap (λ n. if nat_lt c.args.s n then entries_at c.as_slice.result.now c.args.s else []) c.self.invariant.1
    ∙ (ap (λ l. if nat_lt c.args.s c.self.inside.script.value.config.shards then entries_at l c.args.s else []) c.as_slice.ensures.value
    ∙ (shard_list_is c.self.inside.script.value.config c.self.inside.places.items c.args.s
    ∙ ap (λ v. shard_list (lists_at v.script.config v.places) c.args.s) c.self.view_is)))
