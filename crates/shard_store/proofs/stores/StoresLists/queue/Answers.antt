use Rattle.std.proofs.Common.{ap, ◌+◌, ◌∙◌}
use Rattle.yard_model.specs.SlotLists.{queue_list}
use Rattle.shard_store.specs.Stores.{lists_at, entries_at}
use Rattle.shard_store.proofs.StoresLaws.{queue_list_is}
use Rattle.shard_store.proofs.stores.StoresLists.queue.Goals as goal

pub returns : goal.returns
returns c =
    c.queue_entries.ensures.entries
    ∙ (ap (λ n. entries_at c.as_slice.result.now (n + c.args.p)) c.self.invariant.1
    ∙ (ap (λ l. entries_at l (c.self.inside.script.value.config.shards + c.args.p)) c.as_slice.ensures.value
    ∙ (queue_list_is c.self.inside.script.value c.self.inside.places.items c.args.p c.self.invariant.0 c.queue_entries.ensures.above
    ∙ ap (λ v. queue_list (lists_at v.script.config v.places) c.args.p) c.self.view_is)))
