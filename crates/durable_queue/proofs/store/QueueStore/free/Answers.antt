use Rattle.std.proofs.Common.{◌≡◌, List, ap, ◌∙◌, arith, true}
use Rattle.std.specs.Prelude.{map}
use Rattle.yard_model.specs.declared.entry.QueueEntry.TheVariants as entry
use Rattle.yard_model.specs.declared.incarnation.Slot.TheVariants as slot
use Rattle.yard_model.specs.declared.fact.Fact.{Fact}
use Rattle.yard_model.specs.Entry.{queue_fact}
use Rattle.yard_model.specs.Lawful.{is_held}
use Rattle.durable_queue.proofs.ListLaws.{list_freed, sums_freed}
use Rattle.durable_queue.proofs.KeptLaws.{kept_more, queued_freed, confirmed_freed}
use Rattle.durable_queue.proofs.store.QueueStore.free.Goals as goal

pub invariant_of-self : goal.invariant_of-self
invariant_of-self c =
    let q = c.self.inside in
    let k = c.self.invariant.0 in
    let xs : List Fact = map (queue_fact q.producer) q.entries.items in
    let some : q.free ≡ c.args.self.now.spare = ap (λ v. v.spare) c.self.view_is in
    let held : is_held xs ≡ true = ap (λ v. is_held v.entries) c.self.view_is ∙ c.requires.leased in (
      kept_more q.script.value q.producer q.entries.items c.push.new.entries.items (entry.Freed q.epoch c.args.cause) q.names (map (λ v. v.items) q.plans.items) q.queued.items q.confirmed.items q.queued.items q.confirmed.items
          q.total q.epoch q.total q.epoch q.leased _ q.free _ _ k c.push.ensures.items (omega arith) c.push.ensures.capacity (omega arith) (omega arith) k.sized
          (list_freed q.script.value q.producer q.epoch xs c.args.cause held k.sums.epoch k.list)
          (queued_freed q.names q.queued.items xs (slot.Queue q.producer) q.epoch c.args.cause k.queued)
          (confirmed_freed q.names q.confirmed.items xs (slot.Queue q.producer) q.epoch c.args.cause k.confirmed)
          (sums_freed q.total q.epoch q.epoch q.leased xs q.producer c.args.cause k.sums),
      c.self.invariant.1,
    )
