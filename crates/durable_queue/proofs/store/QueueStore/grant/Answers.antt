use Rattle.std.proofs.Common.{◌≡◌, ◌+◌, List, ap, ◌∙◌, arith, true, false}
use Rattle.std.specs.Prelude.{map}
use Rattle.yard_model.specs.declared.entry.QueueEntry.TheVariants as entry
use Rattle.yard_model.specs.declared.incarnation.Slot.TheVariants as slot
use Rattle.yard_model.specs.declared.fact.Fact.{Fact}
use Rattle.yard_model.specs.Entry.{queue_fact}
use Rattle.yard_model.specs.Genuine.{is_node}
use Rattle.yard_model.specs.Lawful.{is_held}
use Rattle.durable_queue.proofs.ListLaws.{list_granted, sums_granted}
use Rattle.durable_queue.proofs.KeptLaws.{kept_more, queued_granted, confirmed_granted}
use Rattle.durable_queue.proofs.store.QueueStore.grant.Goals as goal

pub invariant_of-self : goal.invariant_of-self
invariant_of-self c =
    let q = c.self.inside in
    let k = c.self.invariant.0 in
    let xs : List Fact = map (queue_fact q.producer) q.entries.items in
    let some : q.free ≡ c.args.self.now.spare = ap (λ v. v.spare) c.self.view_is in
    let free : is_held xs ≡ false = ap (λ v. is_held v.entries) c.self.view_is ∙ c.requires.free in
    let node : is_node q.script.value c.args.who ≡ true = ap (λ v. is_node v.script c.args.who) c.self.view_is ∙ c.requires.node in (
      kept_more q.script.value q.producer q.entries.items c.push.new.entries.items (entry.Granted (q.epoch + 1) c.args.who) q.names (map (λ v. v.items) q.plans.items) q.queued.items q.confirmed.items q.queued.items q.confirmed.items
          q.total q.epoch q.total (q.epoch + 1) q.leased _ q.free _ _ k c.push.ensures.items (omega arith) c.push.ensures.capacity (omega arith) (omega arith) k.sized
          (list_granted q.script.value q.producer (q.epoch + 1) xs c.args.who free (ap (λ n. n + 1) k.sums.epoch) node k.list)
          (queued_granted q.names q.queued.items xs (slot.Queue q.producer) (q.epoch + 1) c.args.who k.queued)
          (confirmed_granted q.names q.confirmed.items xs (slot.Queue q.producer) (q.epoch + 1) c.args.who k.confirmed)
          (sums_granted q.total q.epoch (q.epoch + 1) q.leased xs q.producer c.args.who k.sums),
      c.self.invariant.1,
    )
