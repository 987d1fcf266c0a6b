use Rattle.std.proofs.Common.{◌≡◌, ◌≤◌, ◌<◌, List, ap, sym, subst, ◌∙◌, arith, true}
use Rattle.std.specs.Prelude.{map, length, slice_set}
use Rattle.yard_model.specs.declared.entry.QueueEntry.TheVariants as entry
use Rattle.yard_model.specs.declared.fact.Fact.{Fact}
use Rattle.yard_model.specs.Entry.{queue_fact}
use Rattle.yard_model.specs.Lawful.{is_held}
use Rattle.std.specs.List.{list_any}
use Rattle.yard_model.specs.Script.{sends, is_name, names_in}
use Rattle.yard_model.specs.SlotReads as reads
use Rattle.durable_queue.specs.Kept.{commands_to, place_of}
use Rattle.durable_queue.specs.Queue.{Queue, name_at}
use Rattle.durable_queue.proofs.PlaceLaws.{place_at, within_at}
use Rattle.durable_queue.proofs.FirstLaws.{queued_fits}
use Rattle.durable_queue.proofs.ListLaws.{list_confirmed, sums_confirmed}
use Rattle.durable_queue.proofs.KeptLaws.{kept_more, queued_confirmed, confirmed_confirmed, size_put, IsPut}
use Rattle.durable_queue.proofs.store.QueueStore.confirm_at.Goals as goal

pub put_at-requires : goal.put_at-requires
put_at-requires c =
    let q = c.self.inside in
    let k = c.self.invariant.0 in
    within_at q.script.value q.names q.confirmed.items c.args.place k.ordered k.sized.confirmed (subst (λ (v : Queue). c.args.place < length (names_in v.script.orders)) (sym c.self.view_is) c.requires.within)

pub invariant_of-self : goal.invariant_of-self
invariant_of-self c =
    let q = c.self.inside in
    let k = c.self.invariant.0 in
    let xs : List Fact = map (queue_fact q.producer) q.entries.items in
    let some : q.free ≡ c.args.self.now.spare = ap (λ v. v.spare) c.self.view_is in
    let e = c.args.entity.now in
    let held : is_held xs ≡ true = ap (λ v. is_held v.entries) c.self.view_is ∙ c.requires.leased in
    let there : reads.queued e xs ≡ reads.queued e c.args.self.now.entries = ap (λ v. reads.queued e v.entries) c.self.view_is in
    let sent : reads.queued e xs ≤ length (commands_to e (sends q.script.value q.producer)) = queued_fits q.script.value q.producer xs e k.list.first in
    let named : list_any (is_name e) q.names ≡ true = k.named.each e (omega arith) in
    let within : c.args.place < length (names_in q.script.value.orders) = subst (λ (v : Queue). c.args.place < length (names_in v.script.orders)) (sym c.self.view_is) c.requires.within in
    let it : name_at q.script.value c.args.place ≡ e = ap (λ (v : Queue). name_at v.script c.args.place) c.self.view_is ∙ c.requires.it in
    let place : c.args.place ≡ place_of q.names e = place_at q.script.value q.names c.args.place e k.ordered within it in
    let put : IsPut q.names q.confirmed.items c.put_at.new.counts.items e c.args.number = record { sized = k.sized.confirmed; named = named; is = c.put_at.ensures ∙ ap (λ i. slice_set q.confirmed.items i c.args.number) place } in
    let last : reads.confirmed e xs ≡ reads.confirmed e c.args.self.now.entries = ap (λ v. reads.confirmed e v.entries) c.self.view_is in (
      kept_more q.script.value q.producer q.entries.items c.push.new.entries.items (entry.Confirmed e c.args.number) q.names (map (λ v. v.items) q.plans.items) q.queued.items q.confirmed.items q.queued.items c.put_at.new.counts.items
          q.total q.epoch q.total q.epoch q.leased _ q.free _ _ k c.push.ensures.items (omega arith) c.push.ensures.capacity (omega arith) (omega arith) (record { plans = k.sized.plans; queued = k.sized.queued; confirmed = size_put q.names q.confirmed.items c.put_at.new.counts.items e c.args.number put })
          (list_confirmed q.script.value q.producer c.args.number xs e held (omega arith) (omega arith) k.list)
          (queued_confirmed q.names q.queued.items xs q.producer e c.args.number k.queued)
          (confirmed_confirmed q.names q.confirmed.items c.put_at.new.counts.items xs q.producer e c.args.number put k.confirmed)
          (sums_confirmed q.total q.epoch c.args.number q.leased xs q.producer e k.sums),
      c.self.invariant.1,
    )
