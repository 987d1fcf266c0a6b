use Rattle.std.proofs.Common.{◌≡◌, ◌<◌, ◌+◌, List, ap, sym, subst, ◌∙◌, arith, true, refl}
use Rattle.std.specs.Prelude.{map, length, slice_get, slice_index_or, slice_set, Some}
use Rattle.yard_model.specs.declared.charter.Sending.{Sending}
use Rattle.yard_model.specs.declared.entry.QueueEntry.TheVariants as entry
use Rattle.yard_model.specs.declared.fact.Fact.{Fact}
use Rattle.durable_queue.specs.Kept.{counted, place_of}
use Rattle.yard_model.specs.Entry.{queue_fact}
use Rattle.yard_model.specs.Equal.{is_sending}
use Rattle.yard_model.specs.Lawful.{is_held}
use Rattle.yard_model.specs.Script.{names_in, sends}
use Rattle.yard_model.specs.SlotReads as reads
use Rattle.std.proofs.lemmas.Option.{slice_get-get_or, slice_get_within}
use Rattle.durable_queue.proofs.FirstLaws.{some_commands}
use Rattle.durable_queue.specs.Queue.{Queue, name_at}
use Rattle.durable_queue.proofs.PlaceLaws.{place_at, within_at}
use Rattle.plain_laws.proofs.Lists.{some_is}
use Rattle.durable_queue.proofs.NumberLaws.{number_next}
use Rattle.durable_queue.proofs.ListLaws.{list_queued, sums_queued}
use Rattle.durable_queue.proofs.KeptLaws.{kept_more, queued_queued, confirmed_queued, size_put, IsPut}
use Rattle.durable_queue.proofs.store.QueueStore.queue_at.Goals as goal

pub put_at-requires : goal.put_at-requires
put_at-requires c =
    let q = c.self.inside in
    let k = c.self.invariant.0 in
    within_at q.script.value q.names q.queued.items c.args.place k.ordered k.sized.queued (subst (λ (v : Queue). c.args.place < length (names_in v.script.orders)) (sym c.self.view_is) c.requires.within)

pub returns-clause-number : goal.returns-clause-number
returns-clause-number c =
    let q = c.self.inside in
    let k = c.self.invariant.0 in
    let x = c.args.sending.now in
    let all : List Sending = sends q.script.value q.producer in
    let xs : List Fact = map (queue_fact q.producer) q.entries.items in
    let next : slice_get all (reads.queued_in_all xs) ≡ Some x = ap (λ v. slice_get (sends v.script v.producer) (reads.queued_in_all v.entries)) c.self.view_is ∙ c.requires.next in
    number_next q.script.value q.producer xs x k.list.first next ∙ ap (λ v. reads.queued x.entity v.entries + 1) c.self.view_is

pub invariant_of-self : goal.invariant_of-self
invariant_of-self c =
    let q = c.self.inside in
    let k = c.self.invariant.0 in
    let x = c.args.sending.now in
    let all : List Sending = sends q.script.value q.producer in
    let xs : List Fact = map (queue_fact q.producer) q.entries.items in
    let next : slice_get all (reads.queued_in_all xs) ≡ Some x = ap (λ v. slice_get (sends v.script v.producer) (reads.queued_in_all v.entries)) c.self.view_is ∙ c.requires.next in
    let left : reads.queued_in_all xs < length all = slice_get_within all (reads.queued_in_all xs) x next in
    let at : x ≡ slice_index_or all (reads.queued_in_all xs) x = some_is x (slice_index_or all (reads.queued_in_all xs) x) (sym next ∙ slice_get-get_or all (reads.queued_in_all xs) x left) in
    let within : c.args.place < length (names_in q.script.value.orders) = subst (λ (v : Queue). c.args.place < length (names_in v.script.orders)) (sym c.self.view_is) c.requires.within in
    let it : name_at q.script.value c.args.place ≡ x.entity = ap (λ (v : Queue). name_at v.script c.args.place) c.self.view_is ∙ c.requires.it in
    let place : c.args.place ≡ place_of q.names x.entity = place_at q.script.value q.names c.args.place x.entity k.ordered within it in
    let some : q.free ≡ c.args.self.now.spare = ap (λ v. v.spare) c.self.view_is in
    let held : is_held xs ≡ true = ap (λ v. is_held v.entries) c.self.view_is ∙ c.requires.leased in
    let same : is_sending x x ≡ true = (c.sending_law.ensures x x).1 refl in
    let counts : x.number ≡ counted q.names q.queued.items x.entity + 1 = number_next q.script.value q.producer xs x k.list.first next ∙ ap (λ n. n + 1) (sym (k.queued.each x.entity)) in
    let put : IsPut q.names q.queued.items c.put_at.new.counts.items x.entity x.number =
    record { sized = k.sized.queued; named = k.named.each x.entity (some_commands all (reads.queued_in_all xs) x left at); is = c.put_at.ensures ∙ ap (λ i. slice_set q.queued.items i x.number) place } in (
      kept_more q.script.value q.producer q.entries.items c.push.new.entries.items (entry.Queued x.entity x.number x.command) q.names (map (λ v. v.items) q.plans.items) q.queued.items q.confirmed.items c.put_at.new.counts.items q.confirmed.items
          q.total q.epoch (q.total + 1) q.epoch q.leased _ q.free _ _ k c.push.ensures.items (omega arith) c.push.ensures.capacity (omega arith) (omega arith)
          (record { plans = k.sized.plans; queued = size_put q.names q.queued.items c.put_at.new.counts.items x.entity x.number put; confirmed = k.sized.confirmed })
          (list_queued q.script.value q.producer xs x same held next k.list)
          (queued_queued q.names q.queued.items c.put_at.new.counts.items xs q.producer x x.number counts put k.queued)
          (confirmed_queued q.names q.confirmed.items xs q.producer x k.confirmed)
          (sums_queued q.total q.epoch q.leased xs q.producer x k.sums),
      c.self.invariant.1,
    )
