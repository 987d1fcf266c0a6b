use Rattle.std.proofs.Common.{◌<◌, List, ℕ, ap, sym, subst, ◌∙◌}
use Rattle.std.specs.Prelude.{length, slice_index_or}
use Rattle.yard_model.specs.Script.{names_in}
use Rattle.yard_model.specs.SlotReads as reads
use Rattle.durable_queue.specs.Queue.{Queue, name_at}
use Rattle.durable_queue.proofs.PlaceLaws.{kept_at, within_at}
use Rattle.durable_queue.proofs.store.QueueStore.confirmed_at.Goals as goal

pub count_at-requires : goal.count_at-requires
count_at-requires c =
    let q = c.self.inside in
    let k = c.self.invariant.0 in
    let i = c.args.place in
    let within : i < length (names_in q.script.value.orders) = subst (λ (v : Queue). i < length (names_in v.script.orders)) (sym c.self.view_is) c.requires in
    subst (λ (l : List ℕ). i < length l) (sym c.as_slice.ensures.value) (within_at q.script.value q.names q.confirmed.items i k.ordered k.sized.confirmed within)

pub returns : goal.returns
returns c =
    let q = c.self.inside in
    let k = c.self.invariant.0 in
    let i = c.args.place in
    let within : i < length (names_in q.script.value.orders) = subst (λ (v : Queue). i < length (names_in v.script.orders)) (sym c.self.view_is) c.requires in
    c.count_at.ensures
    ∙ (ap (λ (l : List ℕ). slice_index_or l i 0) c.as_slice.ensures.value
    ∙ (kept_at q.script.value q.names q.confirmed.items 0 i k.ordered within
    ∙ (k.confirmed.each (name_at q.script.value i)
    ∙ ap (λ (v : Queue). reads.confirmed (name_at v.script i) v.entries) c.self.view_is)))
