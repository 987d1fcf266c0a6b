use Rattle.std.proofs.Common.{◌≡◌, ◌≤◌, ◌<◌, List, ℕ, [], ap, sym, subst, ◌∙◌, arith}
use Rattle.std.specs.Prelude.{map, length, slice_index_or}
use Rattle.yard_model.specs.declared.fact.Fact.{Fact}
use Rattle.yard_model.specs.Entry.{queue_fact}
use Rattle.yard_model.specs.Script.{names_in, sends}
use Rattle.yard_model.specs.SlotReads as reads
use Rattle.durable_queue.specs.Kept.{commands_to}
use Rattle.durable_queue.specs.Queue.{Queue, name_at}
use Rattle.durable_queue.proofs.FirstLaws.{queued_fits}
use Rattle.durable_queue.proofs.store.QueueStore.confirm.Goals as goal

pub place-place-requires : goal.place-place-requires
place-place-requires c =
    let q = c.self.inside in
    let k = c.self.invariant.0 in
    let e = c.args.entity.now in
    let xs : List Fact = map (queue_fact q.producer) q.entries.items in
    let there : reads.queued e xs ≡ reads.queued e c.args.self.now.entries = ap (λ v. reads.queued e v.entries) c.self.view_is in
    let sent : reads.queued e xs ≤ length (commands_to e (sends q.script.value q.producer)) = queued_fits q.script.value q.producer xs e k.list.first in
    k.named.each e (omega arith)

pub confirm_at-requires-clause-within : goal.confirm_at-requires-clause-within
confirm_at-requires-clause-within c =
    let i = c.place-place.result in
    subst (λ (v : Queue). i < length (names_in v.script.orders)) c.self.view_is (subst (λ (l : List (List ℕ)). i < length l) c.self.invariant.0.ordered.are c.place-place.ensures.within)

pub confirm_at-requires-clause-it : goal.confirm_at-requires-clause-it
confirm_at-requires-clause-it c =
    let i = c.place-place.result in
    sym (ap (λ (v : Queue). name_at v.script i) c.self.view_is) ∙ (sym (ap (λ (l : List (List ℕ)). slice_index_or l i []) c.self.invariant.0.ordered.are) ∙ c.place-place.ensures.it)
