use Rattle.std.proofs.Common.{◌≡◌, ◌<◌, List, ℕ, [], ap, sym, subst, ◌∙◌, arith}
use Rattle.std.specs.Prelude.{map, length, slice_get, slice_index_or, Some}
use Rattle.yard_model.specs.declared.charter.Sending.{Sending}
use Rattle.yard_model.specs.declared.fact.Fact.{Fact}
use Rattle.yard_model.specs.Entry.{queue_fact}
use Rattle.yard_model.specs.Script.{names_in, sends}
use Rattle.yard_model.specs.SlotReads as reads
use Rattle.std.proofs.lemmas.Option.{slice_get-get_or}
use Rattle.durable_queue.specs.Queue.{Queue, name_at}
use Rattle.durable_queue.proofs.FirstLaws.{some_commands}
use Rattle.durable_queue.proofs.store.QueueStore.queue.Goals as goal

pub place-place-requires : goal.place-place-requires
place-place-requires c =
    let q = c.self.inside in
    let k = c.self.invariant.0 in
    let x = c.index-sends-self.result in
    let all : List Sending = sends q.script.value q.producer in
    let xs : List Fact = map (queue_fact q.producer) q.entries.items in
    let list : c.sends.result.now ≡ all = c.sends.ensures ∙ ap (λ v. sends v q.producer) (c.requires.charter ∙ sym (ap (λ v. v.script) c.self.view_is)) in
    let left : reads.queued_in_all xs < length all =
    let more : reads.queued_in_all xs ≡ reads.queued_in_all c.args.self.now.entries = ap (λ v. reads.queued_in_all v.entries) c.self.view_is in
    let size : length all ≡ length (sends c.args.self.now.script c.args.self.now.producer) = ap (λ v. length (sends v.script v.producer)) c.self.view_is in omega arith in
    let at : x ≡ slice_index_or all (reads.queued_in_all xs) x = c.index-sends-self.is ∙ (ap (λ l. slice_index_or l q.total x) list ∙ ap (λ n. slice_index_or all n x) k.sums.total) in
    k.named.each x.entity (some_commands all (reads.queued_in_all xs) x left at)

pub queue_at-requires-clause-within : goal.queue_at-requires-clause-within
queue_at-requires-clause-within c =
    let i = c.place-place.result in
    subst (λ (v : Queue). i < length (names_in v.script.orders)) c.self.view_is (subst (λ (l : List (List ℕ)). i < length l) c.self.invariant.0.ordered.are c.place-place.ensures.within)

pub queue_at-requires-clause-it : goal.queue_at-requires-clause-it
queue_at-requires-clause-it c =
    let i = c.place-place.result in
    sym (ap (λ (v : Queue). name_at v.script i) c.self.view_is) ∙ (sym (ap (λ (l : List (List ℕ)). slice_index_or l i []) c.self.invariant.0.ordered.are) ∙ c.place-place.ensures.it)

pub queue_at-requires-clause-next : goal.queue_at-requires-clause-next
queue_at-requires-clause-next c =
    let q = c.self.inside in
    let k = c.self.invariant.0 in
    let x = c.index-sends-self.result in
    let all : List Sending = sends q.script.value q.producer in
    let xs : List Fact = map (queue_fact q.producer) q.entries.items in
    let list : c.sends.result.now ≡ all = c.sends.ensures ∙ ap (λ v. sends v q.producer) (c.requires.charter ∙ sym (ap (λ v. v.script) c.self.view_is)) in
    let left : reads.queued_in_all xs < length all =
    let more : reads.queued_in_all xs ≡ reads.queued_in_all c.args.self.now.entries = ap (λ v. reads.queued_in_all v.entries) c.self.view_is in
    let size : length all ≡ length (sends c.args.self.now.script c.args.self.now.producer) = ap (λ v. length (sends v.script v.producer)) c.self.view_is in omega arith in
    let at : x ≡ slice_index_or all (reads.queued_in_all xs) x = c.index-sends-self.is ∙ (ap (λ l. slice_index_or l q.total x) list ∙ ap (λ n. slice_index_or all n x) k.sums.total) in
    sym (ap (λ v. slice_get (sends v.script v.producer) (reads.queued_in_all v.entries)) c.self.view_is) ∙ (slice_get-get_or all (reads.queued_in_all xs) x left ∙ ap Some (sym at))

pub returns-clause-next : goal.returns-clause-next
returns-clause-next c =
    let q = c.self.inside in
    let k = c.self.invariant.0 in
    let x = c.index-sends-self.result in
    let all : List Sending = sends q.script.value q.producer in
    let xs : List Fact = map (queue_fact q.producer) q.entries.items in
    let list : c.sends.result.now ≡ all = c.sends.ensures ∙ ap (λ v. sends v q.producer) (c.requires.charter ∙ sym (ap (λ v. v.script) c.self.view_is)) in
    let left : reads.queued_in_all xs < length all =
    let more : reads.queued_in_all xs ≡ reads.queued_in_all c.args.self.now.entries = ap (λ v. reads.queued_in_all v.entries) c.self.view_is in
    let size : length all ≡ length (sends c.args.self.now.script c.args.self.now.producer) = ap (λ v. length (sends v.script v.producer)) c.self.view_is in omega arith in
    let at : x ≡ slice_index_or all (reads.queued_in_all xs) x = c.index-sends-self.is ∙ (ap (λ l. slice_index_or l q.total x) list ∙ ap (λ n. slice_index_or all n x) k.sums.total) in
    sym (ap (λ v. slice_get (sends v.script v.producer) (reads.queued_in_all v.entries)) c.self.view_is) ∙ (slice_get-get_or all (reads.queued_in_all xs) x left ∙ ap Some (sym at))
