use Rattle.std.proofs.Common.{◌≡◌, ◌<◌, ◌-◌, List, ℕ, [], length, ap, sym, subst, ◌∙◌, arith, Vec, Global}
use Rattle.std.specs.Prelude.{map, slice_get, slice_index_or, is_some}
use Rattle.std.proofs.lemmas.List.{length-map}
use Rattle.yard_model.specs.declared.event.Command.{Command}
use Rattle.yard_model.specs.declared.fact.Fact.{Fact}
use Rattle.yard_model.specs.Entry.{queue_fact}
use Rattle.yard_model.specs.Script.{names_in, plan}
use Rattle.yard_model.specs.SlotReads as reads
use Rattle.durable_queue.specs.Queue.{Queue, name_at}
use Rattle.durable_queue.proofs.PlaceLaws.{kept_at, within_at}
use Rattle.durable_queue.proofs.FirstLaws.{command_is, get_within, some_is}
use Rattle.durable_queue.proofs.store.QueueStore.command_at.Goals as goal

pub command_at-requires : goal.command_at-requires
command_at-requires c =
    let q = c.self.inside in
    let k = c.self.invariant.0 in
    let i = c.args.place in
    let within : i < length (names_in q.script.value.orders) = subst (λ (v : Queue). i < length (names_in v.script.orders)) (sym c.self.view_is) c.requires in
    let seen = λ (v : Vec Command Global). v.items in
    let plans : i < length (map seen q.plans.items) = within_at q.script.value q.names (map seen q.plans.items) i k.ordered k.sized.plans within in
    subst (λ (l : List (Vec Command Global)). i < length l) (sym c.as_slice.ensures.value) (subst (λ n. i < n) (length-map q.plans.items seen) plans)

pub returns-clause-value : goal.returns-clause-value
returns-clause-value c some =
    let q = c.self.inside in
    let k = c.self.invariant.0 in
    let i = c.args.place in
    let e : List ℕ = name_at q.script.value i in
    let xs : List Fact = map (queue_fact q.producer) q.entries.items in
    let within : i < length (names_in q.script.value.orders) = subst (λ (v : Queue). i < length (names_in v.script.orders)) (sym c.self.view_is) c.requires in
    let there : reads.queued e xs ≡ reads.queued (name_at c.args.self.now.script i) c.args.self.now.entries = ap (λ (v : Queue). reads.queued (name_at v.script i) v.entries) c.self.view_is in
    let seen = λ (v : Vec Command Global). v.items in
    c.command_at.ensures
    ∙ (ap (λ (l : List (Vec Command Global)). slice_get (slice_index_or (map seen l) i []) (c.args.number - 1)) c.as_slice.ensures.value
    ∙ (ap (λ (l : List Command). slice_get l (c.args.number - 1)) (kept_at q.script.value q.names (map seen q.plans.items) [] i k.ordered within ∙ k.plans.each e)
    ∙ (command_is q.script.value q.producer xs e (c.args.number - 1) k.list.first (omega arith)
    ∙ ap (λ (v : Queue). slice_get (reads.commands (name_at v.script i) v.entries) (c.args.number - 1)) c.self.view_is)))

pub returns-clause-planned : goal.returns-clause-planned
returns-clause-planned c =
    let q = c.self.inside in
    let k = c.self.invariant.0 in
    let i = c.args.place in
    let within : i < length (names_in q.script.value.orders) = subst (λ (v : Queue). i < length (names_in v.script.orders)) (sym c.self.view_is) c.requires in
    let seen = λ (v : Vec Command Global). v.items in
    some_is c.command_at.result (slice_get (plan c.args.self.now.script c.args.self.now.producer (name_at c.args.self.now.script i)) (c.args.number - 1))
    (c.command_at.ensures
    ∙ (ap (λ (l : List (Vec Command Global)). slice_get (slice_index_or (map seen l) i []) (c.args.number - 1)) c.as_slice.ensures.value
    ∙ (ap (λ (l : List Command). slice_get l (c.args.number - 1)) (kept_at q.script.value q.names (map seen q.plans.items) [] i k.ordered within ∙ k.plans.each (name_at q.script.value i))
    ∙ ap (λ (v : Queue). slice_get (plan v.script v.producer (name_at v.script i)) (c.args.number - 1)) c.self.view_is)))

pub returns-clause-queued : goal.returns-clause-queued
returns-clause-queued c =
    let some : 0 < c.args.number = omega arith in
    let e = name_at c.args.self.now.script c.args.place in
    let xs = c.args.self.now.entries in
    let within : c.args.number - 1 < reads.queued e xs = omega arith in (
      λ h. (some, omega arith),
      λ h. ap is_some (returns-clause-value c some) ∙ get_within (reads.commands e xs) (c.args.number - 1) within,
    )
