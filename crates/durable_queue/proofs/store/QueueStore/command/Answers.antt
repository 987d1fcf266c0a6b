use Rattle.std.proofs.Common.{◌≡◌, ◌<◌, ◌-◌, List, ap, ◌∙◌, arith, Vec, Global}
use Rattle.std.specs.Prelude.{map, slice_get, is_some}
use Rattle.yard_model.specs.declared.event.Command.{Command}
use Rattle.yard_model.specs.declared.fact.Fact.{Fact}
use Rattle.durable_queue.specs.Kept.{planned}
use Rattle.yard_model.specs.Entry.{queue_fact}
use Rattle.yard_model.specs.Script.{plan}
use Rattle.yard_model.specs.SlotReads as reads
use Rattle.durable_queue.proofs.FirstLaws.{command_is, get_within, some_is}
use Rattle.durable_queue.proofs.store.QueueStore.command.Goals as goal

pub returns-clause-value : goal.returns-clause-value
returns-clause-value c some =
    let q = c.self.inside in
    let k = c.self.invariant.0 in
    let e = c.args.entity.now in
    let xs : List Fact = map (queue_fact q.producer) q.entries.items in
    let there : reads.queued e xs ≡ reads.queued e c.args.self.now.entries = ap (λ v. reads.queued e v.entries) c.self.view_is in
    let seen = λ (v : Vec Command Global). v.items in
    c.command_to.ensures ∙ (ap (λ l. slice_get (planned q.names (map seen l) e) (c.args.number - 1)) c.as_slice.ensures.value ∙ ap (λ l. slice_get l (c.args.number - 1)) (k.plans.each e)
    ∙ (command_is q.script.value q.producer xs e (c.args.number - 1) k.list.first (omega arith) ∙ ap (λ v. slice_get (reads.commands e v.entries) (c.args.number - 1)) c.self.view_is))

pub returns-clause-planned : goal.returns-clause-planned
returns-clause-planned c =
    let q = c.self.inside in
    let e = c.args.entity.now in
    some_is c.command_to.result (slice_get (plan c.args.self.now.script c.args.self.now.producer e) (c.args.number - 1))
    (c.command_to.ensures ∙ (ap (λ l. slice_get (planned q.names (map (λ (v : Vec Command Global). v.items) l) e) (c.args.number - 1)) c.as_slice.ensures.value ∙ ap (λ l. slice_get l (c.args.number - 1)) (c.self.invariant.0.plans.each e) ∙ ap (λ v. slice_get (plan v.script v.producer e) (c.args.number - 1)) c.self.view_is))

pub returns-clause-queued : goal.returns-clause-queued
returns-clause-queued c =
    let some : 0 < c.args.number = omega arith in
    let e = c.args.entity.now in
    let xs = c.args.self.now.entries in
    let within : c.args.number - 1 < reads.queued e xs = omega arith in (
      λ h. (some, omega arith),
      λ h. ap is_some (returns-clause-value c some) ∙ get_within (reads.commands e xs) (c.args.number - 1) within,
    )
