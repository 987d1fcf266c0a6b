use Rattle.std.proofs.Common.{◌≡◌, ℕ, List, length, map, true, sym, subst, ◌∙◌, Vec, Global}
use Rattle.std.proofs.lemmas.List.{length-map}
use Rattle.std.specs.Vec.{vec_capacity}
use Rattle.yard_model.specs.declared.charter.Sending.{Sending}
use Rattle.yard_model.specs.declared.event.Command.{Command}
use Rattle.yard_model.specs.declared.fact.Fact.{Fact}
use Rattle.yard_model.specs.declared.incarnation.Slot.TheVariants as slot
use Rattle.yard_model.specs.Entry.{queue_fact}
use Rattle.yard_model.specs.Grown.{GoesOn}
use Rattle.yard_model.specs.Lawful.{own}
use Rattle.yard_model.specs.Script.{Script, sends}
use Rattle.durable_queue.specs.Kept.{ArePlans, IsKept}
use Rattle.durable_queue.specs.Queue.{Queue}
use Rattle.durable_queue.proofs.GoesOnLaws.{kept_on, names_on, planned_front, planned_within}
use Rattle.durable_queue.proofs.store.QueueStore.grow.Goals as goal

pub know_more-requires-clause-all : goal.know_more-requires-clause-all
know_more-requires-clause-all c =
    let q = c.self.inside in
    let d : Script = c.args.charter.now in
    let goes_on : GoesOn q.script.value d = subst (λ (v : Queue). GoesOn v.script d) (sym c.self.view_is) c.requires.goes_on in
    names_on q.script.value d q.names goes_on c.self.invariant.0.ordered

pub know_more-requires-clause-sized : goal.know_more-requires-clause-sized
know_more-requires-clause-sized c = sym (length-map c.self.inside.plans.items (λ (v : Vec Command Global). v.items)) ∙ c.self.invariant.0.sized.plans

pub know_more-requires-clause-queued : goal.know_more-requires-clause-queued
know_more-requires-clause-queued c = c.self.invariant.0.sized.queued

pub know_more-requires-clause-confirmed : goal.know_more-requires-clause-confirmed
know_more-requires-clause-confirmed c = c.self.invariant.0.sized.confirmed

pub know_more-requires-clause-within : goal.know_more-requires-clause-within
know_more-requires-clause-within c =
    let q = c.self.inside in
    let d : Script = c.args.charter.now in
    let goes_on : GoesOn q.script.value d = subst (λ (v : Queue). GoesOn v.script d) (sym c.self.view_is) c.requires.goes_on in
    planned_within q.script.value d q.producer q.planned goes_on c.self.invariant.1

pub know_more-requires-clause-plans : goal.know_more-requires-clause-plans
know_more-requires-clause-plans c =
    let q = c.self.inside in
    let d : Script = c.args.charter.now in
    let goes_on : GoesOn q.script.value d = subst (λ (v : Queue). GoesOn v.script d) (sym c.self.view_is) c.requires.goes_on in
    subst (λ (l : List Sending). ArePlans q.names (map (λ (v : Vec Command Global). v.items) q.plans.items) l) (sym (planned_front q.script.value d q.producer q.planned goes_on c.self.invariant.1)) c.self.invariant.0.plans

pub invariant_of-result : goal.invariant_of-result
invariant_of-result c =
    let q = c.self.inside in
    let k = c.self.invariant.0 in
    let d : Script = c.args.charter.now in
    let p = q.producer in
    let seen = λ (v : Vec Command Global). v.items in
    let xs : List Fact = map (queue_fact p) q.entries.items in
    let goes_on : GoesOn q.script.value d = subst (λ (v : Queue). GoesOn v.script d) (sym c.self.view_is) c.requires.goes_on in
    let e = c.in_ok-know_more.ensures in
    let names : List (List ℕ) = c.know_more.new.known.names in
    let plans = c.know_more.new.known.plans.items in
    let sent = c.know_more.new.counts.queued.items in
    let known = c.know_more.new.counts.confirmed.items in
    let own_is : own d (slot.Queue p) xs ≡ true = c.own_goes_on.ensures q.script.value d (slot.Queue p) xs goes_on k.list.lawful in
    subst (λ (s : Script). (IsKept s p q.entries.items names (map seen plans) sent known q.total q.epoch q.leased q.free (vec_capacity q.entries)) × (c.how_many-all.result ≡ length (sends s p))) (sym c.of.ensures) (
      kept_on q.script.value d p q.entries.items q.names names (map seen q.plans.items) (map seen plans) q.queued.items sent q.confirmed.items known q.total q.epoch q.leased q.free (vec_capacity q.entries) k goes_on own_is
          (record { are = e.names; sorted = e.sorted }) (record { plans = length-map plans seen ∙ e.sized; queued = e.queued.0; confirmed = e.confirmed.0 }) e.plans e.queued.1 e.confirmed.1,
      c.how_many-all.ensures,
    )
