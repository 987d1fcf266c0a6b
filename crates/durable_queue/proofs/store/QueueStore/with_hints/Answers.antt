use Rattle.std.proofs.Common.{◌≡◌, ℕ, false, length, List, map, replicate, ap, sym, subst, ◌∙◌, Vec, Global}
use Rattle.std.proofs.lemmas.List.{length-map}
use Rattle.yard_model.specs.declared.event.Command.{Command}
use Rattle.yard_model.specs.Script.{Script, sends}
use Rattle.std.specs.Vec.{vec_capacity}
use Rattle.durable_queue.specs.Kept.{AreNamed, ArePlans, IsKept}
use Rattle.durable_queue.proofs.NamedLaws.{sends_named}
use Rattle.durable_queue.proofs.KeptLaws.{kept_none}
use Rattle.durable_queue.proofs.store.QueueStore.with_hints.Goals as goal

pub invariant_of-result : goal.invariant_of-result
invariant_of-result c =
    let script : Script = c.args.charter.now in
    let p = c.args.producer in
    let names : List (List ℕ) = c.in_ok-known.known.names in
    let seen = λ (v : Vec Command Global). v.items in
    let commands : List (List Command) = map seen c.in_ok-known.known.plans.items in
    let named : AreNamed names (sends script p) = subst (λ (l : List (List ℕ)). AreNamed l (sends script p)) (sym c.in_ok-known.ensures.names) (sends_named script p) in
    let plans : ArePlans names commands (sends script p) = c.in_ok-known.ensures.plans in
    subst (λ (s : Script). (IsKept s p c.in_ok-entries.entries.items names commands c.in_ok-counts.counts.queued.items c.in_ok-counts.counts.confirmed.items 0 0 false 0 (vec_capacity c.in_ok-entries.entries)) × (c.how_many-planned.result ≡ length (sends s p))) (sym c.of.ensures) (
      kept_none script p c.in_ok-entries.entries.items names commands c.in_ok-counts.counts.queued.items c.in_ok-counts.counts.confirmed.items (vec_capacity c.in_ok-entries.entries) c.in_ok-entries.ensures.items c.requires.producer (record { are = c.in_ok-known.ensures.names; sorted = c.in_ok-known.ensures.sorted }) named
          (length-map c.in_ok-known.known.plans.items seen ∙ c.in_ok-known.ensures.sized) plans
          (c.in_ok-counts.ensures.queued ∙ ap (λ n. replicate n 0) c.len.ensures) (c.in_ok-counts.ensures.confirmed ∙ ap (λ n. replicate n 0) c.len.ensures),
      c.how_many-planned.ensures,
    )
