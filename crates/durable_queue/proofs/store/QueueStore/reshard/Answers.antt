use Rattle.std.proofs.Common.{◌≡◌, ℕ, List, length, map, ap, sym, subst, ◌∙◌, Vec, Global, arith}
use Rattle.std.proofs.lemmas.List.{length-map}
use Rattle.std.specs.Vec.{vec_capacity}
use Rattle.yard_model.specs.declared.event.Command.{Command}
use Rattle.yard_model.specs.Script.{Script, sends, with_shards}
use Rattle.durable_queue.specs.Kept.{AreNamed, ArePlans, IsKept}
use Rattle.durable_queue.proofs.NamedLaws.{sends_named}
use Rattle.durable_queue.proofs.KeptLaws.{kept_again}
use Rattle.durable_queue.proofs.store.QueueStore.reshard.Goals as goal

pub invariant_of-result : goal.invariant_of-result
invariant_of-result c =
    let q = c.self.inside in
    let d : Script = c.args.charter.now in
    let p = q.producer in
    let names : List (List ℕ) = c.in_ok-known.known.names in
    let seen = λ (v : Vec Command Global). v.items in
    let commands : List (List Command) = map seen c.in_ok-known.known.plans.items in
    let named : AreNamed names (sends d p) = subst (λ (l : List (List ℕ)). AreNamed l (sends d p)) (sym c.in_ok-known.ensures.names) (sends_named d p) in
    let plans : ArePlans names commands (sends d p) = c.in_ok-known.ensures.plans in
    let same : d ≡ with_shards d.config.shards q.script.value = c.requires ∙ ap (λ v. with_shards d.config.shards v.script) (sym c.self.view_is) in
    subst (λ (s : Script). (IsKept s p c.in_ok-entries.entries.items names commands c.in_ok-counts.counts.queued.items c.in_ok-counts.counts.confirmed.items q.total q.epoch q.leased 0 (vec_capacity c.in_ok-entries.entries)) × (c.how_many-planned.result ≡ length (sends s p))) (sym c.of.ensures) (
      kept_again q.script.value d p q.entries.items c.in_ok-entries.entries.items q.names names (map seen q.plans.items) commands q.queued.items c.in_ok-counts.counts.queued.items q.confirmed.items c.in_ok-counts.counts.confirmed.items
          q.total q.epoch q.leased q.free (vec_capacity q.entries) (vec_capacity c.in_ok-entries.entries) c.self.invariant.0 same (c.in_ok-entries.ensures ∙ c.as_slice-4.ensures.value) (c.in_ok-counts.ensures.queued ∙ c.as_slice-2.ensures.value)
          (c.in_ok-counts.ensures.confirmed ∙ c.as_slice-3.ensures.value) (omega (arith, c.in_ok-entries.entries.ok.0, c.in_ok-entries.entries.ok.1))
          (record { are = c.in_ok-known.ensures.names; sorted = c.in_ok-known.ensures.sorted }) named (length-map c.in_ok-known.known.plans.items seen ∙ c.in_ok-known.ensures.sized) plans,
      c.how_many-planned.ensures,
    )
