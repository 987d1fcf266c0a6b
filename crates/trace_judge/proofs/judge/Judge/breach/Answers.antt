use Rattle.std.proofs.Common.{◌≡◌, ◌<◌, sym, subst, ap, ◌∙◌, refl, false}
use Rattle.std.specs.Prelude.{Some, if◌then◌else◌}
use Rattle.yard_model.specs.declared.fact.Fact.{Fact}
use Rattle.yard_model.specs.declared.fact.Fact.TheVariants as fact
use Rattle.yard_model.specs.Lawful.{is_held}
use Rattle.yard_model.specs.Script.{setting}
use Rattle.yard_model.specs.Trace.{lists_of}
use Rattle.judge_laws.specs.declared.breach.Breach.TheVariants as breach
use Rattle.judge_laws.specs.Breached.{breach_of, of_node, of_shard}
use Rattle.judge_laws.specs.Judged.{judged}
use Rattle.trace_judge.specs.Judging.{Judged}
use Rattle.trace_judge.proofs.JudgeLaws.{coordinator_fails, entity_fails, queued_fails}
use Rattle.trace_judge.proofs.judge.Judge.breach.Goals as goal

pub wrote_breach-requires : goal.wrote_breach-requires
wrote_breach-requires c = let v = c.args.self.now in subst (λ (f : Fact). judged v.script v.trace f ≡ false) c.in-Wrote.is c.requires

pub returns-in-Wrote : goal.returns-in-Wrote
returns-in-Wrote c = let v = c.args.self.now in ap (breach_of v.script v.trace) c.in-Wrote.is ∙ c.wrote_breach.ensures

pub returns-in-Registered : goal.returns-in-Registered
returns-in-Registered c =
    let v = c.args.self.now in
    let some = subst (λ (v : Judged). 0 < v.script.config.shards) c.self.view_is c.self.invariant.shards in
    ap (breach_of v.script v.trace) c.in-Registered.is
    ∙ (coordinator_fails v.script v.trace (fact.Registered c.in-Registered.who) (of_node v.script c.in-Registered.who breach.NotToRegister) some (subst (λ (f : Fact). judged v.script v.trace f ≡ false) c.in-Registered.is c.requires) refl
    ∙ (ap (λ b. Some (if is_held (lists_of (setting v.script) v.trace).coordinator then b else breach.Unheld)) (sym c.of_node.ensures) ∙ ap (λ b. Some b) (sym c.coordinator_breach.ensures)))

pub returns-in-Allocated : goal.returns-in-Allocated
returns-in-Allocated c =
    let v = c.args.self.now in
    let some = subst (λ (v : Judged). 0 < v.script.config.shards) c.self.view_is c.self.invariant.shards in
    ap (breach_of v.script v.trace) c.in-Allocated.is
    ∙ (coordinator_fails v.script v.trace (fact.Allocated c.in-Allocated.shard c.in-Allocated.field-1) (of_shard v.script c.in-Allocated.shard breach.NotToAllocate) some (subst (λ (f : Fact). judged v.script v.trace f ≡ false) c.in-Allocated.is c.requires) refl
    ∙ (ap (λ b. Some (if is_held (lists_of (setting v.script) v.trace).coordinator then b else breach.Unheld)) (sym c.of_shard.ensures) ∙ ap (λ b. Some b) (sym c.coordinator_breach-in-Allocated.ensures)))

pub returns-in-Deallocated : goal.returns-in-Deallocated
returns-in-Deallocated c =
    let v = c.args.self.now in
    let some = subst (λ (v : Judged). 0 < v.script.config.shards) c.self.view_is c.self.invariant.shards in
    ap (breach_of v.script v.trace) c.in-Deallocated.is
    ∙ (coordinator_fails v.script v.trace (fact.Deallocated c.in-Deallocated.shard) (of_shard v.script c.in-Deallocated.shard breach.NoHome) some (subst (λ (f : Fact). judged v.script v.trace f ≡ false) c.in-Deallocated.is c.requires) refl
    ∙ (ap (λ b. Some (if is_held (lists_of (setting v.script) v.trace).coordinator then b else breach.Unheld)) (sym c.of_shard-in-Deallocated.ensures) ∙ ap (λ b. Some b) (sym c.coordinator_breach-in-Deallocated.ensures)))

pub returns-in-Snapshot : goal.returns-in-Snapshot
returns-in-Snapshot c =
    let v = c.args.self.now in
    let some = subst (λ (v : Judged). 0 < v.script.config.shards) c.self.view_is c.self.invariant.shards in
    ap (breach_of v.script v.trace) c.in-Snapshot.is
    ∙ (entity_fails v.script v.trace c.in-Snapshot.entity (fact.Snapshot c.in-Snapshot.entity c.in-Snapshot.field-1) breach.NotASnapshot some (subst (λ (f : Fact). judged v.script v.trace f ≡ false) c.in-Snapshot.is c.requires) refl ∙ ap (λ b. Some b) (sym c.entity_breach.ensures))

pub returns-in-Remembered : goal.returns-in-Remembered
returns-in-Remembered c =
    let v = c.args.self.now in
    let some = subst (λ (v : Judged). 0 < v.script.config.shards) c.self.view_is c.self.invariant.shards in
    ap (breach_of v.script v.trace) c.in-Remembered.is
    ∙ (entity_fails v.script v.trace c.in-Remembered.entity (fact.Remembered c.in-Remembered.entity) breach.IsRemembered some (subst (λ (f : Fact). judged v.script v.trace f ≡ false) c.in-Remembered.is c.requires) refl ∙ ap (λ b. Some b) (sym c.entity_breach-in-Remembered.ensures))

pub returns-in-Forgotten : goal.returns-in-Forgotten
returns-in-Forgotten c =
    let v = c.args.self.now in
    let some = subst (λ (v : Judged). 0 < v.script.config.shards) c.self.view_is c.self.invariant.shards in
    ap (breach_of v.script v.trace) c.in-Forgotten.is
    ∙ (entity_fails v.script v.trace c.in-Forgotten.entity (fact.Forgotten c.in-Forgotten.entity) breach.IsNotRemembered some (subst (λ (f : Fact). judged v.script v.trace f ≡ false) c.in-Forgotten.is c.requires) refl ∙ ap (λ b. Some b) (sym c.entity_breach-in-Forgotten.ensures))

pub returns-in-Queued : goal.returns-in-Queued
returns-in-Queued c =
    let v = c.args.self.now in
    let some = subst (λ (v : Judged). 0 < v.script.config.shards) c.self.view_is c.self.invariant.shards in
    ap (breach_of v.script v.trace) c.in-Queued.is
    ∙ (queued_fails v.script v.trace c.in-Queued.p c.in-Queued.field-1 c.in-Queued.field-2 c.in-Queued.field-3 some (subst (λ (f : Fact). judged v.script v.trace f ≡ false) c.in-Queued.is c.requires) ∙ ap (λ b. Some b) (sym c.queued_breach.ensures))
