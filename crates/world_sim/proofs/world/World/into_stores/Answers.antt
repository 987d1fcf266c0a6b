use Rattle.std.proofs.Common.{◌≡◌, ap, sym, ◌∙◌, subst}
use Rattle.std.specs.Prelude.{◌≢◌, false, Some, IfOk, IsSome}
use Rattle.yard_model.specs.Script.{Script, setting, with_shards}
use Rattle.yard_model.specs.World.{is_any_up}
use Rattle.shard_store.specs.Stores.{lists_at}
use Rattle.world_sim.specs.declared.fault.StepFault.TheVariants as fault
use Rattle.world_sim.specs.Played.{Played, AreFreed, made_at, made_by}
use Rattle.world_sim.specs.World.{given_in}
use Rattle.world_sim.proofs.StoresLaws.{firm_kept, era_kept, same_kept, version_kept, both_ok, quiet_of}
use Rattle.world_sim.proofs.world.World.into_stores.Goals as goal

pub into_stores-requires-clause-world : goal.into_stores-requires-clause-world
into_stores-requires-clause-world g c =
    let found : c.self.inside.fault ≢ Some fault.OutOfMemory = λ e. c.requires (sym (ap (λ (p : Played). p.fault) c.self.view_is) ∙ e) in
    ((made_by c.self.inside.script.value (given_in c.self.inside.given) c.self.inside.count).world, firm_kept c.self.inside.script.value (given_in c.self.inside.given) c.self.inside.yard c.self.inside.count c.self.inside.fault c.self.invariant found)

pub into_stores-requires-clause-version : goal.into_stores-requires-clause-version
into_stores-requires-clause-version g c =
    version_kept c.self.inside.script.value (given_in c.self.inside.given) c.self.inside.yard c.self.inside.count c.self.inside.fault c.self.invariant (λ e. c.requires (sym (ap (λ (p : Played). p.fault) c.self.view_is) ∙ e))

pub returns-clause-charter : goal.returns-clause-charter
returns-clause-charter g c =
    let found : c.self.inside.fault ≢ Some fault.OutOfMemory = λ e. c.requires (sym (ap (λ (p : Played). p.fault) c.self.view_is) ∙ e) in
    let era = era_kept c.self.inside.script.value (given_in c.self.inside.given) c.self.inside.yard c.self.inside.count c.self.inside.fault c.self.invariant found in
    both_ok c.into_stores.result _ _ _ (λ r e f. e ∙ (era ∙ (ap (λ (x : Script). with_shards x.config.shards c.self.inside.script.value) (sym e) ∙ ap (λ (p : Played). with_shards r.0.config.shards p.script) c.self.view_is)))
    c.into_stores.ensures.charter c.into_stores.ensures.script

pub returns-clause-given : goal.returns-clause-given
returns-clause-given g c = λ some.
    let found : c.self.inside.fault ≢ Some fault.OutOfMemory = λ e. c.requires (sym (ap (λ (p : Played). p.fault) c.self.view_is) ∙ e) in
    let same = same_kept c.self.inside.script.value (given_in c.self.inside.given) c.self.inside.yard c.self.inside.count c.self.inside.fault c.self.invariant found (subst (λ (p : Played). IsSome p.given) (sym c.self.view_is) some) in
    both_ok c.into_stores.result _ _ _ (λ r e f. e ∙ (same ∙ ap (λ (p : Played). p.script) c.self.view_is)) c.into_stores.ensures.charter c.into_stores.ensures.script

pub returns-clause-script : goal.returns-clause-script
returns-clause-script g c = both_ok c.into_stores.result _ _ _ (λ r e f. f ∙ sym e) c.into_stores.ensures.charter c.into_stores.ensures.script

pub returns-clause-set : goal.returns-clause-set
returns-clause-set g c =
    let found : c.self.inside.fault ≢ Some fault.OutOfMemory = λ e. c.requires (sym (ap (λ (p : Played). p.fault) c.self.view_is) ∙ e) in
    let given = given_in c.self.inside.given in
    let firm = firm_kept c.self.inside.script.value given c.self.inside.yard c.self.inside.count c.self.inside.fault c.self.invariant found in
    subst (λ (p : Played). IfOk c.into_stores.result (λ r. setting r.0 ≡ (made_at p).world.set)) c.self.view_is
    (both_ok c.into_stores.result (λ r. r.0 ≡ c.self.inside.yard.script) (λ r. r.1.script ≡ c.self.inside.yard.script) (λ r. setting r.0 ≡ (made_by c.self.inside.script.value given c.self.inside.count).world.set) (λ r e f. ap setting e ∙ sym firm.seen_is.set_is)
    c.into_stores.ensures.charter c.into_stores.ensures.script)

pub returns-clause-lists : goal.returns-clause-lists
returns-clause-lists g c =
    let found : c.self.inside.fault ≢ Some fault.OutOfMemory = λ e. c.requires (sym (ap (λ (p : Played). p.fault) c.self.view_is) ∙ e) in
    let given = given_in c.self.inside.given in
    let firm = firm_kept c.self.inside.script.value given c.self.inside.yard c.self.inside.count c.self.inside.fault c.self.invariant found in
    let m = made_by c.self.inside.script.value given c.self.inside.count in
    both_ok c.into_stores.result _ _ _
    (λ r e l. subst (λ (p : Played). AreFreed r.0 (made_at p).world.lists (lists_at r.0.config r.1.places)) c.self.view_is
    (subst (λ (x : Script). AreFreed x m.world.lists (lists_at x.config r.1.places)) (sym e) l))
    c.into_stores.ensures.charter
    (c.into_stores.ensures.lists m.world firm)

pub returns-clause-same : goal.returns-clause-same
returns-clause-same g c = λ none.
    let found : c.self.inside.fault ≢ Some fault.OutOfMemory = λ e. c.requires (sym (ap (λ (p : Played). p.fault) c.self.view_is) ∙ e) in
    let given = given_in c.self.inside.given in
    let firm = firm_kept c.self.inside.script.value given c.self.inside.yard c.self.inside.count c.self.inside.fault c.self.invariant found in
    let m = made_by c.self.inside.script.value given c.self.inside.count in
    let quiet = quiet_of m.world (subst (λ (p : Played). is_any_up (made_at p).world ≡ false) (sym c.self.view_is) none) in
    both_ok c.into_stores.result _ _ _
    (λ r e l. subst (λ (p : Played). lists_at r.0.config r.1.places ≡ (made_at p).world.lists) c.self.view_is (ap (λ (x : Script). lists_at x.config r.1.places) e ∙ l))
    c.into_stores.ensures.charter
    (c.into_stores.ensures.same m.world firm quiet)
