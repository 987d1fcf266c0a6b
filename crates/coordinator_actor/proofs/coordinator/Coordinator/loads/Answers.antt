use Rattle.std.proofs.Common.{◌≡◌, sym, ap, ◌∙◌, subst, true}
use Rattle.std.specs.Prelude.{List, refl}
use Rattle.std.specs.List.{list_all}
use Rattle.yard_model.specs.declared.load.Load.{Load}
use Rattle.yard_model.specs.Coordinator.{Coordinator, registered, shares}
use Rattle.yard_model.specs.Script.{setting}
use Rattle.yard_model.specs.SlotReads.{regions}
use Rattle.yard_model.specs.Words.{is_among, is_empty}
use Rattle.least_shard.specs.Spread.{shares_of, AreOfDifferentRegions}
use Rattle.coordinator_actor.specs.Held.{Held}
use Rattle.coordinator_actor.proofs.Differ.{regions_differ}
use Rattle.coordinator_actor.proofs.HeldLaws.{few_shards}
use Rattle.coordinator_actor.proofs.PickedLaws.{staying_different}
use Rattle.handoff_steps.specs.Places.{moving}
use Rattle.coordinator_actor.proofs.ShareLaws.{all_stay, shares_are, staying_registered}
use Rattle.coordinator_actor.proofs.coordinator.Coordinator.loads.Goals as goal

pub returns-clause-shares : goal.returns-clause-shares
returns-clause-shares c =
    let old = c.self.inside in
    let st : Coordinator = record { who = old.who; set = setting old.store.script; entries = old.store.entries; quitting = old.quitting.items; started = old.started; moving = moving old.round; begun = old.round.stamp.round } in
    let none : is_empty old.quitting.items ≡ true = subst (λ (h : Held). is_empty h.state.quitting ≡ true) (sym c.self.view_is) c.requires.stays in
    subst (λ (h : Held). shares_of c.lent_loads.result.now ≡ shares h.state) c.self.view_is
    (ap (λ (l : List Load). shares_of l) (sym (all_stay old.quitting.items c.lent_loads.result.now none))
    ∙ shares_are old.store.script st c.lent_loads.result.now c.entries.ensures.lawful refl (few_shards old.store.script c.self.invariant.script_is) c.lent_loads.ensures.regions c.lent_loads.ensures.shards)

pub returns-clause-registered : goal.returns-clause-registered
returns-clause-registered c =
    let old = c.self.inside in
    let none : is_empty old.quitting.items ≡ true = subst (λ (h : Held). is_empty h.state.quitting ≡ true) (sym c.self.view_is) c.requires.stays in
    subst (λ (h : Held). list_all (λ (l : Load). is_among l.region (registered h.state)) c.lent_loads.result.now ≡ true) c.self.view_is
    (ap (λ (ls : List Load). list_all (λ (l : Load). is_among l.region (regions old.store.entries)) ls) (sym (all_stay old.quitting.items c.lent_loads.result.now none))
    ∙ staying_registered old.quitting.items (regions old.store.entries) c.lent_loads.result.now c.lent_loads.ensures.regions)

pub returns-clause-different : goal.returns-clause-different
returns-clause-different c =
    let old = c.self.inside in
    let none : is_empty old.quitting.items ≡ true = subst (λ (h : Held). is_empty h.state.quitting ≡ true) (sym c.self.view_is) c.requires.stays in
    subst (λ (ls : List Load). AreOfDifferentRegions ls) (all_stay old.quitting.items c.lent_loads.result.now none)
    (staying_different old.quitting.items (regions old.store.entries) c.lent_loads.result.now c.lent_loads.ensures.regions (regions_differ old.store.script old.store.entries c.entries.ensures.lawful))
