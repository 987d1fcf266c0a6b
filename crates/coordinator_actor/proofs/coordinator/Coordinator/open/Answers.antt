use Rattle.std.proofs.Common.{◌≡◌, ap, sym, subst, ◌∙◌, refl}
use Rattle.std.specs.Prelude.{true, false, List, map}
use Rattle.std.specs.List.{All}
use Rattle.yard_model.specs.declared.incarnation.Stamp.{Stamp}
use Rattle.yard_model.specs.declared.load.Load.{Load}
use Rattle.yard_model.specs.Coordinator.{Coordinator, Moving, home_of, registered}
use Rattle.yard_model.specs.Script.{setting}
use Rattle.yard_model.specs.SlotReads.{regions}
use Rattle.yard_model.specs.Words.{is_empty}
use Rattle.coordinator_state.specs.Coord.{IsLoadOf}
use Rattle.coordinator_state.specs.Homes.{regions_of}
use Rattle.handoff_steps.specs.Places.{moving}
use Rattle.coordinator_actor.specs.Held.{AreHomed, Held}
use Rattle.coordinator_actor.specs.Parts.{next_stamp, opened, shards_in}
use Rattle.coordinator_actor.proofs.HeldLaws.{few_shards, opened_held}
use Rattle.coordinator_actor.proofs.HomedLaws.{homed_loads, opened_moving}
use Rattle.coordinator_actor.proofs.RoundLaws.{with_moving}
use Rattle.coordinator_actor.proofs.coordinator.Coordinator.open.Goals as goal

pub begin-self-inside-requires-clause-homes : goal.begin-self-inside-requires-clause-homes
begin-self-inside-requires-clause-homes c =
    let old = c.self.inside in
    let st : Coordinator = record { who = old.who; set = setting old.store.script; entries = old.store.entries; quitting = old.quitting.items; started = old.started; moving = moving old.round; begun = old.round.stamp.round } in
    let set = c.args.shards.now in
    let homed : AreHomed set st = subst (λ (h : Held). AreHomed set h.state) (sym c.self.view_is) c.requires.homed in
    let loads : List Load = c.as_slice.result.now in
    let rs : regions_of loads ≡ regions old.store.entries = ap (λ (ls : List Load). regions_of ls) c.as_slice.ensures.items ∙ c.lent_loads-loads.ensures.regions in
    let all : All (IsLoadOf old.store.entries) loads = subst (λ (ls : List Load). All (IsLoadOf old.store.entries) ls) (sym c.as_slice.ensures.items) c.lent_loads-loads.ensures.shards in
    λ s low e. homed_loads old.store.script old.store.entries loads s c.entries.ensures.lawful rs all low (homed s low e)

pub invariant_of-self : goal.invariant_of-self
invariant_of-self c =
    let old = c.self.inside in
    let st : Coordinator = record { who = old.who; set = setting old.store.script; entries = old.store.entries; quitting = old.quitting.items; started = old.started; moving = moving old.round; begun = old.round.stamp.round } in
    let set = c.args.shards.now in
    let new = c.begin-self-inside.result in
    let homed : AreHomed set st = subst (λ (h : Held). AreHomed set h.state) (sym c.self.view_is) c.requires.homed in
    let loads : List Load = c.as_slice.result.now in
    let rs : regions_of loads ≡ regions old.store.entries = ap (λ (ls : List Load). regions_of ls) c.as_slice.ensures.items ∙ c.lent_loads-loads.ensures.regions in
    let all : All (IsLoadOf old.store.entries) loads = subst (λ (ls : List Load). All (IsLoadOf old.store.entries) ls) (sym c.as_slice.ensures.items) c.lent_loads-loads.ensures.shards in
    let are : moving new ≡ map (λ s. record { shard = s; owner = home_of st s; awaited = registered st }) (shards_in set st) =
    c.begin-self-inside.ensures.moving ∙ opened_moving old.store.script set st loads c.entries.ensures.lawful refl (few_shards old.store.script c.self.invariant.script_is) homed rs all in
    let next : new.stamp ≡ next_stamp st = c.begin-self-inside.ensures.stamp ∙ subst (λ (h : Held). c.args.next.now ≡ next_stamp h.state) (sym c.self.view_is) c.requires.next in
    opened_held old.store.script old.who old.store.entries old.started (moving old.round) (moving new) old.round.stamp new.stamp (shards_in set st) c.self.invariant
    (subst (λ (h : Held). is_empty h.state.moving ≡ true) (sym c.self.view_is) c.requires.closed)
    (subst (λ (h : Held). is_empty (shards_in set h.state) ≡ false) (sym c.self.view_is) c.requires.some)
    are (ap (λ (t : Stamp). t.epoch) next) (ap (λ (t : Stamp). t.round) next)

pub returns-clause-state : goal.returns-clause-state
returns-clause-state c =
    let old = c.self.inside in
    let st : Coordinator = record { who = old.who; set = setting old.store.script; entries = old.store.entries; quitting = old.quitting.items; started = old.started; moving = moving old.round; begun = old.round.stamp.round } in
    let set = c.args.shards.now in
    let new = c.begin-self-inside.result in
    let homed : AreHomed set st = subst (λ (h : Held). AreHomed set h.state) (sym c.self.view_is) c.requires.homed in
    let loads : List Load = c.as_slice.result.now in
    let rs : regions_of loads ≡ regions old.store.entries = ap (λ (ls : List Load). regions_of ls) c.as_slice.ensures.items ∙ c.lent_loads-loads.ensures.regions in
    let all : All (IsLoadOf old.store.entries) loads = subst (λ (ls : List Load). All (IsLoadOf old.store.entries) ls) (sym c.as_slice.ensures.items) c.lent_loads-loads.ensures.shards in
    let are : moving new ≡ map (λ s. record { shard = s; owner = home_of st s; awaited = registered st }) (shards_in set st) =
    c.begin-self-inside.ensures.moving ∙ opened_moving old.store.script set st loads c.entries.ensures.lawful refl (few_shards old.store.script c.self.invariant.script_is) homed rs all in
    let next : new.stamp ≡ next_stamp st = c.begin-self-inside.ensures.stamp ∙ subst (λ (h : Held). c.args.next.now ≡ next_stamp h.state) (sym c.self.view_is) c.requires.next in
    subst (λ (h : Held). with_moving st (moving new) new.stamp.round ≡ opened (shards_in set h.state) h.state) c.self.view_is
    (ap (λ (l : List Moving). with_moving st l new.stamp.round) are ∙ ap (λ (t : Stamp). with_moving st (map (λ s. record { shard = s; owner = home_of st s; awaited = registered st }) (shards_in set st)) t.round) next)
