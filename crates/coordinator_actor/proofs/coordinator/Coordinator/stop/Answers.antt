use Rattle.std.proofs.Common.{◌≡◌, ap, sym, subst, ◌∙◌, refl, true≢false}
use Rattle.std.specs.Prelude.{true, false}
use Rattle.yard_model.specs.declared.fact.Fact.TheVariants as fact
use Rattle.yard_model.specs.declared.incarnation.Stamp.{Stamp}
use Rattle.yard_model.specs.Coordinator.{Coordinator, coordinator_after, stamp}
use Rattle.yard_model.specs.Move.{told}
use Rattle.yard_model.specs.Script.{setting}
use Rattle.handoff_steps.specs.Places.{Handoffs, moving, takes_stop}
use Rattle.coordinator_actor.specs.Held.{Held}
use Rattle.coordinator_actor.specs.Parts.{is_stopped_by}
use Rattle.coordinator_actor.proofs.AckLaws.{done_taken, not_done, stop_is, stopped_home}
use Rattle.coordinator_actor.proofs.HeldLaws.{removed_held}
use Rattle.coordinator_actor.proofs.RoundLaws.{with_moving}
use Rattle.coordinator_actor.proofs.coordinator.Coordinator.stop.Goals as goal

pub deallocated-requires-clause-home : goal.deallocated-requires-clause-home
deallocated-requires-clause-home c =
    let old = c.self.inside in
    stopped_home old.store.entries c.args.s c.args.given.now c.args.from.now old.round c.self.invariant.at_home c.stopped.ensures.shard
    (done_taken (takes_stop old.round c.args.s c.args.given.now c.args.from.now) c.args.given.now c.args.from.now c.stopped.result c.stopped.ensures.ignored (sym c.in-Done.is))

pub invariant_of-self : goal.invariant_of-self
invariant_of-self c =
    let old = c.self.inside in
    let taken : takes_stop old.round c.args.s c.args.given.now c.args.from.now ≡ true =
    done_taken (takes_stop old.round c.args.s c.args.given.now c.args.from.now) c.args.given.now c.args.from.now c.stopped.result c.stopped.ensures.ignored (sym c.in-Done.is) in
    rw c.deallocated.ensures.script (rw c.deallocated.ensures.entries (rw c.set.ensures (rw (c.stopped.ensures.moving taken) (rw (ap (λ (w : Handoffs). w.stamp) (c.stopped.ensures.place taken))
    (removed_held old.store.script old.who old.store.entries old.started (moving old.round) old.round.stamp c.args.s c.self.invariant)))))

pub invariant_of-self-in_default : goal.invariant_of-self-in_default
invariant_of-self-in_default c =
    let old = c.self.inside in
    let not_taken : takes_stop old.round c.args.s c.args.given.now c.args.from.now ≡ false = not_done (takes_stop old.round c.args.s c.args.given.now c.args.from.now) c.stopped.result c.stopped.ensures.answer c.in_default.not-Done in
    rw (c.stopped.ensures.unchanged not_taken) c.self.invariant

pub returns-in_default-clause-value : goal.returns-in_default-clause-value
returns-in_default-clause-value c =
    let old = c.self.inside in
    let st : Coordinator = record { who = old.who; set = setting old.store.script; entries = old.store.entries; quitting = old.quitting.items; started = old.started; moving = moving old.round; begun = old.round.stamp.round } in
    let same : old.round.stamp ≡ stamp st = ap (λ e. let t : Stamp = record { epoch = e; round = old.round.stamp.round } in t) c.self.invariant.epoch_is in
    let not_taken : takes_stop old.round c.args.s c.args.given.now c.args.from.now ≡ false = not_done (takes_stop old.round c.args.s c.args.given.now c.args.from.now) c.stopped.result c.stopped.ensures.answer c.in_default.not-Done in
    sym (subst (λ (h : Held). is_stopped_by c.args.from.now c.args.s c.args.given.now h.state ≡ false) c.self.view_is (stop_is c.args.from.now c.args.s c.args.given.now st old.round same refl c.stopped.ensures.shard ∙ not_taken))

pub returns-in_default-clause-ignored : goal.returns-in_default-clause-ignored
returns-in_default-clause-ignored c =
    let old = c.self.inside in
    let st : Coordinator = record { who = old.who; set = setting old.store.script; entries = old.store.entries; quitting = old.quitting.items; started = old.started; moving = moving old.round; begun = old.round.stamp.round } in
    let not_taken : takes_stop old.round c.args.s c.args.given.now c.args.from.now ≡ false = not_done (takes_stop old.round c.args.s c.args.given.now c.args.from.now) c.stopped.result c.stopped.ensures.answer c.in_default.not-Done in
    λ no. subst (λ (h : Held). with_moving st (moving c.stopped.new.self) c.stopped.new.self.stamp.round ≡ h.state) c.self.view_is (ap (λ (w : Handoffs). with_moving st (moving w) w.stamp.round) (c.stopped.ensures.unchanged not_taken))

pub returns-in-Done-clause-value : goal.returns-in-Done-clause-value
returns-in-Done-clause-value c =
    let old = c.self.inside in
    let st : Coordinator = record { who = old.who; set = setting old.store.script; entries = old.store.entries; quitting = old.quitting.items; started = old.started; moving = moving old.round; begun = old.round.stamp.round } in
    let same : old.round.stamp ≡ stamp st = ap (λ e. let t : Stamp = record { epoch = e; round = old.round.stamp.round } in t) c.self.invariant.epoch_is in
    let taken : takes_stop old.round c.args.s c.args.given.now c.args.from.now ≡ true =
    done_taken (takes_stop old.round c.args.s c.args.given.now c.args.from.now) c.args.given.now c.args.from.now c.stopped.result c.stopped.ensures.ignored (sym c.in-Done.is) in
    sym (subst (λ (h : Held). is_stopped_by c.args.from.now c.args.s c.args.given.now h.state ≡ true) c.self.view_is (stop_is c.args.from.now c.args.s c.args.given.now st old.round same refl c.stopped.ensures.shard ∙ taken))

pub returns-in-Done-clause-state : goal.returns-in-Done-clause-state
returns-in-Done-clause-state c =
    let old = c.self.inside in
    let st : Coordinator = record { who = old.who; set = setting old.store.script; entries = old.store.entries; quitting = old.quitting.items; started = old.started; moving = moving old.round; begun = old.round.stamp.round } in
    let taken : takes_stop old.round c.args.s c.args.given.now c.args.from.now ≡ true =
    done_taken (takes_stop old.round c.args.s c.args.given.now c.args.from.now) c.args.given.now c.args.from.now c.stopped.result c.stopped.ensures.ignored (sym c.in-Done.is) in
    λ yes. rw c.deallocated.ensures.script (rw c.deallocated.ensures.entries (rw c.set.ensures (rw (c.stopped.ensures.moving taken) (rw (ap (λ (w : Handoffs). w.stamp) (c.stopped.ensures.place taken))
    (ap (λ (h : Held). coordinator_after h.state (told (fact.Deallocated c.args.s))) c.self.view_is)))))

pub returns-in-Done-clause-ignored : goal.returns-in-Done-clause-ignored
returns-in-Done-clause-ignored c = λ no. absurd (true≢false no)

pub returns-in-Done-clause-script : goal.returns-in-Done-clause-script
returns-in-Done-clause-script c = c.deallocated.ensures.script ∙ ap (λ (h : Held). h.script) c.self.view_is

pub returns-in-Done-clause-kept : goal.returns-in-Done-clause-kept
returns-in-Done-clause-kept c = λ no. absurd (true≢false no)

pub returns-in-Done-clause-entries : goal.returns-in-Done-clause-entries
returns-in-Done-clause-entries c = λ yes. c.deallocated.ensures.spare ∙ ap (λ (h : Held). h.spare) c.self.view_is

pub returns-in-Done-clause-places : goal.returns-in-Done-clause-places
returns-in-Done-clause-places c = ap (λ (h : Held). h.places) c.self.view_is

pub returns-in_default-clause-state : goal.returns-in_default-clause-state
returns-in_default-clause-state c = λ yes. absurd (true≢false (sym yes))

pub returns-in_default-clause-script : goal.returns-in_default-clause-script
returns-in_default-clause-script c = ap (λ (h : Held). h.script) c.self.view_is

pub returns-in_default-clause-kept : goal.returns-in_default-clause-kept
returns-in_default-clause-kept c = λ no. ap (λ (h : Held). h.spare) c.self.view_is

pub returns-in_default-clause-entries : goal.returns-in_default-clause-entries
returns-in_default-clause-entries c = λ yes. absurd (true≢false (sym yes))

pub returns-in_default-clause-places : goal.returns-in_default-clause-places
returns-in_default-clause-places c = ap (λ (h : Held). h.places) c.self.view_is
