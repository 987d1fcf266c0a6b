use Rattle.std.proofs.Common.{◌≡◌, ap, sym, subst, ◌∙◌, refl}
use Rattle.std.specs.Prelude.{fold}
use Rattle.std.specs.List.{flat_map}
use Rattle.yard_model.specs.declared.incarnation.Stamp.{Stamp}
use Rattle.yard_model.specs.Coordinator.{Coordinator, acknowledge, coordinator_after, stamp}
use Rattle.yard_model.specs.Move.{item_of}
use Rattle.yard_model.specs.Script.{setting}
use Rattle.handoff_steps.specs.Places.{moving, takes_ack}
use Rattle.coordinator_actor.specs.Held.{Held}
use Rattle.coordinator_actor.specs.Parts.{step_posts}
use Rattle.coordinator_actor.proofs.AckLaws.{ack_stamp, ack_moving, ack_held, ack_state, ack_posts}
use Rattle.coordinator_actor.proofs.RoundLaws.{with_moving}
use Rattle.coordinator_actor.proofs.coordinator.Coordinator.mark_acknowledged.Goals as goal

pub invariant_of-self : goal.invariant_of-self
invariant_of-self c =
    let old = c.self.inside in
    let call = c.acked.ensures in
    let new = c.acked.new.self in
    ack_held old.store.script old.who old.store.entries old.started old.round new c.args.s c.args.from.now (takes_ack old.round c.args.s c.args.given.now c.args.from.now)
    (ack_stamp old.round new c.args.s c.args.given.now c.args.from.now call.unchanged call.place) (ack_moving old.round new c.args.s c.args.given.now c.args.from.now call.unchanged call.moving) c.self.invariant

pub returns-clause-state : goal.returns-clause-state
returns-clause-state c =
    let old = c.self.inside in
    let st : Coordinator = record { who = old.who; set = setting old.store.script; entries = old.store.entries; quitting = old.quitting.items; started = old.started; moving = moving old.round; begun = old.round.stamp.round } in
    let call = c.acked.ensures in
    let new = c.acked.new.self in
    let same : old.round.stamp ≡ stamp st = ap (λ e. let t : Stamp = record { epoch = e; round = old.round.stamp.round } in t) c.self.invariant.epoch_is in
    subst (λ (h : Held). with_moving st (moving new) new.stamp.round ≡ fold coordinator_after h.state (acknowledge c.args.from.now c.args.s c.args.given.now h.state)) c.self.view_is
    (ack_state c.args.from.now c.args.s c.args.given.now st old.round new same refl call.shard
    (ack_stamp old.round new c.args.s c.args.given.now c.args.from.now call.unchanged call.place) (ack_moving old.round new c.args.s c.args.given.now c.args.from.now call.unchanged call.moving))

pub returns-clause-posts : goal.returns-clause-posts
returns-clause-posts c =
    let old = c.self.inside in
    let st : Coordinator = record { who = old.who; set = setting old.store.script; entries = old.store.entries; quitting = old.quitting.items; started = old.started; moving = moving old.round; begun = old.round.stamp.round } in
    let call = c.acked.ensures in
    let new = c.acked.new.self in
    let same : old.round.stamp ≡ stamp st = ap (λ e. let t : Stamp = record { epoch = e; round = old.round.stamp.round } in t) c.self.invariant.epoch_is in
    let still : new.stamp ≡ old.round.stamp = ack_stamp old.round new c.args.s c.args.given.now c.args.from.now call.unchanged call.place in
    subst (λ (h : Held). flat_map item_of (acknowledge c.args.from.now c.args.s c.args.given.now h.state) ≡ flat_map item_of (step_posts old.who (record { epoch = (stamp st).epoch; round = new.stamp.round }) c.args.s c.acked.result)) c.self.view_is
    (ack_posts c.args.from.now c.args.s c.args.given.now st old.round c.acked.result same refl call.shard call.ignored call.answer
    ∙ ap (λ n. flat_map item_of (step_posts old.who (record { epoch = (stamp st).epoch; round = n }) c.args.s c.acked.result)) (sym (ap (λ (t : Stamp). t.round) still)))
