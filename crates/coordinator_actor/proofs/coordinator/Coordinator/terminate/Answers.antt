use Rattle.std.proofs.Common.{◌≡◌, ◌≤◌, ◌+◌, suc, length, ap, sym, subst, ◌∙◌, arith}
use Rattle.std.specs.Prelude.{◌++◌, fold}
use Rattle.std.specs.List.{flat_map}
use Rattle.yard_model.specs.declared.fact.Fact.TheVariants as fact
use Rattle.yard_model.specs.declared.incarnation.Stamp.{Stamp}
use Rattle.yard_model.specs.declared.out.Item.TheVariants as item
use Rattle.yard_model.specs.Coordinator.{Coordinator, coordinator_after, stamp, terminate}
use Rattle.yard_model.specs.Move.{item_of}
use Rattle.yard_model.specs.Script.{setting}
use Rattle.handoff_steps.specs.Places.{moving}
use Rattle.coordinator_actor.specs.Held.{Held}
use Rattle.coordinator_actor.specs.Parts.{lost_posts}
use Rattle.coordinator_actor.proofs.HeldLaws.{lost_held}
use Rattle.coordinator_actor.proofs.MoveLaws.{terminated_state}
use Rattle.coordinator_actor.proofs.RoundLaws.{told_then}
use Rattle.coordinator_actor.proofs.coordinator.Coordinator.terminate.Goals as goal

pub lose_all-requires : goal.lose_all-requires
lose_all-requires c =
    let old = c.self.inside in
    let st : Coordinator = record { who = old.who; set = setting old.store.script; entries = old.store.entries; quitting = old.quitting.items; started = old.started; moving = moving old.round; begun = old.round.stamp.round } in
    let r = c.args.r.now in
    let same : old.round.stamp ≡ stamp st = ap (λ e. let t : Stamp = record { epoch = e; round = old.round.stamp.round } in t) c.self.invariant.epoch_is in
    let room : length (flat_map item_of (terminate r st)) ≤ c.args.out.now.spare = subst (λ (h : Held). length (flat_map item_of (terminate r h.state)) ≤ c.args.out.now.spare) (sym c.self.view_is) c.requires.room in
    let long : suc (length (flat_map item_of (flat_map (lost_posts old.who old.round.stamp r) (moving old.round)))) ≡ length (flat_map item_of (terminate r st)) =
    ap (λ (t : Stamp). suc (length (flat_map item_of (flat_map (lost_posts old.who t r) (moving old.round))))) same in
    record { room = omega (arith, room, long, c.push.ensures.spare) }

pub invariant_of-self : goal.invariant_of-self
invariant_of-self c =
    let old = c.self.inside in
    rw c.terminated.ensures.script (rw c.terminated.ensures.entries (rw c.lose_all.ensures.moving (rw c.lose_all.ensures.stamp
    (lost_held old.store.script old.who old.store.entries old.started (moving old.round) old.round.stamp c.args.r.now c.self.invariant))))

pub returns-clause-items : goal.returns-clause-items
returns-clause-items c =
    let old = c.self.inside in
    let st : Coordinator = record { who = old.who; set = setting old.store.script; entries = old.store.entries; quitting = old.quitting.items; started = old.started; moving = moving old.round; begun = old.round.stamp.round } in
    let r = c.args.r.now in
    let same : old.round.stamp ≡ stamp st = ap (λ e. let t : Stamp = record { epoch = e; round = old.round.stamp.round } in t) c.self.invariant.epoch_is in
    subst (λ (h : Held). c.lose_all.new.out.items ≡ c.args.out.now.items ++ flat_map item_of (terminate r h.state)) c.self.view_is
    (told_then c.args.out.now.items c.push.new.self.items c.lose_all.new.out.items (flat_map item_of (flat_map (lost_posts old.who (stamp st) r) (moving old.round))) (item.Fact (fact.Terminated r)) c.push.ensures.items
    (c.lose_all.ensures.items ∙ ap (λ (t : Stamp). c.push.new.self.items ++ flat_map item_of (flat_map (lost_posts old.who t r) (moving old.round))) same))

pub returns-clause-spare : goal.returns-clause-spare
returns-clause-spare c =
    let old = c.self.inside in
    let st : Coordinator = record { who = old.who; set = setting old.store.script; entries = old.store.entries; quitting = old.quitting.items; started = old.started; moving = moving old.round; begun = old.round.stamp.round } in
    let r = c.args.r.now in
    let same : old.round.stamp ≡ stamp st = ap (λ e. let t : Stamp = record { epoch = e; round = old.round.stamp.round } in t) c.self.invariant.epoch_is in
    let long : suc (length (flat_map item_of (flat_map (lost_posts old.who old.round.stamp r) (moving old.round)))) ≡ length (flat_map item_of (terminate r st)) =
    ap (λ (t : Stamp). suc (length (flat_map item_of (flat_map (lost_posts old.who t r) (moving old.round))))) same in
    subst (λ (h : Held). c.lose_all.new.out.spare + length (flat_map item_of (terminate r h.state)) ≡ c.args.out.now.spare) c.self.view_is
    (omega (arith, long, c.lose_all.ensures.spare, c.push.ensures.spare))

pub returns-clause-state : goal.returns-clause-state
returns-clause-state c =
    let old = c.self.inside in
    let st : Coordinator = record { who = old.who; set = setting old.store.script; entries = old.store.entries; quitting = old.quitting.items; started = old.started; moving = moving old.round; begun = old.round.stamp.round } in
    let r = c.args.r.now in
    rw c.terminated.ensures.script (rw c.terminated.ensures.entries (rw c.lose_all.ensures.moving (rw c.lose_all.ensures.stamp
    (sym (terminated_state r st) ∙ ap (λ (h : Held). fold coordinator_after h.state (terminate r h.state)) c.self.view_is))))
