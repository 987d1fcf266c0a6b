use Rattle.std.proofs.Common.{◌≡◌, ◌≤◌, ◌+◌, length, ap, sym, subst, ◌∙◌}
use Rattle.std.specs.Prelude.{◌++◌, List}
use Rattle.std.specs.List.{flat_map}
use Rattle.yard_model.specs.Coordinator.{Moving}
use Rattle.yard_model.specs.Move.{Move, item_of}
use Rattle.handoff_steps.specs.Places.{moving, place_at}
use Rattle.coordinator_actor.specs.Parts.{at_shard, lost_posts, step_posts}
use Rattle.coordinator_actor.proofs.LostLaws.{lost_step, none_lost}
use Rattle.coordinator_actor.proofs.lost.lose_shard.Goals as goal

pub returns-then-not-is_moving-clause-moving : goal.returns-then-not-is_moving-clause-moving
returns-then-not-is_moving-clause-moving c = sym (none_lost c.args.s c.args.r.now (moving c.args.round.now) (sym c.is_moving.ensures.moving ∙ c.if-not-is_moving.true))

pub take_step-requires : goal.take_step-requires
take_step-requires c =
    let v = c.args.round.now in
    let who = c.args.who.now in
    let r = c.args.r.now in
    let s = c.args.s in
    let posts : flat_map (lost_posts who v.stamp r) (at_shard s (moving v)) ≡ step_posts who c.stamp-stamp.result s c.region_gone-step.result =
    ap (λ (l : List Moving). flat_map (lost_posts who v.stamp r) l) c.is_moving.ensures.shard ∙ (lost_step who v.stamp r s (place_at v s)
    ∙ (ap (λ x. step_posts who v.stamp s x) (sym c.region_gone-step.ensures.answer) ∙ ap (λ t. step_posts who t s c.region_gone-step.result) (sym c.stamp-stamp.ensures.value))) in
    record { room = subst (λ (ms : List Move). length (flat_map item_of ms) ≤ c.args.out.now.spare) posts c.requires.room }

pub returns-clause-items : goal.returns-clause-items
returns-clause-items c =
    let v = c.args.round.now in
    let who = c.args.who.now in
    let r = c.args.r.now in
    let s = c.args.s in
    let posts : flat_map (lost_posts who v.stamp r) (at_shard s (moving v)) ≡ step_posts who c.stamp-stamp.result s c.region_gone-step.result =
    ap (λ (l : List Moving). flat_map (lost_posts who v.stamp r) l) c.is_moving.ensures.shard ∙ (lost_step who v.stamp r s (place_at v s)
    ∙ (ap (λ x. step_posts who v.stamp s x) (sym c.region_gone-step.ensures.answer) ∙ ap (λ t. step_posts who t s c.region_gone-step.result) (sym c.stamp-stamp.ensures.value))) in
    c.take_step.ensures.items ∙ ap (λ (ms : List Move). c.args.out.now.items ++ flat_map item_of ms) (sym posts)

pub returns-clause-spare : goal.returns-clause-spare
returns-clause-spare c =
    let v = c.args.round.now in
    let who = c.args.who.now in
    let r = c.args.r.now in
    let s = c.args.s in
    let posts : flat_map (lost_posts who v.stamp r) (at_shard s (moving v)) ≡ step_posts who c.stamp-stamp.result s c.region_gone-step.result =
    ap (λ (l : List Moving). flat_map (lost_posts who v.stamp r) l) c.is_moving.ensures.shard ∙ (lost_step who v.stamp r s (place_at v s)
    ∙ (ap (λ x. step_posts who v.stamp s x) (sym c.region_gone-step.ensures.answer) ∙ ap (λ t. step_posts who t s c.region_gone-step.result) (sym c.stamp-stamp.ensures.value))) in
    ap (λ (ms : List Move). c.take_step.new.out.spare + length (flat_map item_of ms)) posts ∙ c.take_step.ensures.spare
