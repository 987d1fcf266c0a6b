use Rattle.std.proofs.Common.{◌≡◌, ◌∙◌, ap, sym, append-nil, length, arith}
use Rattle.std.specs.Prelude.{◌++◌, List, []}
use Rattle.std.specs.List.{flat_map}
use Rattle.yard_model.specs.Coordinator.{Moving}
use Rattle.yard_model.specs.Move.{item_of}
use Rattle.handoff_steps.specs.Places.{moving}
use Rattle.coordinator_actor.specs.Parts.{lost_all, lost_posts}
use Rattle.coordinator_actor.proofs.LostLaws.{none_there}
use Rattle.coordinator_actor.proofs.lost.lose_all.Goals as goal

pub returns-then-is_done-clause-items : goal.returns-then-is_done-clause-items
returns-then-is_done-clause-items c =
    let none : moving c.args.round.now ≡ [] = none_there (moving c.args.round.now) (sym c.is_done.ensures ∙ c.if-is_done.true) in
    sym (append-nil c.args.out.now.items) ∙ ap (λ (ms : List Moving). c.args.out.now.items ++ flat_map item_of (flat_map (lost_posts c.args.who.now c.args.round.now.stamp c.args.r.now) ms)) (sym none)

pub returns-then-is_done-clause-moving : goal.returns-then-is_done-clause-moving
returns-then-is_done-clause-moving c =
    let none : moving c.args.round.now ≡ [] = none_there (moving c.args.round.now) (sym c.is_done.ensures ∙ c.if-is_done.true) in
    none ∙ ap (λ (ms : List Moving). lost_all c.args.r.now ms) (sym none)

pub returns-then-is_done-clause-spare : goal.returns-then-is_done-clause-spare
returns-then-is_done-clause-spare c =
    let none : moving c.args.round.now ≡ [] = none_there (moving c.args.round.now) (sym c.is_done.ensures ∙ c.if-is_done.true) in
    let long : length (flat_map item_of (flat_map (lost_posts c.args.who.now c.args.round.now.stamp c.args.r.now) (moving c.args.round.now))) ≡ 0 =
    ap (λ (ms : List Moving). length (flat_map item_of (flat_map (lost_posts c.args.who.now c.args.round.now.stamp c.args.r.now) ms))) none in
    omega (arith, long)
