use Rattle.std.proofs.Common.{◌≡◌, ◌++◌, List, length, sym, ap, ◌∙◌, append-nil, arith}
use Rattle.std.specs.Prelude.{fold, []}
use Rattle.std.specs.List.{flat_map}
use Rattle.yard_model.specs.Coordinator.{coordinator_after, terminate_lost}
use Rattle.yard_model.specs.Move.{Move, item_of}
use Rattle.coordinator_actor.proofs.RestLaws.{all_stay_viewed}
use Rattle.coordinator_actor.proofs.coordinator.Coordinator.view_taken.Goals as goal

pub returns-then-are_viewed-clause-items : goal.returns-then-are_viewed-clause-items
returns-then-are_viewed-clause-items c =
    let none : terminate_lost c.args.view.now.members c.args.self.now.state ≡ [] = all_stay_viewed c.args.view.now.members c.args.self.now.state (sym c.are_viewed.ensures ∙ c.if-are_viewed.true) in
    sym (ap (λ (ms : List Move). c.args.out.now.items ++ flat_map item_of ms) none ∙ append-nil c.args.out.now.items)

pub returns-then-are_viewed-clause-state : goal.returns-then-are_viewed-clause-state
returns-then-are_viewed-clause-state c = sym (ap (λ (ms : List Move). fold coordinator_after c.args.self.now.state ms) (all_stay_viewed c.args.view.now.members c.args.self.now.state (sym c.are_viewed.ensures ∙ c.if-are_viewed.true)))

pub returns-then-are_viewed-clause-spare : goal.returns-then-are_viewed-clause-spare
returns-then-are_viewed-clause-spare c =
    let none : length (flat_map item_of (terminate_lost c.args.view.now.members c.args.self.now.state)) ≡ 0 = ap (λ (ms : List Move). length (flat_map item_of ms)) (all_stay_viewed c.args.view.now.members c.args.self.now.state (sym c.are_viewed.ensures ∙ c.if-are_viewed.true)) in
    omega (arith, none)
