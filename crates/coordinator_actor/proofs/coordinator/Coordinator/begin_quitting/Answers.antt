use Rattle.std.proofs.Common.{◌≡◌, ◌∙◌, sym, ap, length, append-nil, arith}
use Rattle.std.specs.Prelude.{◌++◌, List, fold, []}
use Rattle.std.specs.List.{flat_map}
use Rattle.yard_model.specs.Coordinator.{begin_quitting, coordinator_after}
use Rattle.yard_model.specs.Move.{Move, item_of}
use Rattle.yard_model.specs.Words.{is_empty}
use Rattle.coordinator_actor.proofs.Same.{none_so}
use Rattle.coordinator_actor.proofs.TickLaws.{none_quits}
use Rattle.coordinator_actor.proofs.coordinator.Coordinator.begin_quitting.Goals as goal

pub returns-else-has_leaving-clause-items : goal.returns-else-has_leaving-clause-items
returns-else-has_leaving-clause-items c =
    let none : begin_quitting c.args.self.now.state ≡ [] = none_quits c.args.self.now.state (none_so (is_empty c.args.self.now.state.quitting) (sym c.has_leaving.ensures ∙ c.if-has_leaving.false)) in
    sym (append-nil c.args.out.now.items) ∙ ap (λ (ms : List Move). c.args.out.now.items ++ flat_map item_of ms) (sym none)

pub returns-else-has_leaving-clause-state : goal.returns-else-has_leaving-clause-state
returns-else-has_leaving-clause-state c =
    let none : begin_quitting c.args.self.now.state ≡ [] = none_quits c.args.self.now.state (none_so (is_empty c.args.self.now.state.quitting) (sym c.has_leaving.ensures ∙ c.if-has_leaving.false)) in
    ap (λ (ms : List Move). fold coordinator_after c.args.self.now.state ms) (sym none)

pub returns-else-has_leaving-clause-spare : goal.returns-else-has_leaving-clause-spare
returns-else-has_leaving-clause-spare c =
    let none : begin_quitting c.args.self.now.state ≡ [] = none_quits c.args.self.now.state (none_so (is_empty c.args.self.now.state.quitting) (sym c.has_leaving.ensures ∙ c.if-has_leaving.false)) in
    let long : length (flat_map item_of (begin_quitting c.args.self.now.state)) ≡ 0 = ap (λ (ms : List Move). length (flat_map item_of ms)) none in
    omega (arith, long)
