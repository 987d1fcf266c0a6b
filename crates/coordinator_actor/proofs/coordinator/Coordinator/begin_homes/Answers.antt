use Rattle.std.proofs.Common.{◌+◌, ◌≤◌, ◌++◌, ℕ, List, length, fold, sym, ap, ◌∙◌, subst}
use Rattle.std.specs.List.{flat_map}
use Rattle.yard_model.specs.Coordinator.{coordinator_after, begin}
use Rattle.yard_model.specs.Move.{item_of}
use Rattle.coordinator_actor.proofs.coordinator.Coordinator.begin_homes.Goals as goal

pub begin-requires-clause-room : goal.begin-requires-clause-room
begin-requires-clause-room c =
    subst (λ (ss : List ℕ). length (flat_map item_of (begin ss c.args.self.now.state)) ≤ c.args.out.now.spare) (sym c.homes_of-homes.ensures.homes) c.requires.room

pub returns-clause-items : goal.returns-clause-items
returns-clause-items c =
    c.begin.ensures.items ∙ ap (λ (ss : List ℕ). c.args.out.now.items ++ flat_map item_of (begin ss c.args.self.now.state)) c.homes_of-homes.ensures.homes

pub returns-clause-state : goal.returns-clause-state
returns-clause-state c =
    c.begin.ensures.state ∙ ap (λ (ss : List ℕ). fold coordinator_after c.args.self.now.state (begin ss c.args.self.now.state)) c.homes_of-homes.ensures.homes

pub returns-clause-spare : goal.returns-clause-spare
returns-clause-spare c =
    ap (λ (ss : List ℕ). c.begin.new.out.spare + length (flat_map item_of (begin ss c.args.self.now.state))) (sym c.homes_of-homes.ensures.homes) ∙ c.begin.ensures.spare
