use Rattle.std.proofs.Common.{◌≡◌, drop}
use Rattle.std.specs.Prelude.{fold, IsTrue}
use Rattle.yard_model.specs.Behaviour.{is_valid, are_applicable, apply}
use Rattle.behaviour_core.proofs.fold.apply_all.Given as goal

abbrev pub invariant-loop-event : goal.invariant-loop-event
invariant-loop-event g l = record {
  valid : IsTrue (is_valid (g.B.Behaviour.kind_of l.behaviour) l.state);
  may : IsTrue (are_applicable l.state (drop l.event-index l.events));
  value : fold apply l.state (drop l.event-index l.events) ≡ fold apply l.fn.state l.events;
}
