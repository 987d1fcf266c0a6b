use Rattle.std.proofs.Common.{◌≡◌, inl, inr, ⊎_elim, sym, ◌∙◌}
use Rattle.node_runner.proofs.worker.one_turn.Goals as goal

pub other_turn-requires-clause-none : goal.other_turn-requires-clause-none
other_turn-requires-clause-none g c = ⊎_elim (λ e. inl e) (λ h. inr (sym c.is_some.ensures ∙ h.0, h.1)) c.in-None.ensures
