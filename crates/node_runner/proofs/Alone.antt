-- A steady producer's queue is free for its node.
use Rattle.std.proofs.Common.{◌≡◌, ◌≢◌, sym, ap, ◌∙◌, refl, true}
use Rattle.std.specs.Prelude.{Option, None, Some, IfSome}
use Rattle.yard_model.specs.declared.incarnation.Incarnation.{Incarnation}
use Rattle.yard_model.specs.declared.incarnation.Slot.TheVariants as slot
use Rattle.yard_model.specs.SlotLists.{queue_list}
use Rattle.yard_model.specs.SlotReads.{holder}
use Rattle.lease_table.specs.Fits.{admits}
use Rattle.live_laws.proofs.Steadies.{steady_alone}
use Rattle.node_runner.specs.Alone.{SteadyIsFree}

pub steady_is_free : SteadyIsFree
steady_is_free c turns p n z v lists st steady script who others here none = by (holder (queue_list lists p)) refl (others (slot.Queue p) here none)
  where
    by : (o : Option Incarnation) → holder (queue_list lists p) ≡ o → IfSome o (λ x. (x.node ≢ st.who.node) × (admits v.charter x.node (slot.Queue p) ≡ true)) → o ≡ None
    by None e h = refl
    by (Some x) e h = absurd (h.0 (steady_alone c turns p n x.node steady (ap (λ y. admits y x.node (slot.Queue p)) (sym script) ∙ h.1) ∙ sym who))
