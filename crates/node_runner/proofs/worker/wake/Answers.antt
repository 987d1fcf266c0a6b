use Rattle.std.proofs.Common.{◌≡◌, true, refl, sym, ap, ◌∙◌, subst}
use Rattle.std.specs.Prelude.{◌&&◌, IfSome}
use Rattle.atomic_table.specs.Seated.{TableId}
use Rattle.plain_laws.proofs.Booleans.{and_both}
use Rattle.yard_model.specs.declared.packet.Packet.{Packet}
use Rattle.yard_model.specs.Genuine.{is_genuine_packet}
use Rattle.yard_model.specs.Script.{Script}
use Rattle.lease_table.specs.Belongs.{charter_of}
use Rattle.lease_table.specs.Fits.{is_within}
use Rattle.lease_table.specs.Leasing.{Pass}
use Rattle.node_runner.specs.Parcels.{is_shown, is_within_body}
use Rattle.node_runner.proofs.Stepping.{if_ok}
use Rattle.node_runner.proofs.worker.wake.Goals as goal

pub returns-in_default-clause-goes_on : goal.returns-in_default-clause-goes_on
returns-in_default-clause-goes_on g c = if_ok c.give.result (λ r h. h refl) c.give.ensures.goes_on

pub take_packet-requires-clause-genuine : goal.take_packet-requires-clause-genuine
take_packet-requires-clause-genuine g c = ap (λ (y : Script). is_genuine_packet y c.into_parts-packet.result.0) (sym c.requires.run.0) ∙ c.into_parts-packet.ensures.genuine

pub take_packet-requires-clause-within : goal.take_packet-requires-clause-within
take_packet-requires-clause-within g c =
    let p : Packet = c.into_parts-packet.result.0 in
    (and_both (is_within p.from.number) (is_within p.to.number) (and_both (is_within p.from.number && is_within p.to.number) (is_within_body p.body) c.into_parts-packet.ensures.within).0).0

pub take_packet-requires-clause-note : goal.take_packet-requires-clause-note
take_packet-requires-clause-note g c = subst (λ (z : TableId). IfSome c.into_parts-packet.result.1 (λ (w : Pass). w.table ≡ z)) c.requires.run.1 c.into_parts-packet.ensures.belongs

pub take_packet-requires-clause-shown : goal.take_packet-requires-clause-shown
take_packet-requires-clause-shown g c = ap (λ (y : Script). is_shown y c.into_parts-packet.result.0.body c.into_parts-packet.result.1) (sym c.requires.run.0) ∙ c.into_parts-packet.ensures.shown
