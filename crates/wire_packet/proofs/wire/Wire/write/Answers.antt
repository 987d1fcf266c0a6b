use Rattle.std.proofs.Common.{◌≢◌, ◌<◌, ◌∙◌, ◌-◌, ℕ, sym, ap, arith, Some}
use Rattle.wire_packet.specs.Wire.{Posted}
use Rattle.wire_packet.proofs.CellsLaws.{there_at}
use Rattle.wire_packet.proofs.KeptLaws.{got_at}
use Rattle.wire_packet.proofs.wire.Wire.write.Goals as goal

above : (n : ℕ) → 0 < n → n ≢ 0
above n h = omega arith

pub write-requires : goal.write-requires
write-requires c = there_at c.self.inside.books c.self.inside.cells.items (c.args.number - 1) c.cell_in.result.now c.self.invariant.there (rw c.as_slice.ensures.value at c.cell_in.ensures)

pub returns : goal.returns
returns c = sym (ap Some c.write.ensures ∙ got_at c.self.inside.books c.self.inside.cells.items c.args.number (Some c.cell_in.result.now) c.args.self.now.packets (above c.args.number c.requires.above) (sym (rw c.as_slice.ensures.value at c.cell_in.ensures)) (ap (λ (w : Posted). w.packets) c.self.view_is))
