use Rattle.lease_table.specs.Rule.{head_at}
use Rattle.lease_table.specs.Fits.{slot_count}
use Rattle.std.proofs.Common.{arith, ◌≡◌, ◌<◌, ap, ◌∙◌}
use Rattle.lease_table.specs.Leasing.{Pass}
use Rattle.lease_table.proofs.Seats.{notes}
use Rattle.lease_table.proofs.table.LeaseTable.take_note.Goals as goal

pub split_seat-other-requires : goal.split_seat-other-requires
split_seat-other-requires c =
    let z = c.args.self.now.sized in
    let a : c.args.self.now.table.shared.table_id.words ≡ head_at (slot_count c.args.self.now.charter.value) (slot_count c.args.self.now.charter.value) = z.0 in let b : 0 < slot_count c.args.self.now.charter.value = z.5 in (
      ap (λ (p : Pass). p.table) c.pass.view_is ∙ c.requires.table,
      omega arith,
      notes _ _ _,
    )
