use Rattle.lease_table.specs.Rule.{head_at}
use Rattle.lease_table.specs.Fits.{slot_count}
use Rattle.std.proofs.Common.{arith, ◌≡◌, ◌<◌, ℕ, None, ap, ◌∙◌}
use Rattle.yard_model.specs.Words.{at}
use Rattle.lease_table.specs.Leasing.{Pass}
use Rattle.lease_table.proofs.Seats.{joins}
use Rattle.lease_table.proofs.United.{nothing_out, united_ok}
use Rattle.lease_table.proofs.table.LeaseTable.unite.Goals as goal

pub join_seat-requires : goal.join_seat-requires
join_seat-requires c =
    let z = c.args.self.now.sized in
    let a : c.args.self.now.table.shared.table_id.words ≡ head_at (slot_count c.args.self.now.charter.value) (slot_count c.args.self.now.charter.value) = z.0 in let b : 0 < slot_count c.args.self.now.charter.value = z.5 in
    let nothing : (k : ℕ) → at c.other.inside.seat.me.0.held k ≡ None = λ k. ap (λ (p : Pass). at p.view.held k) c.other.view_is ∙ c.requires.nothing k in (
      ap (λ (p : Pass). p.table) c.pass.view_is ∙ c.requires.table.0,
      ap (λ (p : Pass). p.table) c.other.view_is ∙ c.requires.table.1,
      nothing_out _ _ _ _ c.other.invariant nothing,
      omega arith,
      joins _ _ _ _ _ nothing,
    )

pub invariant_of-result : goal.invariant_of-result
invariant_of-result c = united_ok _ _ c.join_seat.new.seat.me c.other.inside.seat.me.0 _ _ c.pass.invariant c.join_seat.ensures.2
