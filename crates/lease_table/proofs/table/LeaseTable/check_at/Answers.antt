use Rattle.lease_table.specs.Fits.{slot_count}
use Rattle.std.proofs.Common.{arith, ◌≡◌, ℕ, ◌<◌, sym, ap, ◌∙◌, subst}
use mathlib.Core.Option.{none}
use Rattle.atomic_table.specs.Table.{step, Allows}
use Rattle.yard_model.specs.Script.{Script}
use Rattle.lease_table.specs.Rule.{IsTable, head_at}
use Rattle.lease_table.specs.Tells.{Looked}
use Rattle.lease_table.specs.Leasing.{Pass}
use Rattle.lease_table.proofs.Steps.{looks}
use Rattle.lease_table.proofs.table.LeaseTable.check_at.Goals as goal

pub load-found-requires : goal.load-found-requires
load-found-requires c =
    let t = c.args.self.now.table.shared in
    let z = c.args.self.now.sized in
    let place : head_at t.table_id.slots c.args.slot ≡ c.head.result = ap (λ (z : ℕ). head_at z c.args.slot) z.1 ∙ sym c.head.ensures in
    let slots : t.table_id.slots ≡ c.args.self.now.slots = z.1 ∙ sym z.6 in
    let run : c.args.self.now.slots ≡ slot_count c.args.self.now.charter.value = z.6 in
    let key : t.table_id.slots ≡ slot_count t.key.charter.value = z.1 ∙ ap (λ (y : Script). slot_count y) (sym z.2) in
    let lt : c.args.slot < slot_count c.args.self.now.charter.value = c.requires.slot in
    let words : t.table_id.words ≡ head_at (slot_count c.args.self.now.charter.value) (slot_count c.args.self.now.charter.value) = z.0 in (
      ap (λ (p : Pass). p.table) c.pass.view_is ∙ c.requires.table,
      omega arith,
      subst (λ (w : ℕ). Allows (IsTable t.key.charter.value) t.table_id.slots c.pass.inside.seat.id c.pass.inside.seat.me w (λ n. n) (Looked (step t.table_id.slots w 0 0 none) c.pass.inside.seat.me)) place
          (looks t.key.charter.value t.table_id.slots c.pass.inside.seat.id c.pass.inside.seat.me c.args.slot key (omega arith)),
    )
