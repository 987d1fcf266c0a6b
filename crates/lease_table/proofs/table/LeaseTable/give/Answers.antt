use Rattle.lease_table.specs.Fits.{slot_count}
use Rattle.std.proofs.Common.{arith, ◌≡◌, ◌<◌, sym, ap, ◌∙◌, subst}
use Rattle.yard_model.specs.Script.{Script}
use Rattle.lease_table.specs.Rule.{IsFree, head_at}
use Rattle.lease_table.proofs.Steps.{frees}
use Rattle.lease_table.proofs.table.LeaseTable.give.Goals as goal

pub store-requires : goal.store-requires
store-requires c =
    let t = c.args.self.now.table.shared in
    let z = c.args.self.now.sized in
    let wide : slot_count c.args.self.now.charter.value ≡ slot_count t.key.charter.value = ap (λ (y : Script). slot_count y) (sym z.2) in
    let lt : c.args.slot < slot_count c.args.self.now.charter.value = c.requires.slot in
    let words : t.table_id.words ≡ head_at (slot_count c.args.self.now.charter.value) (slot_count c.args.self.now.charter.value) = z.0 in
    let r = c.requires.rests in (
      c.requires.table,
      omega arith,
      frees t.key.charter.value t.table_id.slots c.args.seat.now.id c.args.seat.now.me c.args.slot r.0 r.1 r.2 (z.1 ∙ wide) r.3 (c.requires.live ∙ wide) r.4 (subst (λ (y : Script). IsFree y c.args.slot r.0 r.1) (sym z.2) r.5),
    )
