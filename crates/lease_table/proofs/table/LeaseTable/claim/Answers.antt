use Rattle.shard_store.specs.Stores.{slot_at}
use Rattle.std.proofs.Common.{ℕ, arith, ◌≡◌, ◌<◌, true, sym, ap, ◌∙◌, subst}
use Rattle.yard_model.specs.Script.{Script}
use Rattle.lease_table.specs.Rule.{head_at}
use Rattle.lease_table.specs.Fits.{slot_count, admits}
use Rattle.lease_table.specs.Lists.{Has}
use Rattle.lease_table.proofs.Steps.{claims}
use Rattle.lease_table.proofs.Charters.{admitted_some}
use Rattle.lease_table.proofs.table.LeaseTable.claim.Goals as goal

pub compare_exchange-requires : goal.compare_exchange-requires
compare_exchange-requires c =
    let z = c.args.self.now.sized in
    let key : c.args.self.now.table.shared.key.charter.value ≡ c.args.self.now.charter.value = z.2 in
    let slots : c.args.self.now.table.shared.table_id.slots ≡ slot_count c.args.self.now.table.shared.key.charter.value = z.1 ∙ ap (λ (y : Script). slot_count y) (sym key) in
    let wide : slot_count c.args.self.now.charter.value ≡ slot_count c.args.self.now.table.shared.key.charter.value = ap (λ (y : Script). slot_count y) (sym key) in
    let node : c.get.result ≡ c.args.node = c.get.ensures.value in
    let may : admits c.args.self.now.charter.value c.get.result (slot_at c.args.self.now.charter.value.config c.args.slot) ≡ true = subst (λ (n : ℕ). admits c.args.self.now.charter.value n (slot_at c.args.self.now.charter.value.config c.args.slot) ≡ true) (sym node) c.requires.may.2 in (
      c.requires.table,
      (let a : c.args.slot < slot_count c.args.self.now.charter.value = c.requires.may.0 in let b : c.args.self.now.table.shared.table_id.words ≡ head_at (slot_count c.args.self.now.charter.value) (slot_count c.args.self.now.charter.value) = z.0 in omega arith),
      claims _ _ _ _ _ _ c.requires.live.0 slots (let a : c.args.slot < slot_count c.args.self.now.charter.value = c.requires.may.0 in omega arith)
          (admitted_some c.args.self.now.charter.value c.get.result (slot_at c.args.self.now.charter.value.config c.args.slot) may).0
          (subst (λ (n : ℕ). Has n c.args.seat.now.me.0.numbers) (sym node) c.requires.may.1) (subst (λ (y : Script). admits y c.get.result (slot_at y.config c.args.slot) ≡ true) (sym key) may) c.requires.free (c.requires.live.1 ∙ wide) (c.requires.live.2 ∙ wide),
    )
