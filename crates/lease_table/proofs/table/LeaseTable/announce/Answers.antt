use Rattle.std.proofs.Common.{◌⊎◌, true, arith, ◌≡◌, ℕ, ◌<◌, ◌^◌, length, sym, ap, ◌∙◌, subst, List}
use mathlib.Core.Option.{none}
use Rattle.atomic_table.specs.Table.{step, Allows}
use Rattle.yard_model.specs.Script.{Script}
use Rattle.yard_model.specs.declared.fact.Fact.{Fact}
use Rattle.lease_table.specs.Fits.{slot_count, Fits, recorded, home_of}
use Rattle.shard_lease.specs.Meaning.{confirms}
use Rattle.lease_table.specs.Lists.{seen_at}
use Rattle.lease_table.specs.Rule.{IsTable, head_at}
use Rattle.lease_table.specs.Tells.{Published}
use Rattle.lease_table.proofs.Steps.{publishes}
use Rattle.lease_table.proofs.table.LeaseTable.announce.Goals as goal

pub store-requires : goal.store-requires
store-requires g c =
    let t = c.args.self.now.table.shared in
    let z = c.args.self.now.sized in
    let place : head_at t.table_id.slots c.args.slot ≡ c.head.result = ap (λ (z : ℕ). head_at z c.args.slot) z.1 ∙ sym c.head.ensures in
    let slots : t.table_id.slots ≡ c.args.self.now.slots = z.1 ∙ sym z.6 in
    let run : c.args.self.now.slots ≡ slot_count c.args.self.now.charter.value = z.6 in
    let wide : slot_count c.args.self.now.charter.value ≡ slot_count t.key.charter.value = ap (λ (y : Script). slot_count y) (sym z.2) in
    let lt : c.args.slot < slot_count c.args.self.now.charter.value = c.requires.live.3 in
    let words : t.table_id.words ≡ head_at (slot_count c.args.self.now.charter.value) (slot_count c.args.self.now.charter.value) = z.0 in
    let new : List Fact = g.B.Told.list in
    let len : length new ≡ c.len.result = ap (λ (l : List Fact). length l) c.requires.told ∙ sym c.len.ensures in
    let short : length new < 2 ^ 32 = omega arith in
    let m = c.args.seat.now.me in
    let own : Fits t.key.charter.value c.args.slot new = subst (λ (y : Script). Fits y c.args.slot new) (c.requires.live.2 ∙ sym z.2) c.requires.rule.own in (
      c.requires.table,
      omega arith,
      subst (λ (w : ℕ). Allows (IsTable t.key.charter.value) t.table_id.slots c.args.seat.now.id m w (λ _. c.len.result) (λ _. Published new (step t.table_id.slots w c.len.result 0 none) m c.len.result)) place
          (subst (λ (n : ℕ). Allows (IsTable t.key.charter.value) t.table_id.slots c.args.seat.now.id m (head_at t.table_id.slots c.args.slot) (λ _. n) (λ _. Published new (step t.table_id.slots (head_at t.table_id.slots c.args.slot) n 0 none) m n)) len
          (publishes t.key.charter.value t.table_id.slots c.args.seat.now.id m c.args.slot c.requires.rule.old new (subst (λ (y : Script). (e : List ℕ) (p n : ℕ) → confirms e p n new ≡ true → (confirms e p n c.requires.rule.old ≡ true) ⊎ (recorded e p n (seen_at m.0.seen (home_of y e)) ≡ true)) (c.requires.live.2 ∙ sym z.2) c.requires.rule.vouched) (z.1 ∙ wide) c.requires.rule.held (c.requires.live.0 ∙ wide) (c.requires.live.1 ∙ wide) c.requires.rule.extends own short)),
    )
