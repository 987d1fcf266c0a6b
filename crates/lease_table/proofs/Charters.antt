-- What it means that a script admits a node.
use Rattle.std.proofs.Common.{◌≡◌, ◌≢◌, ℕ, ◌≤◌, true, ◌&&◌, arith}
use Rattle.std.specs.Prelude.{nat_le}
use Rattle.plain_laws.proofs.Booleans.{and_both, at_most}
use Rattle.yard_model.specs.Behaviour.{is_in}
use Rattle.yard_model.specs.Genuine.{is_slot_of}
use Rattle.yard_model.specs.Script.{Script}
use Rattle.yard_model.specs.declared.incarnation.Slot.{Slot}
use Rattle.lease_table.specs.Fits.{admits, is_let}

pub in_nodes : (c : Script) (n : ℕ) (s : Slot) → admits c n s ≡ true → is_in 1 c.config.nodes n ≡ true
in_nodes c n s h = (and_both (is_in 1 c.config.nodes n) (is_slot_of c s) (and_both (is_in 1 c.config.nodes n && is_slot_of c s) (is_let c n s) h).0).0

pub within_nodes : (m n : ℕ) → is_in 1 m n ≡ true → (n ≢ 0) × (n ≤ m)
within_nodes m n h =
    let t : (nat_le 1 n ≡ true) × (nat_le n m ≡ true) = and_both (nat_le 1 n) (nat_le n m) h in
    let x : 1 ≤ n = at_most 1 n t.0 in let y : n ≤ m = at_most n m t.1 in (
      (λ e. omega arith),
      y,
    )

pub admitted_some : (c : Script) (n : ℕ) (s : Slot) → admits c n s ≡ true → (n ≢ 0) × (n ≤ c.config.nodes)
admitted_some c n s h = within_nodes c.config.nodes n (in_nodes c n s h)
