-- Places and slots: each slot of a script has a place of its own, and each place within is a slot's.
use Rattle.std.proofs.Common.{◌≡◌, ◌≢◌, ℕ, ◌+◌, ◌-◌, ◌<◌, ◌≤◌, sym, ap, ◌∙◌, refl, true, false, true≢false, arith}
use Rattle.std.specs.Prelude.{Bool, ◌==◌, ◌&&◌, nat_lt, nat_le, if◌then◌else◌}
use Rattle.std.proofs.lemmas.Bool.Decides.{nat_tests, Decides-eqb}
use Rattle.yard_model.specs.declared.incarnation.Slot.{Slot}
use Rattle.yard_model.specs.declared.incarnation.Slot.TheVariants as slot
use Rattle.yard_model.specs.Genuine.{is_slot_of}
use Rattle.yard_model.specs.Script.{Script}
use Rattle.shard_store.specs.Stores.{place_of, slot_at}

and_both : (a b : Bool) → (a && b) ≡ true → (a ≡ true) × (b ≡ true)
and_both true b e = (refl, e)
and_both false b e = absurd (true≢false (sym e))

both : (a b : Bool) → a ≡ true → b ≡ true → (a && b) ≡ true
both a b e f = ap (λ x. x && b) e ∙ f

lt_of : (a b : ℕ) → nat_lt a b ≡ true → a < b
lt_of a b h = grind (arith, nat_tests)

lt_not : (a b : ℕ) → b ≤ a → nat_lt a b ≡ false
lt_not a b h = grind (arith, nat_tests)

le_of : (a b : ℕ) → nat_le a b ≡ true → a ≤ b
le_of a b h = grind (arith, nat_tests)

eq_is : (a b : ℕ) → a ≡ b → (a == b) ≡ true
eq_is a b h = (Decides-eqb a b).1 h

eq_not : (a b : ℕ) → a ≢ b → (a == b) ≡ false
eq_not a b h = grind (arith, nat_tests)

pub place_within : (c : Script) (s : Slot) → is_slot_of c s ≡ true → place_of c.config s < c.config.shards + c.config.producers + 1
place_within c (slot.Shard s) h = let a : s < c.config.shards = lt_of s c.config.shards h in omega arith
place_within c slot.Coordinator h = omega arith
place_within c (slot.Queue p) h = let a : p ≤ c.config.producers = le_of p c.config.producers (and_both (nat_le 1 p) (nat_le p c.config.producers) h).1 in omega arith

pub slot_back : (c : Script) (s : Slot) → is_slot_of c s ≡ true → slot_at c.config (place_of c.config s) ≡ s
slot_back c (slot.Shard s) h = ap (λ b. if b then slot.Shard s else if s == c.config.shards then slot.Coordinator else slot.Queue (s - c.config.shards)) h
slot_back c slot.Coordinator h =
    let k : ℕ = c.config.shards in
    ap (λ b. if b then slot.Shard k else if k == k then slot.Coordinator else slot.Queue (k - k)) (lt_not k k (omega arith))
    ∙ ap (λ b. if b then slot.Coordinator else slot.Queue (k - k)) (eq_is k k refl)
slot_back c (slot.Queue p) h =
    let k : ℕ = c.config.shards in
    let above : 1 ≤ p = le_of 1 p (and_both (nat_le 1 p) (nat_le p c.config.producers) h).0 in
    let back : k + p - k ≡ p = omega arith in
    ap (λ b. if b then slot.Shard (k + p) else if k + p == k then slot.Coordinator else slot.Queue (k + p - k)) (lt_not (k + p) k (omega arith))
    ∙ (ap (λ b. if b then slot.Coordinator else slot.Queue (k + p - k)) (eq_not (k + p) k (λ e. absurd (omega (arith, e, above)))) ∙ ap (λ n. slot.Queue n) back)

-- this place is that slot's
abbrev pub IsSlotAt : Script → ℕ → Slot → Type 0
IsSlotAt c k s = (is_slot_of c s ≡ true) × (place_of c.config s ≡ k)

pub slot_place : (c : Script) (k : ℕ) → k < c.config.shards + c.config.producers + 1 → IsSlotAt c k (slot_at c.config k)
slot_place c k within = by_shard (nat_lt k c.config.shards) refl
  where
    not_lt : (a b : ℕ) → nat_lt a b ≡ false → b ≤ a
    not_lt a b h = grind (arith, nat_tests)

    le_is : (a b : ℕ) → a ≤ b → nat_le a b ≡ true
    le_is a b h = grind (arith, nat_tests)

    by_queue : (v : Bool) → (k == c.config.shards) ≡ v → c.config.shards ≤ k → IsSlotAt c k (if v then slot.Coordinator else slot.Queue (k - c.config.shards))
    by_queue true e above = (refl, sym ((Decides-eqb k c.config.shards).0 e))
    by_queue false e above =
        let other : k ≢ c.config.shards = λ same. true≢false (sym (eq_is k c.config.shards same) ∙ e) in
        let some : 1 ≤ k - c.config.shards = omega (arith, above, other) in
        let most : k - c.config.shards ≤ c.config.producers = omega (arith, within) in
        let back : c.config.shards + (k - c.config.shards) ≡ k = omega (arith, above) in
        (both (nat_le 1 (k - c.config.shards)) (nat_le (k - c.config.shards) c.config.producers) (le_is 1 (k - c.config.shards) some) (le_is (k - c.config.shards) c.config.producers most), back)

    by_shard : (v : Bool) → nat_lt k c.config.shards ≡ v → IsSlotAt c k (if v then slot.Shard k else if k == c.config.shards then slot.Coordinator else slot.Queue (k - c.config.shards))
    by_shard true e = (e, refl)
    by_shard false e = by_queue (k == c.config.shards) refl (not_lt k c.config.shards e)

pub place_apart : (c : Script) (s t : Slot) → is_slot_of c s ≡ true → is_slot_of c t ≡ true → t ≢ s → place_of c.config t ≢ place_of c.config s
place_apart c s t hs ht other = λ e. other (sym (slot_back c t ht) ∙ (ap (slot_at c.config) e ∙ slot_back c s hs))
