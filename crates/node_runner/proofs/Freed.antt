-- A pass whose node is gone holds nothing.
use Rattle.std.proofs.Common.{◌≡◌, ℕ, zero, suc, ◌+◌, ◌-◌, ◌<◌, ◌≤◌, ⊎_elim, true, false, List, [], ◌∷◌, length, refl, sym, ap, ◌∙◌, subst, arith}
use Rattle.std.specs.Prelude.{Bool, Option, None, nat_lt}
use Rattle.atomic_table.specs.Seated.{TableId}
use Rattle.plain_laws.proofs.Booleans.{below, not_below}
use Rattle.yard_model.specs.declared.fact.Fact.{Fact}
use Rattle.yard_model.specs.declared.incarnation.Slot.{Slot}
use Rattle.yard_model.specs.Genuine.{is_slot_of}
use Rattle.yard_model.specs.Script.{Script}
use Rattle.yard_model.specs.Words.{at}
use Rattle.shard_store.specs.Stores.{place_of, slot_at}
use Rattle.shard_store.proofs.PlaceLaws.{slot_place}
use Rattle.lease_table.specs.declared.View.{View}
use Rattle.lease_table.specs.Fits.{slot_count}
use Rattle.lease_table.specs.Leasing.{Pass, Idle, Spans}
use Rattle.lease_table.proofs.Meant.{free_there}
use Rattle.node_runner.specs.Rested.{means}

past_end : {A : Type 0} (xs : List (Option A)) (k : ℕ) → length xs ≤ k → at xs k ≡ None
past_end [] k h = refl
past_end (x ∷ xs) zero h = absurd (never (length xs) h)
  where
    never : (n : ℕ) → suc n ≤ 0 → ⊥
    never n h = omega (arith, h)
past_end (x ∷ xs) (suc k) h = past_end xs k (down (length xs) k h)
  where
    down : (n k : ℕ) → suc n ≤ suc k → n ≤ k
    down n k h = omega (arith, h)

pub freed_idle : (z : TableId) (c : Script) (me : ℕ) (p : Pass) → p.table ≡ z → p.view.charter ≡ c → p.view.numbers ≡ me ∷ [] → Spans p.view → ((s : Slot) → is_slot_of c s ≡ true → (means me p).holds me s ≡ false) → Idle z c me p
freed_idle z c me p table charter numbers wide free = record {
  table = table;
  charter = charter;
  numbers = numbers;
  nothing = λ k. by k (nat_lt k (slot_count c)) refl;
}
  where
    inside : (k : ℕ) → k < slot_count c → at p.view.held k ≡ None
    inside k less =
        let is = slot_place c k less in
        let none : at p.view.held (place_of p.view.charter.config (slot_at c.config k)) ≡ None = free_there p.table p.view me me (slot_at c.config k) refl (ap (λ (y : Script). is_slot_of y (slot_at c.config k)) charter ∙ is.0) (free (slot_at c.config k) is.0) in
        sym (ap (λ (i : ℕ). at p.view.held i) is.1) ∙ ap (λ (y : Script). at p.view.held (place_of y.config (slot_at c.config k))) (sym charter) ∙ none

    by : (k : ℕ) (b : Bool) → nat_lt k (slot_count c) ≡ b → at p.view.held k ≡ None
    by k true e = inside k (below k (slot_count c) e)
    by k false e = let many : slot_count c ≤ k = not_below k (slot_count c) e in past_end p.view.held k (subst (λ n. n ≤ k) (sym (wide.helds ∙ ap slot_count charter)) many)
