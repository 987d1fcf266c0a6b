-- The gate at the front of the bytes at hand, and what is read behind it.
use Rattle.std.proofs.Common.{◌≡◌, ◌⊎◌, inl, inr, ℕ, ◌+◌, ◌<◌, ◌≤◌, Bool, List, [], ◌∷◌, ◌++◌, length, drop, refl, sym, ◌∙◌, ap, ap₂, subst, arith}
use Rattle.std.specs.Prelude.{IsTrue, slice_index}
use Rattle.std.proofs.lemmas.List.{drop-drop}
use Rattle.yard_model.specs.declared.fact.Fact.{Fact}
use Rattle.disk_log.specs.Spelled.{IsUnfollowed}
use Rattle.disk_log.specs.Window.{Ahead, Filled, IsAhead, IsBadGate}
use Rattle.disk_log.specs.Kept.{BatchMore, ClosedMore, OpenedMore}

front_is : (gate : ℕ) (bytes rest xs : List ℕ) → 0 < length bytes → gate ≡ slice_index bytes 0 → xs ≡ bytes ++ rest → xs ≡ gate ∷ drop 1 xs
front_is gate [] rest xs some is whole = absurd (omega (arith, some))
front_is gate (b ∷ bytes) rest xs some is whole = whole ∙ ap₂ (λ (g : ℕ) (l : List ℕ). g ∷ l) (sym is) (sym (ap (drop 1) whole))

left_some : (n place size : ℕ) → n ≡ 0 → place < size → (5 ≤ n) ⊎ (size ≤ place + n) → ⊥
left_some n place size none there (inl long) = omega (arith, none, long)
left_some n place size none there (inr all) = omega (arith, none, there, all)

module _ (tells : Bool) (content : List ℕ) (old mid : Ahead) (filled : Filled tells content 5 old mid) (bytes : List ℕ) (hand : bytes ≡ mid.bytes) where
  -- a byte is there
  pub some_there : bytes ≡ [] → old.place < old.size → IsTrue tells → ⊥
  some_there none there told =
      let empty : length mid.bytes ≡ 0 = ap length (sym hand ∙ none) in
      left_some (length mid.bytes) mid.place mid.size empty (omega (arith, there, filled.size, filled.place)) (filled.enough told)

  pub ahead_there : (after : List ℕ) → after ≡ content → IsAhead tells after mid
  ahead_there after stays = subst (λ xs. IsAhead tells xs mid) (sym stays) filled.ahead

  module _ (gate : ℕ) (some : 0 < length bytes) (is : gate ≡ slice_index bytes 0) where
    pub gate_is : IsTrue tells → drop old.place content ≡ gate ∷ drop (old.place + 1) content
    gate_is told =
        let rest : List ℕ = (filled.ahead.front told).0 in
        let whole : drop old.place content ≡ bytes ++ rest = ap (λ k. drop k content) (sym filled.place) ∙ ((filled.ahead.front told).1 ∙ ap (λ (l : List ℕ). l ++ rest) (sym hand)) in
        front_is gate bytes rest (drop old.place content) some is whole ∙ ap (λ (l : List ℕ). gate ∷ l) (drop-drop 1 old.place content)

    pub closed_there : (facts : List Fact) → gate ≡ 0 → ClosedMore tells content old mid facts facts
    closed_there facts zero = record {
      same = refl;
      place = filled.place;
      gate = λ told. (drop (old.place + 1) content, gate_is told ∙ ap (λ g. g ∷ drop (old.place + 1) content) zero);
    }

    -- the disk when what stands behind an open gate is read
    module _ (is_open : 0 < gate) (after : List ℕ) (stays : after ≡ content) where
      pub opened_there : (new : Ahead) (facts more : List Fact) → BatchMore tells after mid new facts more → OpenedMore tells content old new facts more
      opened_there new facts more b = record {
        batch = subst (λ xs. BatchMore tells xs old new facts more) stays (record {
          read = b.read;
          more_are = b.more_are;
          are = record {
            batch = b.are.batch;
            ahead = b.are.ahead;
            size = b.are.size ∙ filled.size;
            place = omega (arith, b.are.place, filled.place);
            within = b.are.within;
            frame = λ told. ap (λ k. drop (k + 1) after) (sym filled.place) ∙ b.are.frame told;
          };
        });
        gate = λ told. (gate, is_open, gate_is told);
      }

      pub bad_there : (at : ℕ) → at ≡ old.place → IsTrue tells → IsUnfollowed (drop (mid.place + 1) after) → IsBadGate content old.place at
      bad_there at same told other = record {
        same = same;
        gate = gate;
        is_open = is_open;
        here = gate_is told;
        unfollowed = subst (λ xs. IsUnfollowed (drop (old.place + 1) xs)) stays (subst (λ k. IsUnfollowed (drop (k + 1) after)) filled.place other);
      }
