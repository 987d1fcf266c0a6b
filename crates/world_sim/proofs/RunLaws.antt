-- Numbers that are all marked.
use Rattle.std.proofs.Common.{◌≡◌, ℕ, zero, suc, ◌+◌, ◌-◌, ◌<◌, ◌≤◌, Bool, true, false, List, [], ◌∷◌, length, drop, refl, ap, sym, ◌∙◌, subst, arith, nat_lt, filter, max, Option, Some, None, MatchOption}
use Rattle.std.specs.Prelude.{slice_index_or, if◌then◌else◌}
use Rattle.std.proofs.lemmas.List.{get_or-drop}
use Rattle.plain_laws.proofs.Booleans.{true_is_not_false, below, not_below}
use Rattle.wire_packet.specs.Wire.{next_fresh}
use Rattle.yard_model.specs.Words.{is_empty}
use Rattle.world_sim.specs.Mail.{AreMarked, Heads, fresh_from, fresh_of, run_end}
use Rattle.world_sim.proofs.FreshLaws.{above, next_after}

-- The first that isn't marked.

never : {A : Type 0} (a : ℕ) → a < 0 → A
never a h = absurd (omega (arith, h))

-- all before it are marked
pub record IsHead (n : ℕ) (ms : List Bool) (k : ℕ) : Type 0 where
  pub low : n ≤ k
  pub high : k < n + length ms
  pub before : (i : ℕ) → n + i < k → slice_index_or ms i false ≡ true

head_at : (n : ℕ) (ms : List Bool) (k : ℕ) (rest : List ℕ) → fresh_from n ms ≡ k ∷ rest → IsHead n ms k
head_at n [] k rest e = absurd (true_is_not_false (ap is_empty e))
head_at n (true ∷ ms) k rest e =
    let r : IsHead (n + 1) ms k = head_at (n + 1) ms k rest e in
    let low : n + 1 ≤ k = r.low in
    let high : k < n + 1 + length ms = r.high in
    record { low = omega (arith, low); high = omega (arith, high); before = λ i less. by r i less }
  where
    by : IsHead (n + 1) ms k → (i : ℕ) → n + i < k → slice_index_or (true ∷ ms) i false ≡ true
    by r zero less = refl
    by r (suc i) less = r.before i (omega (arith, less))
head_at n (false ∷ ms) k rest e =
    let same : n ≡ k = ap (λ l. slice_index_or l 0 0) e in
    record { low = omega (arith, same); high = omega (arith, same); before = λ i less. absurd (omega (arith, same, less)) }

-- where there is none all are marked
all_at : (n : ℕ) (ms : List Bool) → fresh_from n ms ≡ [] → (i : ℕ) → i < length ms → slice_index_or ms i false ≡ true
all_at n [] e i less = never i less
all_at n (true ∷ ms) e zero less = refl
all_at n (true ∷ ms) e (suc i) less = all_at (n + 1) ms e i (omega (arith, less))
all_at n (false ∷ ms) e i less = absurd (true_is_not_false (sym (ap is_empty e)))

long_drop : (ms : List Bool) (n : ℕ) → n ≤ length ms → n + length (drop n ms) ≡ length ms
long_drop ms zero h = omega arith
long_drop [] (suc n) h = absurd (omega (arith, h))
long_drop (m ∷ ms) (suc n) h = let rest : n + length (drop n ms) ≡ length ms = long_drop ms n (omega (arith, h)) in omega (arith, rest)

-- so the run from a number ends before the next that isn't marked
pub record Ends (marks : List Bool) (from : ℕ) (count end : ℕ) : Type 0 where
  pub within : end ≤ count
  pub marked_are : AreMarked marks from end

pub run_some : (marks : List Bool) (from count k : ℕ) → from ≤ count → length marks ≡ count → Heads k (filter (nat_lt from) (fresh_of marks)) → (0 < k) × Ends marks from count (k - 1)
run_some marks from count k less all h =
    let r : IsHead (from + 1) (drop from marks) k = head_at (from + 1) (drop from marks) k h.rest (sym (above from 1 from marks (omega arith)) ∙ h.is) in
    let low : from + 1 ≤ k = r.low in
    let high : k < from + 1 + length (drop from marks) = r.high in
    let long : from + length (drop from marks) ≡ length marks = long_drop marks from (omega (arith, less, all)) in (
      omega (arith, low),
      record {
        within = omega (arith, high, long, all);
        marked_are = λ i after before.
            let at_i : from + (i - from) ≡ i = omega (arith, after) in
            ap (λ j. slice_index_or marks j false) (sym at_i) ∙ (sym (get_or-drop from marks (i - from) false) ∙ r.before (i - from) (omega (arith, after, before)));
      },
    )

pub run_none : (marks : List Bool) (from count : ℕ) → from ≤ count → length marks ≡ count → filter (nat_lt from) (fresh_of marks) ≡ [] → Ends marks from count count
run_none marks from count less all h =
    let long : from + length (drop from marks) ≡ length marks = long_drop marks from (omega (arith, less, all)) in
    record {
      within = omega arith;
      marked_are = λ i after before.
          let at_i : from + (i - from) ≡ i = omega (arith, after) in
          ap (λ j. slice_index_or marks j false) (sym at_i)
          ∙ (sym (get_or-drop from marks (i - from) false) ∙ all_at (from + 1) (drop from marks) (sym (above from 1 from marks (omega arith)) ∙ h) (i - from) (omega (arith, after, before, long, all)));
    }

-- by what was found
abbrev pub EndsAt : List Bool → ℕ → ℕ → Option ℕ → Type 0
EndsAt marks from count r = MatchOption r (Ends marks from count count) (λ k. (0 < k) × Ends marks from count (k - 1))

pub run_ends : (marks : List Bool) (from count : ℕ) (r : Option ℕ) → from ≤ count → length marks ≡ count → r ≡ next_fresh marks (from + 1) → EndsAt marks from count r
run_ends marks from count r less all e = by r (next_after marks from r e)
  where
    by : (r : Option ℕ) → MatchOption r (filter (nat_lt from) (fresh_of marks) ≡ []) (λ k. Heads k (filter (nat_lt from) (fresh_of marks))) → EndsAt marks from count r
    by None h = run_none marks from count less all h
    by (Some k) h = run_some marks from count k less all h

-- A search may begin at the end of the run.

drop_true : (ms : List Bool) (a : ℕ) → slice_index_or ms a false ≡ true → drop a ms ≡ true ∷ drop (suc a) ms
drop_true [] a e = absurd (true_is_not_false (sym e))
drop_true (m ∷ ms) zero e = ap (λ x. x ∷ ms) e
drop_true (m ∷ ms) (suc a) e = drop_true ms a e

one_on : (marks : List Bool) (a : ℕ) → slice_index_or marks a false ≡ true → filter (nat_lt (a + 1)) (fresh_of marks) ≡ filter (nat_lt a) (fresh_of marks)
one_on marks a e =
    let next : suc a ≡ a + 1 = omega arith in
    above (a + 1) 1 (a + 1) marks (omega arith)
    ∙ (sym (ap (fresh_from (a + 1)) (drop_true marks a e) ∙ ap (λ k. fresh_from (a + 1 + 1) (drop k marks)) next) ∙ sym (above a 1 a marks (omega arith)))

skipped : (marks : List Bool) (a d : ℕ) → AreMarked marks a (a + d) → filter (nat_lt (a + d)) (fresh_of marks) ≡ filter (nat_lt a) (fresh_of marks)
skipped marks a zero h = let same : a + 0 ≡ a = omega arith in ap (λ k. filter (nat_lt k) (fresh_of marks)) same
skipped marks a (suc d) h =
    let same : a + suc d ≡ a + 1 + d = omega arith in
    ap (λ k. filter (nat_lt k) (fresh_of marks)) same ∙ (skipped marks (a + 1) d (λ i after before. h i (omega (arith, after)) (omega (arith, before))) ∙ one_on marks a (h a (omega arith) (omega arith)))

pub start_same : (marks : List Bool) (base reached from : ℕ) → AreMarked marks base reached → filter (nat_lt (run_end base reached from)) (fresh_of marks) ≡ filter (nat_lt from) (fresh_of marks)
start_same marks base reached from h = by (nat_lt from base) refl
  where
    on : (b : Bool) → nat_lt from reached ≡ b → base ≤ from → filter (nat_lt (max from reached)) (fresh_of marks) ≡ filter (nat_lt from) (fresh_of marks)
    on true e low =
        let less : from < reached = below from reached e in
        let same : max from reached ≡ from + (reached - from) = omega (arith, less) in
        ap (λ k. filter (nat_lt k) (fresh_of marks)) same ∙ skipped marks from (reached - from) (λ i after before. h i (omega (arith, after, low)) (omega (arith, before, less)))
    on false e low =
        let most : reached ≤ from = not_below from reached e in
        let same : max from reached ≡ from = omega (arith, most) in
        ap (λ k. filter (nat_lt k) (fresh_of marks)) same

    by : (b : Bool) → nat_lt from base ≡ b → filter (nat_lt (if b then from else max from reached)) (fresh_of marks) ≡ filter (nat_lt from) (fresh_of marks)
    by true e = refl
    by false e = on (nat_lt from reached) refl (not_below from base e)

pub next_by : (marks : List Bool) (base reached from start : ℕ) (r : Option ℕ) → AreMarked marks base reached → start ≡ run_end base reached from → r ≡ next_fresh marks (start + 1)
    → MatchOption r (filter (nat_lt from) (fresh_of marks) ≡ []) (λ k. Heads k (filter (nat_lt from) (fresh_of marks)))
next_by marks base reached from start r h e n =
    subst (λ (l : List ℕ). MatchOption r (l ≡ []) (λ k. Heads k l)) (ap (λ k. filter (nat_lt k) (fresh_of marks)) e ∙ start_same marks base reached from h) (next_after marks start r n)
