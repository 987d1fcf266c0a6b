-- Places of names.
use Rattle.std.proofs.Common.{◌≡◌, ◌<◌, ℕ, zero, suc, List, [], ◌∷◌, length, sym, subst, ap, ◌∙◌, true, false, true≢false, arith, MatchOption}
use Rattle.std.specs.Prelude.{Bool, ◌||◌, Option, Some, None, slice_index_or}
use Rattle.std.specs.List.{list_any}
use Rattle.std.specs.List.Sorted.{IsStrictlySortedBy}
use Rattle.std.specs.Ordering.{nat_cmp}
use Rattle.std.specs.Cmp.Lexicographic.{slice_cmp}
use Rattle.yard_model.specs.Script.{is_name}
use Rattle.plain_laws.proofs.Booleans.{left_of, right_of}
use Rattle.plain_laws.proofs.Names.{name_itself}
use Rattle.name_index.proofs.NameLaws.{placed}
use Rattle.entry_slots.specs.Kept.{IsPlaced}

-- the name at a place is among them
there : (names : List (List ℕ)) (k : ℕ) → k < length names → list_any (is_name (slice_index_or names k [])) names ≡ true
there [] k h = absurd (omega arith)
there (n ∷ ns) zero h = left_of (is_name n n) (list_any (is_name n) ns) (name_itself n)
there (n ∷ ns) (suc k) h = right_of (is_name (slice_index_or ns k []) n) (list_any (is_name (slice_index_or ns k [])) ns) (there ns k (omega arith))

pub placed_or_none : (names : List (List ℕ)) (e : List ℕ) (o : Option ℕ) → IsStrictlySortedBy (slice_cmp nat_cmp) names → MatchOption o (list_any (is_name e) names ≡ false) (λ k. (k < length names) × (slice_index_or names k [] ≡ e))
    → MatchOption o (list_any (is_name e) names ≡ false) (λ k. IsPlaced names k e)
placed_or_none names e None sorted h = h
placed_or_none names e (Some k) sorted h = record { within = h.0; it = h.1; place = placed names e k sorted h.0 h.1; named = subst (λ x. list_any (is_name x) names ≡ true) h.1 (there names k h.0) }
