-- Turning the slots that are out with a seat.
use Rattle.std.proofs.Common.{◌≡◌, ℕ, suc, ◌<◌, Bool, List, [], ◌∷◌, ◌++◌, length, map, take, drop, get_or, sym, ap, ◌∙◌, arith, eqb, length-append, append_assoc}
use Rattle.std.specs.Prelude.{Option}
use Rattle.std.proofs.Math.Bool.{or_comm}
use Rattle.std.proofs.Math.Seq.{drop-cons, take-suc}
use Rattle.std.proofs.lemmas.List.{map-append, take-append-drop}
use Rattle.std.proofs.lemmas.List.Folds.{list_any-append}
use Rattle.std.specs.List.{list_any}
use Rattle.atomic_table.specs.Table.{turned}
use Rattle.shard_store.specs.declared.store.Store.{Store}
use Rattle.lease_table.specs.Leasing.{empty}
use Rattle.lease_table.specs.Fronts.{Brought}

pub turns : (xs : List ℕ) (i : ℕ) → i < length xs → turned (map empty (drop i xs ++ take i xs)) ≡ map empty (drop (suc i) xs ++ take (suc i) xs)
turns xs i h =
    ap (λ (l : List ℕ). turned (map empty (l ++ take i xs))) (drop-cons xs i 0 h)
    ∙ sym (map-append empty (drop (suc i) xs ++ take i xs) (get_or xs i 0 ∷ []))
    ∙ ap (λ (l : List ℕ). map empty l) (append_assoc (drop (suc i) xs) (take i xs) (get_or xs i 0 ∷ []) ∙ ap (λ (l : List ℕ). drop (suc i) xs ++ l) (sym (take-suc xs i 0 h)))

pub any_turned : (p : ℕ → Bool) (xs : List ℕ) (i : ℕ) → list_any p (drop i xs ++ take i xs) ≡ list_any p xs
any_turned p xs i = list_any-append p (drop i xs) (take i xs) ∙ or_comm (list_any p (drop i xs)) (list_any p (take i xs)) ∙ sym (list_any-append p (take i xs) (drop i xs)) ∙ ap (list_any p) (take-append-drop i xs)

pub brought : (k i : ℕ) (before now : List ℕ) (carried : List (ℕ × Option Store)) → i < length before → get_or before i 0 ≡ k → now ≡ drop i before ++ take i before → carried ≡ map empty (drop i before ++ take i before) → Brought k before now carried
brought k i before now carried lt here is all = record {
  tail = drop (suc i) before ++ take i before;
  is = is ∙ ap (λ (l : List ℕ). l ++ take i before) (drop-cons before i 0 lt ∙ ap (λ (x : ℕ). x ∷ drop (suc i) before) here);
  all = all ∙ ap (λ (l : List ℕ). map empty l) (sym is);
  long = ap (λ (l : List ℕ). length l) is ∙ (let e : length (take i before ++ drop i before) ≡ length before = ap (λ (l : List ℕ). length l) (take-append-drop i before) in omega (arith, length-append (drop i before) (take i before), length-append (take i before) (drop i before)));
  same = λ j. ap (λ (l : List ℕ). list_any (eqb j) l) is ∙ any_turned (eqb j) before i;
}
