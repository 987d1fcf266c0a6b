-- How far a loop has come: what is left, done now, gives what all of it gives from the beginning.
use Rattle.std.proofs.Common.{◌≡◌, ℕ, ◌+◌, ◌<◌, ◌≤◌, List, [], ◌∷◌, ◌++◌, length, map, sym, ap, ◌∙◌, refl, arith, drop}
use Rattle.std.specs.Prelude.{Bool, true, false, cond, fold, filter, zero, suc}
use Rattle.std.specs.List.{flat_map}
use Rattle.std.proofs.lemmas.List.{drop_more}
use Rattle.std.proofs.lemmas.List.Sums.{fold-append}
use Rattle.yard_model.specs.declared.out.Item.{Item}
use Rattle.yard_model.specs.Entities.{entities_after}
use Rattle.yard_model.specs.Move.{Move, made}
use Rattle.yard_model.specs.Spared.{Spared}
use Rattle.shard_store.specs.Shelved.{name_at}
use Rattle.shard_entities.specs.Lodged.{Lodged, moved, lodged_after, given, given_step}

pub record IsOnTheWay (now : Lodged) (out : Spared Item) (left : List Move) (first : Lodged) (first_out : Spared Item) (all : List Move) : Type 0 where
  pub state_is : moved now left ≡ moved first all
  pub out_is : given out left ≡ given first_out all

pub way_begins : (v : Lodged) (out : Spared Item) (all : List Move) → IsOnTheWay v out all v out all
way_begins v out all = record { state_is = refl; out_is = refl }

pub way_goes : (now next first : Lodged) (out next_out first_out : Spared Item) (ms rest left all : List Move) → left ≡ ms ++ rest → next ≡ moved now ms → next_out ≡ given out ms → IsOnTheWay now out left first first_out all
    → IsOnTheWay next next_out rest first first_out all
way_goes now next first out next_out first_out ms rest left all cut step told w = record {
  state_is = ap (λ v. moved v rest) step ∙ (sym (fold-append lodged_after now ms rest) ∙ (ap (moved now) (sym cut) ∙ w.state_is));
  out_is = ap (λ o. given o rest) told ∙ (sym (fold-append given_step out ms rest) ∙ (ap (given out) (sym cut) ∙ w.out_is));
}

-- what is given alone
pub out_goes : (out next_out first_out : Spared Item) (ms rest left all : List Move) → left ≡ ms ++ rest → next_out ≡ given out ms → given out left ≡ given first_out all → given next_out rest ≡ given first_out all
out_goes out next_out first_out ms rest left all cut told w = ap (λ o. given o rest) told ∙ (sym (fold-append given_step out ms rest) ∙ (ap (given out) (sym cut) ∙ w))

pub state_moved : (v : Lodged) (ms : List Move) → (moved v ms).state ≡ fold entities_after v.state ms
state_moved v [] = refl
state_moved v (m ∷ ms) = state_moved (lodged_after v m) ms

pub script_moved : (v : Lodged) (ms : List Move) → (moved v ms).script ≡ v.script
script_moved v [] = refl
script_moved v (m ∷ ms) = script_moved (lodged_after v m) ms

pub who_moved : (v : Lodged) (ms : List Move) → (moved v ms).state.who ≡ v.state.who
who_moved v [] = refl
who_moved v (m ∷ ms) = who_moved (lodged_after v m) ms

pub version_moved : (v : Lodged) (ms : List Move) → (moved v ms).state.version ≡ v.state.version
version_moved v [] = refl
version_moved v (m ∷ ms) = version_moved (lodged_after v m) ms

-- each move takes at most one of the spare
pub spare_left : (o : Spared Item) (ms : List Move) → o.spare ≤ (given o ms).spare + length ms
spare_left o [] = omega arith
spare_left o (m ∷ ms) =
    let step : o.spare ≤ (given_step o m).spare + 1 = one_less m in
    let rest : (given_step o m).spare ≤ (given (given_step o m) ms).spare + length ms = spare_left (given_step o m) ms in
    omega (arith, step, rest)
  where
    one_less : (m : Move) → o.spare ≤ (given_step o m).spare + 1
    one_less (made i) = omega arith
    one_less m = omega arith

-- what is left of the picked names, one name on
pub picked_next : {B : Type 0} (f : List ℕ → List B) (p : List ℕ → Bool) (xs : List (List ℕ)) (k : ℕ) (x : List ℕ) (b : Bool) → k < length xs → x ≡ name_at xs k → p x ≡ b
    → flat_map f (filter p (drop k xs)) ≡ cond b (f x) [] ++ flat_map f (filter p (drop (k + 1) xs))
picked_next f p xs k x b within it test =
    ap (λ l. flat_map f (filter p l)) (drop_more xs k [] within ∙ ap (λ y. y ∷ drop (k + 1) xs) (sym it)) ∙ picked b test
  where
    picked : (b : Bool) → p x ≡ b → flat_map f (filter p (x ∷ drop (k + 1) xs)) ≡ cond b (f x) [] ++ flat_map f (filter p (drop (k + 1) xs))
    picked true e = ap (λ c. flat_map f (cond c (x ∷ filter p (drop (k + 1) xs)) (filter p (drop (k + 1) xs)))) e
    picked false e = ap (λ c. flat_map f (cond c (x ∷ filter p (drop (k + 1) xs)) (filter p (drop (k + 1) xs)))) e

pub all_dropped : {A : Type 0} (xs : List A) (k : ℕ) → length xs ≤ k → drop k xs ≡ []
all_dropped [] zero h = refl
all_dropped [] (suc k) h = refl
all_dropped (x ∷ xs) zero h = absurd (omega (arith, h))
all_dropped (x ∷ xs) (suc k) h = all_dropped xs k (omega (arith, h))

pub map_flat : {A B : Type 0} (f : A → B) (xs : List A) → map f xs ≡ flat_map (λ x. f x ∷ []) xs
map_flat f [] = refl
map_flat f (x ∷ xs) = ap (λ l. f x ∷ l) (map_flat f xs)
