-- How many regions a shard of a round awaits at most.
use Rattle.std.proofs.Common.{◌≡◌, ℕ, suc, ◌+◌, ◌≤◌, Bool, true, false, ◌&&◌, List, [], ◌∷◌, length, map, ap, subst, ◌∙◌, refl, arith, if◌then◌else◌}
use Rattle.std.specs.Prelude.{nat_le}
use Rattle.std.specs.List.{list_all}
use Rattle.std.proofs.lemmas.Bool.Decides.{nat_tests}
use Rattle.std.proofs.lemmas.List.Folds.{list_all-append}
use Rattle.yard_model.specs.declared.incarnation.Incarnation.{Incarnation}
use Rattle.yard_model.specs.declared.incarnation.Stamp.{Stamp}
use Rattle.yard_model.specs.Coordinator.{Moving}
use Rattle.yard_model.specs.ShardSet.{has}
use Rattle.handoff_steps.specs.declared.cell.Cell.{Cell}
use Rattle.handoff_steps.specs.declared.cell.Cell.TheVariants as cell
use Rattle.handoff_steps.specs.Awaited.{awaited_from, awaited_of}
use Rattle.handoff_steps.specs.Places.{Handoffs, one_of, moving_from, moving}
use Rattle.handoff_steps.specs.Seen.{seen}

awaited_few : (rs : List Incarnation) (i bits : ℕ) → length (awaited_from i rs bits) ≤ length rs
awaited_few [] i bits = omega arith
awaited_few (r ∷ rs) i bits = by (has bits i) (awaited_few rs (i + 1) bits)
  where
    by : (b : Bool) → length (awaited_from (i + 1) rs bits) ≤ length rs → length (if b then r ∷ awaited_from (i + 1) rs bits else awaited_from (i + 1) rs bits) ≤ suc (length rs)
    by true h = omega (arith, h)
    by false h = omega (arith, h)

abbrev is_few : Moving → Bool
is_few x = nat_le (length x.awaited) 16

within : (n : ℕ) → n ≤ 16 → nat_le n 16 ≡ true
within n h = grind (arith, h, nat_tests)

place_few : (rs : List Incarnation) → length rs ≤ 16 → (s : ℕ) (c : Cell) → list_all is_few (one_of s (seen rs c)) ≡ true
place_few rs few s cell.Out = refl
place_few rs few s (cell.Moves owner awaited) = let less : length (awaited_of rs awaited) ≤ 16 = omega (arith, awaited_few rs 0 awaited, few) in ap (λ b. b && true) (within (length (awaited_of rs awaited)) less)
place_few rs few s (cell.Done owner) = refl

all_few : (rs : List Incarnation) → length rs ≤ 16 → (s : ℕ) (cells : List Cell) → list_all is_few (moving_from s (map (seen rs) cells)) ≡ true
all_few rs few s [] = refl
all_few rs few s (c ∷ cs) =
    list_all-append is_few (one_of s (seen rs c)) (moving_from (s + 1) (map (seen rs) cs))
    ∙ (ap (λ b. b && list_all is_few (moving_from (s + 1) (map (seen rs) cs))) (place_few rs few s c) ∙ all_few rs few (s + 1) cs)

pub round_few : (v : Handoffs) (stamp : Stamp) (rs : List Incarnation) (cells : List Cell) → length rs ≤ 16 → record { stamp = stamp; places = map (seen rs) cells } ≡ v → list_all is_few (moving v) ≡ true
round_few v stamp rs cells few is = subst (λ (w : Handoffs). list_all is_few (moving w) ≡ true) is (all_few rs few 0 cells)
