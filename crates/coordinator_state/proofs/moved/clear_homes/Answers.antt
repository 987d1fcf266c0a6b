use Rattle.std.proofs.Common.{◌∙◌, sym, subst, ◌≡◌, ◌+◌, ◌<◌, length, take, drop, map, ap, None}
use Rattle.std.specs.Prelude.{List, Option, slice_index_or}
use Rattle.yard_model.specs.declared.incarnation.Incarnation.{Incarnation}
use Rattle.yard_model.specs.Words.{is_at}
use Rattle.coordinator_state.specs.Homes.{home_without}
use Rattle.coordinator_state.proofs.HomesLaws.{one_cleared, taken, left}
use Rattle.coordinator_state.proofs.moved.clear_homes.Goals as goal
use Rattle.coordinator_state.proofs.moved.clear_homes.Goals.{then-is_home, else-is_home}

pub loop-home-preserved : goal.loop-home-preserved
loop-home-preserved c =
    let r = c.args.r.now in
    let old = c.args.homes.now in
    let now = c.loop-home.homes in
    let i = c.loop-home.home-index in
    let x = c.home-item.result in
    let within : i < length now = subst (λ n. i < n) (sym c.loop-home.auto.homes) c.loop-home-test.true in
    elim c.if-is_home.branch [
      | then-is_home w ↦ subst (λ (l : List (Option Incarnation)). (take (i + 1) l ≡ map (home_without r) (take (i + 1) old)) × (drop (i + 1) l ≡ drop (i + 1) old)) (sym w.homes-is)
          (one_cleared (home_without r) old now i x None within c.home-item.is (taken r x (ap (is_at r) c.home-item.is ∙ (sym c.is_home.ensures ∙ w.if-is_home.true))) c.loop-home.invariant.0 c.loop-home.invariant.1)
      | else-is_home w ↦ subst (λ (l : List (Option Incarnation)). (take (i + 1) l ≡ map (home_without r) (take (i + 1) old)) × (drop (i + 1) l ≡ drop (i + 1) old)) (sym w.homes-is)
          (one_cleared (home_without r) old now i x (slice_index_or now i x) within c.home-item.is (sym c.home-item.is ∙ left r x (ap (is_at r) c.home-item.is ∙ (sym c.is_home.ensures ∙ w.if-is_home.false))) c.loop-home.invariant.0 c.loop-home.invariant.1)
    ]
