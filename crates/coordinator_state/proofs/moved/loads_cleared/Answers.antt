use Rattle.std.proofs.Common.{◌≡◌, List, [], ◌∷◌, ◌++◌, sym, subst, ◌∙◌, ap, refl, arith, length, length-append}
use Rattle.std.specs.List.{All}
use Rattle.std.proofs.lemmas.List.Elements.{All-append}
use Rattle.yard_model.specs.declared.load.Load.{Load}
use Rattle.coordinator_state.specs.Homes.{regions_of, HasNone}
use Rattle.coordinator_state.proofs.HomesLaws.{All-one, regions_more}
use Rattle.coordinator_state.proofs.moved.loads_cleared.Goals as goal

pub loop-load-preserved : goal.loop-load-preserved
loop-load-preserved c =
    let items = c.as_slice-load-items.result.now in
    let cleared = c.loop-load.cleared in
    let x = c.load-item.result in
    let m : Load = record { region = x.region; shards = c.empty.result } in
    let made : c.push.new.self ≡ cleared ++ m ∷ [] = c.push.ensures in
    let inv = c.loop-load.invariant in (
      ap regions_of made ∙ regions_more items cleared c.loop-load.load-index x m c.loop-load-test.true c.load-item.is refl inv.0,
      omega (arith, ap length made, length-append cleared (m ∷ []), inv.1),
      subst (λ (l : List Load). All HasNone l) (sym made) (All-append HasNone cleared (m ∷ []) inv.2 (All-one HasNone m c.empty.ensures.none)),
    )
