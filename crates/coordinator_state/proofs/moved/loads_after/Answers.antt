use Rattle.std.proofs.Common.{◌≡◌, ◌<◌, List, [], ◌∷◌, ◌++◌, sym, subst, ◌∙◌, ap, refl, arith, length, length-append}
use Rattle.std.specs.Prelude.{slice_set, slice_index_or}
use Rattle.std.specs.List.{All}
use Rattle.yard_model.specs.declared.load.Load.{Load}
use Rattle.coordinator_state.specs.Homes.{regions_of, HasHomes}
use Rattle.coordinator_state.proofs.HomesLaws.{one_moved, regions_more}
use Rattle.coordinator_state.proofs.moved.loads_after.Goals as goal

pub loop-load-preserved : goal.loop-load-preserved
loop-load-preserved c =
    let items = c.as_slice-load-items.result.now in
    let after = c.loop-load.after in
    let i = c.loop-load.load-index in
    let x = c.load-item.result in
    let m : Load = record { region = x.region; shards = c.shards_after.result } in
    let made : c.push.new.self ≡ after ++ m ∷ [] = c.push.ensures in
    let inv = c.loop-load.invariant in
    let same : items ≡ c.args.loads.now = c.as_slice-load-items.ensures.items in
    let inside : i < length items = c.loop-load-test.true in (
      ap regions_of made ∙ regions_more items after i x m inside c.load-item.is refl inv.0,
      omega (arith, ap length made, length-append after (m ∷ []), inv.1),
      λ homes within each. subst (λ (l : List Load). All (HasHomes (slice_set homes c.args.s c.args.home.now)) l) (sym made)
          (one_moved c.args.loads.now after i c.args.s c.args.home.now x m (subst (λ (l : List Load). i < length l) same inside) (c.load-item.is ∙ ap (λ (l : List Load). slice_index_or l i x) same) refl
          c.shards_after.ensures.it c.shards_after.ensures.others homes within each (inv.2 homes within each)),
    )
