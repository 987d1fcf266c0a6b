use Rattle.std.proofs.Common.{List, sym, subst, ◌∙◌, ap, map, None}
use Rattle.std.specs.Prelude.{false}
use Rattle.std.proofs.lemmas.List.{get_or-replicate}
use Rattle.yard_model.specs.declared.fact.Fact.{Fact}
use Rattle.yard_model.specs.Entry.{coord_fact}
use Rattle.yard_model.specs.Words.{at}
use Rattle.coordinator_state.specs.Kept.{IsKept}
use Rattle.coordinator_state.proofs.KeptLaws.{none_kept}
use Rattle.coordinator_state.proofs.store.CoordStore.new.Goals as goal

pub invariant_of-result : goal.invariant_of-result
invariant_of-result c =
    subst (λ (l : List Fact). IsKept c.of.result.value l c.in_ok-homes.homes 0 false) (sym (ap (map coord_fact) c.new-2.ensures.items))
    (none_kept c.of.result.value c.in_ok-homes.homes c.in_ok-homes.ensures.regions (λ s h. ap (λ hs. at hs s) c.in_ok-homes.ensures.homes ∙ get_or-replicate 128 s None None h))
