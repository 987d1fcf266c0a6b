-- What a round leaves in the coordinator's store.
use Rattle.std.proofs.Common.{◌≡◌, ◌+◌, ◌≤◌, true, ◌&&◌, [], ◌∷◌, ◌++◌, refl, sym, ap, ◌∙◌, subst, arith, append_assoc}
use Rattle.yard_model.specs.declared.fact.Fact.TheVariants as fact
use Rattle.yard_model.specs.declared.incarnation.Incarnation.{Incarnation}
use Rattle.coordinator_state.specs.Coord.{Coord}
use Rattle.shard_store.specs.declared.store.Store.{Store}
use Rattle.shard_store.specs.declared.store.Store.TheVariants as store
use Rattle.lease_table.specs.Fits.{is_within}
use Rattle.lease_tests.specs.Holding.{Wrote}

-- a store with room, where a region came and went
pub came : (x : Store) (a b d e : Coord) (who : Incarnation) → x ≡ store.Coordinator a → is_within who.number ≡ true → b.script ≡ a.script → b.entries ≡ a.entries → 103 ≤ b.spare
    → d.script ≡ b.script → d.entries ≡ b.entries ++ fact.Registered who ∷ [] → d.spare + 1 ≡ b.spare → e.script ≡ d.script → e.entries ≡ d.entries ++ fact.Terminated who ∷ [] → e.spare + 1 ≡ d.spare → Wrote x (store.Coordinator e)
came x a b d e who is low bs be br ds de dr es ee er = subst (λ (y : Store). Wrote y (store.Coordinator e)) (sym is) record {
  script = es ∙ ds ∙ bs;
  slot = refl;
  more = fact.Registered who ∷ fact.Terminated who ∷ [];
  entries = ee ∙ ap (λ l. l ++ fact.Terminated who ∷ []) (de ∙ ap (λ l. l ++ fact.Registered who ∷ []) be) ∙ append_assoc a.entries (fact.Registered who ∷ []) (fact.Terminated who ∷ []);
  regions = ap (λ b. b && (b && true)) low;
  spare = omega arith;
}
