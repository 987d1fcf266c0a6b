use Rattle.std.proofs.Common.{ap, replicate, length, subst, ◌∙◌, None, List, ℕ}
use Rattle.std.specs.List.Sorted.{IsStrictlySortedBy}
use Rattle.std.specs.Ordering.{nat_cmp}
use Rattle.std.specs.Cmp.Lexicographic.{slice_cmp}
use Rattle.yard_model.specs.declared.charter.Config.{Config}
use Rattle.yard_model.specs.Script.{Script, names_in, setting}
use Rattle.entity_cells.specs.Celled.{celled}
use Rattle.shard_entities.specs.Restless.{AreFresh}
use Rattle.shard_entities.proofs.CountLaws.{kept_new}
use Rattle.shard_entities.proofs.PlacesLaws.{lodged_new}
use Rattle.shard_entities.proofs.ReadyLaws.{ready_new}
use Rattle.shard_entities.proofs.RestlessLaws.{restless_new}
use Rattle.shard_entities.proofs.shards.Shards.new.Goals as goal

pub returns : goal.returns
returns c = lodged_new c.of.result.value c.args.charter.now c.args.version c.args.who c.in_ok-hosted.hosted.items c.in_ok-cells.cells c.of.ensures (c.in_ok-hosted.ensures ∙ ap (λ (k : Config). replicate k.shards None) c.config-config.ensures.value) (c.in_ok-cells.ensures ∙ (ap (λ (l : List (List ℕ)). replicate (length l) (celled c.config-config.result.now.producers c.config-config.result.now.window)) c.names-count.ensures.value ∙ ap (λ (k : Config). replicate (length (names_in c.args.charter.now.orders)) (celled k.producers k.window)) c.config-config.ensures.value))

pub invariant_of-result : goal.invariant_of-result
invariant_of-result c = record {
  kept = kept_new c.of.result.value c.args.charter.now c.args.version c.args.who c.config-config.result.now c.in_ok-places.places c.in_ok-cells.cells c.in_ok-hosted.hosted.items c.empty.result c.in_ok-existing.existing.items c.of.ensures c.config-config.ensures.script c.requires.version c.config-config.ensures.value (c.in_ok-places.ensures ∙ c.requires.places)
      (subst (IsStrictlySortedBy (slice_cmp nat_cmp)) c.names-count.ensures.value c.names-count.ensures.sorted)
      (c.in_ok-cells.ensures ∙ (ap (λ (l : List (List ℕ)). replicate (length l) (celled c.config-config.result.now.producers c.config-config.result.now.window)) c.names-count.ensures.value ∙ ap (λ (k : Config). replicate (length (names_in c.args.charter.now.orders)) (celled k.producers k.window)) c.config-config.ensures.value))
      (c.in_ok-hosted.ensures ∙ ap (λ (k : Config). replicate k.shards None) c.config-config.ensures.value) c.empty.ensures.none (c.in_ok-existing.ensures ∙ ap (λ (k : Config). replicate k.shards 0) c.config-config.ensures.value);
  ready = ready_new c.of.result.value c.args.charter.now c.empty-2.result c.in_ok-hosted.hosted.items (c.in_ok-hosted.ensures ∙ ap (λ (k : Config). replicate k.shards None) c.config-config.ensures.value) c.empty-2.ensures.none;
  restless = restless_new c.args.charter.now c.of.result.value c.in_ok-cells.cells c.in_ok-restless.restless c.of.ensures (c.in_ok-cells.ensures ∙ (ap (λ (l : List (List ℕ)). replicate (length l) (celled c.config-config.result.now.producers c.config-config.result.now.window)) c.names-count.ensures.value ∙ ap (λ (k : Config). replicate (length (names_in c.args.charter.now.orders)) (celled k.producers k.window)) c.config-config.ensures.value)) (subst (λ (x : Script). AreFresh (setting x) x.config.shards c.in_ok-restless.restless) (c.in_ok-places.ensures ∙ c.requires.places) c.in_ok-restless.ensures);
}
