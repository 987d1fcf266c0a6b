use Rattle.std.proofs.Common.{◌≡◌, ◌<◌, ◌+◌, ◌++◌, ◌∷◌, [], ℕ, List, take, map, length, sym, ap, ◌∙◌}
use Rattle.std.specs.Prelude.{slice_index_or}
use Rattle.std.proofs.lemmas.List.{map-append, take_all, take_more}
use Rattle.yard_model.specs.Shard.{shard}
use Rattle.shard_store.proofs.name_table.shards_of.Goals as goal

more : (n i s : ℕ) (e : List ℕ) (names : List (List ℕ)) (old new : List ℕ) → i < length names → e ≡ slice_index_or names i e → s ≡ shard n e → old ≡ map (shard n) (take i names) → new ≡ old ++ s ∷ [] → new ≡ map (shard n) (take (i + 1) names)
more n i s e names old new within here is before grown =
    grown
    ∙ (ap (λ l. l ++ s ∷ []) before
    ∙ (ap (λ t. map (shard n) (take i names) ++ t ∷ []) (is ∙ ap (shard n) here)
    ∙ (sym (map-append (shard n) (take i names) (slice_index_or names i e ∷ []))
    ∙ ap (λ l. map (shard n) l) (sym (take_more names i e within)))))

pub loop-name-preserved : goal.loop-name-preserved
loop-name-preserved c =
    more c.args.count c.loop-name.name-index c.shard_of.result c.name-item.result c.args.names.now c.loop-name.shards.items _
    c.loop-name-test.true c.name-item.is c.shard_of.ensures c.loop-name.invariant c.in_ok-push.ensures.items

pub returns : goal.returns
returns c = c.loop-name.invariant ∙ ap (λ l. map (shard c.args.count) l) (take_all c.loop-name.name-index c.args.names.now c.loop-name-test.false)
