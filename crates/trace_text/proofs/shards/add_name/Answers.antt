use Rattle.std.proofs.Common.{rules, ◌≡◌, ◌++◌, ◌∷◌, [], ap, ◌∙◌, map, Vec, Global, ◌<◌, length}
use Rattle.std.specs.Prelude.{slice_index_or, slice_set}
use Rattle.yard_model.specs.declared.name.EntityName.{EntityName}
use Rattle.yard_model.specs.Shard.{shard}
use Rattle.trace_text.proofs.PlaceLaws.{row_set}
use Rattle.trace_text.proofs.shards.add_name.Goals as goal

pub returns-clause-names : goal.returns-clause-names
returns-clause-names c =
    let place : c.get-place.result ≡ shard c.args.shards c.args.name.now = c.get-place.ensures.value ∙ c.shard_of.ensures in
    let within : c.get-place.result < length c.args.all.now.items = search rules in
    row_set (λ (v : Vec EntityName Global). v.items) c.args.all.now.items c.get-place.result c.push.new.self c.index_mut.result.now c.args.name.now within
    (c.in_ok-push.ensures.items ∙ ap (λ (v : Vec EntityName Global). v.items ++ c.args.name.now ∷ []) c.index_mut.ensures.value)
    ∙ ap (λ n. slice_set (map (λ (v : Vec EntityName Global). v.items) c.args.all.now.items) n (slice_index_or (map (λ (v : Vec EntityName Global). v.items) c.args.all.now.items) n [] ++ c.args.name.now ∷ [])) place
