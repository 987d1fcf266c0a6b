use Rattle.std.proofs.Common.{◌≡◌, ◌<◌, ◌≤◌, ℕ, length, ap, ◌∙◌, subst, arith}
use Rattle.std.specs.Prelude.{[], map, slice_index_or}
use Rattle.yard_model.specs.Entry.{shard_fact}
use Rattle.solo_run.specs.Facts.{facts_of}
use Rattle.solo_run.proofs.FactsLaws.{list_there, list_missing}
use Rattle.solo_run.proofs.played.list_at.Goals as goal

pub returns-then-place-lists : goal.returns-then-place-lists
returns-then-place-lists c =
    let inside : c.get-place.result < length c.args.lists.now = c.if-place-lists.true in
    ap (map (shard_fact c.args.s)) c.as_slice.ensures.value
    ∙ subst (λ (n : ℕ). map (shard_fact n) c.index-lists-place.result.items ≡ slice_index_or (facts_of c.args.lists.now) n []) c.get-place.ensures.value
    (list_there c.args.lists.now c.get-place.result c.index-lists-place.result inside c.index-lists-place.is)

pub returns-else-place-lists : goal.returns-else-place-lists
returns-else-place-lists c =
    let past : length c.args.lists.now ≤ c.args.s = omega arith in
    list_missing 0 c.args.lists.now c.args.s past
