use Rattle.std.proofs.Common.{◌+◌, ◌<◌, length, ap, sym, ◌∙◌, subst, arith}
use Rattle.std.specs.Prelude.{replicate, None}
use Rattle.yard_model.specs.Lawful.{is_held}
use Rattle.yard_model.specs.Script.{Script}
use Rattle.shard_store.specs.Stores.{entries_at}
use Rattle.world_sim.proofs.beginning.book_of.Goals as goal

pub new-requires : goal.new-requires
new-requires c k h =
    let t = c.into_parts-parts.ensures in
    let places = c.from_parts.ensures.places ∙ t.places in
    let less : k < length c.into_parts-parts.result.places.items = subst (λ ps. k < length ps) c.from_parts.ensures.places h in
    let all = t.homes.all in
    ap is_held (ap (λ ps. entries_at ps k) places) ∙ c.requires k (subst (λ (s : Script). k < s.config.shards + s.config.producers + 1) t.script (omega (arith, less, all)))

pub returns-clause-script : goal.returns-clause-script
returns-clause-script c = c.in_ok-book.ensures.script ∙ (c.from_parts.ensures.script ∙ c.into_parts-parts.ensures.script)

pub returns-clause-places : goal.returns-clause-places
returns-clause-places c = c.in_ok-book.ensures.places ∙ (c.from_parts.ensures.places ∙ c.into_parts-parts.ensures.places)

pub returns-clause-holders : goal.returns-clause-holders
returns-clause-holders c = c.in_ok-book.ensures.holders ∙ ap (λ ps. replicate (length ps) None) (sym c.in_ok-book.ensures.places)
