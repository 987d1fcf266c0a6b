use Rattle.std.proofs.Common.{◌≡◌, ◌<◌, sym, ap, ◌∙◌, subst, arith}
use Rattle.std.specs.Prelude.{length}
use Rattle.std.proofs.Math.Nat.{mod-lt}
use Rattle.yard_model.specs.Shard.{shard, absolute, java_hash}
use Rattle.yard_model.specs.declared.fact.Fact.TheVariants as fact
use Rattle.solo_run.specs.Facts.{facts_of, with_fact}
use Rattle.solo_run.proofs.FactsLaws.{facts_recorded}
use Rattle.solo_run.proofs.engine.push_record.Goals as goal

pub returns : goal.returns
returns c =
    let place : c.get-place.result ≡ shard c.args.shards c.args.entity.now = c.get-place.ensures.value ∙ c.shard_of.ensures in
    let inside : c.get-place.result < length c.args.lists.now.items =
    subst (λ n. n < length c.args.lists.now.items) (sym place) (subst (λ n. shard c.args.shards c.args.entity.now < n) (sym c.requires.wide) (mod-lt (absolute (java_hash c.args.entity.now)) (omega (arith, c.requires.some)))) in
    facts_recorded c.args.lists.now.items c.get-place.result c.index_mut-list.result.now c.push.new.self c.args.entity.now c.args.entry.now inside c.index_mut-list.ensures.value c.in_ok-push.ensures.items
    ∙ ap (λ n. with_fact n (fact.Wrote c.args.entity.now c.args.entry.now) (facts_of c.args.lists.now.items)) place
