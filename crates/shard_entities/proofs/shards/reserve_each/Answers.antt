use Rattle.std.proofs.Common.{◌≡◌, ◌∙◌, ◌<◌, ◌≤◌, subst, sym, ap, arith}
use Rattle.yard_model.specs.declared.charter.Config.{Config}
use Rattle.shard_entities.proofs.HostLaws.{reserved_none, then_are_reserved}
use Rattle.shard_entities.proofs.ReadyLaws.{ready_without, ready_more, lowest_out, all_ready, none_touched}
use Rattle.shard_entities.proofs.TakenLaws.{shards_most}
use Rattle.shard_entities.proofs.shards.reserve_each.Goals as goal

pub loop-init : goal.loop-init
loop-init c = record {
  kept = reserved_none c.args.hosted.now.items;
  ready = c.requires.ready;
  done = λ t below. absurd (omega (arith, below));
}

pub lowest-requires-clause-all : goal.lowest-requires-clause-all
lowest-requires-clause-all c = λ t there. subst (λ (k : Config). t < k.shards) (sym c.requires.config) (c.loop.invariant.ready.within t there)

pub lowest-requires-clause-shards : goal.lowest-requires-clause-shards
lowest-requires-clause-shards c = subst (λ (k : Config). k.shards ≤ 128) (sym c.requires.config) (shards_most c.args.places.now c.requires.script)

pub reserve_shard-requires-clause-shards : goal.reserve_shard-requires-clause-shards
reserve_shard-requires-clause-shards c = c.loop.invariant.kept.there ∙ c.requires.shards

pub reserve_shard-requires-clause-shard : goal.reserve_shard-requires-clause-shard
reserve_shard-requires-clause-shard c = c.loop.invariant.ready.within c.in-Some.s c.in-Some.ensures.lowest

pub loop-preserved : goal.loop-preserved
loop-preserved c = record {
  kept = then_are_reserved c.loop.invariant.kept c.reserve_shard.ensures.kept;
  ready = ready_without c.loop.invariant.ready c.reserve_shard.ensures.kept c.in_ok-reserve_shard-in-Some.ensures.ok (shards_most c.args.places.now c.requires.script) c.without.ensures.it c.without.ensures.others c.without.ensures.fits;
  done = lowest_out c.loop.touched c.without.result c.loop.counter c.in-Some.s c.loop.invariant.done c.in-Some.ensures.lowest c.in-Some.ensures.below c.without.ensures.it c.without.ensures.others c.without.ensures.fits;
}

pub returns-in_err-reserve_shard-in-Some-clause-kept : goal.returns-in_err-reserve_shard-in-Some-clause-kept
returns-in_err-reserve_shard-in-Some-clause-kept c = then_are_reserved c.loop.invariant.kept c.reserve_shard.ensures.kept

pub returns-in_err-reserve_shard-in-Some-clause-ready : goal.returns-in_err-reserve_shard-in-Some-clause-ready
returns-in_err-reserve_shard-in-Some-clause-ready c = ready_more c.loop.invariant.ready c.reserve_shard.ensures.kept

pub returns-in-None-clause-kept : goal.returns-in-None-clause-kept
returns-in-None-clause-kept c = c.loop.invariant.kept

pub returns-in-None-clause-ready : goal.returns-in-None-clause-ready
returns-in-None-clause-ready c = c.loop.invariant.ready

pub returns-in-None-clause-ok : goal.returns-in-None-clause-ok
returns-in-None-clause-ok c = all_ready c.loop.invariant.ready c.loop.invariant.kept (λ s below. none_touched c.loop.touched s c.in-None.ensures.none)

pub returns-clause-kept : goal.returns-clause-kept
returns-clause-kept c = c.loop.invariant.kept

pub returns-clause-ready : goal.returns-clause-ready
returns-clause-ready c = c.loop.invariant.ready

pub returns-clause-ok : goal.returns-clause-ok
returns-clause-ok c =
    let same : c.args.config.now.shards ≡ c.args.places.now.config.shards = ap (λ (k : Config). k.shards) c.requires.config in
    all_ready c.loop.invariant.ready c.loop.invariant.kept (λ s below. c.loop.invariant.done s (omega (arith, below, same, c.loop-test.false)))
