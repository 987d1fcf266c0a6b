use Rattle.std.proofs.Common.{ap, sym, arith}
use Rattle.region_actor.specs.Made.{Made}
use Rattle.region_actor.proofs.RegionLaws.{region_releases, kept_first}
use Rattle.region_actor.proofs.region.Region.next_kept.Goals as goal

pub invariant_of-self : goal.invariant_of-self
invariant_of-self c = region_releases _ _ _ _ _ c.self.inside.kept c.release_one.new.self c.self.invariant c.args.s
    (omega (arith, c.requires, ap (λ (m : Made). m.script.config.shards) c.self.view_is, c.self.invariant.shards_are))
    c.release_one.ensures.lists c.release_one.ensures.shards c.release_one.ensures.buffer

pub returns-clause-shard : goal.returns-clause-shard
returns-clause-shard c = kept_first c.self.inside.script.value c.args.self.now.state.set c.args.s _ c.release_one.result (c.self.invariant.kept_are c.args.s) (ap (λ (m : Made). m.state.set) (sym c.self.view_is)) c.release_one.ensures.message
