use Rattle.std.proofs.Common.{refl, subst, sym, None, Some}
use Rattle.shard_entities.specs.Settled.{IsSettled}
use Rattle.shard_entities.proofs.HostLaws.{hosted_stands, hosted_moved, shard_below}
use Rattle.shard_entities.proofs.SettleLaws.{hosting_settled}
use Rattle.shard_entities.proofs.ReadyLaws.{touches}
use Rattle.shard_entities.proofs.shards.Shards.host.Goals as goal

pub invariant_of-self : goal.invariant_of-self
invariant_of-self c = record {
  kept = record {
    lodged = hosted_stands (record { store = c.args.store; stopping = None }) c.self.invariant.kept.lodged c.self.view_is c.requires.shard c.get.ensures.value c.requires.new c.requires.settled c.requires.script c.requires.its c.requires.leased refl c.with-running.ensures.it (λ t lt other. c.with-running.ensures.others t other);
    counted = c.self.invariant.kept.counted;
  };
  ready = touches (Some (record { store = c.args.store; stopping = None })) c.self.invariant.ready (shard_below c.self.inside.cells c.self.inside.hosted.items c.self.view_is c.requires.shard) c.get.ensures.value c.with-touched.ensures.it (λ t other. c.with-touched.ensures.others t other);
  restless = c.self.invariant.restless;
}

pub returns-clause-state : goal.returns-clause-state
returns-clause-state c = hosted_moved (record { store = c.args.store; stopping = None }) c.self.invariant.kept.lodged c.self.view_is c.get.ensures.value refl

pub returns-clause-settled : goal.returns-clause-settled
returns-clause-settled c = subst IsSettled (sym (hosted_moved (record { store = c.args.store; stopping = None }) c.self.invariant.kept.lodged c.self.view_is c.get.ensures.value refl)) (hosting_settled c.args.self.now c.args.s c.args.store c.requires.settled)
