use Rattle.std.proofs.Common.{◌≡◌, sym, subst, ◌∙◌, None, MatchOption}
use Rattle.yard_model.specs.Entities.{hosted}
use Rattle.shard_entities.specs.Lodged.{IsStore}
use Rattle.shard_entities.proofs.TakenLaws.{store_at, none_at, taken_stands, taken_moved}
use Rattle.shard_entities.proofs.ReadyLaws.{taken_ready, shard_inside}
use Rattle.shard_entities.proofs.shards.Shards.take_shard.Goals as goal
use Rattle.shard_entities.proofs.shards.Shards.take_shard.Goals.{in-Some, in-None}

pub invariant_of-self : goal.invariant_of-self
invariant_of-self c = record {
  kept = record {
    lodged = taken_stands c.self.invariant.kept.lodged c.self.view_is c.requires.shard c.get.ensures.value c.take.ensures.after c.without-running.ensures.it c.without-running.ensures.others;
    counted = c.self.invariant.kept.counted;
  };
  ready = taken_ready c.self.invariant.ready (shard_inside c.self.invariant.kept.lodged c.self.view_is c.requires.shard c.get.ensures.value) c.index_mut.ensures.value c.take.ensures.after;
  restless = c.self.invariant.restless;
}

pub returns-clause-state : goal.returns-clause-state
returns-clause-state c = λ n why. taken_moved n why c.self.invariant.kept.lodged c.self.view_is c.get.ensures.value c.take.ensures.after

pub returns-clause-store : goal.returns-clause-store
returns-clause-store c = elim c.match-take.branch [
  | in-Some w ↦ subst (λ r. MatchOption r (hosted c.args.self.now.state c.args.s ≡ None) (IsStore c.args.self.now c.args.s)) (sym w.result-is) (store_at w.in-Some.hosting c.self.invariant.kept.lodged c.self.view_is c.requires.shard c.get.ensures.value c.index_mut.ensures.value (sym c.take.ensures.value ∙ w.in-Some.is))
  | in-None w ↦ subst (λ r. MatchOption r (hosted c.args.self.now.state c.args.s ≡ None) (IsStore c.args.self.now c.args.s)) (sym w.result-is) (none_at c.self.invariant.kept.lodged c.self.view_is c.requires.shard c.get.ensures.value c.index_mut.ensures.value (sym c.take.ensures.value ∙ w.in-None.is))
]
