use Rattle.std.proofs.Common.{sym}
use Rattle.shard_entities.proofs.HostLaws.{reserved_stands, reserved_seen, reserved_more}
use Rattle.shard_entities.proofs.ReadyLaws.{ready_of}
use Rattle.shard_entities.proofs.shards.Shards.reserve.Goals as goal

pub reserve_touched-requires-clause-ready : goal.reserve_touched-requires-clause-ready
reserve_touched-requires-clause-ready c = ready_of (sym c.self.invariant.kept.lodged.places_are) c.self.invariant.ready

pub invariant_of-self : goal.invariant_of-self
invariant_of-self c = record {
  kept = record {
    lodged = reserved_stands c.self.invariant.kept.lodged c.reserve_touched.ensures.kept;
    counted = c.self.invariant.kept.counted;
  };
  ready = ready_of c.self.invariant.kept.lodged.places_are c.reserve_touched.ensures.ready;
  restless = c.self.invariant.restless;
}

pub returns-clause-state : goal.returns-clause-state
returns-clause-state c = reserved_seen c.self.inside.cells c.self.view_is c.reserve_touched.ensures.kept

pub returns-clause-more : goal.returns-clause-more
returns-clause-more c = reserved_more c.self.inside.cells c.self.view_is c.reserve_touched.ensures.kept
