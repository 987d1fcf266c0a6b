use Rattle.std.proofs.Common.{◌≡◌, drop}
use Rattle.yard_model.specs.Script.{setting}
use Rattle.yard_model.specs.Setting.{names_of}
use Rattle.shard_entities.specs.Lodged.{cleared}
use Rattle.shard_entities.proofs.shards.Shards.clear_each.Given as goal

abbrev pub invariant-loop-k : goal.invariant-loop-k
invariant-loop-k l = record {
  way : cleared l.self (drop l.k (names_of (setting l.fn.self.script) l.s)) ≡ cleared l.fn.self (names_of (setting l.fn.self.script) l.s);
  script : l.self.script ≡ l.fn.self.script;
}
