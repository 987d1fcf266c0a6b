use Rattle.std.proofs.Common.{◌≡◌}
use Rattle.std.specs.List.{flat_map}
use Rattle.yard_model.specs.Region.{ask_again}
use Rattle.yard_model.specs.Setting.{shards}
use Rattle.region_actor.proofs.EachLaws.{IsOnTheWay}
use Rattle.region_actor.proofs.region.Region.ask_each_again.Given as goal

abbrev pub invariant-loop-i : goal.invariant-loop-i
invariant-loop-i l = record {
  way : IsOnTheWay ask_again l.shards (flat_map (ask_again l.fn.self.state) (shards l.fn.self.state.set)) l.fn.self.state l.fn.out.items l.fn.out.spare l.self.state l.out.items l.out.spare l.i;
  script : l.self.script ≡ l.fn.self.script;
}
