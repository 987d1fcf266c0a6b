use Rattle.std.proofs.Common.{◌≡◌}
use Rattle.yard_model.specs.Script.{setting}
use Rattle.shard_entities.specs.Placed.{AreStarts, start_of}
use Rattle.shard_entities.proofs.places.all_starts.Given as goal

abbrev pub invariant-loop-s : goal.invariant-loop-s
invariant-loop-s l = AreStarts (setting l.fn.charter) l.s l.starts.items × (l.start ≡ start_of (setting l.fn.charter) l.s)
