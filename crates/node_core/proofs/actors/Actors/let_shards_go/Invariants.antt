use Rattle.std.specs.Prelude.{map}
use Rattle.yard_model.specs.declared.incarnation.Slot.TheVariants as slot
use Rattle.yard_model.specs.Words.{numbers}
use Rattle.node_core.specs.LetGo.{AreFreed}
use Rattle.node_core.proofs.actors.Actors.let_shards_go.Given as goal

abbrev pub invariant-loop-s : goal.invariant-loop-s
invariant-loop-s g l = AreFreed (map slot.Shard (numbers 0 l.s)) l.fn.self l.self (g.L.Leases.meaning l.fn.leases) (g.L.Leases.meaning l.leases) l.fn.out l.out
