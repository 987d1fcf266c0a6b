use Rattle.std.proofs.Common.{◌-◌}
use Rattle.members_by_age.specs.Aged.{HasNodes}
use Rattle.members_by_age.proofs.by_age.all_nodes.Given as goal

abbrev pub invariant-loop-node : goal.invariant-loop-node
invariant-loop-node l = HasNodes (l.node - 1) l.numbers.entries
