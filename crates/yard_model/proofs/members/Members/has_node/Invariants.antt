use Rattle.std.proofs.Common.{◌≡◌, drop}
use Rattle.yard_model.specs.Members.{has_node}
use Rattle.yard_model.proofs.members.Members.has_node.Given as goal

abbrev pub invariant-loop-place : goal.invariant-loop-place
invariant-loop-place l = has_node l.node (drop l.place l.self) ≡ has_node l.node l.self
