use Rattle.std.proofs.Common.{take}
use Rattle.membership_view.specs.ByNode.{AreByNode}
use Rattle.membership_view.proofs.view.numbers_of.Given as goal

abbrev pub invariant-loop-place : goal.invariant-loop-place
invariant-loop-place l = AreByNode (take l.place l.members) l.numbers
