use Rattle.std.proofs.Common.{◌≡◌}
use Rattle.world_sim.proofs.SentLaws.{sent_of}
use Rattle.world_sim.proofs.sent.all_sent.Given as goal

abbrev pub invariant-loop-i : goal.invariant-loop-i
invariant-loop-i l = l.counts.items ≡ sent_of l.charter l.i
