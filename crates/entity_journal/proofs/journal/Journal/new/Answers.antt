use Rattle.std.proofs.Common.{refl, arith, replicate}
use Rattle.entity_journal.proofs.Counts.{counted_none, numbered_none}
use Rattle.entity_journal.proofs.journal.Journal.new.Goals as goal

pub invariant_of-result : goal.invariant_of-result
invariant_of-result c =
    rw c.new.ensures (rw c.new-2.ensures.items (record {
      as_many = refl;
      spare = omega arith;
      few = omega arith;
      counted = counted_none (replicate 32 0) refl;
      numbered = numbered_none;
    }))
