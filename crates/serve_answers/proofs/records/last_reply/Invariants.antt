use Rattle.std.proofs.Common.{◌≡◌, ◌≤◌, drop, length}
use Rattle.std.specs.Prelude.{None}
use Rattle.serve_laws.specs.Served.{reply_at}
use Rattle.serve_answers.specs.Records.{records_in}
use Rattle.serve_answers.proofs.records.last_reply.Given as goal

abbrev pub invariant-loop-left : goal.invariant-loop-left
invariant-loop-left l = record {
  within : l.left ≤ length l.list;
  none : reply_at l.producer l.number (records_in l.entity (drop l.left l.list)) ≡ None;
}

abbrev pub decreases-loop-left : goal.decreases-loop-left
decreases-loop-left l = l.left
