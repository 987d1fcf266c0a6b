use Rattle.std.proofs.Common.{◌≡◌, ℕ, ◌<◌, ◌≤◌, ◌&&◌, not, length, get_or}
use Rattle.yard_model.specs.Members.{no_member}
use Rattle.yard_model.specs.ShardSet.{has}
use Rattle.yard_model.specs.Words.{is_same}
use Rattle.handoff_steps.proofs.waits.without.Given as goal

abbrev pub invariant-loop-place : goal.invariant-loop-place
invariant-loop-place l = record {
  within : l.place ≤ length l.regions;
  end : l.place-end ≡ length l.regions;
  done : (t : ℕ) → t < l.place → has l.left t ≡ (has l.awaited t && not (is_same l.who (get_or l.regions t no_member)));
  rest : (t : ℕ) → t < 16 → l.place ≤ t → has l.left t ≡ has l.awaited t;
}
