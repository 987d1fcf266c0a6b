use Rattle.std.proofs.Common.{◌≡◌, ◌+◌, ◌-◌}
use Rattle.std.specs.List.{list_all}
use Rattle.yard_model.specs.SlotLists.{queue_list}
use Rattle.yard_model.specs.Words.{numbers}
use Rattle.shard_store.specs.Stores.{lists_at}
use Rattle.log_resume.specs.Left.{is_confirmed_all, sends_confirmed}
use Rattle.log_resume.proofs.done.is_confirmed_all.Given as goal

-- those that are left tell
abbrev pub invariant-loop-k : goal.invariant-loop-k
invariant-loop-k l = list_all (λ p. sends_confirmed l.charter p (queue_list (lists_at l.charter.config l.places) p)) (numbers (l.k + 1) (l.charter.config.producers - l.k)) ≡ is_confirmed_all l.charter (lists_at l.charter.config l.places)
