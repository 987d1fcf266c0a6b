use Rattle.std.proofs.Common.{◌≡◌, drop}
use Rattle.std.specs.Prelude.{fold, IsTrue}
use Rattle.yard_model.specs.Behaviour.{is_valid, after_record}
use Rattle.yard_model.specs.SlotReads.{journal}
use Rattle.shard_entities.specs.Foldable.{are_foldable}
use Rattle.shard_entities.proofs.recovery.replayed.Given as goal

abbrev pub invariant-loop-k : goal.invariant-loop-k
invariant-loop-k g l = record {
  valid : IsTrue (is_valid (g.B.Behaviour.kind_of l.behaviour) l.current);
  may : IsTrue (are_foldable l.current (drop l.k (journal l.fn.place.entity l.fn.store.entries)));
  value : fold after_record l.current (drop l.k (journal l.fn.place.entity l.fn.store.entries)) ≡ fold after_record l.fn.state (drop l.fn.from (journal l.fn.place.entity l.fn.store.entries));
}
