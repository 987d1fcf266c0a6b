-- The sample's journal leads to a state.
use Rattle.std.proofs.Common.{◌≡◌, List, [], ◌∷◌, refl, sym, subst}
use Rattle.std.specs.Prelude.{IsTrue, map}
use Rattle.yard_model.specs.declared.entry.ShardEntry.{ShardEntry}
use Rattle.yard_model.specs.declared.fact.Fact.{Fact}
use Rattle.yard_model.specs.Entry.{shard_fact}
use Rattle.yard_model.specs.Script.{Script, setting}
use Rattle.trace_text.specs.Foldable.{is_foldable_in_all}
use Rattle.text_tests.specs.Sample.{sample_script, sample_list}

pub sample_foldable : (c : Script) (list : List ShardEntry) (queues : List (List Fact)) → c ≡ sample_script → list ≡ sample_list
    → IsTrue (is_foldable_in_all (setting c) (record { shards = map (shard_fact 0) list ∷ []; coordinator = []; queues = queues }))
sample_foldable c list queues script entries =
    subst (λ (x : Script). IsTrue (is_foldable_in_all (setting x) (record { shards = map (shard_fact 0) list ∷ []; coordinator = []; queues = queues }))) (sym script)
    (subst (λ (l : List ShardEntry). IsTrue (is_foldable_in_all (setting sample_script) (record { shards = map (shard_fact 0) l ∷ []; coordinator = []; queues = queues }))) (sym entries) refl)
