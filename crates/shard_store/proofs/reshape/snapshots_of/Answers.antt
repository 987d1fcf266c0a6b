use Rattle.std.proofs.Common.{◌≡◌, ◌<◌, ◌+◌, ℕ, List, length, sym, subst}
use Rattle.std.specs.Prelude.{slice_index_or}
use Rattle.yard_model.specs.declared.fact.Fact.{Fact}
use Rattle.yard_model.specs.Genuine.{is_brought}
use Rattle.yard_model.specs.Script.{Script}
use Rattle.yard_model.specs.SlotReads.{journal, last_snapshot}
use Rattle.entity_snapshot.specs.Kept.{Kept}
use Rattle.shard_store.specs.Reshaped.{AreEach, IsLatestOf, list_of}
use Rattle.shard_store.specs.Shelved.{IsLatest, no_snapshots}
use Rattle.shard_store.specs.Stores.{Shelves}
use Rattle.shard_store.proofs.ReshapeLaws.{all_at, each_more, named_at}
use Rattle.shard_store.proofs.reshape.snapshots_of.Goals as goal

latest_at : (x : Shelves) (names : List (List ℕ)) (i : ℕ) (e : List ℕ) (list : List Fact) (script : Script) (k : Kept) → i < length names → e ≡ slice_index_or names i e → list ≡ list_of x e → script ≡ x.script → IsLatest script.config.kind (journal e list) (last_snapshot e list) k → IsLatestOf x names i k
latest_at x names i e list script k within here list_is script_is new =
    subst (λ n. IsLatest x.script.config.kind (journal n (list_of x n)) (last_snapshot n (list_of x n)) k) (sym (named_at names i e within here))
    (subst (λ (s : Script). IsLatest s.config.kind (journal e (list_of x e)) (last_snapshot e (list_of x e)) k) script_is (subst (λ l. IsLatest script.config.kind (journal e l) (last_snapshot e l) k) list_is new))

pub store_of-requires : goal.store_of-requires
store_of-requires c = all_at (is_brought c.args.stores.now.script) c.args.names.now c.loop-name.name-index c.name-item.result c.requires.names c.loop-name-test.true c.name-item.is

pub latest_of-requires-clause-name : goal.latest_of-requires-clause-name
latest_of-requires-clause-name c = c.store_of.ensures.name

pub loop-name-preserved : goal.loop-name-preserved
loop-name-preserved c =
    let x = c.args.stores.now in
    let names = c.args.names.now in
    let i = c.loop-name.name-index in
    subst (λ l. AreEach no_snapshots (IsLatestOf x names) l (i + 1)) (sym c.in_ok-push.ensures.items)
    (each_more no_snapshots (IsLatestOf x names) c.loop-name.lists.items i c.in_ok-list.list c.loop-name.invariant
    (latest_at x names i c.name-item.result c.store_of.result.now.entries _ c.in_ok-list.list c.loop-name-test.true c.name-item.is c.store_of.ensures.list c.store_of.ensures.script c.in_ok-list.ensures))
