use Rattle.std.proofs.Common.{List, ℕ, arith, ap, length, sym, subst, ◌∙◌, [], replicate}
use Rattle.yard_model.specs.declared.charter.Config.{Config}
use Rattle.yard_model.specs.Script.{Script, with_shards}
use Rattle.shard_store.specs.Reshaped.{AreEach, IsJournalIn}
use Rattle.shard_store.specs.Shelved.{no_journal}
use Rattle.shard_store.proofs.ReshapeLaws.{all_brought}
use Rattle.shard_store.specs.Shelved.{IsShelf}
use Rattle.shard_store.proofs.ShelfLaws.{shelf_new}
use Rattle.shard_store.proofs.shelf.ShardStore.with_table.Goals as goal

pub overflow_cast-count : goal.overflow_cast-count
overflow_cast-count c = grind (arith, c.len-count.ensures, c.in_ok-names.ensures.few)

pub invariant_of-result : goal.invariant_of-result
invariant_of-result c =
    subst (λ v. IsShelf (record { script = v; shard = c.args.s; entries = c.new-2.result.entries; spare = c.new-2.result.spare }) c.new-2.result.shard c.in_ok-names.names c.in_ok-journals.journals.items c.in_ok-snapshots.snapshots.items c.in_ok-remembered.remembered) (sym c.of.ensures)
    (subst (λ l. IsShelf (record { script = c.args.charter.now; shard = c.args.s; entries = l.entries; spare = l.spare }) l.shard c.in_ok-names.names c.in_ok-journals.journals.items c.in_ok-snapshots.snapshots.items c.in_ok-remembered.remembered) (sym c.new-2.ensures)
    (shelf_new c.args.charter.now c.args.s c.len-count.result c.in_ok-names.names c.in_ok-journals.journals.items c.in_ok-snapshots.snapshots.items c.in_ok-remembered.remembered c.config.ensures.script c.requires.shard
    c.in_ok-names.ensures.names c.in_ok-names.ensures.sorted c.in_ok-names.ensures.few c.len-count.ensures
    (subst (λ (y : Script). AreEach no_journal (IsJournalIn [] y.orders c.in_ok-names.names) c.in_ok-journals.journals.items (length c.in_ok-names.names)) c.requires.table
    (subst (λ (ns : List (List ℕ)). AreEach no_journal (IsJournalIn [] c.args.table.now.orders ns) c.in_ok-journals.journals.items (length ns)) c.as_slice.ensures c.in_ok-journals.ensures)) (c.in_ok-snapshots.ensures ∙ ap (λ (k : Config). replicate c.len-count.result (record { snapshots = []; keep = k.keep })) c.config.ensures.value) c.in_ok-remembered.ensures.none))

pub new_journals-requires : goal.new_journals-requires
new_journals-requires c = all_brought c.args.table.now c.args.charter.now c.args.charter.now.config.shards c.args.s c.as_slice.result.now (sym (ap (with_shards c.args.charter.now.config.shards) c.requires.table)) (c.as_slice.ensures ∙ c.in_ok-names.ensures.names)
