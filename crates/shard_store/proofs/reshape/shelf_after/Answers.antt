use Rattle.std.proofs.Common.{ℕ, List, ◌∙◌, ap, subst, false, length}
use Rattle.yard_model.specs.Script.{Script}
use Rattle.shard_store.specs.Leased.{Listed}
use Rattle.shard_store.specs.Reshaped.{AreEach, IsJournalIn, IsLatestOf, IsMarkOf}
use Rattle.shard_store.specs.Shelved.{no_journal, no_snapshots}
use Rattle.shard_store.proofs.ReshapeLaws.{all_brought, journals_carried, shelf_begun}
use Rattle.shard_store.proofs.reshape.shelf_after.Goals as goal

pub journals_of-requires-clause-names : goal.journals_of-requires-clause-names
journals_of-requires-clause-names c = all_brought c.args.stores.now.script c.args.charter.now c.args.charter.now.config.shards c.args.s c.as_slice.result.now c.requires.over.script_is (c.as_slice.ensures ∙ c.in_ok-names.ensures.names)

pub journals_of-requires-clause-table : goal.journals_of-requires-clause-table
journals_of-requires-clause-table c = ap (λ (y : Script). y.orders) (c.requires.table ∙ c.requires.over.script_is)

pub journals_of-requires-clause-carried : goal.journals_of-requires-clause-carried
journals_of-requires-clause-carried c =
    journals_carried c.args.stores.now c.args.charter.now c.args.epoch c.args.s c.as_slice.result.now c.in_ok-list.list.entries c.requires.over c.requires.within (c.as_slice.ensures ∙ c.in_ok-names.ensures.names) (ap (λ (l : Listed). l.entries) c.in_ok-list.ensures)

pub snapshots_of-requires-clause-names : goal.snapshots_of-requires-clause-names
snapshots_of-requires-clause-names c = all_brought c.args.stores.now.script c.args.charter.now c.args.charter.now.config.shards c.args.s c.as_slice-2.result.now c.requires.over.script_is (c.as_slice-2.ensures ∙ c.in_ok-names.ensures.names)

pub marks_of-requires-clause-names : goal.marks_of-requires-clause-names
marks_of-requires-clause-names c = all_brought c.args.stores.now.script c.args.charter.now c.args.charter.now.config.shards c.args.s c.as_slice-3.result.now c.requires.over.script_is (c.as_slice-3.ensures ∙ c.in_ok-names.ensures.names)

pub begun-requires : goal.begun-requires
begun-requires c =
    shelf_begun c.args.stores.now c.args.charter.now c.args.epoch c.args.s c.in_ok-list.list.shard c.in_ok-list.list.spare c.in_ok-names.names c.in_ok-list.list.entries c.in_ok-journals.journals.items c.in_ok-snapshots.snapshots.items c.in_ok-remembered.remembered
    c.requires.over c.requires.within c.in_ok-names.ensures.names c.in_ok-names.ensures.sorted c.in_ok-names.ensures.few
    (ap (λ (l : Listed). l.shard) c.in_ok-list.ensures) (ap (λ (l : Listed). l.spare) c.in_ok-list.ensures) (ap (λ (l : Listed). l.entries) c.in_ok-list.ensures)
    (subst (λ (ns : List (List ℕ)). AreEach no_journal (IsJournalIn c.in_ok-list.list.entries c.args.stores.now.script.orders ns) c.in_ok-journals.journals.items (length ns)) c.as_slice.ensures c.in_ok-journals.ensures)
    (subst (λ (ns : List (List ℕ)). AreEach no_snapshots (IsLatestOf c.args.stores.now ns) c.in_ok-snapshots.snapshots.items (length ns)) c.as_slice-2.ensures c.in_ok-snapshots.ensures)
    (subst (λ (ns : List (List ℕ)). AreEach false (IsMarkOf c.args.stores.now ns) c.in_ok-remembered.remembered (length ns)) c.as_slice-3.ensures c.in_ok-remembered.ensures)
