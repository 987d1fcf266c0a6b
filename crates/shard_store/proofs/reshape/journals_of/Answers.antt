use Rattle.std.proofs.Common.{◌≡◌, ◌<◌, ◌+◌, ℕ, List, length, sym, ap, subst, ◌∙◌}
use Rattle.std.specs.Prelude.{slice_index_or}
use Rattle.yard_model.specs.declared.charter.Line.{Line}
use Rattle.yard_model.specs.declared.fact.Fact.{Fact}
use Rattle.yard_model.specs.Genuine.{is_brought}
use Rattle.yard_model.specs.Script.{Script}
use Rattle.yard_model.specs.SlotReads.{journal}
use Rattle.entity_journal.specs.Journal.{Journaled}
use Rattle.shard_store.specs.Planned.{sent_to}
use Rattle.shard_store.specs.Reshaped.{AreEach, IsJournalIn, AreCarried, list_of}
use Rattle.shard_store.specs.Shelved.{IsJournal, no_journal}
use Rattle.shard_store.specs.Stores.{Shelves}
use Rattle.shard_store.proofs.ReshapeLaws.{all_at, each_more, named_at}
use Rattle.shard_store.proofs.reshape.journals_of.Goals as goal

journal_at : (list : List Fact) (names : List (List ℕ)) (i room : ℕ) (e : List ℕ) (orders told : List Line) (j : Journaled) → i < length names → e ≡ slice_index_or names i e → room ≡ sent_to e told → told ≡ orders → IsJournal e list room j → IsJournalIn list orders names i j
journal_at list names i room e orders told j within here room_is told_are k =
    subst (λ n. IsJournal n list (sent_to n orders) j) (sym (named_at names i e within here)) (subst (λ n. IsJournal e list n j) (room_is ∙ ap (λ o. sent_to e o) told_are) k)

carried_at : (x : Shelves) (names : List (List ℕ)) (i : ℕ) (e : List ℕ) (list old : List Fact) → i < length names → e ≡ slice_index_or names i e → old ≡ list_of x e → AreCarried x names list → journal e list ≡ journal e old
carried_at x names i e list old within here old_is carried = subst (λ n. journal n list ≡ journal n (list_of x n)) (named_at names i e within here) (carried i within) ∙ ap (journal e) (sym old_is)

pub store_of-requires : goal.store_of-requires
store_of-requires c = all_at (is_brought c.args.stores.now.script) c.args.names.now c.loop-name.name-index c.name-item.result c.requires.names c.loop-name-test.true c.name-item.is

pub journal_in-requires-clause-name : goal.journal_in-requires-clause-name
journal_in-requires-clause-name c = c.store_of.ensures.name

pub journal_in-requires-clause-room : goal.journal_in-requires-clause-room
journal_in-requires-clause-room c = c.sends_to.ensures ∙ ap (λ o. sent_to c.name-item.result o) (c.requires.table ∙ sym (ap (λ (s : Script). s.orders) c.store_of.ensures.script))

pub journal_in-requires-clause-same : goal.journal_in-requires-clause-same
journal_in-requires-clause-same c = carried_at c.args.stores.now c.args.names.now c.loop-name.name-index c.name-item.result c.args.list.now.entries c.store_of.result.now.entries c.loop-name-test.true c.name-item.is c.store_of.ensures.list c.requires.carried

pub loop-name-preserved : goal.loop-name-preserved
loop-name-preserved c =
    let list = c.args.list.now.entries in
    let orders = c.args.stores.now.script.orders in
    let names = c.args.names.now in
    let i = c.loop-name.name-index in
    subst (λ l. AreEach no_journal (IsJournalIn list orders names) l (i + 1)) (sym c.in_ok-push.ensures.items)
    (each_more no_journal (IsJournalIn list orders names) c.loop-name.journals.items i c.in_ok-journal.journal c.loop-name.invariant
    (journal_at list names i c.sends_to.result c.name-item.result orders _ c.in_ok-journal.journal c.loop-name-test.true c.name-item.is c.sends_to.ensures c.requires.table c.in_ok-journal.ensures))
