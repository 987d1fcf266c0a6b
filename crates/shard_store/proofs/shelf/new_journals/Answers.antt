use Rattle.std.proofs.Common.{ℕ, List, [], ◌+◌, sym, subst}
use Rattle.yard_model.specs.Genuine.{is_brought}
use Rattle.shard_store.specs.Planned.{sent_to}
use Rattle.shard_store.specs.Reshaped.{AreEach, IsJournalIn}
use Rattle.shard_store.specs.Shelved.{IsJournal, no_journal}
use Rattle.shard_store.proofs.PlacedLaws.{journal_begins}
use Rattle.shard_store.proofs.ReshapeLaws.{all_at, each_more, named_at}
use Rattle.shard_store.proofs.shelf.new_journals.Goals as goal

pub sends_to-requires : goal.sends_to-requires
sends_to-requires c = all_at (is_brought c.args.table.now) c.args.names.now c.loop-name.name-index c.name-item.result c.requires c.loop-name-test.true c.name-item.is

pub loop-name-preserved : goal.loop-name-preserved
loop-name-preserved c =
    let orders = c.args.table.now.orders in
    let names = c.args.names.now in
    let i = c.loop-name.name-index in
    let e = c.name-item.result in
    let j = c.in_ok-journal.journal in
    subst (λ l. AreEach no_journal (IsJournalIn [] orders names) l (i + 1)) (sym c.in_ok-push.ensures.items)
    (each_more no_journal (IsJournalIn [] orders names) c.loop-name.journals.items i j c.loop-name.invariant
    (subst (λ (n : List ℕ). IsJournal n [] (sent_to n orders) j) (sym (named_at names i e c.loop-name-test.true c.name-item.is)) (subst (λ (n : ℕ). IsJournal e [] n j) c.sends_to.ensures (journal_begins e c.sends_to.result j c.in_ok-journal.ensures.items c.in_ok-journal.ensures.places c.in_ok-journal.ensures.room))))
