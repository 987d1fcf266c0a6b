use Rattle.std.proofs.Common.{◌≤◌, ◌∙◌, List, length, sym, subst}
use Rattle.yard_model.specs.declared.packet.Record.{Record}
use Rattle.yard_model.specs.SlotReads.{journal}
use Rattle.entity_journal.specs.Journal.{AreNumbered}
use Rattle.shard_store.specs.Planned.{sent_to}
use Rattle.shard_store.proofs.RoomLaws.{records_few}
use Rattle.shard_store.proofs.reshape.journal_in.Goals as goal

pub journal_of-requires-clause-numbered : goal.journal_of-requires-clause-numbered
journal_of-requires-clause-numbered c = subst AreNumbered (c.journal.ensures ∙ sym c.requires.same) c.len.ensures.numbered

pub journal_of-requires-clause-room : goal.journal_of-requires-clause-room
journal_of-requires-clause-room c =
    subst (λ n. length (journal c.args.name.now c.args.list.now.entries) ≤ n) (sym c.requires.room)
    (subst (λ (l : List Record). length l ≤ sent_to c.args.name.now c.args.store.now.script.orders) (sym c.requires.same)
    (records_few c.args.store.now.script c.args.store.now.shard c.args.name.now c.args.store.now.entries c.entries.ensures.own))
