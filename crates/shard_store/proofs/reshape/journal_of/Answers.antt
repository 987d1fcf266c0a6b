use Rattle.std.proofs.Common.{refl}
use Rattle.shard_store.proofs.PlacedLaws.{journal_begins}
use Rattle.shard_store.proofs.WrittenLaws.{next_in_list, journal_next, journal_whole, places_within}
use Rattle.shard_store.proofs.reshape.journal_of.Goals as goal

pub loop-place-init : goal.loop-place-init
loop-place-init c = journal_begins c.args.name.now c.args.room c.in_ok-journal.journal c.in_ok-journal.ensures.items c.in_ok-journal.ensures.places c.in_ok-journal.ensures.room

pub add_record-requires : goal.add_record-requires
add_record-requires c =
    next_in_list c.args.name.now c.args.list.now.shard c.entries-entries.result.now c.args.list.now.entries c.loop-place.place c.args.room c.index-entries-place.result c.loop-place.journal c.entries-entries.ensures.entries
    (places_within c.args.list.now.shard c.entries-entries.result.now c.args.list.now.entries c.loop-place.place c.entries-entries.ensures.entries c.loop-place-test.true)
    c.index-entries-place.is c.requires.numbered c.requires.room c.loop-place.invariant

pub loop-place-preserved : goal.loop-place-preserved
loop-place-preserved c =
    journal_next c.args.name.now c.args.list.now.shard c.entries-entries.result.now c.args.list.now.entries c.loop-place.place c.args.room c.loop-place.place c.index-entries-place.result c.loop-place.journal c.add_record.new.journal c.entries-entries.ensures.entries
    (places_within c.args.list.now.shard c.entries-entries.result.now c.args.list.now.entries c.loop-place.place c.entries-entries.ensures.entries c.loop-place-test.true)
    c.index-entries-place.is refl c.add_record.ensures.more c.add_record.ensures.none c.loop-place.invariant

pub returns : goal.returns
returns c = journal_whole c.args.name.now c.args.list.now.shard c.entries-entries.result.now c.args.list.now.entries c.loop-place.place c.args.room c.loop-place.journal c.entries-entries.ensures.entries c.loop-place-test.false c.loop-place.invariant
