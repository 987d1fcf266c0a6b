use Rattle.std.proofs.Common.{◌≡◌, ◌<◌, ◌∙◌, List, length, sym, subst}
use Rattle.std.specs.Prelude.{slice_index_or}
use Rattle.yard_model.specs.declared.packet.Record.{Record}
use Rattle.yard_model.specs.SlotReads.{journal}
use Rattle.shard_store.specs.Shelf.{Shelf}
use Rattle.shard_store.proofs.ShelfLaws.{journal_there, named, some_of, written_at}
use Rattle.shard_store.proofs.WrittenLaws.{entries_within, record_there, wrote_there}
use Rattle.shard_store.proofs.shelf.ShardStore.record_at.Goals as goal

pub place-at-requires : goal.place-at-requires
place-at-requires c =
    let at : _ = named c.args.entity.now c.args.place c.self.invariant c.self.view_is c.requires.place in
    let within : c.args.k < length (journal c.args.entity.now c.self.inside.list.entries) = subst (λ (v : Shelf). c.args.k < length (journal c.args.entity.now v.entries)) (sym c.self.view_is) c.requires.within in
    subst (λ (l : List Record). c.args.k < length l) (sym (journal_there (record { script = c.self.inside.script.value; shard = c.self.inside.shard; entries = c.self.inside.list.entries; spare = c.self.inside.list.spare }) c.args.entity.now c.args.place c.index.result.now c.self.invariant at.within at.it c.index.ensures).1) within

pub bounds-entries-at : goal.bounds-entries-at
bounds-entries-at c =
    let at : _ = named c.args.entity.now c.args.place c.self.invariant c.self.view_is c.requires.place in
    let within : c.args.k < length (journal c.args.entity.now c.self.inside.list.entries) = subst (λ (v : Shelf). c.args.k < length (journal c.args.entity.now v.entries)) (sym c.self.view_is) c.requires.within in
    let d : Record = some_of (journal c.args.entity.now c.self.inside.list.entries) c.args.k within in
    entries_within c.self.inside.list.shard c.entries-entries.result.now c.self.inside.list.entries c.place-at.result c.entries-entries.ensures.entries (written_at (record { script = c.self.inside.script.value; shard = c.self.inside.shard; entries = c.self.inside.list.entries; spare = c.self.inside.list.spare }) c.args.entity.now c.args.place c.args.k c.place-at.result c.index.result.now d c.self.invariant at.within at.it c.index.ensures within c.place-at.ensures).within

pub record_in-requires : goal.record_in-requires
record_in-requires c =
    let at : _ = named c.args.entity.now c.args.place c.self.invariant c.self.view_is c.requires.place in
    let within : c.args.k < length (journal c.args.entity.now c.self.inside.list.entries) = subst (λ (v : Shelf). c.args.k < length (journal c.args.entity.now v.entries)) (sym c.self.view_is) c.requires.within in
    let d : Record = some_of (journal c.args.entity.now c.self.inside.list.entries) c.args.k within in
    wrote_there c.self.inside.list.shard c.entries-entries.result.now c.self.inside.list.entries c.place-at.result c.index-entries-at.result c.args.entity.now (slice_index_or (journal c.args.entity.now c.self.inside.list.entries) c.args.k d) c.entries-entries.ensures.entries c.index-entries-at.is
    (written_at (record { script = c.self.inside.script.value; shard = c.self.inside.shard; entries = c.self.inside.list.entries; spare = c.self.inside.list.spare }) c.args.entity.now c.args.place c.args.k c.place-at.result c.index.result.now d c.self.invariant at.within at.it c.index.ensures within c.place-at.ensures)

pub returns : goal.returns
returns c =
    let at : _ = named c.args.entity.now c.args.place c.self.invariant c.self.view_is c.requires.place in
    let within : c.args.k < length (journal c.args.entity.now c.self.inside.list.entries) = subst (λ (v : Shelf). c.args.k < length (journal c.args.entity.now v.entries)) (sym c.self.view_is) c.requires.within in
    let r = c.record_in.result.now in
    subst (λ (v : Shelf). r ≡ slice_index_or (journal c.args.entity.now v.entries) c.args.k r) c.self.view_is (c.record_in.ensures
    ∙ record_there c.self.inside.list.shard c.entries-entries.result.now c.self.inside.list.entries c.place-at.result c.index-entries-at.result c.args.entity.now (slice_index_or (journal c.args.entity.now c.self.inside.list.entries) c.args.k r) r c.entries-entries.ensures.entries c.index-entries-at.is
    (written_at (record { script = c.self.inside.script.value; shard = c.self.inside.shard; entries = c.self.inside.list.entries; spare = c.self.inside.list.spare }) c.args.entity.now c.args.place c.args.k c.place-at.result c.index.result.now r c.self.invariant at.within at.it c.index.ensures within c.place-at.ensures))
