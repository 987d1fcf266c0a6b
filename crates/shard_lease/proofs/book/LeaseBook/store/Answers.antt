use Rattle.shard_lease.proofs.BookLaws.{lent_of, place_there}
use Rattle.shard_lease.proofs.book.LeaseBook.store.Goals as goal

pub returns-clause-held : goal.returns-clause-held
returns-clause-held c =
    (lent_of (record { script = c.self.inside.script.value; places = c.self.inside.places.items; holders = c.self.inside.holders.items }) c.args.self.now c.args.slot c.place_in.result c.as_slice.result.now c.lent.result c.self.view_is c.self.invariant.0 c.requires.slot (c.place_in.ensures c.self.inside.script.value c.self.invariant.1) c.as_slice.ensures.value c.lent.ensures).held

pub returns-clause-slot : goal.returns-clause-slot
returns-clause-slot c =
    (lent_of (record { script = c.self.inside.script.value; places = c.self.inside.places.items; holders = c.self.inside.holders.items }) c.args.self.now c.args.slot c.place_in.result c.as_slice.result.now c.lent.result c.self.view_is c.self.invariant.0 c.requires.slot (c.place_in.ensures c.self.inside.script.value c.self.invariant.1) c.as_slice.ensures.value c.lent.ensures).slot_is

pub returns-clause-script : goal.returns-clause-script
returns-clause-script c =
    (lent_of (record { script = c.self.inside.script.value; places = c.self.inside.places.items; holders = c.self.inside.holders.items }) c.args.self.now c.args.slot c.place_in.result c.as_slice.result.now c.lent.result c.self.view_is c.self.invariant.0 c.requires.slot (c.place_in.ensures c.self.inside.script.value c.self.invariant.1) c.as_slice.ensures.value c.lent.ensures).script_is

pub returns-clause-entries : goal.returns-clause-entries
returns-clause-entries c =
    (lent_of (record { script = c.self.inside.script.value; places = c.self.inside.places.items; holders = c.self.inside.holders.items }) c.args.self.now c.args.slot c.place_in.result c.as_slice.result.now c.lent.result c.self.view_is c.self.invariant.0 c.requires.slot (c.place_in.ensures c.self.inside.script.value c.self.invariant.1) c.as_slice.ensures.value c.lent.ensures).entries_are

pub lent-requires : goal.lent-requires
lent-requires c =
    place_there (record { script = c.self.inside.script.value; places = c.self.inside.places.items; holders = c.self.inside.holders.items }) c.args.self.now c.args.slot c.place_in.result c.as_slice.result.now c.self.view_is c.self.invariant.0 c.requires.slot (c.place_in.ensures c.self.inside.script.value c.self.invariant.1) c.as_slice.ensures.value
