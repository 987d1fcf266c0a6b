use Rattle.std.proofs.Common.{◌+◌, sym, ap, ◌∙◌, refl}
use Rattle.yard_model.specs.Words.{at}
use Rattle.yard_model.specs.SlotReads.{epoch}
use Rattle.shard_store.specs.Stores.{entries_of}
use Rattle.shard_lease.proofs.BookLaws.{book_acquired, store_acquired}
use Rattle.shard_lease.proofs.book.LeaseBookLeases.acquire.Goals as goal

pub invariant_of-self : goal.invariant_of-self
invariant_of-self c = (book_acquired (record { script = c.self.inside.script.value; places = c.self.inside.places.items; holders = c.self.inside.holders.items }) c.args.self.now c.args.who c.args.slot c.place_in-place.result c.take_out.new.places.items c.self.view_is c.self.invariant.0 c.requires.serves (c.place_in-place.ensures c.self.inside.script.value c.self.invariant.1) c.take_out.ensures.places, c.self.invariant.1)

pub returns-clause-answer : goal.returns-clause-answer
returns-clause-answer c = store_acquired (record { script = c.self.inside.script.value; places = c.self.inside.places.items; holders = c.self.inside.holders.items }) c.args.self.now c.args.who c.args.slot c.place_in-place.result c.take_out.new.places.items c.in-Some-take_out.store c.granted-store.result (epoch (entries_of c.in-Some-take_out.store) + 1) c.self.view_is c.self.invariant.0 c.requires.serves (c.place_in-place.ensures c.self.inside.script.value c.self.invariant.1) c.take_out.ensures.places
    (sym c.take_out.ensures.taken ∙ c.in-Some-take_out.is) (sym (c.holder_at.ensures ∙ ap (λ l. at l c.place_in-place.result) c.as_slice.ensures.value) ∙ c.in_default.is)
    refl c.granted-store.ensures.script c.granted-store.ensures.slot c.granted-store.ensures.entries c.granted-store.ensures.spare c.granted-store.ensures.own
