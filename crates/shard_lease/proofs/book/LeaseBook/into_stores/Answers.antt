use Rattle.std.proofs.Common.{◌≡◌, sym, subst}
use Rattle.std.specs.Prelude.{None, IsTrue}
use Rattle.yard_model.specs.declared.incarnation.Slot.{Slot}
use Rattle.yard_model.specs.Genuine.{is_slot_of}
use Rattle.yard_model.specs.Words.{at}
use Rattle.shard_store.specs.Stores.{place_of}
use Rattle.shard_lease.specs.Book.{Book}
use Rattle.shard_lease.proofs.BookLaws.{book_homes}
use Rattle.shard_lease.proofs.book.LeaseBook.into_stores.Goals as goal

pub from_parts-requires-clause-homes : goal.from_parts-requires-clause-homes
from_parts-requires-clause-homes c =
    book_homes (record { script = c.self.inside.script.value; places = c.self.inside.places.items; holders = c.self.inside.holders.items }) c.self.invariant.0
    (subst (λ (b : Book). (s : Slot) → IsTrue (is_slot_of b.script s) → at b.holders (place_of b.script.config s) ≡ None) (sym c.self.view_is) c.requires)
