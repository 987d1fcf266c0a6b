use Rattle.std.proofs.Common.{◌≡◌, List, sym, subst, ap, ◌∙◌, Vec, Global}
use Rattle.std.specs.Prelude.{None, IsTrue, Option}
use Rattle.std.specs.declared.snapshot.Snapshot.{Snapshot}
use Rattle.yard_model.specs.declared.charter.Charter.{Charter}
use Rattle.yard_model.specs.declared.incarnation.Slot.{Slot}
use Rattle.yard_model.specs.Era.{reshaped}
use Rattle.yard_model.specs.Genuine.{is_slot_of}
use Rattle.yard_model.specs.Script.{Script, setting}
use Rattle.yard_model.specs.SlotLists.{SlotLists}
use Rattle.yard_model.specs.Words.{at}
use Rattle.yard_model.specs.World.{greatest_epoch}
use Rattle.shard_store.specs.declared.store.Store.{Store}
use Rattle.shard_store.specs.Stores.{place_of, lists_at, AreHomes}
use Rattle.shard_lease.specs.Book.{Book}
use Rattle.shard_lease.proofs.BookLaws.{book_homes}
use Rattle.shard_lease.proofs.book.LeaseBook.reshape.Goals as goal

pub from_parts-stores-requires-clause-homes : goal.from_parts-stores-requires-clause-homes
from_parts-stores-requires-clause-homes c =
    subst (λ (d : Script). AreHomes d c.replace-places.result.items) (sym (ap (λ (s : Snapshot Charter). s.value) c.replace-script.ensures.value))
    (subst (λ (l : List (Option Store)). AreHomes c.self.inside.script.value l) (sym (ap (λ (v : Vec (Option Store) Global). v.items) c.replace-places.ensures.value))
    (book_homes (record { script = c.self.inside.script.value; places = c.self.inside.places.items; holders = c.self.inside.holders.items }) c.self.invariant.0
    (subst (λ (b : Book). (s : Slot) → IsTrue (is_slot_of b.script s) → at b.holders (place_of b.script.config s) ≡ None) (sym c.self.view_is) c.requires.free)))

pub returns-in-Ok-clause-lists : goal.returns-in-Ok-clause-lists
returns-in-Ok-clause-lists c =
    let next : Script → List (Option Store) → SlotLists = λ d l. reshaped (setting d) c.args.charter.now.config.shards (greatest_epoch (lists_at d.config l)) (lists_at d.config l) in
    ap (λ (b : Book). lists_at c.args.charter.now.config b.places) c.drop.view_is
    ∙ (c.in-Ok.ensures.lists
    ∙ (ap (λ d. next d c.from_parts-stores.result.places) (c.from_parts-stores.ensures.script ∙ ap (λ (s : Snapshot Charter). s.value) c.replace-script.ensures.value)
    ∙ (ap (next c.self.inside.script.value) (c.from_parts-stores.ensures.places ∙ ap (λ (v : Vec (Option Store) Global). v.items) c.replace-places.ensures.value)
    ∙ ap (λ (b : Book). next b.script b.places) c.self.view_is)))
