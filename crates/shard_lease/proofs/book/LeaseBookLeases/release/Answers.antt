use Rattle.shard_lease.proofs.BookLaws.{book_released, store_released}
use Rattle.shard_lease.proofs.book.LeaseBookLeases.release.Goals as goal

pub invariant_of-self : goal.invariant_of-self
invariant_of-self c = (
  book_released (record { script = c.self.inside.script.value; places = c.self.inside.places.items; holders = c.self.inside.holders.items }) c.args.self.now c.args.who c.args.slot c.place_in-place.result c.put_back.new.places.items c.args.store c.free.new.self c.args.cause c.self.view_is c.self.invariant.0 c.requires.serves c.requires.store (c.place_in-place.ensures c.self.inside.script.value c.self.invariant.1) c.put_back.ensures
      c.free.ensures.script c.free.ensures.slot c.free.ensures.entries c.free.ensures.spare,
  c.self.invariant.1,
)

pub returns-clause-released : goal.returns-clause-released
returns-clause-released c = store_released (record { script = c.self.inside.script.value; places = c.self.inside.places.items; holders = c.self.inside.holders.items }) c.args.self.now c.args.who c.args.slot c.place_in-place.result c.put_back.new.places.items c.args.store c.free.new.self c.args.cause c.self.view_is c.self.invariant.0 c.requires.serves c.requires.store (c.place_in-place.ensures c.self.inside.script.value c.self.invariant.1) c.put_back.ensures c.free.ensures.entries
