use Rattle.std.proofs.Common.{◌≡◌, ◌<◌, length, subst, sym, arith, slice_index_or}
use Rattle.shard_entities.proofs.OrderLaws.{lent, lent_script, named_at, names_there, spot_there}
use Rattle.shard_entities.proofs.places.Places.place_at.Goals as goal

pub index-spot-requires : goal.index-spot-requires
index-spot-requires c = let inside : c.args.at < length c.deref-kept.result.now.spots.items = spot_there c.args.at (lent c.deref-kept.ensures c.self.invariant) (lent_script c.deref-kept.ensures c.self.view_is) (names_there c.args.at (lent c.deref-kept.ensures c.self.invariant) (lent_script c.deref-kept.ensures c.self.view_is) c.requires.within) in omega (arith, inside)

pub bounds-as_slice-at : goal.bounds-as_slice-at
bounds-as_slice-at c = subst (λ l. c.args.at < length l) (sym c.as_slice.ensures.names) (names_there c.args.at (lent c.deref-kept.ensures c.self.invariant) (lent_script c.deref-kept.ensures c.self.view_is) c.requires.within)

pub returns-clause-place : goal.returns-clause-place
returns-clause-place c = (named_at c.args.at (lent c.deref-kept.ensures c.self.invariant) (lent_script c.deref-kept.ensures c.self.view_is) c.requires.within (subst (λ l. c.index-as_slice-at.result ≡ slice_index_or l c.args.at c.index-as_slice-at.result) c.as_slice.ensures.names c.index-as_slice-at.is) c.index-spot.ensures).0

pub returns-clause-entity : goal.returns-clause-entity
returns-clause-entity c = (named_at c.args.at (lent c.deref-kept.ensures c.self.invariant) (lent_script c.deref-kept.ensures c.self.view_is) c.requires.within (subst (λ l. c.index-as_slice-at.result ≡ slice_index_or l c.args.at c.index-as_slice-at.result) c.as_slice.ensures.names c.index-as_slice-at.is) c.index-spot.ensures).1
