use Rattle.std.proofs.Common.{◌≡◌, ◌<◌, ◌≤◌, length, subst, sym, arith, slice_index_or}
use Rattle.yard_model.specs.Script.{setting}
use Rattle.yard_model.specs.Setting.{names_of}
use Rattle.shard_entities.specs.Placed.{start_of}
use Rattle.shard_entities.proofs.OrderLaws.{count_few, lent, lent_script, nth_below, nth_of, nth_there, start_read, starts_there}
use Rattle.shard_entities.proofs.places.Places.nth.Goals as goal

pub start_in-requires : goal.start_in-requires
start_in-requires c = starts_there c.args.s (lent c.deref-kept.ensures c.self.invariant) (lent_script c.deref-kept.ensures c.self.view_is) (omega (arith, c.requires.shard))

pub overflow_add-start_in : goal.overflow_add-start_in
overflow_add-start_in c =
    let few : length (names_of (setting c.args.self.now) c.args.s) ≤ 1000 = count_few c.args.s (lent c.deref-kept.ensures c.self.invariant) (lent_script c.deref-kept.ensures c.self.view_is) in
    omega (arith, few, c.requires.within, c.start_in.ensures.few)

pub index-requires : goal.index-requires
index-requires c =
    let begins : c.start_in.result ≡ start_of (setting c.args.self.now) c.args.s = start_read c.args.s (lent c.deref-kept.ensures c.self.invariant) (lent_script c.deref-kept.ensures c.self.view_is) (omega (arith, c.requires.shard)) c.start_in.ensures.start in
    let inside : _ < _ = nth_there c.args.s c.args.k (lent c.deref-kept.ensures c.self.invariant) (lent_script c.deref-kept.ensures c.self.view_is) c.requires.shard c.requires.within in
    omega (arith, begins, inside)

pub bounds-as_slice-at : goal.bounds-as_slice-at
bounds-as_slice-at c = subst (λ l. c.index.result.now < length l) (sym c.as_slice.ensures.names) (nth_below c.args.s c.args.k c.index.result.now c.start_in.result (lent c.deref-kept.ensures c.self.invariant) (lent_script c.deref-kept.ensures c.self.view_is) c.requires.shard c.requires.within (start_read c.args.s (lent c.deref-kept.ensures c.self.invariant) (lent_script c.deref-kept.ensures c.self.view_is) (omega (arith, c.requires.shard)) c.start_in.ensures.start) c.index.ensures)

pub returns-clause-place : goal.returns-clause-place
returns-clause-place c = (nth_of c.args.s c.args.k c.index.result.now c.start_in.result (lent c.deref-kept.ensures c.self.invariant) (lent_script c.deref-kept.ensures c.self.view_is) c.requires.shard c.requires.within (start_read c.args.s (lent c.deref-kept.ensures c.self.invariant) (lent_script c.deref-kept.ensures c.self.view_is) (omega (arith, c.requires.shard)) c.start_in.ensures.start) c.index.ensures (subst (λ l. c.index-as_slice-at.result ≡ slice_index_or l c.index.result.now c.index-as_slice-at.result) c.as_slice.ensures.names c.index-as_slice-at.is)).0

pub returns-clause-entity : goal.returns-clause-entity
returns-clause-entity c = (nth_of c.args.s c.args.k c.index.result.now c.start_in.result (lent c.deref-kept.ensures c.self.invariant) (lent_script c.deref-kept.ensures c.self.view_is) c.requires.shard c.requires.within (start_read c.args.s (lent c.deref-kept.ensures c.self.invariant) (lent_script c.deref-kept.ensures c.self.view_is) (omega (arith, c.requires.shard)) c.start_in.ensures.start) c.index.ensures (subst (λ l. c.index-as_slice-at.result ≡ slice_index_or l c.index.result.now c.index-as_slice-at.result) c.as_slice.ensures.names c.index-as_slice-at.is)).1
