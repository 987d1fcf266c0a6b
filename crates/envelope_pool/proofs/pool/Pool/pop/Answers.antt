use Rattle.std.proofs.Common.{◌≡◌, ◌<◌, sym, ap, ◌∙◌, subst, length, arith, get_or, drop, ◌∷◌, []}
use Rattle.std.specs.Prelude.{None, MatchOption}
use Rattle.envelope_pool.specs.Chains.{chains_of}
use Rattle.envelope_pool.specs.Cells.{lists_of}
use Rattle.envelope_pool.proofs.ChainLaws.{get_or_any}
use Rattle.envelope_pool.proofs.CellLaws.{key_inside, none_listed, popped_item, popped_lists, popped_filled, unchanged}
use Rattle.envelope_pool.proofs.pool.Pool.pop.Goals as goal

pub returns-then-len-eq0-clause-item : goal.returns-then-len-eq0-clause-item
returns-then-len-eq0-clause-item g c = rw (← c.self.view_is) (none_listed c.self.inside.items.items c.self.inside.links.next.items c.self.inside.links.chains.items c.args.key (key_inside c.self.inside.items.items (chains_of c.self.inside.links.next.items c.self.inside.links.chains.items) c.self.inside.cells c.args.key c.args.self.now c.self.view_is c.requires) (sym c.len.ensures ∙ c.if-len-eq0.true))

pub returns-then-len-eq0-clause-lists : goal.returns-then-len-eq0-clause-lists
returns-then-len-eq0-clause-lists g c = unchanged c.args.self.now.lists c.args.key (returns-then-len-eq0-clause-item g c)

pub invariant_of-self : goal.invariant_of-self
invariant_of-self g c = record {
  linked = c.put_last.ensures.linked;
  sized = omega (arith, c.self.invariant.sized, c.put_last.ensures.next, ap length c.take_first-place.ensures.next);
  cells = omega (arith, c.self.invariant.cells, c.put_last.ensures.next, ap length c.take_first-place.ensures.next);
  fits = c.self.invariant.fits;
  places_fit = omega (arith, c.self.invariant.places_fit, c.take_first-place.ensures.room, c.put_last.ensures.room);
  items_fit = c.self.invariant.items_fit;
  chains = omega (arith, c.put_last.ensures.length, c.take_first-place.ensures.length, c.self.invariant.chains);
  filled = popped_filled c.self.inside.items.items (chains_of c.self.inside.links.next.items c.self.inside.links.chains.items) (chains_of c.take_first-place.new.self.next.items c.take_first-place.new.self.chains.items) (chains_of c.put_last.new.self.next.items c.put_last.new.self.chains.items) c.args.key c.take_first-place.result c.take_first-place.ensures.place c.take_first-place.ensures.chains c.put_last.ensures.chains c.self.invariant.filled;
}

pub returns-clause-item : goal.returns-clause-item
returns-clause-item g c =
    rw (← c.self.view_is)
    (subst (λ o. MatchOption o ((get_or (lists_of c.self.inside.items.items (chains_of c.self.inside.links.next.items c.self.inside.links.chains.items)) c.args.key []) ≡ []) (λ item. (get_or (lists_of c.self.inside.items.items (chains_of c.self.inside.links.next.items c.self.inside.links.chains.items)) c.args.key []) ≡ item ∷ drop 1 (get_or (lists_of c.self.inside.items.items (chains_of c.self.inside.links.next.items c.self.inside.links.chains.items)) c.args.key [])))
    (sym (c.index.ensures ∙ get_or_any c.self.inside.items.items c.take_first-place.result c.index.result.now None (let w : c.take_first-place.result < length c.self.inside.items.items = omega (arith, c.take_first-place.ensures.within, c.self.invariant.sized) in w)))
    (popped_item c.self.inside.items.items (chains_of c.self.inside.links.next.items c.self.inside.links.chains.items) (chains_of c.take_first-place.new.self.next.items c.take_first-place.new.self.chains.items) (chains_of c.put_last.new.self.next.items c.put_last.new.self.chains.items) c.args.key c.take_first-place.result c.take_first-place.ensures.place c.take_first-place.ensures.chains c.put_last.ensures.chains c.self.invariant.filled))

pub returns-clause-lists : goal.returns-clause-lists
returns-clause-lists g c = rw (← c.self.view_is) (popped_lists c.self.inside.items.items (chains_of c.self.inside.links.next.items c.self.inside.links.chains.items) (chains_of c.take_first-place.new.self.next.items c.take_first-place.new.self.chains.items) (chains_of c.put_last.new.self.next.items c.put_last.new.self.chains.items) c.args.key c.take_first-place.result c.take_first-place.ensures.place c.take_first-place.ensures.chains c.put_last.ensures.chains c.self.invariant.filled)
