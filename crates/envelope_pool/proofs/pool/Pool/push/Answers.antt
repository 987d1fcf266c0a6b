use Rattle.std.proofs.Common.{◌≡◌, ◌<◌, ◌∙◌, ◌∷◌, [], ap, sym, length, length-append, arith, length-set}
use Rattle.std.specs.Prelude.{Some}
use Rattle.envelope_pool.specs.Chains.{chains_of}
use Rattle.envelope_pool.proofs.CellLaws.{held_is, key_inside, none_free, pushed_lists, pushed_filled, made_lists, made_filled}
use Rattle.envelope_pool.proofs.pool.Pool.push.Goals as goal

pub invariant_of-self : goal.invariant_of-self
invariant_of-self g c = record {
  linked = c.put_last.ensures.linked;
  sized = omega (arith, length-set c.self.inside.items.items c.take_first-place.result (Some c.args.item), c.self.invariant.sized, c.put_last.ensures.next, ap length c.take_first-place.ensures.next);
  cells = omega (arith, c.self.invariant.cells, c.put_last.ensures.next, ap length c.take_first-place.ensures.next);
  fits = c.self.invariant.fits;
  places_fit = omega (arith, c.self.invariant.places_fit, c.take_first-place.ensures.room, c.put_last.ensures.room);
  items_fit = c.self.invariant.items_fit;
  chains = omega (arith, c.put_last.ensures.length, c.take_first-place.ensures.length, c.self.invariant.chains);
  filled = pushed_filled c.self.inside.items.items (chains_of c.self.inside.links.next.items c.self.inside.links.chains.items) (chains_of c.take_first-place.new.self.next.items c.take_first-place.new.self.chains.items) (chains_of c.put_last.new.self.next.items c.put_last.new.self.chains.items) c.args.key c.take_first-place.result c.args.item c.take_first-place.ensures.chains c.put_last.ensures.chains c.take_first-place.ensures.loose (let w : c.take_first-place.result < length c.self.inside.items.items = omega (arith, c.take_first-place.ensures.within, c.self.invariant.sized) in w) (key_inside c.self.inside.items.items (chains_of c.self.inside.links.next.items c.self.inside.links.chains.items) c.self.inside.cells c.args.key c.args.self.now c.self.view_is c.requires) c.self.invariant.filled;
}

pub returns-then-len-gt0-clause-free : goal.returns-then-len-gt0-clause-free
returns-then-len-gt0-clause-free g c = rw (← c.self.view_is) (omega (arith, held_is c.self.inside.links.next.items c.self.inside.links.chains.items c.self.inside.items.items c.self.invariant, c.len.ensures, c.if-len-gt0.true, c.self.invariant.sized, c.self.invariant.cells))

pub returns-then-len-gt0-clause-ok : goal.returns-then-len-gt0-clause-ok
returns-then-len-gt0-clause-ok g c = rw (← c.self.view_is) (pushed_lists c.self.inside.items.items (chains_of c.self.inside.links.next.items c.self.inside.links.chains.items) (chains_of c.take_first-place.new.self.next.items c.take_first-place.new.self.chains.items) (chains_of c.put_last.new.self.next.items c.put_last.new.self.chains.items) c.args.key c.take_first-place.result c.args.item c.take_first-place.ensures.chains c.put_last.ensures.chains c.take_first-place.ensures.loose (let w : c.take_first-place.result < length c.self.inside.items.items = omega (arith, c.take_first-place.ensures.within, c.self.invariant.sized) in w) (key_inside c.self.inside.items.items (chains_of c.self.inside.links.next.items c.self.inside.links.chains.items) c.self.inside.cells c.args.key c.args.self.now c.self.view_is c.requires) c.self.invariant.filled)

pub returns-then-len-self-clause-full : goal.returns-then-len-self-clause-full
returns-then-len-self-clause-full g c = rw (← c.self.view_is) (omega (arith, held_is c.self.inside.links.next.items c.self.inside.links.chains.items c.self.inside.items.items c.self.invariant, c.len.ensures, c.len-2.ensures, c.if-len-gt0.false, c.if-len-self.true, c.self.invariant.sized, c.self.invariant.cells))

pub invariant_of-self-2 : goal.invariant_of-self-2
invariant_of-self-2 g c = record {
  linked = c.put_last-2.ensures.linked;
  sized = omega (arith, ap length c.push_within.ensures.items, length-append c.self.inside.items.items (Some c.args.item ∷ []), c.self.invariant.sized, c.put_last-2.ensures.next, c.make-place.ensures.next);
  cells = omega (arith, c.self.invariant.sized, c.len-2.ensures, c.if-len-self.false, c.put_last-2.ensures.next, c.make-place.ensures.next);
  fits = c.self.invariant.fits;
  places_fit = omega (arith, c.self.invariant.places_fit, c.make-place.ensures.room, c.put_last-2.ensures.room);
  items_fit = omega (arith, c.self.invariant.items_fit, c.push_within.ensures.room);
  chains = omega (arith, c.put_last-2.ensures.length, c.make-place.ensures.length, c.self.invariant.chains);
  filled = rw c.push_within.ensures.items (made_filled c.self.inside.items.items (chains_of c.self.inside.links.next.items c.self.inside.links.chains.items) (chains_of c.make-place.new.self.next.items c.make-place.new.self.chains.items) (chains_of c.put_last-2.new.self.next.items c.put_last-2.new.self.chains.items) c.args.key c.make-place.result c.args.item (none_free c.self.inside.links.next.items c.self.inside.links.chains.items c.self.invariant.chains (let e : c.len.result ≡ 0 = omega arith in sym c.len.ensures ∙ e)) c.make-place.ensures.chains c.put_last-2.ensures.chains c.make-place.ensures.loose (let w : c.make-place.result ≡ length c.self.inside.items.items = omega (arith, c.make-place.ensures.place, c.self.invariant.sized) in w) (key_inside c.self.inside.items.items (chains_of c.self.inside.links.next.items c.self.inside.links.chains.items) c.self.inside.cells c.args.key c.args.self.now c.self.view_is c.requires) c.self.invariant.filled);
}

pub returns-clause-free : goal.returns-clause-free
returns-clause-free g c = rw (← c.self.view_is) (omega (arith, held_is c.self.inside.links.next.items c.self.inside.links.chains.items c.self.inside.items.items c.self.invariant, c.len.ensures, c.len-2.ensures, c.if-len-gt0.false, c.if-len-self.false, c.self.invariant.sized))

pub returns-clause-ok : goal.returns-clause-ok
returns-clause-ok g c = rw (← c.self.view_is) (rw c.push_within.ensures.items (made_lists c.self.inside.items.items (chains_of c.self.inside.links.next.items c.self.inside.links.chains.items) (chains_of c.make-place.new.self.next.items c.make-place.new.self.chains.items) (chains_of c.put_last-2.new.self.next.items c.put_last-2.new.self.chains.items) c.args.key c.make-place.result c.args.item (none_free c.self.inside.links.next.items c.self.inside.links.chains.items c.self.invariant.chains (let e : c.len.result ≡ 0 = omega arith in sym c.len.ensures ∙ e)) c.make-place.ensures.chains c.put_last-2.ensures.chains c.make-place.ensures.loose (let w : c.make-place.result ≡ length c.self.inside.items.items = omega (arith, c.make-place.ensures.place, c.self.invariant.sized) in w) (key_inside c.self.inside.items.items (chains_of c.self.inside.links.next.items c.self.inside.links.chains.items) c.self.inside.cells c.args.key c.args.self.now c.self.view_is c.requires) c.self.invariant.filled))
