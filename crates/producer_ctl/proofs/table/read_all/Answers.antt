use Rattle.std.proofs.Common.{◌∙◌, ◌<◌, ◌≤◌, ◌+◌, sym, subst, arith}
use Rattle.yard_model.specs.Script.{setting}
use Rattle.producer_ctl.proofs.BegunLaws.{AreRead, read_more, marked_more, length_more}
use Rattle.producer_ctl.proofs.table.read_all.Goals as goal

pub loop-at-preserved : goal.loop-at-preserved
loop-at-preserved c = record {
  there = length_more c.loop-at.pairs.items _ c.granted-pair.result c.loop-at.at c.loop-at.invariant.there c.push_reserved.ensures.items;
  room = subst (λ n. c.args.names ≤ n) (sym c.push_reserved.ensures.capacity) c.loop-at.invariant.room;
  bound = c.mark.ensures.bound ∙ c.loop-at.invariant.bound;
  within = omega (arith, c.loop-at-test.true);
  done = subst (AreRead (setting c.args.store.now.script).names c.args.store.now.entries (c.loop-at.at + 1)) (sym c.push_reserved.ensures.items)
      (read_more (setting c.args.store.now.script).names c.args.store.now.entries c.loop-at.pairs.items c.granted-pair.result c.loop-at.at c.queued_at.result c.confirmed_at.result c.loop-at.invariant.there c.granted-pair.ensures c.queued_at.ensures c.confirmed_at.ensures c.loop-at.invariant.done);
  marked = marked_more c.loop-at.pairs.items _ c.granted-pair.result c.loop-at.at c.loop-at.waiting c.mark.new.waiting c.loop-at.invariant.there c.push_reserved.ensures.items (c.mark.ensures.it ∙ c.waits.ensures) c.mark.ensures.others c.loop-at.invariant.marked;
}

pub returns-clause-marked : goal.returns-clause-marked
returns-clause-marked c = record {
  bound_is = c.loop-at.invariant.bound ∙ sym (c.loop-at.invariant.there ∙ omega (arith, c.loop-at-test.false, c.loop-at.invariant.within));
  each = λ i below. c.loop-at.invariant.marked i (subst (λ n. i < n) c.loop-at.invariant.there below);
}

pub returns-clause-there : goal.returns-clause-there
returns-clause-there c = omega (arith, c.loop-at.invariant.there, c.loop-at-test.false, c.loop-at.invariant.within, c.requires.names)

pub returns-clause-each : goal.returns-clause-each
returns-clause-each c = λ i below. c.loop-at.invariant.done i (omega (arith, below, c.loop-at-test.false, c.requires.names))
