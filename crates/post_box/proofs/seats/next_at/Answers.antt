use Rattle.std.proofs.Common.{◌≡◌, sym, ap, ◌∙◌, refl, ◌+◌, [], List}
use lib.ListN.{get_elem?}
use Rattle.atomic_table.proofs.Lists.{at_index}
use Rattle.crossbeam_queue.specs.Passes.{view}
use Rattle.post_box.specs.Holding.{QueueState}
use Rattle.post_box.specs.Rule.{taker, sender}
use Rattle.post_box.proofs.Holders.{state_is}
use Rattle.post_box.proofs.seats.next_at.Goals as goal

pub next_sender-requires-clause-queue : goal.next_sender-requires-clause-queue
next_sender-requires-clause-queue g c =
    let q = c.requires.queue c.index_mut.result.now (at_index _ _ _ c.requires.place c.index_mut.ensures.value) in
    (q.0, ap (λ (s : QueueState _). s.1) q.1)

pub next_sender-requires-clause-takes : goal.next_sender-requires-clause-takes
next_sender-requires-clause-takes g c =
    let q = c.requires.queue c.index_mut.result.now (at_index _ _ _ c.requires.place c.index_mut.ensures.value) in
    ap (λ (s : QueueState _). s.0) q.1

pub returns : goal.returns
returns g c =
    let here = at_index _ _ _ c.requires.place c.index_mut.ensures.value in
    let q = c.requires.queue c.index_mut.result.now here in
    let e = c.next_sender.ensures in record {
      made = record {
        old = c.index_mut.result.now;
        new = c.next_sender.new.pass;
        there = here;
        is = refl;
        table = e.queue.0.0;
        step = (state_is c.next_sender.new.pass (taker ((view c.index_mut.result.now).next + 1) (view c.index_mut.result.now).taken) e.views.0 (e.queue.0.2 ∙ ap (λ (s : QueueState _). s.1) q.1), e.queue.1.0, state_is c.next_sender.result (sender (view c.index_mut.result.now).next []) e.views.1 e.queue.1.1);
      };
    }
