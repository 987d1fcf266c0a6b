use Rattle.std.proofs.Common.{◌≡◌, sym, ap, ◌∙◌, refl, ◌+◌, [], List}
use lib.ListN.{get_elem?}
use Rattle.atomic_table.proofs.Lists.{at_index}
use Rattle.post_box.specs.Holding.{QueueState}
use Rattle.post_box.proofs.Holders.{pushed}
use Rattle.post_box.proofs.seats.push_at.Goals as goal

pub push-requires-clause-queue : goal.push-requires-clause-queue
push-requires-clause-queue g c =
    let q = c.requires.queue c.index_mut.result.now (at_index _ _ _ c.requires.place c.index_mut.ensures.value) in
    (q.0, ap (λ (s : QueueState _). s.1) q.1)

pub push-requires-clause-posts : goal.push-requires-clause-posts
push-requires-clause-posts g c =
    let q = c.requires.queue c.index_mut.result.now (at_index _ _ _ c.requires.place c.index_mut.ensures.value) in
    ap (λ (s : QueueState _). s.0) q.1

pub returns : goal.returns
returns g c =
    let here = at_index _ _ _ c.requires.place c.index_mut.ensures.value in
    let q = c.requires.queue c.index_mut.result.now here in
    let e = c.push.ensures in record { posted = pushed _ _ _ _ _ _ _ _ here e.queue.0 e.queue.2 (ap (λ (s : QueueState _). s.1) q.1) e.posted }
