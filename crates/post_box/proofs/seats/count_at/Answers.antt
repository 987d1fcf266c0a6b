use Rattle.std.proofs.Common.{◌≡◌, sym, ap, ◌∙◌, refl, ◌+◌, [], List}
use lib.ListN.{get_elem?}
use Rattle.atomic_table.proofs.Lists.{at_index}
use Rattle.post_box.specs.Holding.{QueueState}
use Rattle.post_box.proofs.Holders.{counted}
use Rattle.post_box.proofs.seats.count_at.Goals as goal

pub count-requires : goal.count-requires
count-requires g c =
    let q = c.requires.queue c.index_mut.result.now (at_index _ _ _ c.requires.place c.index_mut.ensures.value) in
    record { queue = (q.0, ap (λ (s : QueueState _). s.1) q.1) }

pub returns-clause-counted : goal.returns-clause-counted
returns-clause-counted g c =
    let here = at_index _ _ _ c.requires.place c.index_mut.ensures.value in
    let q = c.requires.queue c.index_mut.result.now here in
    let e = c.count.ensures in
    counted _ _ _ _ _ here e.queue.0 e.queue.2 (ap (λ (s : QueueState _). s.1) q.1) e.same e.counted
