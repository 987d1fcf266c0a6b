use Rattle.std.proofs.Common.{◌≡◌, ◌+◌, ◌++◌, ◌∷◌, [], sym, subst}
use Rattle.std.specs.Prelude.{slice_set}
use Rattle.yard_model.specs.declared.entry.QueueEntry.{QueueEntry}
use Rattle.yard_model.specs.Entry.{queue_fact}
use Rattle.trace_text.specs.Places.{tallies_of}
use Rattle.trace_text.proofs.PlaceLaws.{found_at, not_there}
use Rattle.trace_text.proofs.TallyLaws.{queued_put, queued_pass, confirmed_put, confirmed_pass}
use Rattle.trace_text.proofs.queues.count_entry.Goals as goal

pub returns-in-Some-clause-tallies : goal.returns-in-Some-clause-tallies
returns-in-Some-clause-tallies c = λ p list was.
    subst (λ (x : QueueEntry). slice_set c.args.tallies.now.items c.in-Some.place (record { queued = c.index_mut.result.now.queued + 1; confirmed = c.index_mut.result.now.confirmed }) ≡ tallies_of c.args.names.now (list ++ queue_fact p x ∷ [])) (sym c.in-Queued.is)
    (queued_put c.args.names.now c.in-Queued.name p c.in-Queued.field-1 c.in-Queued.field-2 list c.in-Some.place c.args.tallies.now.items c.index_mut.result.now c.requires.sorted c.in-Some.ensures.0
    (found_at c.args.names.now c.in-Queued.name c.in-Some.place c.in-Some.ensures.0 c.in-Some.ensures.1) c.index_mut.ensures.value was)

pub returns-in_default-find-clause-tallies : goal.returns-in_default-find-clause-tallies
returns-in_default-find-clause-tallies c = λ p list was.
    subst (λ (x : QueueEntry). c.args.tallies.now.items ≡ tallies_of c.args.names.now (list ++ queue_fact p x ∷ [])) (sym c.in-Queued.is)
    (queued_pass c.args.names.now c.in-Queued.name p c.in-Queued.field-1 c.in-Queued.field-2 list c.args.tallies.now.items
    (not_there c.args.names.now c.in-Queued.name c.in_default-find.ensures) was)

pub returns-in-Some-find-clause-tallies : goal.returns-in-Some-find-clause-tallies
returns-in-Some-find-clause-tallies c = λ p list was.
    subst (λ (x : QueueEntry). slice_set c.args.tallies.now.items c.in-Some-find.place (record { queued = c.index_mut-in-Some-find.result.now.queued; confirmed = c.in-Confirmed.number }) ≡ tallies_of c.args.names.now (list ++ queue_fact p x ∷ [])) (sym c.in-Confirmed.is)
    (confirmed_put c.args.names.now c.in-Confirmed.name p c.in-Confirmed.number list c.in-Some-find.place c.args.tallies.now.items c.index_mut-in-Some-find.result.now c.requires.sorted c.in-Some-find.ensures.0
    (found_at c.args.names.now c.in-Confirmed.name c.in-Some-find.place c.in-Some-find.ensures.0 c.in-Some-find.ensures.1) c.index_mut-in-Some-find.ensures.value was)

pub returns-in_default-find-2-clause-tallies : goal.returns-in_default-find-2-clause-tallies
returns-in_default-find-2-clause-tallies c = λ p list was.
    subst (λ (x : QueueEntry). c.args.tallies.now.items ≡ tallies_of c.args.names.now (list ++ queue_fact p x ∷ [])) (sym c.in-Confirmed.is)
    (confirmed_pass c.args.names.now c.in-Confirmed.name p c.in-Confirmed.number list c.args.tallies.now.items
    (not_there c.args.names.now c.in-Confirmed.name c.in_default-find-2.ensures) was)
