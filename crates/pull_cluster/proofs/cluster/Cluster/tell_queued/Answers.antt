use Rattle.std.proofs.Common.{◌≡◌, ◌∙◌, ◌<◌, ℕ, sym, ap, subst, length, [], ◌∷◌, ◌++◌, List}
use Rattle.std.specs.Prelude.{true}
use Rattle.yard_model.specs.declared.fact.Fact.{Fact}
use Rattle.yard_model.specs.declared.fact.Fact.TheVariants as fact
use Rattle.pull_cluster.specs.Cluster.{Cluster}
use Rattle.pull_cluster.specs.Kept.{IsKept}
use Rattle.yard_model.specs.Lawful.{is_held}
use Rattle.pull_laws.specs.Pulled.{is_running, waiting}
use Rattle.yard_model.specs.declared.charter.Sending.{Sending}
use Rattle.yard_model.specs.Script.{sends}
use Rattle.pull_cluster.proofs.QueueLaws.{queued_reserved}
use Rattle.pull_cluster.proofs.StateLaws.{states_long}
use Rattle.pull_cluster.proofs.KeptLaws.{kept_reserved, kept_queued, waited_here, waiting_is, read_is, first_is, place_is, queue_left, next_unqueued, told_leads}
use Rattle.pull_cluster.proofs.cluster.Cluster.tell_queued.Goals as goal

pub bounds-sends-job : goal.bounds-sends-job
bounds-sends-job c = subst (λ (l : List Sending). c.total-job.result < length l) (sym (c.sends.ensures ∙ ap (sends c.self.inside.charter) c.self.invariant.first_is)) (subst (λ n. n < length (sends c.self.inside.charter 1)) (sym (c.total-job.ensures ∙ place_is c.self.inside.charter c.self.inside.story.told c.self.inside.queue c.self.inside.sent c.self.invariant.queue_is)) (waited_here c.self.inside.charter c.self.inside.story.told c.self.inside.queue c.self.inside.sent c.self.invariant.queue_is (subst (λ (k : Cluster). 0 < length (waiting k.pulling.told)) (sym c.self.view_is) c.requires.some)))

pub queue-requires-clause-leased : goal.queue-requires-clause-leased
queue-requires-clause-leased c = ap is_held (c.push_entry.ensures.entries ∙ c.self.invariant.queue_is.entries_are) ∙ subst (λ (k : Cluster). is_running k.pulling.told ≡ true) (sym c.self.view_is) c.requires.runs

pub queue-requires-clause-charter : goal.queue-requires-clause-charter
queue-requires-clause-charter c = sym (c.push_entry.ensures.script ∙ c.self.invariant.queue_is.script_is)

pub queue-requires-clause-left : goal.queue-requires-clause-left
queue-requires-clause-left c = queue_left c.self.inside.charter c.self.inside.story.told c.push_entry.new.queue c.self.inside.sent (queued_reserved c.self.inside.charter c.self.inside.story.told c.self.inside.queue c.push_entry.new.queue c.self.inside.sent c.push_entry.ensures.script c.push_entry.ensures.producer c.push_entry.ensures.entries c.self.invariant.queue_is) (waited_here c.self.inside.charter c.self.inside.story.told c.self.inside.queue c.self.inside.sent c.self.invariant.queue_is (subst (λ (k : Cluster). 0 < length (waiting k.pulling.told)) (sym c.self.view_is) c.requires.some))

pub queue-requires-2-clause-within : goal.queue-requires-2-clause-within
queue-requires-2-clause-within c = subst (λ n. c.total-job.result < n) (sym (states_long c.self.inside.charter c.self.inside.story.told c.self.inside.board.states c.self.invariant.states_are)) (subst (λ n. n < length (sends c.self.inside.charter 1)) (sym (c.total-job.ensures ∙ place_is c.self.inside.charter c.self.inside.story.told c.self.inside.queue c.self.inside.sent c.self.invariant.queue_is)) (waited_here c.self.inside.charter c.self.inside.story.told c.self.inside.queue c.self.inside.sent c.self.invariant.queue_is (subst (λ (k : Cluster). 0 < length (waiting k.pulling.told)) (sym c.self.view_is) c.requires.some)))

pub queue-requires-2-clause-first : goal.queue-requires-2-clause-first
queue-requires-2-clause-first c = next_unqueued c.self.inside.charter c.self.inside.story.told c.self.inside.queue c.self.inside.sent c.self.inside.board.states c.total-job.result c.self.invariant.pulled_is c.self.invariant.queue_is c.self.invariant.states_are (c.total-job.ensures ∙ place_is c.self.inside.charter c.self.inside.story.told c.self.inside.queue c.self.inside.sent c.self.invariant.queue_is) (subst (λ n. n < length (sends c.self.inside.charter 1)) (sym (c.total-job.ensures ∙ place_is c.self.inside.charter c.self.inside.story.told c.self.inside.queue c.self.inside.sent c.self.invariant.queue_is)) (waited_here c.self.inside.charter c.self.inside.story.told c.self.inside.queue c.self.inside.sent c.self.invariant.queue_is (subst (λ (k : Cluster). 0 < length (waiting k.pulling.told)) (sym c.self.view_is) c.requires.some)))

pub invariant_of-self : goal.invariant_of-self
invariant_of-self c = kept_reserved c.self.inside.charter c.self.inside.producer c.self.inside.story.told c.self.inside.queue c.push_entry.new.queue c.self.inside.sent c.self.inside.board c.self.inside.doers c.self.inside.numbers c.self.inside.parcels c.push_entry.ensures.script c.push_entry.ensures.producer c.push_entry.ensures.entries c.self.invariant

pub invariant_of-self-2 : goal.invariant_of-self-2
invariant_of-self-2 c =
    let j : Sending = c.index-sends-job.result in
    let w : (left : List Sending) × (waiting c.self.inside.story.told ≡ j ∷ left) = waiting_is c.self.inside.charter c.self.inside.story.told c.self.inside.queue c.self.inside.sent j c.self.invariant.queue_is (subst (λ (k : Cluster). 0 < length (waiting k.pulling.told)) (sym c.self.view_is) c.requires.some) (read_is c.self.inside.charter c.self.inside.story.told c.self.inside.queue c.self.inside.sent c.sends.result.now c.total-job.result c.index-sends-job.result c.self.invariant.queue_is (subst (λ (k : Cluster). 0 < length (waiting k.pulling.told)) (sym c.self.view_is) c.requires.some) (c.sends.ensures ∙ ap (sends c.self.inside.charter) c.self.invariant.first_is) (c.total-job.ensures ∙ place_is c.self.inside.charter c.self.inside.story.told c.self.inside.queue c.self.inside.sent c.self.invariant.queue_is) c.index-sends-job.is) in
    subst (λ (t : List Fact). IsKept c.self.inside.charter c.self.inside.producer t c.queue.new.self c.self.inside.sent c.queue-2.new.self c.self.inside.doers c.self.inside.numbers c.self.inside.parcels) (sym c.tell.ensures)
    (kept_queued c.self.inside.charter c.self.inside.producer c.self.inside.story.told c.push_entry.new.queue c.queue.new.self c.self.inside.sent c.total-job.result c.self.inside.board c.queue-2.new.self c.self.inside.doers c.self.inside.numbers c.self.inside.parcels j w.0 c.queue.result w.1 c.queue.ensures.next (c.total-job.ensures ∙ place_is c.self.inside.charter c.self.inside.story.told c.self.inside.queue c.self.inside.sent c.self.invariant.queue_is)
    c.queue.ensures.script c.queue.ensures.producer c.queue.ensures.entries c.queue-2.ensures
    (kept_reserved c.self.inside.charter c.self.inside.producer c.self.inside.story.told c.self.inside.queue c.push_entry.new.queue c.self.inside.sent c.self.inside.board c.self.inside.doers c.self.inside.numbers c.self.inside.parcels c.push_entry.ensures.script c.push_entry.ensures.producer c.push_entry.ensures.entries c.self.invariant))

pub returns : goal.returns
returns c = λ j left waits.
    let with_producer : ℕ → Fact = λ p. fact.Queued p c.index-sends-job.result.entity 1 c.index-sends-job.result.command in
    let with_sending : Sending → Fact = λ s. fact.Queued 1 s.entity 1 s.command in
    let same : with_producer c.self.inside.producer ≡ with_sending j = ap with_producer c.self.invariant.first_is ∙ ap with_sending (first_is c.self.inside.charter c.self.inside.story.told c.self.inside.queue c.self.inside.sent c.index-sends-job.result j left c.self.invariant.queue_is (read_is c.self.inside.charter c.self.inside.story.told c.self.inside.queue c.self.inside.sent c.sends.result.now c.total-job.result c.index-sends-job.result c.self.invariant.queue_is (subst (λ (k : Cluster). 0 < length (waiting k.pulling.told)) (sym c.self.view_is) c.requires.some) (c.sends.ensures ∙ ap (sends c.self.inside.charter) c.self.invariant.first_is) (c.total-job.ensures ∙ place_is c.self.inside.charter c.self.inside.story.told c.self.inside.queue c.self.inside.sent c.self.invariant.queue_is) c.index-sends-job.is) (ap (λ (k : Cluster). waiting k.pulling.told) c.self.view_is ∙ waits)) in
    told_leads c.self.inside.charter c.self.inside.story.told c.tell.new.self.told c.self.inside.full (fact.Queued 1 j.entity 1 j.command) c.args.self.now c.args.out.now c.push_entry.new.out c.self.view_is (c.tell.ensures ∙ ap (λ f. c.self.inside.story.told ++ f ∷ []) same) (c.in_ok-push_entry.ensures.out ∙ ap (λ f. c.args.out.now ++ f ∷ []) same)
