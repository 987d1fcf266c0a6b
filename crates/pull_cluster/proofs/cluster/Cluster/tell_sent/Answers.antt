use Rattle.std.proofs.Common.{rules, ◌≡◌, ◌∙◌, ◌<◌, ℕ, ◌+◌, sym, ap, subst, [], ◌∷◌, ◌++◌, List}
use Rattle.std.specs.Prelude.{true}
use Rattle.yard_model.specs.declared.fact.Fact.{Fact}
use Rattle.yard_model.specs.declared.fact.Fact.TheVariants as fact
use Rattle.pull_cluster.specs.Cluster.{Cluster}
use Rattle.pull_cluster.specs.Kept.{IsKept}
use Rattle.yard_model.specs.Lawful.{is_held}
use Rattle.pull_laws.specs.Pulled.{is_running, waiting}
use Rattle.pull_laws.specs.Next.{IsNextSend}
use Rattle.pull_cluster.proofs.QueueLaws.{queued_reserved}
use Rattle.pull_cluster.proofs.StateLaws.{states_long}
use Rattle.pull_cluster.proofs.KeptLaws.{kept_reserved, kept_sent, all_sent, sent_here, sent_fits, queue_left, next_unqueued, told_leads}
use Rattle.pull_cluster.proofs.cluster.Cluster.tell_sent.Goals as goal

pub queue-requires-clause-leased : goal.queue-requires-clause-leased
queue-requires-clause-leased c = ap is_held (c.push_entry.ensures.entries ∙ c.self.invariant.queue_is.entries_are) ∙ subst (λ (k : Cluster). is_running k.pulling.told ≡ true) (sym c.self.view_is) c.requires.runs

pub queue-requires-clause-charter : goal.queue-requires-clause-charter
queue-requires-clause-charter c = sym (c.push_entry.ensures.script ∙ c.self.invariant.queue_is.script_is)

pub queue-requires-clause-left : goal.queue-requires-clause-left
queue-requires-clause-left c = queue_left c.self.inside.charter c.self.inside.story.told c.push_entry.new.queue c.self.inside.sent (queued_reserved c.self.inside.charter c.self.inside.story.told c.self.inside.queue c.push_entry.new.queue c.self.inside.sent c.push_entry.ensures.script c.push_entry.ensures.producer c.push_entry.ensures.entries c.self.invariant.queue_is) (sent_here c.self.inside.charter c.self.inside.story.told c.self.inside.queue c.self.inside.sent c.args.entity c.args.command c.self.invariant.queue_is (subst (λ (k : Cluster). waiting k.pulling.told ≡ []) (sym c.self.view_is) c.requires.none) (subst (λ (k : Cluster). IsNextSend k.script k.pulling.told c.args.entity c.args.command) (sym c.self.view_is) c.requires.next)).0

pub queue-requires-2-clause-within : goal.queue-requires-2-clause-within
queue-requires-2-clause-within c = subst (λ n. c.self.inside.sent < n) (sym (states_long c.self.inside.charter c.self.inside.story.told c.self.inside.board.states c.self.invariant.states_are)) (sent_here c.self.inside.charter c.self.inside.story.told c.self.inside.queue c.self.inside.sent c.args.entity c.args.command c.self.invariant.queue_is (subst (λ (k : Cluster). waiting k.pulling.told ≡ []) (sym c.self.view_is) c.requires.none) (subst (λ (k : Cluster). IsNextSend k.script k.pulling.told c.args.entity c.args.command) (sym c.self.view_is) c.requires.next)).1

pub queue-requires-2-clause-first : goal.queue-requires-2-clause-first
queue-requires-2-clause-first c = next_unqueued c.self.inside.charter c.self.inside.story.told c.self.inside.queue c.self.inside.sent c.self.inside.board.states c.self.inside.sent c.self.invariant.pulled_is c.self.invariant.queue_is c.self.invariant.states_are (sym (all_sent c.self.inside.charter c.self.inside.story.told c.self.inside.queue c.self.inside.sent (subst (λ (k : Cluster). waiting k.pulling.told ≡ []) (sym c.self.view_is) c.requires.none) c.self.invariant.queue_is)) (sent_here c.self.inside.charter c.self.inside.story.told c.self.inside.queue c.self.inside.sent c.args.entity c.args.command c.self.invariant.queue_is (subst (λ (k : Cluster). waiting k.pulling.told ≡ []) (sym c.self.view_is) c.requires.none) (subst (λ (k : Cluster). IsNextSend k.script k.pulling.told c.args.entity c.args.command) (sym c.self.view_is) c.requires.next)).1

pub overflow_add-self : goal.overflow_add-self
overflow_add-self c = let few : c.self.inside.sent + 1 < 18446744073709551616 = sent_fits c.self.inside.charter c.self.inside.story.told c.self.inside.queue c.self.inside.sent c.args.entity c.args.command c.self.invariant.pulled_is c.self.invariant.queue_is (subst (λ (k : Cluster). IsNextSend k.script k.pulling.told c.args.entity c.args.command) (sym c.self.view_is) c.requires.next) in search (rules, few)

pub invariant_of-self : goal.invariant_of-self
invariant_of-self c = kept_reserved c.self.inside.charter c.self.inside.producer c.self.inside.story.told c.self.inside.queue c.push_entry.new.queue c.self.inside.sent c.self.inside.board c.self.inside.doers c.self.inside.numbers c.self.inside.parcels c.push_entry.ensures.script c.push_entry.ensures.producer c.push_entry.ensures.entries c.self.invariant

pub invariant_of-self-2 : goal.invariant_of-self-2
invariant_of-self-2 c =
    subst (λ (t : List Fact). IsKept c.self.inside.charter c.self.inside.producer t c.queue.new.self (c.self.inside.sent + 1) c.queue-2.new.self c.self.inside.doers c.self.inside.numbers c.self.inside.parcels) (sym c.tell.ensures)
    (kept_sent c.self.inside.charter c.self.inside.producer c.self.inside.story.told c.push_entry.new.queue c.queue.new.self c.self.inside.sent c.self.inside.board c.queue-2.new.self c.self.inside.doers c.self.inside.numbers c.self.inside.parcels c.args.entity c.args.command c.queue.result (subst (λ (k : Cluster). waiting k.pulling.told ≡ []) (sym c.self.view_is) c.requires.none) (subst (λ (k : Cluster). IsNextSend k.script k.pulling.told c.args.entity c.args.command) (sym c.self.view_is) c.requires.next) c.queue.ensures.next
    c.queue.ensures.script c.queue.ensures.producer c.queue.ensures.entries c.queue-2.ensures
    (kept_reserved c.self.inside.charter c.self.inside.producer c.self.inside.story.told c.self.inside.queue c.push_entry.new.queue c.self.inside.sent c.self.inside.board c.self.inside.doers c.self.inside.numbers c.self.inside.parcels c.push_entry.ensures.script c.push_entry.ensures.producer c.push_entry.ensures.entries c.self.invariant))

pub returns : goal.returns
returns c =
    let with_producer : ℕ → Fact = λ p. fact.Queued p c.args.entity 1 c.args.command in
    let same : with_producer c.self.inside.producer ≡ fact.Queued 1 c.args.entity 1 c.args.command = ap with_producer c.self.invariant.first_is in
    told_leads c.self.inside.charter c.self.inside.story.told c.tell.new.self.told c.self.inside.full (fact.Queued 1 c.args.entity 1 c.args.command) c.args.self.now c.args.out.now c.push_entry.new.out c.self.view_is (c.tell.ensures ∙ ap (λ f. c.self.inside.story.told ++ f ∷ []) same) (c.in_ok-push_entry.ensures.out ∙ ap (λ f. c.args.out.now ++ f ∷ []) same)
