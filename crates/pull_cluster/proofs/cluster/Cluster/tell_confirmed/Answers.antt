use Rattle.std.proofs.Common.{◌≡◌, ◌∙◌, ◌<◌, ◌≤◌, ℕ, sym, ap, subst, length, [], ◌∷◌, ◌++◌, List}
use Rattle.std.specs.Prelude.{true, false}
use Rattle.yard_model.specs.declared.fact.Fact.{Fact}
use Rattle.yard_model.specs.declared.fact.Fact.TheVariants as fact
use Rattle.pull_cluster.specs.Cluster.{Cluster}
use Rattle.pull_cluster.specs.Kept.{IsKept}
use Rattle.yard_model.specs.SlotReads.{confirmed, queued}
use Rattle.yard_model.specs.Lawful.{is_held}
use Rattle.pull_laws.specs.Pulled.{is_running, jobs}
use Rattle.pull_laws.specs.Pulled.{is_confirmed}
use Rattle.pull_cluster.specs.Cluster.{name_at}
use Rattle.pull_cluster.proofs.QueueLaws.{queued_reserved}
use Rattle.pull_cluster.proofs.StateLaws.{states_long}
use Rattle.pull_cluster.proofs.KeptLaws.{kept_reserved, kept_confirmed, confirm_words, job_here, told_leads}
use Rattle.pull_cluster.proofs.cluster.Cluster.tell_confirmed.Goals as goal

pub confirm-requires-clause-leased : goal.confirm-requires-clause-leased
confirm-requires-clause-leased c = ap is_held (c.push_entry.ensures.entries ∙ c.self.invariant.queue_is.entries_are) ∙ subst (λ (k : Cluster). is_running k.pulling.told ≡ true) (sym c.self.view_is) c.requires.runs

pub confirm-requires-clause-queued : goal.confirm-requires-clause-queued
confirm-requires-clause-queued c = subst (λ n. 1 ≤ queued n c.push_entry.new.queue.entries) (sym (c.name-name.ensures.value ∙ ap (λ (k : Cluster). name_at k.script c.args.job) (sym c.self.view_is))) (confirm_words c.self.inside.charter c.self.inside.story.told c.push_entry.new.queue c.self.inside.sent c.args.job (queued_reserved c.self.inside.charter c.self.inside.story.told c.self.inside.queue c.push_entry.new.queue c.self.inside.sent c.push_entry.ensures.script c.push_entry.ensures.producer c.push_entry.ensures.entries c.self.invariant.queue_is) (subst (λ (k : Cluster). c.args.job < length (jobs k.pulling.told)) (sym c.self.view_is) c.requires.queued) (subst (λ (k : Cluster). is_confirmed (name_at k.script c.args.job) k.pulling.told ≡ false) (sym c.self.view_is) c.requires.once)).0

pub confirm-requires-clause-above : goal.confirm-requires-clause-above
confirm-requires-clause-above c = subst (λ n. confirmed n c.push_entry.new.queue.entries < 1) (sym (c.name-name.ensures.value ∙ ap (λ (k : Cluster). name_at k.script c.args.job) (sym c.self.view_is))) (confirm_words c.self.inside.charter c.self.inside.story.told c.push_entry.new.queue c.self.inside.sent c.args.job (queued_reserved c.self.inside.charter c.self.inside.story.told c.self.inside.queue c.push_entry.new.queue c.self.inside.sent c.push_entry.ensures.script c.push_entry.ensures.producer c.push_entry.ensures.entries c.self.invariant.queue_is) (subst (λ (k : Cluster). c.args.job < length (jobs k.pulling.told)) (sym c.self.view_is) c.requires.queued) (subst (λ (k : Cluster). is_confirmed (name_at k.script c.args.job) k.pulling.told ≡ false) (sym c.self.view_is) c.requires.once)).1

pub confirm-requires-2 : goal.confirm-requires-2
confirm-requires-2 c = subst (λ n. c.args.job < n) (sym (states_long c.self.inside.charter c.self.inside.story.told c.self.inside.board.states c.self.invariant.states_are)) (job_here c.self.inside.charter c.self.inside.story.told c.self.inside.queue c.self.inside.sent c.args.job c.self.invariant.queue_is (subst (λ (k : Cluster). c.args.job < length (jobs k.pulling.told)) (sym c.self.view_is) c.requires.queued))

pub invariant_of-self : goal.invariant_of-self
invariant_of-self c = kept_reserved c.self.inside.charter c.self.inside.producer c.self.inside.story.told c.self.inside.queue c.push_entry.new.queue c.self.inside.sent c.self.inside.board c.self.inside.doers c.self.inside.numbers c.self.inside.parcels c.push_entry.ensures.script c.push_entry.ensures.producer c.push_entry.ensures.entries c.self.invariant

pub invariant_of-self-2 : goal.invariant_of-self-2
invariant_of-self-2 c = subst (λ (t : List Fact). IsKept c.self.inside.charter c.self.inside.producer t c.confirm.new.self c.self.inside.sent c.confirm-2.new.self c.self.inside.doers c.self.inside.numbers c.self.inside.parcels) (sym (c.tell.ensures ∙ ap (λ n. c.self.inside.story.told ++ fact.Confirmed c.self.inside.producer n 1 ∷ []) (c.name-name.ensures.value ∙ ap (λ (k : Cluster). name_at k.script c.args.job) (sym c.self.view_is))))
    (kept_confirmed c.self.inside.charter c.self.inside.producer c.self.inside.story.told c.push_entry.new.queue c.confirm.new.self c.self.inside.sent c.self.inside.board c.confirm-2.new.self c.self.inside.doers c.self.inside.numbers c.self.inside.parcels c.args.job (subst (λ (k : Cluster). c.args.job < length (jobs k.pulling.told)) (sym c.self.view_is) c.requires.queued)
    c.confirm.ensures.script c.confirm.ensures.producer (c.confirm.ensures.entries ∙ ap (λ n. c.push_entry.new.queue.entries ++ fact.Confirmed c.push_entry.new.queue.producer n 1 ∷ []) (c.name-name.ensures.value ∙ ap (λ (k : Cluster). name_at k.script c.args.job) (sym c.self.view_is))) c.confirm-2.ensures
    (kept_reserved c.self.inside.charter c.self.inside.producer c.self.inside.story.told c.self.inside.queue c.push_entry.new.queue c.self.inside.sent c.self.inside.board c.self.inside.doers c.self.inside.numbers c.self.inside.parcels c.push_entry.ensures.script c.push_entry.ensures.producer c.push_entry.ensures.entries c.self.invariant))

pub returns : goal.returns
returns c =
    let with_name : List ℕ → Fact = λ n. fact.Confirmed 1 n 1 in
    let with_producer : ℕ → Fact = λ p. fact.Confirmed p c.name-name.result 1 in
    let same : with_producer c.self.inside.producer ≡ with_name (name_at c.args.self.now.script c.args.job) = ap with_producer c.self.invariant.first_is ∙ ap with_name c.name-name.ensures.value in
    told_leads c.self.inside.charter c.self.inside.story.told c.tell.new.self.told c.self.inside.full (with_name (name_at c.args.self.now.script c.args.job)) c.args.self.now c.args.out.now c.push_entry.new.out c.self.view_is (c.tell.ensures ∙ ap (λ f. c.self.inside.story.told ++ f ∷ []) same) (c.in_ok-push_entry.ensures.out ∙ ap (λ f. c.args.out.now ++ f ∷ []) same)
