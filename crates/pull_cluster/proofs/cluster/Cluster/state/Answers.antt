use Rattle.std.proofs.Common.{◌≡◌, ◌∙◌, ◌<◌, sym, ap, subst, length}
use Rattle.std.specs.Prelude.{true}
use Rattle.pull_laws.specs.Pulled.{jobs, is_queued}
use Rattle.pull_cluster.specs.Cluster.{Cluster, name_at}
use Rattle.pull_cluster.specs.Kept.{state_of}
use Rattle.pull_cluster.proofs.QueueLaws.{queued_below}
use Rattle.pull_cluster.proofs.StateLaws.{state_is, states_long}
use Rattle.pull_cluster.proofs.KeptLaws.{job_here}
use Rattle.pull_cluster.proofs.cluster.Cluster.state.Goals as goal

pub state-requires : goal.state-requires
state-requires c = subst (λ n. c.args.job < n) (sym (states_long c.self.inside.charter c.self.inside.story.told c.self.inside.board.states c.self.invariant.states_are)) (job_here c.self.inside.charter c.self.inside.story.told c.self.inside.queue c.self.inside.sent c.args.job c.self.invariant.queue_is (subst (λ (k : Cluster). c.args.job < length (jobs k.pulling.told)) (sym c.self.view_is) c.requires))

pub returns-clause-value : goal.returns-clause-value
returns-clause-value c = c.state.ensures ∙ (state_is c.self.inside.charter c.self.inside.story.told c.self.inside.board.states c.args.job c.self.invariant.states_are (job_here c.self.inside.charter c.self.inside.story.told c.self.inside.queue c.self.inside.sent c.args.job c.self.invariant.queue_is (subst (λ (k : Cluster). c.args.job < length (jobs k.pulling.told)) (sym c.self.view_is) c.requires)) ∙ ap (λ (k : Cluster). state_of k.pulling.told (name_at k.script c.args.job)) c.self.view_is)

pub returns-clause-queued : goal.returns-clause-queued
returns-clause-queued c = subst (λ (k : Cluster). is_queued (name_at k.script c.args.job) k.pulling.told ≡ true) c.self.view_is (queued_below c.self.inside.charter c.self.inside.story.told c.self.inside.queue c.self.inside.sent c.self.invariant.queue_is c.args.job (subst (λ (k : Cluster). c.args.job < length (jobs k.pulling.told)) (sym c.self.view_is) c.requires))
