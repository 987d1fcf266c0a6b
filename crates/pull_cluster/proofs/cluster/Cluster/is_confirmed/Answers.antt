use Rattle.std.proofs.Common.{◌∙◌, ◌<◌, sym, ap, subst, length}
use Rattle.pull_laws.specs.Pulled.{jobs, is_confirmed}
use Rattle.pull_cluster.specs.Cluster.{Cluster, name_at}
use Rattle.pull_cluster.specs.Kept.{is_closed_state}
use Rattle.pull_cluster.proofs.StateLaws.{closed_is, state_is, states_long}
use Rattle.pull_cluster.proofs.KeptLaws.{job_here}
use Rattle.pull_cluster.proofs.cluster.Cluster.is_confirmed.Goals as goal

pub state-requires : goal.state-requires
state-requires c = subst (λ n. c.args.job < n) (sym (states_long c.self.inside.charter c.self.inside.story.told c.self.inside.board.states c.self.invariant.states_are)) (job_here c.self.inside.charter c.self.inside.story.told c.self.inside.queue c.self.inside.sent c.args.job c.self.invariant.queue_is (subst (λ (k : Cluster). c.args.job < length (jobs k.pulling.told)) (sym c.self.view_is) c.requires))

pub returns : goal.returns
returns c = c.is_closed.ensures ∙ (ap is_closed_state (c.state.ensures ∙ state_is c.self.inside.charter c.self.inside.story.told c.self.inside.board.states c.args.job c.self.invariant.states_are (job_here c.self.inside.charter c.self.inside.story.told c.self.inside.queue c.self.inside.sent c.args.job c.self.invariant.queue_is (subst (λ (k : Cluster). c.args.job < length (jobs k.pulling.told)) (sym c.self.view_is) c.requires))) ∙ (closed_is c.self.inside.charter c.self.inside.story.told c.self.inside.board.states c.self.invariant.states_are (name_at c.self.inside.charter c.args.job) ∙ ap (λ (k : Cluster). is_confirmed (name_at k.script c.args.job) k.pulling.told) c.self.view_is))
