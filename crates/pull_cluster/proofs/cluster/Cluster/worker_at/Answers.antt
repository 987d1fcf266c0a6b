use Rattle.std.proofs.Common.{◌∙◌, ap}
use Rattle.std.specs.Prelude.{find, ◌==◌}
use Rattle.yard_model.specs.declared.incarnation.Incarnation.{Incarnation}
use Rattle.pull_laws.specs.Pulled.{members, worker_at}
use Rattle.pull_cluster.specs.Cluster.{Cluster}
use Rattle.pull_cluster.proofs.KeptLaws.{found_up}
use Rattle.pull_cluster.proofs.SeatLaws.{whos_are}
use Rattle.pull_cluster.proofs.cluster.Cluster.worker_at.Goals as goal

pub returns-clause-value : goal.returns-clause-value
returns-clause-value c = c.at.ensures ∙ (ap (find (λ (x : Incarnation). x.node == c.args.node)) (whos_are c.self.inside.story.told c.self.inside.board.seats c.self.invariant.seats_are) ∙ ap (λ (k : Cluster). worker_at c.args.node k.pulling.told) c.self.view_is)

pub returns-clause-up : goal.returns-clause-up
returns-clause-up c = found_up c.args.node (members c.args.self.now.pulling.told) c.at.result (c.at.ensures ∙ (ap (find (λ (x : Incarnation). x.node == c.args.node)) (whos_are c.self.inside.story.told c.self.inside.board.seats c.self.invariant.seats_are) ∙ ap (λ (k : Cluster). worker_at c.args.node k.pulling.told) c.self.view_is))
