use Rattle.std.proofs.Common.{◌∙◌, ap}
use Rattle.yard_model.specs.Words.{is_among}
use Rattle.pull_laws.specs.Pulled.{members}
use Rattle.pull_cluster.specs.Cluster.{Cluster}
use Rattle.pull_cluster.proofs.SeatLaws.{whos_are}
use Rattle.pull_cluster.proofs.cluster.Cluster.is_up.Goals as goal

pub returns : goal.returns
returns c = c.is_up.ensures ∙ (ap (is_among c.args.who.now) (whos_are c.self.inside.story.told c.self.inside.board.seats c.self.invariant.seats_are) ∙ ap (λ (k : Cluster). is_among c.args.who.now (members k.pulling.told)) c.self.view_is)
