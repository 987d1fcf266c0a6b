use Rattle.std.proofs.Common.{◌∙◌, ap}
use Rattle.std.specs.Prelude.{find}
use Rattle.std.specs.Option.{option_map}
use Rattle.yard_model.specs.declared.charter.Config.{Config}
use Rattle.job_board.specs.Boards.{Seat, is_ready}
use Rattle.pull_laws.specs.Pulled.{first_ready}
use Rattle.pull_cluster.specs.Cluster.{Cluster}
use Rattle.pull_cluster.proofs.SeatLaws.{ready_is}
use Rattle.pull_cluster.proofs.cluster.Cluster.first_ready.Goals as goal

pub returns : goal.returns
returns c = c.first_ready.ensures ∙ (ap (λ n. option_map (λ (s : Seat). s.who) (find (is_ready n c.self.inside.board.states) c.self.inside.board.seats)) (ap (λ (g : Config). g.window) c.config.ensures.value) ∙ (ready_is c.self.inside.charter c.self.inside.story.told c.self.inside.queue c.self.inside.sent c.self.inside.board.states c.self.inside.board.seats c.self.inside.charter.config.window c.self.invariant.pulled_is c.self.invariant.queue_is c.self.invariant.states_are c.self.invariant.seats_are ∙ ap (λ (k : Cluster). first_ready k.pulling.window k.pulling.told) c.self.view_is))
