use Rattle.std.proofs.Common.{List, ◌∙◌, ap, sym, ◌==◌, map}
use Rattle.std.specs.Prelude.{find}
use Rattle.yard_model.specs.declared.incarnation.Incarnation.{Incarnation}
use Rattle.job_board.specs.Boards.{Board, whos}
use Rattle.job_board.specs.declared.worker.Worker.{Worker}
use Rattle.job_board.proofs.BoardLaws.{seats_whos}
use Rattle.job_board.proofs.board.Board.at.Goals as goal

pub returns : goal.returns
returns c =
    c.worker_at.ensures
    ∙ (ap (λ (ws : List Worker). find (λ (x : Incarnation). x.node == c.args.node) (map (λ (w : Worker). w.who) ws)) c.as_slice.ensures.value
    ∙ (ap (find (λ (x : Incarnation). x.node == c.args.node)) (sym (seats_whos c.self.inside.workers.items)) ∙ ap (λ (b : Board). find (λ (x : Incarnation). x.node == c.args.node) (whos b.seats)) c.self.view_is))
