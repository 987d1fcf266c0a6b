use Rattle.std.proofs.Common.{List, ◌∙◌, ap}
use Rattle.std.specs.Prelude.{find, ◌&&◌, nat_lt}
use Rattle.std.specs.Option.{option_map}
use Rattle.job_board.specs.Boards.{Board, Seat, is_ready}
use Rattle.job_board.specs.declared.worker.Worker.{Worker}
use Rattle.job_board.proofs.BoardLaws.{ready_found}
use Rattle.job_board.proofs.board.Board.first_ready.Goals as goal

pub returns : goal.returns
returns c =
    c.first_ready_of.ensures
    ∙ (ap (λ (ws : List Worker). option_map (λ (w : Worker). w.who) (find (λ (w : Worker). w.asked && nat_lt w.load c.args.window) ws)) c.as_slice.ensures.value
    ∙ (ready_found c.self.inside.states.items c.args.window c.self.inside.workers.items c.self.invariant.workers_are
    ∙ ap (λ (b : Board). option_map (λ (s : Seat). s.who) (find (is_ready c.args.window b.states) b.seats)) c.self.view_is))
