use Rattle.std.proofs.Common.{List, ap, sym, ◌∙◌}
use Rattle.yard_model.specs.Words.{is_among}
use Rattle.job_board.specs.Boards.{Board, whos}
use Rattle.job_board.specs.declared.worker.Worker.{Worker}
use Rattle.job_board.proofs.BoardLaws.{up_is, all_who, seats_whos}
use Rattle.job_board.proofs.board.Board.is_up.Goals as goal

pub returns : goal.returns
returns c =
    c.is_some.ensures
    ∙ (up_is c.place_of.result c.args.who.now c.as_slice.result.now c.place_of.ensures.there c.place_of.ensures.it c.place_of.ensures.none
    ∙ (ap (λ (ws : List Worker). is_among c.args.who.now (all_who ws)) c.as_slice.ensures.value
    ∙ (ap (is_among c.args.who.now) (sym (seats_whos c.self.inside.workers.items)) ∙ ap (λ (b : Board). is_among c.args.who.now (whos b.seats)) c.self.view_is)))
