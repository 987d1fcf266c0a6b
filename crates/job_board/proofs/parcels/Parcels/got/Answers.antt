use Rattle.std.proofs.Common.{◌∙◌, ap, length}
use Rattle.std.specs.Prelude.{◌==◌, not, filter}
use Rattle.job_board.specs.Parcels.{Parcels}
use Rattle.job_board.proofs.FreshLaws.{fresh_got}
use Rattle.job_board.proofs.parcels.Parcels.got.Goals as goal

pub returns-clause-fresh : goal.returns-clause-fresh
returns-clause-fresh c =
    fresh_got c.self.inside.fresh c.remove.new.self (length c.self.inside.posted.items) c.args.number c.requires.above c.remove.ensures.it c.remove.ensures.others
    ∙ ap (λ (p : Parcels). filter (λ j. not (j == c.args.number)) p.fresh) c.self.view_is
