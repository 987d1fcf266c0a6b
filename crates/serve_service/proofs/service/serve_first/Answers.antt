use Rattle.std.proofs.Common.{[], refl, sym, subst}
use Rattle.std.specs.Str.Lines.{lines}
use Rattle.disk_log.specs.Images.{LeavesOnly}
use Rattle.disk_log.specs.Rest.{HoldsPrefix}
use Rattle.disk_log.proofs.CommitLaws.{rests_hold}
use Rattle.log_orders.proofs.GatherLaws.{leaves_none}
use Rattle.serve_answers.specs.Told.{IsFirst}
use Rattle.serve_laws.specs.Served.{empty_desk, frames, grouped}
use Rattle.serve_service.proofs.TextLaws.{none_held}
use Rattle.serve_service.proofs.service.serve_first.Goals as goal

pub returns-in-Begins-clause-any_moment : goal.returns-in-Begins-clause-any_moment
returns-in-Begins-clause-any_moment g c told =
    let first = subst (IsFirst (lines c.args.group.now)) c.in-Begins.is c.in_ok-text.ensures.first in
    subst (λ d. LeavesOnly (g.D.Disk.images c.args.disk.now) (g.D.Disk.images c.begin.new.disk) (HoldsPrefix (frames d) 0)) (sym first.0) (c.begin.ensures.any_moment told)

pub returns-in_err-text-clause-any_moment : goal.returns-in_err-text-clause-any_moment
returns-in_err-text-clause-any_moment g c told =
    leaves_none _ (g.met.D.Disk.timed c.args.disk.now)
    (λ d now. none_held [] (frames (grouped empty_desk (lines c.args.group.now))) d refl (rests_hold _ _ _ _ [] c.requires.rests told d now))
