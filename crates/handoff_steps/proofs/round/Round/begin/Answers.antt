use Rattle.std.proofs.Common.{ap, ◌∙◌, map}
use Rattle.handoff_steps.specs.Places.{moving_from}
use Rattle.handoff_steps.specs.Seen.{seen}
use Rattle.handoff_steps.proofs.PlaceLaws.{begun, home_some}
use Rattle.handoff_steps.proofs.round.Round.begin.Goals as goal

pub returns-clause-moving : goal.returns-clause-moving
returns-clause-moving c =
    ap (λ rs. moving_from 0 (map (seen rs) c.cells_of.result)) c.regions_of.ensures ∙ (ap (moving_from 0) c.cells_of.ensures ∙ begun c.args.picks c.args.loads.now (λ s low h. home_some s c.args.loads.now (c.requires.homes s low h)))
