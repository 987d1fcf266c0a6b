use Rattle.std.proofs.Common.{ap, ◌∙◌}
use Rattle.lease_table.proofs.Taken.{announced_ok}
use Rattle.lease_table.specs.Leasing.{Pass}
use Rattle.yard_model.specs.Words.{at}
use Rattle.lease_table.proofs.table.LeaseTable.publish_at.Goals as goal

pub invariant_of-pass : goal.invariant_of-pass
invariant_of-pass c =
    let s = c.requires.store in
    announced_ok _ _ _ _ _ c.args.slot s.old _ c.pass.invariant c.announce.ensures.told (ap (λ (p : Pass). at p.view.held c.args.slot) c.pass.view_is ∙ s.held)
