use Rattle.std.proofs.Common.{subst, sym}
use Rattle.yard_model.specs.declared.charter.Order.TheVariants as order
use Rattle.yard_model.specs.Script.{with_pair}
use Rattle.script_text.specs.Drafts.{KeepsPairs}
use Rattle.script_text.proofs.Pairs.{pairs_same, pairs_more}
use Rattle.script_text.proofs.draft.add_order.Goals as goal

pub returns-in_ok-count-in-Send-clause-pairs : goal.returns-in_ok-count-in-Send-clause-pairs
returns-in_ok-count-in-Send-clause-pairs c known k =
    subst (λ o. KeepsPairs c.add.new.self c.pairs_after.result (with_pair known o)) (sym c.in-Send.is)
    (subst (λ n. KeepsPairs c.add.new.self n (with_pair known (order.Send c.in-Send.producer c.in-Send.entity c.in-Send.field-2))) (sym c.pairs_after.ensures)
    (pairs_more c.args.counts.now c.add.new.self c.args.pairs c.in_ok-count-in-Send.count known c.in-Send.producer c.in-Send.entity k c.in_ok-count-in-Send.ensures.counts c.in_ok-count-in-Send.ensures.count))

pub returns-in_ok-add_name-in-Passivate-clause-pairs : goal.returns-in_ok-add_name-in-Passivate-clause-pairs
returns-in_ok-add_name-in-Passivate-clause-pairs c known k =
    subst (λ o. KeepsPairs c.add_name.new.self c.args.pairs (with_pair known o)) (sym c.in-Passivate.is) (pairs_same c.args.counts.now c.add_name.new.self c.args.pairs known k c.in_ok-add_name-in-Passivate.ensures.counts)

pub returns-in_ok-add_name-in-FailWrite-clause-pairs : goal.returns-in_ok-add_name-in-FailWrite-clause-pairs
returns-in_ok-add_name-in-FailWrite-clause-pairs c known k =
    subst (λ o. KeepsPairs c.add_name-in-FailWrite.new.self c.args.pairs (with_pair known o)) (sym c.in-FailWrite.is)
    (pairs_same c.args.counts.now c.add_name-in-FailWrite.new.self c.args.pairs known k c.in_ok-add_name-in-FailWrite.ensures.counts)
