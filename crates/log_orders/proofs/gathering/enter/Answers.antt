use Rattle.std.proofs.Common.{◌≡◌, true, false, sym, ◌∙◌}
use Rattle.log_orders.proofs.GatherLaws.{one_entry, one_other}
use Rattle.log_orders.proofs.gathering.enter.Goals as goal

pub returns-then-not-belongs-clause-ok : goal.returns-then-not-belongs-clause-ok
returns-then-not-belongs-clause-ok c = one_other c.args.batch.now c.args.fact.now (sym c.belongs.ensures ∙ c.if-not-belongs.true)

pub returns-clause-ok : goal.returns-clause-ok
returns-clause-ok c = one_entry c.args.batch.now c.push.new.self c.args.fact.now (sym c.belongs.ensures ∙ c.if-not-belongs.false) (sym c.is_entry.ensures ∙ c.if-not-is_entry.false) c.in_ok-push.ensures.ok
