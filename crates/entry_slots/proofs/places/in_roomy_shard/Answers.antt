use Rattle.std.proofs.Common.{sym, subst}
use Rattle.entry_judge.specs.Entered.{EntersShard}
use Rattle.entry_slots.proofs.places.in_roomy_shard.Goals as goal

pub returns-in-Wrote : goal.returns-in-Wrote
returns-in-Wrote c = subst (λ f. EntersShard c.args.store.now f c.enter_record.result c.enter_record.new.store) (sym c.in-Wrote.is) c.enter_record.ensures
