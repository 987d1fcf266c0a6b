use Rattle.producer_ctl.proofs.NamedLaws.{lent, lent_script, named_below, named_shard}
use Rattle.producer_ctl.proofs.names.Names.shard.Goals as goal

pub returns-clause-shard : goal.returns-clause-shard
returns-clause-shard c = named_shard c.args.at c.index.result.now (lent c.deref-kept.ensures c.self.invariant) (lent_script c.deref-kept.ensures c.self.view_is) c.requires c.index.ensures

pub returns-clause-range : goal.returns-clause-range
returns-clause-range c = named_below c.args.at c.index.result.now (lent c.deref-kept.ensures c.self.invariant) (lent_script c.deref-kept.ensures c.self.view_is) c.requires c.index.ensures
