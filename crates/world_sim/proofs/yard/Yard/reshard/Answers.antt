use Rattle.std.proofs.Common.{sym, ◌∙◌}
use Rattle.world_sim.proofs.ReshardLaws.{not_resharded, is_resharded, neither}
use Rattle.world_sim.proofs.yard.Yard.reshard.Goals as goal

pub reshape-requires-clause-quiet : goal.reshape-requires-clause-quiet
reshape-requires-clause-quiet g c = (neither _ _ (sym c.keeps_shards.ensures ∙ c.if-keeps_shards.false)).0

pub reshape-requires-clause-other : goal.reshape-requires-clause-other
reshape-requires-clause-other g c = (neither _ _ (sym c.keeps_shards.ensures ∙ c.if-keeps_shards.false)).1

pub returns-then-keeps_shards : goal.returns-then-keeps_shards
returns-then-keeps_shards g c = not_resharded c.args.shards c.args.self.now c.push.result c.args.facts.now c.push.new.self (sym c.keeps_shards.ensures ∙ c.if-keeps_shards.true) c.push.ensures.ok c.push.ensures.err

pub returns : goal.returns
returns g c = is_resharded c.args.shards c.args.self.now c.reshape.new.self c.reshape.result c.args.facts.now c.reshape.new.facts (sym c.keeps_shards.ensures ∙ c.if-keeps_shards.false) c.reshape.ensures
