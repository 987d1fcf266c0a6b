use Rattle.std.proofs.Common.{sym, ◌∙◌}
use Rattle.world_sim.proofs.ReshardLaws.{not_upgraded, is_upgraded}
use Rattle.world_sim.proofs.yard.Yard.upgrade.Goals as goal

pub returns-then-keeps_version : goal.returns-then-keeps_version
returns-then-keeps_version g c = not_upgraded c.args.self.now c.keeps_version.result c.push.result c.args.facts.now c.push.new.self c.keeps_version.ensures c.if-keeps_version.true c.push.ensures.ok c.push.ensures.err

pub returns : goal.returns
returns g c = is_upgraded c.args.self.now c.go_over.new.self c.go_over.result c.args.facts.now c.go_over.new.facts (sym c.keeps_version.ensures ∙ c.if-keeps_version.false) c.go_over.ensures
