use Rattle.std.proofs.Common.{subst}
use Rattle.std.specs.Prelude.{IfSome}
use Rattle.world_sim.specs.Yard.{MayGive}
use Rattle.world_sim.proofs.GiveLaws.{asked_some, asked_none}
use Rattle.world_sim.proofs.yard.Yard.ask.Goals as goal

pub give-requires : goal.give-requires
give-requires g c = (c.requires.0, subst (λ to. IfSome to (λ n. MayGive c.args.input.now n c.args.self.now c.requires.0)) c.in-Some.is c.requires.1.may)

pub returns-in-Some : goal.returns-in-Some
returns-in-Some g c = asked_some c.args.input.now c.args.to c.in-Some.n c.give.result c.args.self.now c.give.new.self c.args.facts.now c.give.new.facts c.in-Some.is c.give.ensures.stepped

pub returns-in-None : goal.returns-in-None
returns-in-None g c = asked_none c.args.input.now c.args.to c.push.result c.args.self.now c.args.facts.now c.push.new.self c.in-None.is c.push.ensures.ok c.push.ensures.err
