use Rattle.std.proofs.Common.{◌-◌, arith}
use Rattle.yard_model.specs.declared.charter.Order.TheVariants as order
use Rattle.world_sim.specs.Yard.{IsSoundTo, IsBacked, Delivers, Settles}
use Rattle.world_sim.proofs.DeliveryLaws.{play_as, play_to, plays_as, ping_stepped, delivers_backed, settles_backed}
use Rattle.world_sim.proofs.yard.Yard.play.Goals as goal

pub returns-in-Up : goal.returns-in-Up
returns-in-Up g c = play_as 1 c.args.order.now (order.Up c.in-Up.n) c.up.result c.args.self.now c.up.new.self c.args.facts.now c.up.new.facts c.in-Up.is (omega arith) c.up.ensures

pub returns-in-Crash : goal.returns-in-Crash
returns-in-Crash g c = play_as 1 c.args.order.now (order.Crash c.in-Crash.n) c.crash.result c.args.self.now c.crash.new.self c.args.facts.now c.crash.new.facts c.in-Crash.is (omega arith) c.crash.ensures

pub returns-in-Deliver : goal.returns-in-Deliver
returns-in-Deliver g c = play_to (IsSoundTo (Delivers c.in-Deliver.number)) 0 c.args.order.now (order.Deliver c.in-Deliver.number) c.deliver.result c.args.self.now c.deliver.new.self c.args.facts.now c.deliver.new.facts c.in-Deliver.is (omega arith) (delivers_backed c.in-Deliver.number c.args.self.now) c.deliver.ensures

pub returns-in-Pump : goal.returns-in-Pump
returns-in-Pump g c = play_to IsBacked 0 c.args.order.now (order.Pump c.in-Pump.n) c.pump.result c.args.self.now c.pump.new.self c.args.facts.now c.pump.new.facts c.in-Pump.is (omega arith) (λ w f. f) c.pump.ensures

pub returns-in-Leave : goal.returns-in-Leave
returns-in-Leave g c = play_as 0 c.args.order.now (order.Leave c.in-Leave.n) c.leave.result c.args.self.now c.leave.new.self c.args.facts.now c.leave.new.facts c.in-Leave.is (omega arith) c.leave.ensures

pub returns-in-Tick : goal.returns-in-Tick
returns-in-Tick g c = play_as 0 c.args.order.now (order.Tick c.in-Tick.n) c.tick.result c.args.self.now c.tick.new.self c.args.facts.now c.tick.new.facts c.in-Tick.is (omega arith) c.tick.ensures

pub returns-in-Produce : goal.returns-in-Produce
returns-in-Produce g c = play_as 0 c.args.order.now (order.Produce c.in-Produce.p c.in-Produce.n) c.produce.result c.args.self.now c.produce.new.self c.args.facts.now c.produce.new.facts c.in-Produce.is (omega arith) c.produce.ensures

pub returns-in-Rest : goal.returns-in-Rest
returns-in-Rest g c = play_as 0 c.args.order.now (order.Rest c.in-Rest.p) c.rest.result c.args.self.now c.rest.new.self c.args.facts.now c.rest.new.facts c.in-Rest.is (omega arith) c.rest.ensures

pub returns-in-Send : goal.returns-in-Send
returns-in-Send g c = play_as 0 c.args.order.now (order.Send c.in-Send.p c.in-Send.entity c.in-Send.command) c.send.result c.args.self.now c.send.new.self c.args.facts.now c.send.new.facts c.in-Send.is (omega arith) c.send.ensures

pub returns-in-Passivate : goal.returns-in-Passivate
returns-in-Passivate g c = play_as 0 c.args.order.now (order.Passivate c.in-Passivate.entity) c.passivate.result c.args.self.now c.passivate.new.self c.args.facts.now c.passivate.new.facts c.in-Passivate.is (omega arith) c.passivate.ensures

pub returns-in-FailWrite : goal.returns-in-FailWrite
returns-in-FailWrite g c = play_as 0 c.args.order.now (order.FailWrite c.in-FailWrite.entity c.in-FailWrite.keep) c.fail_write.result c.args.self.now c.fail_write.new.self c.args.facts.now c.fail_write.new.facts c.in-FailWrite.is (omega arith) c.fail_write.ensures

pub returns-in-Rebalance : goal.returns-in-Rebalance
returns-in-Rebalance g c = play_as 0 c.args.order.now (order.Rebalance c.in-Rebalance.most) c.rebalance.result c.args.self.now c.rebalance.new.self c.args.facts.now c.rebalance.new.facts c.in-Rebalance.is (omega arith) c.rebalance.ensures

pub returns-in-Ping : goal.returns-in-Ping
returns-in-Ping g c = ping_stepped c.args.order.now c.in-Ping.field-0 c.push.result c.args.self.now c.args.facts.now c.push.new.self c.in-Ping.is c.push.ensures.ok c.push.ensures.err

pub returns-in-Settle : goal.returns-in-Settle
returns-in-Settle g c = play_to (IsSoundTo Settles) 18 c.args.order.now order.Settle c.settle.result c.args.self.now c.settle.new.self c.args.facts.now c.settle.new.facts c.in-Settle.is (omega arith) (settles_backed c.standing_is_kept.ensures c.args.self.now) c.settle.ensures

pub returns-in-Upgrade : goal.returns-in-Upgrade
returns-in-Upgrade g c = play_as 0 c.args.order.now order.Upgrade c.upgrade.result c.args.self.now c.upgrade.new.self c.args.facts.now c.upgrade.new.facts c.in-Upgrade.is (omega arith) c.upgrade.ensures

pub returns-in-Reshard : goal.returns-in-Reshard
returns-in-Reshard g c = plays_as 0 c.args.order.now (order.Reshard c.in-Reshard.n) c.reshard.result c.args.self.now c.reshard.new.self c.args.facts.now c.reshard.new.facts c.in-Reshard.is (omega arith) c.reshard.ensures

pub up-requires-clause-ups : goal.up-requires-clause-ups
up-requires-clause-ups g c = let h = c.requires.ups (c.in-Up.n - 1) in omega (arith, h)

pub up-requires-clause-version : goal.up-requires-clause-version
up-requires-clause-version g c = let h = c.requires.version in omega (arith, h)

pub crash-requires-clause-version : goal.crash-requires-clause-version
crash-requires-clause-version g c = let h = c.requires.version in omega (arith, h)

pub up-requires-clause-world : goal.up-requires-clause-world
up-requires-clause-world g c = (c.requires.world.0, c.requires.world.1.sound)

pub crash-requires-clause-world : goal.crash-requires-clause-world
crash-requires-clause-world g c = (c.requires.world.0, c.requires.world.1.sound)

pub leave-requires-clause-world : goal.leave-requires-clause-world
leave-requires-clause-world g c = (c.requires.world.0, c.requires.world.1.sound)

pub tick-requires-clause-world : goal.tick-requires-clause-world
tick-requires-clause-world g c = (c.requires.world.0, c.requires.world.1.sound)

pub produce-requires-clause-world : goal.produce-requires-clause-world
produce-requires-clause-world g c = (c.requires.world.0, c.requires.world.1.sound)

pub rest-requires-clause-world : goal.rest-requires-clause-world
rest-requires-clause-world g c = (c.requires.world.0, c.requires.world.1.sound)

pub send-requires-clause-world : goal.send-requires-clause-world
send-requires-clause-world g c = (c.requires.world.0, c.requires.world.1.sound)

pub passivate-requires-clause-world : goal.passivate-requires-clause-world
passivate-requires-clause-world g c = (c.requires.world.0, c.requires.world.1.sound)

pub fail_write-requires-clause-world : goal.fail_write-requires-clause-world
fail_write-requires-clause-world g c = (c.requires.world.0, c.requires.world.1.sound)

pub rebalance-requires : goal.rebalance-requires
rebalance-requires g c = (c.requires.world.0, c.requires.world.1.sound)

pub upgrade-requires : goal.upgrade-requires
upgrade-requires g c = (c.requires.world.0, c.requires.world.1.sound)

pub deliver-requires : goal.deliver-requires
deliver-requires g c = (c.requires.world.0, delivers_backed c.in-Deliver.number c.args.self.now c.requires.world.0 c.requires.world.1)

pub settle-requires-clause-world : goal.settle-requires-clause-world
settle-requires-clause-world g c = (c.requires.world.0, settles_backed c.standing_is_kept.ensures c.args.self.now c.requires.world.0 c.requires.world.1)
