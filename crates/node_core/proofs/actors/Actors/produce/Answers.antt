use Rattle.std.proofs.Common.{◌∙◌, sym}
use Rattle.node_core.specs.Gave.{moment}
use Rattle.node_core.specs.Standing.{Standing}
use Rattle.node_core.proofs.ProduceLaws.{produce_asks, produce_there, not_there}
use Rattle.node_core.proofs.actors.Actors.produce.Goals as goal

pub take_queue-requires-clause-new : goal.take_queue-requires-clause-new
take_queue-requires-clause-new g c = not_there _ (sym c.holds_queue.ensures ∙ c.if-not-holds_queue.true)

pub returns-then-not-holds_queue-clause-gave : goal.returns-then-not-holds_queue-clause-gave
returns-then-not-holds_queue-clause-gave g c =
    let v : Standing = c.args.self.now in
    produce_asks v.script c.args.p (moment (g.L.Leases.meaning c.args.leases.now) v.state c.args.out.now.items) (moment (g.L.Leases.meaning c.take_queue.new.leases) c.take_queue.new.self.state c.take_queue.new.out.items)
    (sym c.holds_queue.ensures ∙ c.if-not-holds_queue.true) c.take_queue.ensures.gave

pub returns-else-not-holds_queue-clause-gave : goal.returns-else-not-holds_queue-clause-gave
returns-else-not-holds_queue-clause-gave g c =
    let v : Standing = c.args.self.now in
    produce_there v.script c.args.p (moment (g.L.Leases.meaning c.args.leases.now) v.state c.args.out.now.items) (sym c.holds_queue.ensures ∙ c.if-not-holds_queue.false) c.requires.rests
