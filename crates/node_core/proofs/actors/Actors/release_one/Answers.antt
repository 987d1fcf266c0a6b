use Rattle.std.proofs.Common.{sym, ◌∙◌}
use Rattle.node_core.proofs.ReleaseLaws.{one_less}
use Rattle.node_core.proofs.actors.Actors.release_one.Goals as goal

pub returns-in-Some-clause-less : goal.returns-in-Some-clause-less
returns-in-Some-clause-less g c =
    one_less (c.knows.ensures.region ∙ sym c.knows.ensures.set) c.knows.ensures.set (c.genuine_is_message.ensures c.args.self.now.script c.in-Some.message c.knows.ensures.script c.in-Some.ensures.genuine).brought
    c.requires.routable c.in-Some.ensures c.route.ensures.went c.route.ensures.taken
