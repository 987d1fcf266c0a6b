use Rattle.std.proofs.Common.{◌∙◌}
use Rattle.shard_store.specs.Stores.{lists_at}
use Rattle.apply_run.proofs.CarryLaws.{facts_are, its, lawful_are, lists_are}
use Rattle.apply_run.proofs.carry.settle.Goals as goal

pub returns-in_ok-last-in-Ok-clause-charter : goal.returns-in_ok-last-in-Ok-clause-charter
returns-in_ok-last-in-Ok-clause-charter g c =
    its c.args.charter (g.B.Behaviour.version_of c.args.behaviour) (lists_at c.args.charter.config c.args.stores.places) c.in_ok-world.world c.settle.new.self c.args.out.now c.settle.new.out
    c.in_ok-last-in-Ok.last c.in_ok-last-in-Ok.settled.places c.requires.version c.in_ok-world.ensures c.in-Ok.ensures c.in_ok-last-in-Ok.ensures.same c.in_ok-last-in-Ok.ensures.given

pub returns-in_ok-last-in-Ok-clause-script : goal.returns-in_ok-last-in-Ok-clause-script
returns-in_ok-last-in-Ok-clause-script g c = c.in_ok-last-in-Ok.ensures.script
    ∙ its c.args.charter (g.B.Behaviour.version_of c.args.behaviour) (lists_at c.args.charter.config c.args.stores.places) c.in_ok-world.world c.settle.new.self c.args.out.now c.settle.new.out
    c.in_ok-last-in-Ok.last c.in_ok-last-in-Ok.settled.places c.requires.version c.in_ok-world.ensures c.in-Ok.ensures c.in_ok-last-in-Ok.ensures.same c.in_ok-last-in-Ok.ensures.given

pub returns-in_ok-last-in-Ok-clause-lists : goal.returns-in_ok-last-in-Ok-clause-lists
returns-in_ok-last-in-Ok-clause-lists g c =
    lists_are c.args.charter (g.B.Behaviour.version_of c.args.behaviour) (lists_at c.args.charter.config c.args.stores.places) c.in_ok-world.world c.settle.new.self c.args.out.now c.settle.new.out
    c.in_ok-last-in-Ok.last c.in_ok-last-in-Ok.settled.places c.requires.version c.in_ok-world.ensures c.in-Ok.ensures c.in_ok-last-in-Ok.ensures.same c.in_ok-last-in-Ok.ensures.given

pub returns-in_ok-last-in-Ok-clause-lawful : goal.returns-in_ok-last-in-Ok-clause-lawful
returns-in_ok-last-in-Ok-clause-lawful g c =
    lawful_are c.args.charter (g.B.Behaviour.version_of c.args.behaviour) (lists_at c.args.charter.config c.args.stores.places) c.in_ok-world.world c.settle.new.self c.args.out.now c.settle.new.out
    c.in_ok-last-in-Ok.last c.in_ok-last-in-Ok.settled.places c.requires.version c.in_ok-world.ensures c.in-Ok.ensures c.in_ok-last-in-Ok.ensures.same c.in_ok-last-in-Ok.ensures.given

pub returns-in_ok-last-in-Ok-clause-told : goal.returns-in_ok-last-in-Ok-clause-told
returns-in_ok-last-in-Ok-clause-told g c =
    facts_are c.args.charter (g.B.Behaviour.version_of c.args.behaviour) (lists_at c.args.charter.config c.args.stores.places) c.in_ok-world.world c.settle.new.self c.args.out.now c.settle.new.out
    c.in_ok-last-in-Ok.last c.in_ok-last-in-Ok.settled.places c.requires.version c.in_ok-world.ensures c.in-Ok.ensures c.in_ok-last-in-Ok.ensures.same c.in_ok-last-in-Ok.ensures.given
