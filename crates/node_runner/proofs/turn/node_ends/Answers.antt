use Rattle.lease_table.specs.Belongs.{id_of, charter_of}
use Rattle.node_core.specs.Gave.{moment}
use Rattle.node_runner.specs.Rested.{means}
use Rattle.node_runner.proofs.Posted.{ended_posts}
use Rattle.node_runner.proofs.Freed.{freed_idle}
use Rattle.node_runner.proofs.turn.node_ends.Goals as goal

pub returns-clause-idle : goal.returns-clause-idle
returns-clause-idle g c =
    let e = c.give_back-pass.ensures in
    freed_idle (id_of c.args.table.now) (charter_of c.args.table.now) c.args.me c.give_back-pass.result e.table e.charter e.numbers c.stands.ensures e.free

pub returns-clause-posts : goal.returns-clause-posts
returns-clause-posts g c = ended_posts (charter_of c.args.table.now) (moment (means c.args.me c.args.pass) c.args.node.state c.args.out.now.items) (means c.args.me c.give_back-pass.result) c.give_back-pass.new.out.items c.give_back-pass.ensures.ended
