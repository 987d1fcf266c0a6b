use Rattle.std.proofs.Common.{◌≡◌, sym, subst}
use Rattle.lease_table.specs.Belongs.{id_of, charter_of}
use Rattle.node_runner.specs.Posts.{AreGenuine}
use Rattle.node_runner.proofs.ToldLaws.{rested_same}
use Rattle.node_runner.proofs.steps.crash.Goals as goal

pub returns-clause-posts : goal.returns-clause-posts
returns-clause-posts g c = λ before. (c.node_ends-pass.ensures.posts (subst (AreGenuine (charter_of c.args.table.now)) (sym c.reserve.ensures.items) before.0), before.1)

pub node_ends-pass-requires-clause-rested : goal.node_ends-pass-requires-clause-rested
node_ends-pass-requires-clause-rested g c = rested_same (id_of c.args.table.now) (charter_of c.args.table.now) c.args.me c.args.pass c.args.node c.reserve.new.self c.reserve.ensures.script c.reserve.ensures.state c.requires.rested
