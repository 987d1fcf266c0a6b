use Rattle.std.proofs.Common.{◌≤◌, sym, subst, arith}
use Rattle.shard_entities.proofs.RestlessLaws.{next_fits, next_silent, names_few}
use Rattle.shard_entities.proofs.shards.Shards.next_restless.Goals as goal

pub overflow_add-start : goal.overflow_add-start
overflow_add-start c = let few : c.args.from ≤ 1000 = names_few c.args.s c.self.invariant.kept.lodged c.self.view_is c.requires.from in omega (arith, few, c.start-start.ensures.few)

pub next-requires : goal.next-requires
next-requires c = next_fits c.self.invariant.kept.lodged c.self.invariant.restless c.self.view_is c.requires.shard c.start-start.ensures.start c.requires.from

pub returns-clause-from : goal.returns-clause-from
returns-clause-from c = c.place_within.ensures.far c.args.from c.next.ensures.from (subst (λ m. c.args.from ≤ m) (sym c.count.ensures.names) c.requires.from)

pub returns-clause-between : goal.returns-clause-between
returns-clause-between c = next_silent c.self.invariant.kept.lodged c.self.invariant.restless c.self.view_is c.requires.shard c.start-start.ensures.start c.next.ensures.between c.place_within.ensures.before (subst (λ m. c.place_within.result ≤ m) c.count.ensures.names c.place_within.ensures.within)
