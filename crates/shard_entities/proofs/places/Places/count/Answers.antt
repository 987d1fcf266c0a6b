use Rattle.std.proofs.Common.{◌≡◌, ◌+◌, ◌≤◌, length, arith}
use Rattle.yard_model.specs.Script.{setting}
use Rattle.yard_model.specs.Setting.{names_of}
use Rattle.shard_entities.proofs.OrderLaws.{count_few, count_of, lent, lent_script, starts_there}
use Rattle.shard_entities.proofs.places.Places.count.Goals as goal

pub end_in-requires : goal.end_in-requires
end_in-requires c = starts_there (c.args.s + 1) (lent c.deref-kept.ensures c.self.invariant) (lent_script c.deref-kept.ensures c.self.view_is) (omega (arith, c.requires))

pub start_in-requires : goal.start_in-requires
start_in-requires c = starts_there c.args.s (lent c.deref-kept.ensures c.self.invariant) (lent_script c.deref-kept.ensures c.self.view_is) (omega (arith, c.requires))

pub overflow_sub-result : goal.overflow_sub-result
overflow_sub-result c = let all : c.end_in.result ≡ c.start_in.result + length (names_of (setting c.args.self.now) c.args.s) = count_of c.args.s (lent c.deref-kept.ensures c.self.invariant) (lent_script c.deref-kept.ensures c.self.view_is) c.requires c.start_in.ensures.start c.end_in.ensures in omega (arith, all)

pub returns-clause-count : goal.returns-clause-count
returns-clause-count c = let all : c.end_in.result ≡ c.start_in.result + length (names_of (setting c.args.self.now) c.args.s) = count_of c.args.s (lent c.deref-kept.ensures c.self.invariant) (lent_script c.deref-kept.ensures c.self.view_is) c.requires c.start_in.ensures.start c.end_in.ensures in omega (arith, all)

pub returns-clause-few : goal.returns-clause-few
returns-clause-few c =
    let all : c.end_in.result ≡ c.start_in.result + length (names_of (setting c.args.self.now) c.args.s) = count_of c.args.s (lent c.deref-kept.ensures c.self.invariant) (lent_script c.deref-kept.ensures c.self.view_is) c.requires c.start_in.ensures.start c.end_in.ensures in
    let few : length (names_of (setting c.args.self.now) c.args.s) ≤ 1000 = count_few c.args.s (lent c.deref-kept.ensures c.self.invariant) (lent_script c.deref-kept.ensures c.self.view_is) in
    omega (arith, all, few)
