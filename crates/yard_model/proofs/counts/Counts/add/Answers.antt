use Rattle.yard_model.proofs.CountsLaws.{raised}
use Rattle.yard_model.proofs.counts.Counts.add.Goals as goal

pub raise-requires-clause-place : goal.raise-requires-clause-place
raise-requires-clause-place c = c.in_ok-place.ensures.stands.within c.args.entity.now c.in_ok-place.place c.in_ok-place.ensures.place

pub returns-clause-counts : goal.returns-clause-counts
returns-clause-counts c =
    (raised c.args.self.now c.place.new.self c.raise.new.self c.args.producer c.get.result c.in_ok-place.place c.raise.result c.args.entity.now c.in_ok-place.ensures.stands c.in_ok-place.ensures.counts
    c.in_ok-place.ensures.place c.get.ensures.value c.raise.ensures.places c.raise.ensures.rows c.raise.ensures.count c.raise.ensures.more).0

pub returns-clause-count : goal.returns-clause-count
returns-clause-count c =
    (raised c.args.self.now c.place.new.self c.raise.new.self c.args.producer c.get.result c.in_ok-place.place c.raise.result c.args.entity.now c.in_ok-place.ensures.stands c.in_ok-place.ensures.counts
    c.in_ok-place.ensures.place c.get.ensures.value c.raise.ensures.places c.raise.ensures.rows c.raise.ensures.count c.raise.ensures.more).1
