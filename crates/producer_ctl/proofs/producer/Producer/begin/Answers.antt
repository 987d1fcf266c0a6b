use Rattle.producer_ctl.proofs.BegunLaws.{begun_stands, begun_seen}
use Rattle.producer_ctl.proofs.producer.Producer.begin.Goals as goal

pub invariant_of-result : goal.invariant_of-result
invariant_of-result c = begun_stands c.requires.number c.requires.leased c.requires.sorted c.filled-pairs.ensures.there c.filled-pairs.ensures.each

pub returns : goal.returns
returns c = begun_seen c.args.who c.args.number c.args.store c.filled-pairs.result c.filled-pairs.ensures.there c.filled-pairs.ensures.each
