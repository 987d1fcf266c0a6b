use Rattle.std.proofs.Common.{◌≡◌, length, arith}
use Rattle.envelope_pool.proofs.ChainLaws.{made_chains, made_linked, made_loose}
use Rattle.envelope_pool.proofs.links.Links.make.Goals as goal

pub returns-clause-linked : goal.returns-clause-linked
returns-clause-linked c = rw c.push_within.ensures.items (made_linked c.args.self.now.next.items c.args.self.now.chains.items c.requires.linked c.requires.few)

pub returns-clause-chains : goal.returns-clause-chains
returns-clause-chains c = rw c.push_within.ensures.items (made_chains c.args.self.now.next.items c.args.self.now.chains.items)

pub returns-clause-loose : goal.returns-clause-loose
returns-clause-loose c =
    let place_is : c.len-place.result ≡ length c.args.self.now.next.items = omega arith in
    rw c.push_within.ensures.items (rw place_is (made_loose c.args.self.now.next.items c.args.self.now.chains.items c.requires.linked))
