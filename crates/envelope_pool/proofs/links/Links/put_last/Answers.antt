use Rattle.std.proofs.Common.{◌≡◌, ◌<◌, ◌+◌, sym, ap, ◌∙◌, subst, length, arith, set, get_or, ◌∷◌, ◌++◌, []}
use Rattle.envelope_pool.specs.declared.links.Chain.{Chain}
use Rattle.envelope_pool.specs.Chains.{chains_of, IsLinked}
use Rattle.envelope_pool.proofs.ChainLaws.{chain, put_first_linked, put_first_chains, put_more_linked, put_more_chains, last_within, len_within}
use Rattle.envelope_pool.proofs.links.Links.put_last.Goals as goal

pub returns-then-chain-eq0-clause-linked : goal.returns-then-chain-eq0-clause-linked
returns-then-chain-eq0-clause-linked c =
    put_first_linked c.args.self.now.next.items c.args.self.now.chains.items c.args.k c.args.place c.requires.linked c.requires.chain c.requires.loose c.requires.within
    (ap (λ (d : Chain). d.len) (sym c.chain_of-chain.ensures) ∙ c.if-chain-eq0.true)

pub returns-then-chain-eq0-clause-chains : goal.returns-then-chain-eq0-clause-chains
returns-then-chain-eq0-clause-chains c =
    put_first_chains c.args.self.now.next.items c.args.self.now.chains.items c.args.k c.args.place c.requires.linked c.requires.chain c.requires.loose c.requires.within
    (ap (λ (d : Chain). d.len) (sym c.chain_of-chain.ensures) ∙ c.if-chain-eq0.true)

pub index_mut-requires-2 : goal.index_mut-requires-2
index_mut-requires-2 c =
    let some : 0 < c.chain_of-chain.result.len = omega arith in
    let inside : c.chain_of-chain.result.last < length c.args.self.now.next.items =
    subst (λ (d : Chain). d.last < length c.args.self.now.next.items) (sym c.chain_of-chain.ensures)
    (last_within c.args.self.now.next.items c.args.self.now.chains.items c.args.k c.args.place c.requires.linked c.requires.chain c.requires.loose c.requires.within (subst (λ (d : Chain). 0 < d.len) c.chain_of-chain.ensures some)) in
    omega (arith, inside, c.args.self.now.next.ok.0)

pub overflow_add-chain : goal.overflow_add-chain
overflow_add-chain c =
    let some : 0 < c.chain_of-chain.result.len = omega arith in
    let fits : c.chain_of-chain.result.len + 1 < 65536 =
    subst (λ (d : Chain). d.len + 1 < 65536) (sym c.chain_of-chain.ensures)
    (len_within c.args.self.now.next.items c.args.self.now.chains.items c.args.k c.args.place c.requires.linked c.requires.chain c.requires.loose c.requires.within (subst (λ (d : Chain). 0 < d.len) c.chain_of-chain.ensures some)) in
    omega (arith, fits)

pub returns-clause-linked : goal.returns-clause-linked
returns-clause-linked c =
    let some : 0 < c.chain_of-chain.result.len = omega arith in
    subst (λ (d : Chain). IsLinked (set c.args.self.now.next.items d.last c.args.place) (set c.args.self.now.chains.items c.args.k (chain d.first c.args.place (d.len + 1))) 0) (sym c.chain_of-chain.ensures)
    (put_more_linked c.args.self.now.next.items c.args.self.now.chains.items c.args.k c.args.place c.requires.linked c.requires.chain c.requires.loose c.requires.within (subst (λ (d : Chain). 0 < d.len) c.chain_of-chain.ensures some))

pub returns-clause-chains : goal.returns-clause-chains
returns-clause-chains c =
    let some : 0 < c.chain_of-chain.result.len = omega arith in
    subst (λ (d : Chain). chains_of (set c.args.self.now.next.items d.last c.args.place) (set c.args.self.now.chains.items c.args.k (chain d.first c.args.place (d.len + 1)))
    ≡ set (chains_of c.args.self.now.next.items c.args.self.now.chains.items) c.args.k (get_or (chains_of c.args.self.now.next.items c.args.self.now.chains.items) c.args.k [] ++ c.args.place ∷ [])) (sym c.chain_of-chain.ensures)
    (put_more_chains c.args.self.now.next.items c.args.self.now.chains.items c.args.k c.args.place c.requires.linked c.requires.chain c.requires.loose c.requires.within (subst (λ (d : Chain). 0 < d.len) c.chain_of-chain.ensures some))
