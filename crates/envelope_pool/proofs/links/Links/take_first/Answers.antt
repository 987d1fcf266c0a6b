use Rattle.std.proofs.Common.{◌≡◌, ◌<◌, ◌-◌, sym, subst, length, set, drop, get_or, ◌∷◌, [], sum_by}
use Rattle.std.specs.Prelude.{slice_index}
use Rattle.envelope_pool.specs.declared.links.Chain.{Chain}
use Rattle.envelope_pool.specs.Chains.{chain_at, chains_of, times, IsLinked}
use Rattle.envelope_pool.proofs.ChainLaws.{chain, shorter_is, taken_place, taken_chains, taken_loose, taken_within, taken_linked}
use Rattle.envelope_pool.proofs.links.Links.take_first.Goals as goal

pub next_of-following-requires : goal.next_of-following-requires
next_of-following-requires c =
    subst (λ (d : Chain). d.first < length c.args.self.now.next.items) (sym c.chain_of-chain.ensures) (taken_within c.args.self.now.next.items c.args.self.now.chains.items c.args.k c.requires.linked c.requires.chain c.requires.some)

pub returns-clause-linked : goal.returns-clause-linked
returns-clause-linked c =
    let made = shorter_is c.args.self.now.next.items c.next_of-following.result c.chain_of-chain.result (chain_at c.args.self.now.chains.items c.args.k) c.chain_of-chain.ensures
    (subst (λ (d : Chain). c.next_of-following.result ≡ slice_index c.args.self.now.next.items d.first) c.chain_of-chain.ensures c.next_of-following.ensures) in
    subst (λ (d : Chain). IsLinked c.args.self.now.next.items (set c.args.self.now.chains.items c.args.k d) 1) (sym made) (taken_linked c.args.self.now.next.items c.args.self.now.chains.items c.args.k c.requires.linked c.requires.chain c.requires.some)

pub returns-clause-place : goal.returns-clause-place
returns-clause-place c =
    subst (λ (d : Chain). get_or (chains_of c.args.self.now.next.items c.args.self.now.chains.items) c.args.k [] ≡ d.first ∷ drop 1 (get_or (chains_of c.args.self.now.next.items c.args.self.now.chains.items) c.args.k []))
    (sym c.chain_of-chain.ensures) (taken_place c.args.self.now.next.items c.args.self.now.chains.items c.args.k c.requires.linked c.requires.chain c.requires.some)

pub returns-clause-chains : goal.returns-clause-chains
returns-clause-chains c =
    let made = shorter_is c.args.self.now.next.items c.next_of-following.result c.chain_of-chain.result (chain_at c.args.self.now.chains.items c.args.k) c.chain_of-chain.ensures
    (subst (λ (d : Chain). c.next_of-following.result ≡ slice_index c.args.self.now.next.items d.first) c.chain_of-chain.ensures c.next_of-following.ensures) in
    subst (λ (d : Chain). chains_of c.args.self.now.next.items (set c.args.self.now.chains.items c.args.k d) ≡ set (chains_of c.args.self.now.next.items c.args.self.now.chains.items) c.args.k (drop 1 (get_or (chains_of c.args.self.now.next.items c.args.self.now.chains.items) c.args.k [])))
    (sym made) (taken_chains c.args.self.now.next.items c.args.self.now.chains.items c.args.k c.requires.linked c.requires.chain c.requires.some)

pub returns-clause-loose : goal.returns-clause-loose
returns-clause-loose c =
    let made = shorter_is c.args.self.now.next.items c.next_of-following.result c.chain_of-chain.result (chain_at c.args.self.now.chains.items c.args.k) c.chain_of-chain.ensures
    (subst (λ (d : Chain). c.next_of-following.result ≡ slice_index c.args.self.now.next.items d.first) c.chain_of-chain.ensures c.next_of-following.ensures) in
    subst (λ (e : Chain). sum_by (times e.first) (chains_of c.args.self.now.next.items (set c.args.self.now.chains.items c.args.k (chain c.next_of-following.result c.chain_of-chain.result.last (c.chain_of-chain.result.len - 1)))) ≡ 0) (sym c.chain_of-chain.ensures)
    (subst (λ (d : Chain). sum_by (times (chain_at c.args.self.now.chains.items c.args.k).first) (chains_of c.args.self.now.next.items (set c.args.self.now.chains.items c.args.k d)) ≡ 0)
    (sym made) (taken_loose c.args.self.now.next.items c.args.self.now.chains.items c.args.k c.requires.linked c.requires.chain c.requires.some))

pub returns-clause-within : goal.returns-clause-within
returns-clause-within c =
    subst (λ (d : Chain). d.first < length c.args.self.now.next.items) (sym c.chain_of-chain.ensures) (taken_within c.args.self.now.next.items c.args.self.now.chains.items c.args.k c.requires.linked c.requires.chain c.requires.some)
