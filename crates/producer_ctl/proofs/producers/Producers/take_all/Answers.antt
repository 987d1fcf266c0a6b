use Rattle.std.proofs.Common.{sym, ◌∙◌, true≢false}
use Rattle.producer_ctl.proofs.StoreLaws.{without_put, without_seen, store_of}
use Rattle.producer_ctl.proofs.producers.Producers.take_all.Goals as goal

pub invariant_of-self : goal.invariant_of-self
invariant_of-self c = (without_put c.args.p c.end-parts.result.table c.self.invariant.0 c.self.view_is c.requires.producer c.place_of-place.ensures c.index_mut.ensures.value (sym c.take.ensures.value ∙ c.in-Some.is) c.take.ensures.after c.end-parts.ensures.table, λ e. absurd (true≢false (sym e)))

pub returns-in-Some-clause-state : goal.returns-in-Some-clause-state
returns-in-Some-clause-state c = without_seen c.args.p c.self.inside.held.items c.self.inside.pending c.self.view_is c.place_of-place.ensures c.take.ensures.after

pub returns-in-Some-clause-store : goal.returns-in-Some-clause-store
returns-in-Some-clause-store c = store_of c.args.p c.self.invariant.0 c.self.view_is c.requires.producer c.place_of-place.ensures c.index_mut.ensures.value (sym c.take.ensures.value ∙ c.in-Some.is) c.end-parts.ensures.store

pub returns-in-None-clause-state : goal.returns-in-None-clause-state
returns-in-None-clause-state c = without_seen c.args.p c.self.inside.held.items c.self.inside.pending c.self.view_is c.place_of-place.ensures c.take.ensures.after
