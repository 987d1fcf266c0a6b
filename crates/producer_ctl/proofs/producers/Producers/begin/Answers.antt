use Rattle.std.proofs.Common.{sym, true≢false}
use Rattle.producer_ctl.proofs.StoreLaws.{begun_put, begun_held}
use Rattle.producer_ctl.proofs.producers.Producers.begin.Goals as goal

pub invariant_of-self : goal.invariant_of-self
invariant_of-self c = (begun_put c.args.p c.args.store c.self.invariant.0 c.self.view_is c.requires.producer c.place_of-place.ensures c.requires.script c.begin-producer.ensures c.take_table-table.ensures.tables, λ e. absurd (true≢false (sym e)))

pub returns : goal.returns
returns c = begun_held c.args.p c.self.inside.held.items c.self.inside.pending c.args.store c.self.view_is c.place_of-place.ensures c.requires.script c.begin-producer.ensures
