use Rattle.std.proofs.Common.{refl, ap, ◌∙◌}
use Rattle.producer_ctl.specs.Produced.{asking}
use Rattle.producer_ctl.specs.Producing.{of_held, stepped}
use Rattle.producer_ctl.proofs.ProducingLaws.{sent_stands, sent_moved}
use Rattle.producer_ctl.proofs.SendLaws.{written_ready}
use Rattle.producer_ctl.proofs.PlainLaws.{plain_asking}
use Rattle.producer_ctl.proofs.WithinLaws.{asking_within}
use Rattle.producer_ctl.proofs.producers.Producers.demand.Goals as goal

pub invariant_of-self : goal.invariant_of-self
invariant_of-self c = (sent_stands c.args.p c.find-place.result (asking c.find-place.result.entity c.args.confirmed c.args.up_to) (λ st. refl) (asking_within c.find-place.result.entity c.args.confirmed c.args.up_to) c.find-place.ensures.place c.self.invariant.0 c.self.view_is c.requires.producer c.place_of-own.ensures c.index_mut.ensures.value c.demand_in-sends.ensures.sent c.pending_of-self-inside.ensures, λ e. written_ready c.place_of-own.result c.self.inside.held.items c.demand_in-sends.new.held c.self.invariant.1 c.is_ready-self-inside.ensures.before c.is_ready-self-inside.ensures.own e)

pub returns-clause-state : goal.returns-clause-state
returns-clause-state c = sent_moved c.args.p c.find-place.result (asking c.find-place.result.entity c.args.confirmed c.args.up_to) (λ st. refl) (plain_asking c.find-place.result.entity c.args.confirmed c.args.up_to) c.find-place.ensures.place c.self.invariant.0 c.self.view_is c.requires.producer c.place_of-own.ensures c.index_mut.ensures.value c.demand_in-sends.ensures.sent c.pending_of-self-inside.ensures ∙ ap (λ e. stepped c.args.p c.args.self.now (of_held (asking e c.args.confirmed c.args.up_to) c.args.p c.args.self.now)) c.find-place.ensures.entity
