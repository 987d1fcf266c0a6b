use Rattle.std.proofs.Common.{refl, ap, ◌∙◌}
use Rattle.producer_ctl.specs.Produced.{acking}
use Rattle.producer_ctl.specs.Producing.{of_held, stepped}
use Rattle.producer_ctl.proofs.ProducingLaws.{sent_stands, sent_moved}
use Rattle.producer_ctl.proofs.SendLaws.{written_ready}
use Rattle.producer_ctl.proofs.PlainLaws.{plain_acking}
use Rattle.producer_ctl.proofs.WithinLaws.{acking_within}
use Rattle.producer_ctl.proofs.producers.Producers.ack.Goals as goal

pub invariant_of-self : goal.invariant_of-self
invariant_of-self c = (sent_stands c.args.p c.find_near-place.result (acking c.find_near-place.result.entity c.args.confirmed) (λ st. refl) (acking_within c.find_near-place.result.entity c.args.confirmed) c.find_near-place.ensures.place c.self.invariant.0 c.self.view_is c.requires.producer c.place_of-own.ensures c.index_mut.ensures.value c.ack_in-sends.ensures.sent c.pending_of-self-inside.ensures, λ e. written_ready c.place_of-own.result c.self.inside.held.items c.ack_in-sends.new.held c.self.invariant.1 c.is_ready-self-inside.ensures.before c.is_ready-self-inside.ensures.own e)

pub returns-clause-state : goal.returns-clause-state
returns-clause-state c = sent_moved c.args.p c.find_near-place.result (acking c.find_near-place.result.entity c.args.confirmed) (λ st. refl) (plain_acking c.find_near-place.result.entity c.args.confirmed) c.find_near-place.ensures.place c.self.invariant.0 c.self.view_is c.requires.producer c.place_of-own.ensures c.index_mut.ensures.value c.ack_in-sends.ensures.sent c.pending_of-self-inside.ensures ∙ ap (λ e. stepped c.args.p c.args.self.now (of_held (acking e c.args.confirmed) c.args.p c.args.self.now)) c.find_near-place.ensures.entity
