use Rattle.std.proofs.Common.{refl, ap, ◌∙◌}
use Rattle.producer_ctl.specs.Produced.{repeating}
use Rattle.producer_ctl.specs.Producing.{of_held, stepped}
use Rattle.producer_ctl.proofs.ProducingLaws.{sent_stands, sent_moved}
use Rattle.producer_ctl.proofs.SendLaws.{written_ready}
use Rattle.producer_ctl.proofs.PlainLaws.{plain_repeating}
use Rattle.producer_ctl.proofs.WithinLaws.{repeating_within}
use Rattle.producer_ctl.proofs.producers.Producers.tick.Goals as goal

pub invariant_of-self : goal.invariant_of-self
invariant_of-self c = (sent_stands c.args.p c.nth-place.result (repeating c.nth-place.result.entity) (λ st. refl) (repeating_within c.nth-place.result.entity) c.nth-place.ensures.place c.self.invariant.0 c.self.view_is c.requires.producer c.place_of-own.ensures c.index_mut.ensures.value c.tick_in-sends.ensures.sent c.pending_of-self-inside.ensures, λ e. written_ready c.place_of-own.result c.self.inside.held.items c.tick_in-sends.new.held c.self.invariant.1 c.is_ready-self-inside.ensures.before c.is_ready-self-inside.ensures.own e)

pub returns : goal.returns
returns c = sent_moved c.args.p c.nth-place.result (repeating c.nth-place.result.entity) (λ st. refl) (plain_repeating c.nth-place.result.entity) c.nth-place.ensures.place c.self.invariant.0 c.self.view_is c.requires.producer c.place_of-own.ensures c.index_mut.ensures.value c.tick_in-sends.ensures.sent c.pending_of-self-inside.ensures ∙ ap (λ e. stepped c.args.p c.args.self.now (of_held (repeating e) c.args.p c.args.self.now)) c.nth-place.ensures.entity
