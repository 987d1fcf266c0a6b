use Rattle.std.proofs.Common.{refl}
use Rattle.producer_ctl.specs.Produced.{resending}
use Rattle.producer_ctl.proofs.StoreLaws.{resent_stands}
use Rattle.producer_ctl.proofs.WithinLaws.{resending_within}
use Rattle.producer_ctl.proofs.producers.Producers.resend.Goals as goal

pub invariant_of-self : goal.invariant_of-self
invariant_of-self c = (resent_stands c.args.p c.find-place.result (resending c.find-place.result.entity c.args.from) (λ st. refl) (resending_within c.find-place.result.entity c.args.from) c.find-place.ensures.place c.self.invariant.0 c.self.view_is c.requires.producer c.place_of.ensures c.index.ensures c.resend_in-sends.ensures.sent c.pending_of-self-inside.ensures, c.self.invariant.1)
