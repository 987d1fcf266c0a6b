use Rattle.std.proofs.Common.{◌<◌, ◌∙◌, length, ap, sym, subst}
use Rattle.yard_model.specs.Script.{setting}
use Rattle.producer_ctl.specs.Paired.{name_at, progress_of}
use Rattle.producer_ctl.specs.Produced.{Produced, IsProduced}
use Rattle.producer_ctl.proofs.PairLaws.{about_confirmed, confirmed_written, confirm_stands, entry_moved}
use Rattle.producer_ctl.proofs.producer.Producer.tell_confirmed.Goals as goal

pub confirm_at-requires-clause-within : goal.confirm_at-requires-clause-within
confirm_at-requires-clause-within c = subst (λ (v : Produced). c.args.place.now.at < length (setting v.script).names) (sym c.self.view_is) c.requires.place.within

pub confirm_at-requires-clause-it : goal.confirm_at-requires-clause-it
confirm_at-requires-clause-it c = ap (λ (v : Produced). name_at (setting v.script).names c.args.place.now.at) c.self.view_is ∙ c.requires.place.it

pub invariant_of-self : goal.invariant_of-self
invariant_of-self c = subst (IsProduced _ _ _) (sym c.put.ensures) (confirm_stands c.args.number c.self.invariant c.self.view_is c.requires.place
    (confirmed_written c.args.place.now.entity c.args.number c.self.invariant c.self.view_is c.confirm_at.ensures.script c.confirm_at.ensures.producer c.confirm_at.ensures.entries c.confirm_at.ensures.spare)
    c.requires.above c.get-pair.ensures c.confirm.ensures)

pub returns-clause-state : goal.returns-clause-state
returns-clause-state c = rw c.put.ensures (entry_moved c.self.inside.pairs c.args.place.now.at _ (about_confirmed c.args.self.now.state.number c.args.place.now.entity c.args.number) c.self.view_is
    (confirmed_written c.args.place.now.entity c.args.number c.self.invariant c.self.view_is c.confirm_at.ensures.script c.confirm_at.ensures.producer c.confirm_at.ensures.entries c.confirm_at.ensures.spare)
    c.get-pair.ensures (ap progress_of c.confirm.ensures))
