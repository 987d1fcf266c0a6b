use Rattle.std.proofs.Common.{sym, subst, ap, ◌∙◌}
use Rattle.producer_ctl.specs.Paired.{is_waiting}
use Rattle.producer_ctl.specs.Produced.{IsProduced}
use Rattle.producer_ctl.proofs.PairLaws.{as_before, pushed_stands, pushed_moved}
use Rattle.producer_ctl.proofs.producer.Producer.set_sent.Goals as goal

pub invariant_of-self : goal.invariant_of-self
invariant_of-self c = subst (IsProduced _ _ _) (sym c.put_as_before.ensures) (pushed_stands c.args.number c.self.invariant c.self.view_is c.requires.place c.get-pair.ensures c.mark.ensures)

pub returns : goal.returns
returns c = rw c.put_as_before.ensures (pushed_moved c.args.number c.self.invariant c.self.view_is c.requires.place c.get-pair.ensures c.mark.ensures)

pub put_as_before-requires-clause-waits : goal.put_as_before-requires-clause-waits
put_as_before-requires-clause-waits c = ap is_waiting c.mark.ensures ∙ as_before c.self.invariant c.self.view_is c.requires.place c.get-pair.ensures
