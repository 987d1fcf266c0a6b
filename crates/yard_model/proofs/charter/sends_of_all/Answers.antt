use Rattle.std.proofs.Common.{length, map, sym, subst, ap, ◌∙◌, [], Vec, Global}
use Rattle.std.proofs.lemmas.List.{take_all, length-map}
use Rattle.yard_model.specs.declared.charter.Sending.{Sending}
use Rattle.yard_model.specs.Charter.{KeepsSends}
use Rattle.yard_model.proofs.SendsLaws.{keeps_none}
use Rattle.yard_model.proofs.charter.sends_of_all.Goals as goal

pub loop-line-init : goal.loop-line-init
loop-line-init c = record {
  keeps = subst (λ sent. KeepsSends c.args.counts.now sent []) (sym c.in_ok-all.ensures) (keeps_none c.args.counts.now c.requires.none);
  long = sym (length-map c.in_ok-all.all.items (λ (v : Vec Sending Global). v.items)) ∙ ap length c.in_ok-all.ensures;
}

pub returns : goal.returns
returns c = subst (λ done. KeepsSends c.loop-line.counts (map (λ (v : Vec Sending Global). v.items) c.loop-line.all.items) done) (take_all c.loop-line.line-index c.args.orders.now c.loop-line-test.false) c.loop-line.invariant.keeps
