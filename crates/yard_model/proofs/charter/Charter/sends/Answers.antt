use Rattle.std.proofs.Common.{◌≡◌, ◌<◌, ◌-◌, ◌+◌, map, sym, ap, ◌∙◌, arith, Vec, Global}
use Rattle.std.specs.Prelude.{slice_index_or}
use Rattle.std.specs.Arc.{arc_value}
use Rattle.std.proofs.Math.ListN.{get_or-map}
use Rattle.yard_model.specs.declared.charter.Sending.{Sending}
use Rattle.yard_model.specs.Script.{sends, sends_in}
use Rattle.yard_model.specs.declared.charter.Kept.{Kept}
use Rattle.yard_model.proofs.CharterLaws.{sends_at}
use Rattle.yard_model.proofs.SendsLaws.{keeps_all}
use Rattle.yard_model.proofs.charter.Charter.sends.Goals as goal

pub returns : goal.returns
returns c =
    let place : c.get.result - 1 < 32 = omega arith in
    let number : c.get.result - 1 + 1 ≡ c.args.p = omega arith in
    let kept : Kept = arc_value c.self.inside.kept in
    let orders : sends_in c.args.p kept.orders.items ≡ sends c.args.self.now c.args.p = ap (λ s. sends s c.args.p) c.self.view_is in
    c.as_slice.ensures.value ∙ (ap (λ (v : Vec Sending Global). v.items) c.index.ensures
    ∙ (ap (λ (k : Kept). (slice_index_or k.sends.items (c.get.result - 1) c.index.result.now).items) c.deref.ensures
    ∙ (sym (get_or-map (λ (v : Vec Sending Global). v.items) kept.sends.items (c.get.result - 1) c.index.result.now)
    ∙ (ap (λ l. slice_index_or l (c.get.result - 1) c.index.result.now.items) (keeps_all kept.counts (map (λ (v : Vec Sending Global). v.items) kept.sends.items) kept.orders.items c.self.invariant.keeps)
    ∙ (sends_at kept.orders.items (c.get.result - 1) c.index.result.now.items place
    ∙ (ap (λ n. sends_in n kept.orders.items) number ∙ orders))))))
