use Rattle.std.proofs.Common.{◌≡◌, ◌-◌, ap, ◌∙◌, arith}
use Rattle.std.specs.Prelude.{None}
use Rattle.yard_model.specs.Words.{at}
use Rattle.world_sim.specs.Found.{is_who}
use Rattle.world_sim.proofs.places.is_up.Goals as goal

pub returns-in-Some : goal.returns-in-Some
returns-in-Some g c =
    let got : c.in-Some.node.now ≡ at c.deref.result.now (c.get.result - 1) = c.in-Some.ensures.lookup.4 (omega arith) None in
    c.is_who.ensures ∙ ap (is_who c.args.who.now) (got ∙ (ap (λ xs. at xs (c.get.result - 1)) c.deref.ensures.value ∙ ap (λ n. at c.args.nodes.now.items (n - 1)) c.get.ensures.value))

pub returns-in-None : goal.returns-in-None
returns-in-None g c =
    let got : None ≡ at c.deref.result.now (c.get.result - 1) = c.in-None.ensures.lookup.4 (omega arith) None in
    ap (is_who c.args.who.now) (got ∙ (ap (λ xs. at xs (c.get.result - 1)) c.deref.ensures.value ∙ ap (λ n. at c.args.nodes.now.items (n - 1)) c.get.ensures.value))
